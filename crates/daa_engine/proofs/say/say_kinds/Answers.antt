use Rattle.daa_engine.specs.Inside.Written.{kinds_text}
use Rattle.daa_report.proofs.HeldLemmas.{after, cut}
use Rattle.daa_engine.proofs.say.say_kinds.Goals as goal

pub returns-in_err-say_kind : goal.returns-in_err-say_kind
unfolding kinds_text
returns-in_err-say_kind g c = cut _ _ _ c.from_residual.ensures.1 c.in_err-say_kind.ensures

pub returns-in_err-say_kind-2 : goal.returns-in_err-say_kind-2
unfolding kinds_text
returns-in_err-say_kind-2 g c = after _ c.in_ok-say_kind.ensures (cut _ _ _ c.from_residual-in_err-say_kind-2.ensures.1 c.in_err-say_kind-2.ensures)

pub returns-in_err-say_kind-3 : goal.returns-in_err-say_kind-3
unfolding kinds_text
returns-in_err-say_kind-3 g c = after _ c.in_ok-say_kind.ensures (after _ c.in_ok-say_kind-2.ensures (cut _ _ _ c.from_residual-in_err-say_kind-3.ensures.1 c.in_err-say_kind-3.ensures))

pub returns : goal.returns
unfolding kinds_text
returns g c = after _ c.in_ok-say_kind.ensures (after _ c.in_ok-say_kind-2.ensures (after _ c.in_ok-say_kind-3.ensures c.say_kind-4.ensures))
