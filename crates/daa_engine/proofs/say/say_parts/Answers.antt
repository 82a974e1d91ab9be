use Rattle.daa_engine.specs.Inside.Written.{written}
use Rattle.daa_report.proofs.HeldLemmas.{after, cut}
use Rattle.daa_engine.proofs.say.say_parts.Goals as goal

pub returns-in_err-say_head : goal.returns-in_err-say_head
unfolding written
returns-in_err-say_head g c = cut _ _ _ c.from_residual.ensures.1 c.in_err-say_head.ensures

pub returns-in_err-say_traffic : goal.returns-in_err-say_traffic
unfolding written
returns-in_err-say_traffic g c = after _ c.in_ok-say_head.ensures (cut _ _ _ c.from_residual-in_err-say_traffic.ensures.1 c.in_err-say_traffic.ensures)

pub returns-in_err-flush : goal.returns-in_err-flush
unfolding written
returns-in_err-flush g c = after _ c.in_ok-say_head.ensures (after _ c.in_ok-say_traffic.ensures (cut _ _ _ c.from_residual-in_err-flush.ensures.1 c.in_err-flush.ensures.says))

pub returns-in_err-say_kinds : goal.returns-in_err-say_kinds
unfolding written
returns-in_err-say_kinds g c = after _ c.in_ok-say_head.ensures
    (after _ c.in_ok-say_traffic.ensures
    (after _ c.in_ok-flush.ensures.says
    (cut _ _ _ c.from_residual-in_err-say_kinds.ensures.1 c.in_err-say_kinds.ensures)))

pub returns-in_err-say_kinds-2 : goal.returns-in_err-say_kinds-2
unfolding written
returns-in_err-say_kinds-2 g c = after _ c.in_ok-say_head.ensures
    (after _ c.in_ok-say_traffic.ensures
    (after _ c.in_ok-flush.ensures.says
    (after _ c.in_ok-say_kinds.ensures
    (cut _ _ _ c.from_residual-in_err-say_kinds-2.ensures.1 c.in_err-say_kinds-2.ensures))))

pub returns-in_err-say_kinds-3 : goal.returns-in_err-say_kinds-3
unfolding written
returns-in_err-say_kinds-3 g c = after _ c.in_ok-say_head.ensures
    (after _ c.in_ok-say_traffic.ensures
    (after _ c.in_ok-flush.ensures.says
    (after _ c.in_ok-say_kinds.ensures
    (after _ c.in_ok-say_kinds-2.ensures
    (cut _ _ _ c.from_residual-in_err-say_kinds-3.ensures.1 c.in_err-say_kinds-3.ensures)))))

pub returns-in_err-say_kinds-4 : goal.returns-in_err-say_kinds-4
unfolding written
returns-in_err-say_kinds-4 g c = after _ c.in_ok-say_head.ensures
    (after _ c.in_ok-say_traffic.ensures
    (after _ c.in_ok-flush.ensures.says
    (after _ c.in_ok-say_kinds.ensures
    (after _ c.in_ok-say_kinds-2.ensures
    (after _ c.in_ok-say_kinds-3.ensures
    (cut _ _ _ c.from_residual-in_err-say_kinds-4.ensures.1 c.in_err-say_kinds-4.ensures))))))

pub returns : goal.returns
unfolding written
returns g c = after _ c.in_ok-say_head.ensures
    (after _ c.in_ok-say_traffic.ensures
    (after _ c.in_ok-flush.ensures.says
    (after _ c.in_ok-say_kinds.ensures
    (after _ c.in_ok-say_kinds-2.ensures
    (after _ c.in_ok-say_kinds-3.ensures (after _ c.in_ok-say_kinds-4.ensures c.say_foot.ensures))))))
