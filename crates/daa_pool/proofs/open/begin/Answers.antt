use Rattle.std.proofs.Common.{ℕ, ◌∙◌, sym, ap, subst, arith, List}
use Rattle.atomic_table.specs.Table.{Allows, step}
use mathlib.Core.Option.{none}
use Rattle.daa_schedule.specs.Answers.{AreAnswers}
use Rattle.daa_pool.specs.Inside.Rule.{Holds}
use Rattle.daa_pool.specs.Inside.Steps.{Sat, begins}
use Rattle.daa_pool.proofs.Opening.{begin_allowed}
use Rattle.daa_pool.proofs.open.begin.Goals as goal

pub load-requires : goal.load-requires
load-requires g c =
    let key = c.args.shared.now.key in let size = c.requires.size in let picked = c.requires.picked in
    let xs : List ℕ = g.A.Answers.answers c.args.answers.now in
    let a = size.0 in let b = size.1 in let d = size.2 in let e = size.3 in
    let real : AreAnswers xs = g.met.A.Answers.real c.args.answers.now in (
      c.requires.table.0,
      c.requires.table.1,
      subst (λ (t : ℕ × List ℕ). Allows
          (Holds key) c.args.shared.now.table_id.slots c.args.seat.now.id c.args.seat.now.me 0
          (λ n. n) (begins t.0 t.1 (step c.args.shared.now.table_id.slots 0 0 0 none) c.args.seat.now.me))
          (λ i. ((size.0 ∙ sym picked.1) i, sym picked.0 i))
          (begin_allowed key _ c.args.seat.now.id c.args.seat.now.me xs (ap (λ (m : Sat). m.0) c.requires.blank) (omega arith) (sym d) (omega arith) real),
    )
