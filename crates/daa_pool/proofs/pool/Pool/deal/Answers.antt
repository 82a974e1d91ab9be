use Rattle.std.proofs.Common.{◌≡◌, ℕ, ◌+◌, ◌-◌, sym, subst, arith, List, ◌++◌, [], ◌∷◌}
use Rattle.daa_pool.specs.declared.view.View.{View}
use Rattle.daa_pool.specs.declared.seat.Seat.{Seat}
use Rattle.daa_pool.specs.Seat.{view, IsOpening}
use Rattle.daa_pool.specs.Pool.{AreOpening}
use Rattle.daa_pool.specs.Inside.Dealing.{IsLast}
use Rattle.daa_pool.proofs.Dealing.{dealt_more, left_opening, next_last}
use Rattle.daa_pool.proofs.pool.Pool.deal.Goals as goal

pub loop-number-preserved : goal.loop-number-preserved
loop-number-preserved c =
    let p = c.args.self.now in let answers : List ℕ = (view c.args.first).answers in let n : ℕ = c.loop-number.number in let auto = c.loop-number.auto.number in
    let inv = c.loop-number.invariant in let split = c.split-next.ensures in
    let e : (n - 1) + 1 ≡ (n + 1) - 1 = omega arith in
    record {
      seats = subst (λ (xs : List Seat). AreOpening p xs ((n + 1) - 1) answers) (sym (c.in_ok-push.ensures).items)
          (subst (λ (k : ℕ). AreOpening p (c.loop-number.seats.items ++ c.split-next.new.seat ∷ []) k answers) e
          (dealt_more p c.loop-number.seats.items c.split-next.new.seat (n - 1) answers inv.seats split.pool.0
          (subst (λ (v : View). IsOpening v (n - 1) p.workers answers) (sym split.left) (left_opening (view c.loop-number.last) (n - 1) p.workers answers inv.last))));
      pool = split.pool.1;
      last = subst (λ (k : ℕ). IsLast (view c.split-next.result) k p.workers answers) e
          (subst (λ (v : View). IsLast v ((n - 1) + 1) p.workers answers) (sym split.right) (next_last (view c.loop-number.last) (n - 1) p.workers answers inv.last));
    }

pub returns : goal.returns
returns c =
    let p = c.args.self.now in let answers : List ℕ = (view c.args.first).answers in let n : ℕ = c.loop-number.number in let auto = c.loop-number.auto in let crew = p.crew in let crew1 = crew.1 in
    let inv = c.loop-number.invariant in let last = inv.last in let test = c.loop-number-test.false in
    let e : (n - 1) + 1 ≡ p.workers = omega arith in
    subst (λ (xs : List Seat). AreOpening p xs p.workers answers) (sym (c.in_ok-push-2.ensures).items)
    (subst (λ (k : ℕ). AreOpening p (c.loop-number.seats.items ++ c.loop-number.last ∷ []) k answers) e
    (dealt_more p c.loop-number.seats.items c.loop-number.last (n - 1) answers inv.seats inv.pool last.opening))
