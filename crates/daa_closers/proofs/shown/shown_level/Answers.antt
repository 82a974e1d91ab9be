use Rattle.std.proofs.Common.{◌≡◌, ◌-◌, ℕ, length, subst, arith}
use Rattle.daa_fixed.specs.Mask.{IsGreatestLevel}
use Rattle.daa_closers.specs.Closers.{MeetsSome}
use Rattle.daa_closers.proofs.Lists.{greatest_set, greatest_keep}
use Rattle.daa_closers.proofs.shown.shown_level.Goals as goal
use Rattle.daa_closers.proofs.shown.shown_level.Goals.{then-meets_some_aircraft, else-meets_some_aircraft}

pub loop-l-preserved : goal.loop-l-preserved
loop-l-preserved c = elim c.if-meets_some_aircraft.branch [
  | then-meets_some_aircraft w ↦ rw w.shown-is (greatest_set (MeetsSome c.args.config.now c.args.picture.now c.args.candidate) c.loop-l.l c.loop-l.shown
      c.loop-l.auto.l (c.meets_some_aircraft.ensures.0 w.if-meets_some_aircraft.true) c.loop-l.invariant)
  | else-meets_some_aircraft w ↦ rw w.shown-is (greatest_keep (MeetsSome c.args.config.now c.args.picture.now c.args.candidate) c.loop-l.l c.loop-l.shown
      c.loop-l.auto.l (λ x. let t = c.meets_some_aircraft.ensures.1 x in cc (t, w.if-meets_some_aircraft.false)) c.loop-l.invariant)
]

pub returns : goal.returns
returns c =
    let all : c.loop-l.l - 1 ≡ length c.args.config.now.levels =
    omega (arith, c.loop-l-test.false, c.loop-l.auto.l, c.loop-l.auto.l-end, c.levels-l-end.ensures.value, c.levels-l-end.ensures.some) in
    subst (λ (top : ℕ). IsGreatestLevel (MeetsSome c.args.config.now c.args.picture.now c.args.candidate) top c.loop-l.shown) all c.loop-l.invariant
