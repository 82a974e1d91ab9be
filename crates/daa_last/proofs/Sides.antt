-- The flights that lead, as far as they were walked.
use Rattle.std.proofs.Common.{◌≡◌, ℕ, ◌+◌, ◌<◌, ◌≤◌, sym, subst, below_more, arith}
use Rattle.std.specs.Prelude.{slice_index_or}
use Rattle.daa_fixed.specs.declared.Solid.{Solid}
use Rattle.daa_fixed.specs.Leg.{IsSolidBelow}
use Rattle.daa_config.specs.declared.candidate.Candidate.{Candidate}
use Rattle.daa_config.specs.declared.candidate.Candidate.TheVariants.{Hold}
use Rattle.daa_config.specs.declared.config.Rates.{Rates}
use Rattle.daa_config.specs.Settings.{Settings, AreRatesInRange}
use Rattle.daa_state.specs.declared.word.Own.{Own}
use Rattle.daa_state.specs.declared.word.Picture.{Picture}
use Rattle.daa_state.specs.InRange.{IsOwnInRange}
use Rattle.daa_legs.specs.declared.own_leg.OwnLeg.{OwnLeg}
use Rattle.daa_legs.specs.OwnLeg.{place_on, IsOwnLegInRange}
use Rattle.daa_legs.proofs.Places.{place_on-below}
use Rattle.daa_meet.proofs.Keeping.{kept_is, kept-in_range}
use Rattle.daa_last.specs.declared.side.Side.{Side}
use Rattle.daa_last.specs.declared.side.Walk.{Walk}
use Rattle.daa_last.specs.Delayed.{leg_delayed}
use Rattle.daa_last.specs.Inside.Rests.{IsMovedAlone}
use Rattle.daa_last.specs.Inside.Search.{IsStruck}
use Rattle.daa_last.specs.Inside.Sides.{moved, IsSide, IsWalk}
use Rattle.daa_last.proofs.Delays.{moved_leg_is, begins_own, delayed-in_range}

module _ (own : Own) (rates : Rates) (horizon : ℕ) (side : Side) (h : IsSide own rates horizon side) (o : IsOwnInRange own) (r : AreRatesInRange rates) (short : horizon ≤ 180) where
  -- a leg that is kept
  pub side_leg-in_range : (j : ℕ) (leg : OwnLeg) → j < horizon → ((d : OwnLeg) → slice_index_or side.legs j d ≡ leg) → IsOwnLegInRange leg
  side_leg-in_range j leg lt e = kept-in_range own rates side.lead horizon j side.legs leg h.legs lt short e o r h.in_range

  pub start-below : (m : ℕ) (start : Solid) → m ≤ 180 → start ≡ place_on own rates Hold m → IsSolidBelow 20000000 start
  start-below m start le e = subst (λ (x : Solid). IsSolidBelow 20000000 x) (sym e) (place_on-below own rates Hold o r tt m le)

  pub side_moved : (m j : ℕ) (leg first : OwnLeg) (start : Solid) → IsMovedAlone own rates m side.lead → m + j < horizon → ((d : OwnLeg) → slice_index_or side.legs j d ≡ leg)
      → ((d : OwnLeg) → slice_index_or side.legs 0 d ≡ first) → start ≡ place_on own rates Hold m
      → record { place = moved leg.place start first.place; velocity = leg.velocity } ≡ leg_delayed own rates m side.lead (m + j)
  side_moved m j leg first start alone lt e f s = moved_leg_is own rates m side.lead alone j leg start first.place
      (kept_is own rates side.lead horizon j side.legs leg h.legs (omega (arith, lt)) e) s
      (begins_own own rates m side.lead alone first (kept_is own rates side.lead horizon 0 side.legs first h.legs (omega (arith, lt)) f))

  pub side_moved-in_range : (m k : ℕ) (leg : OwnLeg) → k ≤ 180 → leg ≡ leg_delayed own rates m side.lead k → IsOwnLegInRange leg
  side_moved-in_range m k leg le e = subst (λ (x : OwnLeg). IsOwnLegInRange x) (sym e) (delayed-in_range own rates m o r side.lead h.in_range k le)

module _ (settings : Settings) (picture : Picture) (m : ℕ) (lead : Candidate) where
  pub walk_struck : (walk : Walk) → IsWalk settings picture m lead walk → IsStruck settings picture lead m (m + walk.walked)
      → IsWalk settings picture m lead (record walk { blocked = walk.walked })
  walk_struck walk h s = record { clear = h.clear; blocked = λ _. s }

  pub walk_more : (walk : Walk) → IsWalk settings picture m lead walk → ¬ IsStruck settings picture lead m (m + walk.walked)
      → IsWalk settings picture m lead (record walk { walked = walk.walked + 1 })
  walk_more walk h free = record { clear = below_more _ _ h.clear free; blocked = h.blocked }

  pub walk_none : (walk : Walk) → walk.walked ≡ 0 → walk.blocked ≡ 180 → IsWalk settings picture m lead walk
  walk_none walk a b = record { clear = λ j lt. absurd (omega (arith, a, lt)); blocked = λ lt. absurd (omega (arith, b, lt)) }
