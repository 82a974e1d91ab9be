-- A list of kept legs, one leg more.
use Rattle.std.proofs.Common.{◌≡◌, ℕ, ◌+◌, ◌<◌, ◌≤◌, sym, subst, List, length, below_more, ap, ◌∙◌, arith}
use Rattle.std.specs.Prelude.{slice_index_or}
use Rattle.std.proofs.lemmas.List.{get_or-set_same, get_or-set_other, length-set}
use Rattle.std.proofs.Math.ListN.{set}
use Rattle.daa_config.specs.declared.config.Rates.{Rates}
use Rattle.daa_config.specs.declared.candidate.Candidate.{Candidate}
use Rattle.daa_config.specs.Settings.{AreRatesInRange, IsCandidateInRange}
use Rattle.daa_fixed.specs.declared.Solid.{Solid}
use Rattle.daa_fixed.specs.Leg.{plus, IsSolidBelow}
use Rattle.daa_state.specs.InRange.{IsOwnInRange}
use Rattle.daa_state.specs.declared.word.Own.{Own}
use Rattle.daa_legs.specs.declared.own_leg.OwnLeg.{OwnLeg}
use Rattle.daa_legs.specs.OwnLeg.{own_place, place_on, own_leg}
use Rattle.daa_legs.specs.Motion.{velocity_on}
use Rattle.daa_legs.proofs.Places.{place-start, place-next, place_on-below, velocity_on-below}
use Rattle.daa_legs.specs.Trunk.{AreLegsOf}

module _ (own : Own) (rates : Rates) (candidate : Candidate) where
  pub kept_none : (legs : List OwnLeg) → length legs ≡ 180 → AreLegsOf own rates candidate 0 legs
  kept_none legs e = record { room = e; each = λ k d h. absurd (omega (arith, h)) }

  pub kept_more : (k : ℕ) (legs : List OwnLeg) (leg : OwnLeg) → k < 180 → AreLegsOf own rates candidate k legs → leg ≡ own_leg own rates candidate k
      → AreLegsOf own rates candidate (k + 1) (set legs k leg)
  kept_more k legs leg short h e = record {
    room = length-set legs k leg ∙ h.room;
    each = λ j d b. below_more (λ (i : ℕ). slice_index_or (set legs k leg) i d ≡ own_leg own rates candidate i) k
        (λ i l. get_or-set_other legs k i leg d (omega (arith, l)) ∙ h.each i d l)
        (get_or-set_same legs k leg d (omega (arith, short, h.room)) ∙ e)
        j b;
  }

  -- a flight begins where the ownship is
  pub first_place : (place : Solid) → place ≡ own_place own → place ≡ place_on own rates candidate 0
  first_place place e = place-start own rates candidate place (ap (λ (x : Solid). x.flat.east) e) (ap (λ (x : Solid). x.flat.north) e) (ap (λ (x : Solid). x.up) e)

  -- the leg from a place on, which ends at the next
  pub leg_kept : (r : Rates) (k : ℕ) (place velocity : Solid) → r ≡ rates → place ≡ place_on own rates candidate k → velocity ≡ velocity_on own r candidate k
      → record { place = place; velocity = velocity } ≡ own_leg own rates candidate k
  leg_kept r k place velocity e p v = λ i. record { place = p i; velocity = (v ∙ ap (λ (x : Rates). velocity_on own x candidate k) e) i }

  pub place_after : (k : ℕ) (place velocity next : Solid) → record { place = place; velocity = velocity } ≡ own_leg own rates candidate k → next ≡ plus place velocity
      → next ≡ place_on own rates candidate (k + 1)
  place_after k place velocity next l e = e ∙ ap (λ (x : OwnLeg). plus x.place x.velocity) l ∙ place-next own rates candidate k

  -- both are in range
  module _ (o : IsOwnInRange own) (r : AreRatesInRange rates) (h : IsCandidateInRange candidate) (k : ℕ) (place velocity : Solid) where
    pub place_small : k ≤ 180 → place ≡ place_on own rates candidate k → IsSolidBelow 20000000 place
    place_small b p = subst (λ (x : Solid). IsSolidBelow 20000000 x) (sym p) (place_on-below own rates candidate o r h k b)

    pub velocity_small : (s : Rates) → s ≡ rates → velocity ≡ velocity_on own s candidate k → IsSolidBelow 20000 velocity
    velocity_small s e v = subst (λ (x : Solid). IsSolidBelow 20000 x) (sym (v ∙ ap (λ (x : Rates). velocity_on own x candidate k) e)) (velocity_on-below own rates candidate o r h k)
