-- What a trail says, and a test of the straight rest; those of kept legs are daa_meet's.
pub use Rattle.daa_meet.proofs.Keeping.{kept_is, own_leg-in_range, leg_tested, fewer_legs}
use Rattle.daa_meet.proofs.Keeping.{rest_tested as kept_rest}
use Rattle.std.proofs.Common.{◌≡◌, ◌↔◌, ◌^◌, min, true, false, refl, inl, inr, ⊎_elim, ℕ, ◌+◌, ◌<◌, ◌≤◌, Bool, List, ap, sym, subst, ◌∙◌, arith}
use Rattle.std.proofs.lemmas.Bool.{cases_lt}
use Rattle.std.specs.Prelude.{IsTrue, slice_index_or}
use Rattle.daa_fixed.specs.declared.Leg.{Leg}
use Rattle.daa_fixed.specs.Time.{HoldsSometime}
use Rattle.daa_taumod.specs.declared.Volume.{Volume}
use Rattle.daa_config.specs.declared.candidate.Candidate.{Candidate}
use Rattle.daa_config.specs.declared.config.Rates.{Rates}
use Rattle.daa_config.specs.Settings.{Settings, AreRatesInRange, IsCandidateInRange, rates_of}
use Rattle.daa_state.specs.declared.word.Own.{Own}
use Rattle.daa_state.specs.declared.word.Traffic.{Traffic}
use Rattle.daa_state.specs.InRange.{IsOwnInRange}
use Rattle.daa_legs.specs.declared.own_leg.OwnLeg.{OwnLeg}
use Rattle.daa_fixed.specs.declared.Solid.{Solid}
use Rattle.daa_fixed.specs.Leg.{IsSolidBelow}
use Rattle.daa_legs.specs.declared.branch.Branch.{Branch}
use Rattle.daa_legs.specs.Branch.{lead_of, velocity_there, FliesAs, FliesOn}
use Rattle.daa_legs.specs.Table.{IsBranchOf}
use Rattle.daa_legs.specs.Trunk.{AreLegsOf}
use Rattle.daa_legs.specs.OwnLeg.{own_leg, place_on}
use Rattle.daa_legs.specs.Runs.{IsRunOf, IsOwnRunInRange, MeetsBetween}
use Rattle.daa_legs.specs.Violating.{ViolatesBy}
use Rattle.daa_legs.specs.Meeting.{ViolatesOn, MeetsWithin}
use Rattle.daa_legs.proofs.Branching.{place_alike, by_branch}
use Rattle.daa_legs.proofs.Places.{velocity_on-below, place_on-below}
use Rattle.daa_scan.specs.declared.trail.Trail.{Trail}
use Rattle.daa_scan.specs.Inside.Sharing.{IsTrailOf, IsSure}

-- the candidate leaves the trunk where the trunk is
pub leaves_there : (own : Own) (rates : Rates) (candidate lead : Candidate) (n m : ℕ) (legs : List OwnLeg) (leg : OwnLeg) → FliesAs own rates candidate lead n → AreLegsOf own rates lead m legs → n < m
    → ((d : OwnLeg) → slice_index_or legs n d ≡ leg) → leg.place ≡ place_on own rates candidate n
leaves_there own rates candidate lead n m legs leg alike h b k =
    ap (λ (l : OwnLeg). l.place) (kept_is own rates lead m n legs leg h b k) ∙ sym (place_alike own rates candidate lead n alike n (omega arith))

-- it leaves the flight that leads on its side
pub flies_as_lead : (own : Own) (rates : Rates) (candidate lead : Candidate) (branch : Branch) → lead ≡ lead_of own candidate branch.upper
    → IsBranchOf own rates candidate branch → FliesAs own rates candidate lead branch.leaves
flies_as_lead own rates candidate lead branch e is = subst (λ (x : Candidate). FliesAs own rates candidate x branch.leaves) (sym e) is.before

-- a leg of its own, by its branch
pub own_by_branch : (own : Own) (rates : Rates) (candidate : Candidate) (branch : Branch) (place : Solid) (leg : OwnLeg)
    → IsBranchOf own rates candidate branch → branch.leaves < branch.settles → branch.leaves < 180
    → place ≡ place_on own rates candidate branch.leaves → leg ≡ record { place = place; velocity = record { flat = branch.velocity.flat; up = branch.rise } }
    → leg ≡ own_leg own rates candidate branch.leaves
own_by_branch own rates candidate branch place leg is later soon p e = e ∙ (λ i. record { place = p i; velocity = sym (is.rise later soon) i })

-- the velocity of the straight rest is in range
pub rest_velocity : (own : Own) (rates : Rates) (candidate : Candidate) (k : ℕ) (velocity : Solid) → IsOwnInRange own → AreRatesInRange rates
    → IsCandidateInRange candidate → velocity ≡ velocity_there own candidate → FliesOn own rates candidate k
    → IsSolidBelow 20000 velocity
rest_velocity own rates candidate k velocity o r h e on = subst (λ (v : Solid). IsSolidBelow 20000 v) (on.there k (omega arith) ∙ sym e) (velocity_on-below own rates candidate o r h k)

-- a test of the straight rest
pub rest_tested : (settings : Settings) (own : Own) (candidate : Candidate) (aircraft : Traffic) (volume : Volume) (k secs m : ℕ) (rest : OwnLeg) (rel : Leg) (hit : Bool)
    → rest.place ≡ place_on own (rates_of settings) candidate k → rest.velocity ≡ velocity_there own candidate → FliesOn own (rates_of settings) candidate k → k + secs ≡ m
    → (IsRunOf own (rates_of settings) candidate k (record { place = rest.place; velocity = rest.velocity; secs = secs })
    → HoldsSometime rel.secs (ViolatesBy aircraft k rel volume) ↔ MeetsBetween settings own candidate aircraft volume k (k + secs))
    → IsTrue hit ↔ HoldsSometime rel.secs (ViolatesBy aircraft k rel volume) → IsTrue hit ↔ MeetsBetween settings own candidate aircraft volume k m
rest_tested settings own candidate aircraft volume k secs m rest rel hit p v on s seconds tests =
    let there = on.there k (omega arith) in
    kept_rest settings own candidate aircraft volume k secs m rest rel hit (λ i. record { place = p i; velocity = (v ∙ sym there) i }) on s seconds tests

-- where the straight rest begins is in range
pub rest_in_range : (own : Own) (rates : Rates) (candidate : Candidate) (k secs : ℕ) (rest : OwnLeg) → IsOwnInRange own → AreRatesInRange rates → IsCandidateInRange candidate → k ≤ 180
    → rest.place ≡ place_on own rates candidate k → IsSolidBelow 20000 rest.velocity → 1 ≤ secs → IsOwnRunInRange (record { place = rest.place; velocity = rest.velocity; secs = secs })
rest_in_range own rates candidate k secs rest o r h b p v some = record {
  leg = record { place = subst (λ (x : Solid). IsSolidBelow 20000000 x) (sym p) (place_on-below own rates candidate o r h k b); velocity = v };
  some = some;
}

-- a leg that is not walked lies past the trail's end
pub walked_upto : (settings : Settings) (own : Own) (lead : Candidate) (aircraft : Traffic) (volume : Volume) (trail : Trail) (last walked upto : ℕ)
    → IsTrailOf settings own lead aircraft volume trail → upto ≤ 180
    → last ≡ min upto trail.end → last ≤ walked → ((j : ℕ) → j < walked → ¬ ViolatesOn settings own lead aircraft volume j) → (j : ℕ) → j < upto → ¬ ViolatesOn settings own lead aircraft volume j
walked_upto settings own lead aircraft volume trail last walked upto t short ends over none j b v = ⊎_elim
    (λ l. none j l v)
    (λ g. t.later j (omega (arith, b, short)) (omega (arith, ends, over, b, g)) v)
    (cases_lt j walked)

module _ (settings : Settings) (own : Own) (candidate lead : Candidate) (aircraft : Traffic) (volume : Volume) (n m : ℕ)
    (alike : FliesAs own (rates_of settings) candidate lead n) (trail : Trail) (t : IsTrailOf settings own lead aircraft volume trail) where
  pub hit_meets : IsTrue trail.hit → trail.walked < n → trail.walked < m → MeetsWithin settings own candidate aircraft volume m
  hit_meets h a b = (by_branch settings own candidate lead aircraft volume n alike m).1 (record { where_ = inl (trail.walked, a, b, t.hit h) })

  -- where the trail shows none, it is met on the leg on which it leaves the trunk, or later
  pub later_meets : ((k : ℕ) → trail.walked ≤ k → k < n → k < m → ⊥) → MeetsWithin settings own candidate aircraft volume m → MeetsBetween settings own candidate aircraft volume n m
  later_meets never e = ⊎_elim
      (λ (k, a, b, v). absurd (⊎_elim (λ l. t.none k l v) (λ g. never k g a b) (cases_lt k trail.walked)))
      (λ o. o)
      ((by_branch settings own candidate lead aircraft volume n alike m).0 e).where_

  pub meets_later : MeetsBetween settings own candidate aircraft volume n m → MeetsWithin settings own candidate aircraft volume m
  meets_later o = (by_branch settings own candidate lead aircraft volume n alike m).1 (record { where_ = inr o })

  -- past what the trail is sure of it is met exactly if there is a hit
  pub sure_met : IsSure m trail → trail.past < n → n < 2 ^ 32 → m ≤ 180 → ((k : ℕ) → k < 180 → trail.end ≤ k → ¬ ViolatesOn settings own candidate aircraft volume k)
      → IsTrue trail.hit ↔ MeetsWithin settings own candidate aircraft volume m
  sure_met s p b short later = (
    (λ h. let w = s.hit h n p b in hit_meets h w.0 w.1),
    (λ e. met_hit e trail.hit refl),
  )
    where
      none : trail.hit ≡ false → MeetsWithin settings own candidate aircraft volume m → ⊥
      none c e = ⊎_elim
          (λ (k, a, l, v). ⊎_elim (λ w. t.none k w v) (λ g. t.later k (omega (arith, l, short)) ((s.clear c n k p b l).0 g) v) (cases_lt k trail.walked))
          (λ o. later o.leg (omega (arith, o.before, short)) ((s.clear c n o.leg p b o.before).1 o.not_before) o.violates)
          ((by_branch settings own candidate lead aircraft volume n alike m).0 e).where_

      met_hit : MeetsWithin settings own candidate aircraft volume m → (h : Bool) → trail.hit ≡ h → IsTrue trail.hit
      met_hit e true c = c
      met_hit e false c = absurd (none c e)
