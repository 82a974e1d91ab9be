-- Where a candidate meets an aircraft: on the legs that it flies as another does, on the leg after them, or on the straight rest.
use Rattle.std.proofs.Common.{◌≡◌, ◌↔◌, ◌⊎◌, inl, inr, ⊎_elim, ℕ, ℤ, zero, suc, ◌+◌, ◌<◌, ◌≤◌, refl, ap, sym, subst, ◌∙◌, arith}
use Rattle.std.proofs.lemmas.Bool.{cases_lt, cases_eq}
use Rattle.daa_fixed.specs.declared.Solid.{Solid}
use Rattle.daa_fixed.specs.declared.Leg.{Leg}
use Rattle.daa_fixed.specs.Leg.{plus, sum_below}
use Rattle.daa_fixed.specs.Time.{HoldsSometime}
use Rattle.daa_taumod.specs.declared.Volume.{Volume}
use Rattle.daa_config.specs.declared.candidate.Candidate.{Candidate}
use Rattle.daa_config.specs.declared.config.Rates.{Rates}
use Rattle.daa_config.specs.Settings.{Settings, rates_of}
use Rattle.daa_state.specs.declared.word.Own.{Own}
use Rattle.daa_state.specs.declared.word.Traffic.{Traffic}
use Rattle.daa_legs.specs.declared.own_leg.OwnLeg.{OwnLeg}
use Rattle.daa_legs.specs.Motion.{velocity_on, vertical_speed_on, ground_speed_on, track_on}
use Rattle.daa_heading.specs.Heading.{velocity_of}
use Rattle.daa_config.specs.declared.candidate.Candidate.TheVariants.{Altitude}
use Rattle.daa_legs.specs.OwnLeg.{own_place, place_on, own_leg}
use Rattle.daa_legs.specs.Relative.{relative_for}
use Rattle.daa_legs.specs.Runs.{IsRunOf, MeetsBetween}
use Rattle.daa_legs.specs.Violating.{ViolatesBy}
use Rattle.daa_legs.specs.Meeting.{relative_leg, ViolatesOn, MeetsWithin}
use Rattle.daa_legs.specs.declared.branch.Parting.{Parting}
use Rattle.daa_legs.specs.Branch.{lead_of, velocity_there, FliesAs, FliesOn}

sums : (f g : ℕ → Solid) (k : ℕ) → ((j : ℕ) → j < k → f j ≡ g j) → sum_below f k ≡ sum_below g k
sums f g zero h = refl
sums f g (suc k) h = λ i. plus (sums f g k (λ j b. h j (omega (arith, b))) i) (h k (omega arith) i)

module _ (own : Own) (rates : Rates) (candidate lead : Candidate) (n : ℕ) (alike : FliesAs own rates candidate lead n) where
  -- it is where the other is, also when it leaves it
  pub place_alike : (k : ℕ) → k ≤ n → place_on own rates candidate k ≡ place_on own rates lead k
  unfolding place_on
  place_alike k h = ap (λ (s : Solid). plus (own_place own) s) (sums (velocity_on own rates candidate) (velocity_on own rates lead) k (λ j b. alike.same j (omega (arith, b, h))))

  pub leg_alike : (k : ℕ) → k < n → own_leg own rates candidate k ≡ own_leg own rates lead k
  leg_alike k h = λ i. record { place = place_alike k (omega (arith, h)) i; velocity = alike.same k h i }

-- the parts of a branch that is known
module _ (own : Own) (rates : Rates) (candidate known : Candidate) (b c : Parting) (e : candidate ≡ known) (is : b ≡ c) where
  pub before_is : FliesAs own rates known (lead_of own known c.upper) c.leaves → FliesAs own rates candidate (lead_of own candidate b.upper) b.leaves
  before_is h = subst (λ (x : Candidate). FliesAs own rates x (lead_of own x b.upper) b.leaves) (sym e)
      (subst (λ (y : Parting). FliesAs own rates known (lead_of own known y.upper) y.leaves) (sym is) h)

  pub after_is : FliesOn own rates known c.settles → FliesOn own rates candidate b.settles
  after_is h = subst (λ (x : Candidate). FliesOn own rates x b.settles) (sym e) (subst (λ (y : Parting). FliesOn own rates known y.settles) (sym is) h)

  pub rise_is : c.rise ≡ vertical_speed_on own rates known c.leaves → b.rise ≡ vertical_speed_on own rates candidate b.leaves
  rise_is h = subst (λ (x : Candidate). b.rise ≡ vertical_speed_on own rates x b.leaves) (sym e) (subst (λ (y : Parting). y.rise ≡ vertical_speed_on own rates known y.leaves) (sym is) h)

pub near_is : (b c : Parting) → b ≡ c → c.leaves ≤ c.settles → c.settles ≤ c.leaves + 1 → (b.leaves ≤ b.settles) × (b.settles ≤ b.leaves + 1)
near_is b c is h k = (subst (λ (y : Parting). y.leaves ≤ y.settles) (sym is) h, subst (λ (y : Parting). y.settles ≤ y.leaves + 1) (sym is) k)

-- it has no leg of its own
pub none_own : (b c : Parting) → b ≡ c → c.settles ≤ c.leaves → b.leaves < b.settles → ⊥
none_own b c is h k = let l = subst (λ (y : Parting). y.settles ≤ y.leaves) (sym is) h in omega (arith, k, l)

-- a leg on the way to an altitude has the way over ground of the rest
pub rises : (own : Own) (rates : Rates) (candidate : Candidate) (a : ℤ) (n : ℕ) (velocity : Solid) (up : ℤ) → candidate ≡ Altitude a → velocity ≡ velocity_there own candidate
    → up ≡ vertical_speed_on own rates candidate n → velocity_on own rates candidate n ≡ record { flat = velocity.flat; up = up }
unfolding velocity_on velocity_there ground_speed_on track_on
rises own rates candidate a n velocity up e v u =
    let flat : velocity.flat ≡ velocity_of own.gs own.trk = ap (λ (s : Solid). s.flat) (v ∙ ap (velocity_there own) e) in
    let over : velocity_on own rates candidate n ≡ record { flat = velocity_of own.gs own.trk; up = vertical_speed_on own rates candidate n } =
    subst (λ (x : Candidate). velocity_on own rates x n ≡ record { flat = velocity_of own.gs own.trk; up = vertical_speed_on own rates x n }) (sym e) refl in
    over ∙ (λ i. record { flat = sym flat i; up = sym u i })

-- the straight rest, from any leg that is not before
pub straight_run : (own : Own) (rates : Rates) (candidate : Candidate) (n secs : ℕ) → FliesOn own rates candidate n
    → IsRunOf own rates candidate n (record { place = place_on own rates candidate n; velocity = velocity_there own candidate; secs = secs })
straight_run own rates candidate n secs on = record { begins = refl; same = λ j h. on.there (n + j) (omega arith) }

-- leg n, or a later one
pub from_next : (settings : Settings) (own : Own) (candidate : Candidate) (aircraft : Traffic) (volume : Volume) (n m : ℕ) → n < m
    → MeetsBetween settings own candidate aircraft volume n m ↔ (ViolatesOn settings own candidate aircraft volume n ⊎ MeetsBetween settings own candidate aircraft volume (n + 1) m)
from_next settings own candidate aircraft volume n m h = (
  (λ e. ⊎_elim
      (λ same. inl (subst (λ (k : ℕ). ViolatesOn settings own candidate aircraft volume k) same e.violates))
      (λ other. inr (record { leg = e.leg; not_before = past e.leg e.not_before other; before = e.before; violates = e.violates }))
      (cases_eq e.leg n)),
  (λ o. ⊎_elim
      (λ v. record { leg = n; not_before = omega arith; before = h; violates = v })
      (λ r. record { leg = r.leg; not_before = omega (arith, r.not_before); before = r.before; violates = r.violates })
      o),
)
  where
    past : (k : ℕ) → n ≤ k → (k ≡ n → ⊥) → n + 1 ≤ k
    past k h o = ⊎_elim (λ l. absurd (o (omega (arith, h, l)))) (λ l. l) (cases_lt k (n + 1))

module _ (settings : Settings) (own : Own) (candidate lead : Candidate) (aircraft : Traffic) (volume : Volume) (n : ℕ) (alike : FliesAs own (rates_of settings) candidate lead n) where
  pub violates_alike : (k : ℕ) → k < n → ViolatesOn settings own candidate aircraft volume k ↔ ViolatesOn settings own lead aircraft volume k
  violates_alike k h =
      let e : relative_leg settings own candidate aircraft k ≡ relative_leg settings own lead aircraft k = ap (λ (l : OwnLeg). relative_for 1 l aircraft k)
      (leg_alike own (rates_of settings) candidate lead n alike k h) in (
        (λ v. subst (λ (l : Leg). HoldsSometime 1 (ViolatesBy aircraft k l volume)) e v),
        (λ v. subst (λ (l : Leg). HoldsSometime 1 (ViolatesBy aircraft k l volume)) (sym e) v),
      )

  -- where it meets the aircraft within m seconds
  pub record MeetsByBranch (m : ℕ) : Type 0 where
    pub where_ : ((k : ℕ) × (k < n) × (k < m) × ViolatesOn settings own lead aircraft volume k) ⊎ MeetsBetween settings own candidate aircraft volume n m

  pub by_branch : (m : ℕ) → MeetsWithin settings own candidate aircraft volume m ↔ MeetsByBranch m
  by_branch m = (
    (λ e. record {
      where_ = ⊎_elim
          (λ before. inl (e.leg, before, e.before, (violates_alike e.leg before).0 e.violates))
          (λ late. inr (record { leg = e.leg; not_before = late; before = e.before; violates = e.violates }))
          (cases_lt e.leg n);
    }),
    (λ e. ⊎_elim
        (λ (k, before, upto, v). record { leg = k; before = upto; violates = (violates_alike k before).1 v })
        (λ r. record { leg = r.leg; before = r.before; violates = r.violates })
        e.where_),
  )
