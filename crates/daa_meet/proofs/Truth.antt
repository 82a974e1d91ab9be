-- Where reports are exact, the truth is what is reported; and whatever violates by exact reports may violate by wider bounds.
use Rattle.std.proofs.Common.{[], ◌∷◌, ◌≡◌, refl, sym, subst, ◌∙◌, arith, ℕ, ◌+◌, ◌*◌, ◌≤◌, ◌<◌, ℤ, pos, ◌+ℤ◌, ◌-ℤ◌, ◌*ℤ◌, ◌≤ℤ◌, neg_ℤ, unsigned_abs, Bool, true, false}
use Rattle.std.specs.Prelude.{◌&&◌, ◌==◌}
use Rattle.std.proofs.lemmas.Bool.Decides.{nat_tests}
use Rattle.std.proofs.lemmas.Int.{ints}
use Rattle.std.proofs.lemmas.Nat.{mul-le}
use Rattle.daa_fixed.proofs.Ring.{ring, #, ⊝, ◌⊗◌, square_nonneg, mul_nonneg}
use Rattle.daa_fixed.proofs.Integers.{root_within, sum_nonneg}
use Rattle.daa_fixed.specs.Flat.{square_of}
use Rattle.daa_fixed.specs.Time.{IsTime}
use Rattle.daa_fixed.specs.declared.Flat.{Flat}
use Rattle.daa_fixed.specs.declared.Leg.{Leg}
use Rattle.daa_taumod.specs.declared.Volume.{Volume}
use Rattle.daa_taumod.specs.Volume.{place_at, height_at, Violates}
use Rattle.daa_config.specs.declared.candidate.Candidate.{Candidate}
use Rattle.daa_config.specs.Settings.{Settings}
use Rattle.daa_state.specs.declared.word.Own.{Own}
use Rattle.daa_state.specs.declared.word.Traffic.{Traffic}
use Rattle.daa_legs.specs.Relative.{relative_for}
use Rattle.daa_legs.proofs.Stretches.{violates_moved}
use Rattle.daa_margin.specs.declared.ErrorBounds.{ErrorBounds}
use Rattle.daa_margin.specs.ErrorBounds.{AreNoWider, IsWithinErrors, place_error_at, height_error_at}
use Rattle.daa_margin.proofs.Growth.{grows_with_bounds}
use Rattle.daa_margin.proofs.Truth.{both_parts}
use Rattle.daa_state.specs.declared.word.PairBounds.{PairBounds}
use Rattle.daa_state.specs.declared.word.ReportBounds.{ReportBounds}
use Rattle.daa_meet.specs.Wider.{AreBoundsNoWider, IsReportNoWider, bounded}
use Rattle.daa_legs.specs.Errors.{is_exact, are_exact, errors_on}
use Rattle.daa_legs.specs.Violating.{ViolatesBy, ViolatesIf}
use Rattle.daa_legs.specs.Meeting.{relative_leg, ViolatesOn}
use Rattle.daa_legs.specs.Runs.{MeetsBetween}
use Rattle.daa_legs.proofs.Exactness.{exact_leg, unsure_leg}
use Rattle.daa_legs.proofs.Growing.{error_of}

-- ---- errors grow with the bounds

-- one error
pub error_grows : (u p p' s s' q q' t t' age k : ℕ) → p ≤ q → p' ≤ q' → s ≤ t → s' ≤ t' → error_of u p p' s s' age k ≤ error_of u q q' t t' age k
error_grows u p p' s s' q q' t t' age k hp hp' hs hs' =
    let a : u * (p + p') ≤ u * (q + q') = mul-le u (p + p') u (q + q') (omega arith) (omega (arith, hp, hp')) in
    let b : s * k ≤ t * k = mul-le s k t k hs (omega arith) in
    let c : s' * (age + k) ≤ t' * (age + k) = mul-le s' (age + k) t' (age + k) hs' (omega arith) in
    sum _ _ _ _ _ _ a b c
  where
    sum : (x y z x' y' z' : ℕ) → x ≤ x' → y ≤ y' → z ≤ z' → x + y + z ≤ x' + y' + z'
    sum x y z x' y' z' a b c = omega arith

pub errors_grow : (narrow wide : PairBounds) (age k : ℕ) → AreBoundsNoWider narrow wide → AreNoWider (errors_on narrow age k) (errors_on wide age k)
errors_grow narrow wide age k w =
    let own = w.own in
    let other = w.aircraft in
    let os = own.speed in let ts = other.speed in let oc = own.climb in let tc = other.climb in
    record {
      place = error_grows 36 _ _ _ _ _ _ _ _ age k own.place other.place os ts;
      speed = omega (arith, os, ts);
      height = error_grows 60 _ _ _ _ _ _ _ _ age k own.height other.height oc tc;
      climb = omega (arith, oc, tc);
    }

-- ---- the four bounds of an exact report
pub record IsZero (bounds : ReportBounds) : Type 0 where
  pub place : bounds.place ≡ 0
  pub height : bounds.height ≡ 0
  pub speed : bounds.speed ≡ 0
  pub climb : bounds.climb ≡ 0

both_true : (a b : Bool) → a && b ≡ true → (a ≡ true) × (b ≡ true)
both_true true true e = (refl, refl)
both_true true false e = absurd (cc e)
both_true false b e = absurd (cc e)

all_true : (a b : Bool) → a ≡ true → b ≡ true → a && b ≡ true
all_true a b e f = cc

zero_is : (n : ℕ) → n == 0 ≡ true → n ≡ 0
zero_is n e = grind (arith, nat_tests)

is_zero : (n : ℕ) → n ≡ 0 → n == 0 ≡ true
is_zero n e = subst (λ (m : ℕ). m == 0 ≡ true) (sym e) refl

pub zeros : (b : ReportBounds) → is_exact b ≡ true → IsZero b
zeros b e =
    let x = both_true _ _ e in
    let y = both_true _ _ x.1 in
    let z = both_true _ _ y.1 in
    record { place = zero_is _ x.0; height = zero_is _ y.0; speed = zero_is _ z.0; climb = zero_is _ z.1 }

no_wider_exact : (narrow wide : ReportBounds) → IsReportNoWider narrow wide → is_exact wide ≡ true → is_exact narrow ≡ true
no_wider_exact narrow wide w e =
    let z = zeros wide e in
    all_true _ _ (least _ _ w.place z.place) (all_true _ _ (least _ _ w.height z.height) (all_true _ _ (least _ _ w.speed z.speed) (least _ _ w.climb z.climb)))
  where
    least : (n m : ℕ) → n ≤ m → m ≡ 0 → n == 0 ≡ true
    least n m h z = is_zero n (omega (arith, h, z))

-- what is no wider than exact reports is exact
pub exact_too : (narrow wide : PairBounds) → AreBoundsNoWider narrow wide → are_exact wide ≡ true → are_exact narrow ≡ true
exact_too narrow wide w e =
    let x = both_true _ _ e in
    all_true _ _ (no_wider_exact narrow.own wide.own w.own x.0) (no_wider_exact narrow.aircraft wide.aircraft w.aircraft x.1)

-- ---- exact reports have no errors
abbrev none : ErrorBounds
none = record { place = 0; speed = 0; height = 0; climb = 0 }

no_place : (age k : ℕ) → error_of 36 0 0 0 0 age k ≡ 0
no_place age k = omega arith

no_height : (age k : ℕ) → error_of 60 0 0 0 0 age k ≡ 0
no_height age k = omega arith

pub no_errors : (bounds : PairBounds) (age k : ℕ) → are_exact bounds ≡ true → errors_on bounds age k ≡ none
no_errors bounds age k e =
    let x = both_true _ _ e in
    let o = zeros bounds.own x.0 in
    let t = zeros bounds.aircraft x.1 in
    (λ i. record {
      place = error_of 36 (o.place i) (t.place i) (o.speed i) (t.speed i) age k;
      speed = o.speed i + t.speed i;
      height = error_of 60 (o.height i) (t.height i) (o.climb i) (t.climb i) age k;
      climb = o.climb i + t.climb i;
    })
    ∙ (λ i. record { place = no_place age k i; speed = 0; height = no_height age k i; climb = 0 })

-- ---- what has no errors is the same
squared : (a : ℤ) → (a *ℤ a) ≤ℤ pos 0 → a ≡ pos 0
squared a h = between a (root_within a (pos 0) (omega (arith, ints)) h) (root_within (neg_ℤ a) (pos 0) (omega (arith, ints)) turned)
  where
    turned : (neg_ℤ a *ℤ neg_ℤ a) ≤ℤ (pos 0 *ℤ pos 0)
    turned = subst (λ (z : ℤ). z ≤ℤ pos 0) (let A = # 0 in ring (a ∷ []) (A ⊗ A) (⊝ A ⊗ ⊝ A) tt) h

    between : (z : ℤ) → z ≤ℤ pos 0 → neg_ℤ z ≤ℤ pos 0 → z ≡ pos 0
    between z low high = omega (arith, ints)

same : (x y : ℤ) → x -ℤ y ≡ pos 0 → y ≡ x
same x y e = omega (arith, ints)

first : (a b : ℤ) → (a *ℤ a +ℤ b *ℤ b) ≤ℤ pos 0 → a ≡ pos 0
first a b h = squared a (less (a *ℤ a) (b *ℤ b) (square_nonneg b) h)
  where
    less : (x y : ℤ) → pos 0 ≤ℤ y → (x +ℤ y) ≤ℤ pos 0 → x ≤ℤ pos 0
    less x y h k = omega (arith, ints)

second : (a b : ℤ) → (a *ℤ a +ℤ b *ℤ b) ≤ℤ pos 0 → b ≡ pos 0
second a b h = squared b (less (a *ℤ a) (b *ℤ b) (square_nonneg a) h)
  where
    less : (x y : ℤ) → pos 0 ≤ℤ x → (x +ℤ y) ≤ℤ pos 0 → y ≤ℤ pos 0
    less x y h k = omega (arith, ints)

nothing : (x : ℤ) → pos (unsigned_abs x) ≤ℤ pos 0 → x ≡ pos 0
nothing x h = omega (arith, ints)

module _ (truth reported : Leg) (n d : ℤ) (w : IsWithinErrors none truth reported n d) where
  zero_error : d *ℤ pos 0 +ℤ n *ℤ pos 0 ≡ pos 0
  zero_error = omega (arith, ints)

  place_sum : (square_of ((place_at reported n d).east -ℤ (place_at truth n d).east) +ℤ square_of ((place_at reported n d).north -ℤ (place_at truth n d).north)) ≤ℤ pos 0
  place_sum = subst (λ (z : ℤ). (square_of ((place_at reported n d).east -ℤ (place_at truth n d).east) +ℤ square_of ((place_at reported n d).north -ℤ (place_at truth n d).north))
      ≤ℤ square_of z) zero_error w.place

  abbrev there : Flat
  there = place_at reported n d

  abbrev here : Flat
  here = place_at truth n d

  same_place : place_at truth n d ≡ place_at reported n d
  same_place = λ i. record {
    east = same there.east here.east (first (there.east -ℤ here.east) (there.north -ℤ here.north) place_sum) i;
    north = same there.north here.north (second (there.east -ℤ here.east) (there.north -ℤ here.north) place_sum) i;
  }

  same_height : height_at truth n d ≡ height_at reported n d
  same_height =
      let high : ℤ = height_at reported n d in
      let low : ℤ = height_at truth n d in
      same high low (nothing (high -ℤ low) (subst (λ (z : ℤ). pos (unsigned_abs (high -ℤ low)) ≤ℤ z) zero_error w.height))

  same_velocity : truth.velocity ≡ reported.velocity
  same_velocity =
      let u : Flat = reported.velocity.flat in
      let v : Flat = truth.velocity.flat in
      (λ i. record {
        flat = record {
          east = same u.east v.east (first (u.east -ℤ v.east) (u.north -ℤ v.north) w.velocity) i;
          north = same u.north v.north (second (u.east -ℤ v.east) (u.north -ℤ v.north) w.velocity) i;
        };
        up = same reported.velocity.up truth.velocity.up (nothing (reported.velocity.up -ℤ truth.velocity.up) w.climb) i;
      })

  pub reported_too : (volume : Volume) → Violates truth volume n d → Violates reported volume n d
  reported_too volume h = violates_moved truth reported volume n n d same_place same_height same_velocity h

-- ---- what violates is within any errors of itself
pub within_self : (errors : ErrorBounds) (leg : Leg) (n d : ℤ) → pos 0 ≤ℤ n → pos 1 ≤ℤ d → IsWithinErrors errors leg leg n d
within_self errors leg n d n0 d1 = record {
  place = flat (place_at leg n d).east (place_at leg n d).north (place_error_at errors n d);
  velocity = flat leg.velocity.flat.east leg.velocity.flat.north (pos errors.speed);
  height = up (height_at leg n d) (height_error_at errors n d) (sum_nonneg _ _ (mul_nonneg d _ (omega (arith, ints, d1)) (natural errors.height)) (mul_nonneg n _ n0 (natural errors.climb)));
  climb = up leg.velocity.up (pos errors.climb) (natural errors.climb);
}
  where
    natural : (m : ℕ) → pos 0 ≤ℤ pos m
    natural m = omega (arith, ints)

    flat : (x y e : ℤ) → (square_of (x -ℤ x) +ℤ square_of (y -ℤ y)) ≤ℤ square_of e
    flat x y e = subst (λ (z : ℤ). z ≤ℤ square_of e) (sym (off x y)) (square_nonneg e)
      where
        gone : (z : ℤ) → z -ℤ z ≡ pos 0
        gone z = omega (arith, ints)

        off : (x y : ℤ) → square_of (x -ℤ x) +ℤ square_of (y -ℤ y) ≡ pos 0
        off x y = λ i. square_of (gone x i) +ℤ square_of (gone y i)

    up : (x e : ℤ) → pos 0 ≤ℤ e → pos (unsigned_abs (x -ℤ x)) ≤ℤ e
    up x e h = omega (arith, ints)

-- a violation in truth at some time of a leg that begins at second k
module _ (aircraft : Traffic) (k : ℕ) (leg truth : Leg) (volume : Volume) (n d : ℤ) (n0 : pos 0 ≤ℤ n) (d1 : pos 1 ≤ℤ d) where
  pub truth_by : IsWithinErrors (errors_on aircraft.bounds aircraft.age k) truth leg n d → Violates truth volume n d → ViolatesBy aircraft k leg volume n d
  truth_by w h = go (are_exact aircraft.bounds) refl
    where
      go : (b : Bool) → are_exact aircraft.bounds ≡ b → ViolatesIf (are_exact aircraft.bounds) leg volume (errors_on aircraft.bounds aircraft.age k) n d
      go true e = subst (λ (b : Bool). ViolatesIf b leg volume (errors_on aircraft.bounds aircraft.age k) n d) (sym e)
          (reported_too truth leg n d (subst (λ (x : ErrorBounds). IsWithinErrors x truth leg n d) (no_errors aircraft.bounds aircraft.age k e) w) volume h)
      go false e = subst (λ (b : Bool). ViolatesIf b leg volume (errors_on aircraft.bounds aircraft.age k) n d) (sym e)
          (both_parts truth leg volume (errors_on aircraft.bounds aircraft.age k) n d n0 d1 w h)

-- the same of leg k of a candidate's flight
pub truth_on : (settings : Settings) (own : Own) (candidate : Candidate) (aircraft : Traffic) (volume : Volume) (k : ℕ) (truth : Leg) (n d : ℤ) → IsTime 1 n d
    → IsWithinErrors (errors_on aircraft.bounds aircraft.age k) truth (relative_leg settings own candidate aircraft k) n d → Violates truth volume n d
    → ViolatesOn settings own candidate aircraft volume k
truth_on settings own candidate aircraft volume k truth n d t w h = record {
  num = n;
  den = d;
  time = t;
  holds = truth_by aircraft k (relative_leg settings own candidate aircraft k) truth volume n d t.from t.fraction w h;
}

-- what may not be met is clear for every truth
pub clear_in_truth : (settings : Settings) (own : Own) (candidate : Candidate) (aircraft : Traffic) (volume : Volume) (from upto : ℕ)
    → ¬ MeetsBetween settings own candidate aircraft volume from upto
    → (k : ℕ) (truth : Leg) (n d : ℤ) → from ≤ k → k < upto → IsTime 1 n d
    → IsWithinErrors (errors_on aircraft.bounds aircraft.age k) truth (relative_leg settings own candidate aircraft k) n d → ¬ Violates truth volume n d
clear_in_truth settings own candidate aircraft volume from upto clear k truth n d l b t w h =
    clear (record { leg = k; not_before = l; before = b; violates = truth_on settings own candidate aircraft volume k truth n d t w h })

-- wider bounds meet no less
module _ (wide : PairBounds) (settings : Settings) (own : Own) (candidate : Candidate) (aircraft : Traffic) (volume : Volume) (w : AreBoundsNoWider aircraft.bounds wide) where
  pub leg_widens : (k : ℕ) → ViolatesOn settings own candidate aircraft volume k → ViolatesOn settings own candidate (bounded wide aircraft) volume k
  unfolding relative_for
  leg_widens k h = go (are_exact aircraft.bounds) (are_exact wide) refl refl
    where
      go : (a b : Bool) → are_exact aircraft.bounds ≡ a → are_exact wide ≡ b → ViolatesOn settings own candidate (bounded wide aircraft) volume k
      go true b e f =
          let x = (exact_leg settings own candidate aircraft volume e k).0 h in
          truth_on settings own candidate (bounded wide aircraft) volume k (relative_leg settings own candidate aircraft k) x.num x.den x.time
          (within_self (errors_on wide aircraft.age k) (relative_leg settings own candidate aircraft k) x.num x.den x.time.from x.time.fraction) x.holds
      go false true e f = let t = exact_too aircraft.bounds wide w f in absurd (cc (t, e))
      go false false e f =
          let x = (unsure_leg settings own candidate aircraft volume e k).0 h in
          (unsure_leg settings own candidate (bounded wide aircraft) volume f k).1 (record {
            num = x.num;
            den = x.den;
            time = x.time;
            holds = grows_with_bounds (relative_leg settings own candidate aircraft k) volume (errors_on aircraft.bounds aircraft.age k) (errors_on wide aircraft.age k)
                (errors_grow aircraft.bounds wide aircraft.age k w) x.num x.den x.time.from x.time.fraction x.holds;
          })

  pub between_widens : (from upto : ℕ) → MeetsBetween settings own candidate aircraft volume from upto → MeetsBetween settings own candidate (bounded wide aircraft) volume from upto
  between_widens from upto m = record { leg = m.leg; not_before = m.not_before; before = m.before; violates = leg_widens m.leg m.violates }
