-- The numbers below n at which a test is true, and the aircraft in reach.
use Rattle.std.proofs.Common.{◌≡◌, ◌↔◌, inl, inr, ◌⊎◌, refl, sym, ap, subst, ◌∙◌, arith, ⊎_elim, ℕ, zero, suc, ◌+◌, ◌-◌, ◌<◌, ◌≤◌, Bool, true, false, List, [], ◌∷◌, ◌++◌, length, Option, Some, None}
use Rattle.std.specs.Prelude.{IsTrue, not, ◌||◌, slice_get, slice_index, Contains, if◌then◌else◌}
use Rattle.std.specs.List.{list_any}
use Rattle.std.proofs.lemmas.Bool.{cases_lt, cases_Bool, false_from_ne_true}
use Rattle.std.proofs.lemmas.List.{length-append, get_or_append_left, get_or-append-add}
use Rattle.std.proofs.lemmas.Option.{same_Some, slice_get_within, slice_get-get_or, get_or_from_slice_get}
use Rattle.daa_config.specs.declared.level.Level.{Level}
use Rattle.daa_config.specs.Settings.{Settings}
use Rattle.daa_state.specs.declared.word.Own.{Own}
use Rattle.daa_state.specs.declared.word.Traffic.{Traffic}
use Rattle.daa_state.specs.Picture.{aircraft_of}
use Rattle.daa_legs.specs.Errors.{are_exact}
use Rattle.daa_scan.specs.Reach.{place_now, horizontal_speed, vertical_speed, CanEnter, IsNearEnough, IsInReach, IsInReachAt}
use Rattle.daa_scan.specs.SceneState.{SceneState}
use Rattle.daa_scan.specs.Units.{AreInReach}
use Rattle.daa_scan.specs.Packed.{enters, is_reached, is_reached_at, numbers_below, places_in_reach}
use Rattle.daa_meet.proofs.TrialLemmas.{le_is, both_is, either_is}

-- ---- one more number
pub taken : (f : ℕ → Bool) (n : ℕ) → IsTrue (f n) → numbers_below f (suc n) ≡ numbers_below f n ++ (n ∷ [])
unfolding numbers_below
taken f n t = ap (λ (b : Bool). if b then numbers_below f n ++ (n ∷ []) else numbers_below f n) t

pub passed : (f : ℕ → Bool) (n : ℕ) → f n ≡ false → numbers_below f (suc n) ≡ numbers_below f n
unfolding numbers_below
passed f n t = ap (λ (b : Bool). if b then numbers_below f n ++ (n ∷ []) else numbers_below f n) t

pub none_below : (f : ℕ → Bool) → numbers_below f 0 ≡ []
unfolding numbers_below
none_below f = refl

pub taken_count : (f : ℕ → Bool) (n : ℕ) → IsTrue (f n) → length (numbers_below f (suc n)) ≡ length (numbers_below f n) + 1
taken_count f n t = ap length (taken f n t) ∙ length-append (numbers_below f n) (n ∷ [])

pub taken_last : (f : ℕ → Bool) (n : ℕ) → IsTrue (f n) → slice_index (numbers_below f (suc n)) (length (numbers_below f n)) ≡ n
taken_last f n t =
    let none : length (numbers_below f n) ≡ length (numbers_below f n) + 0 = omega arith in
    ap (λ (xs : List ℕ). slice_index xs (length (numbers_below f n))) (taken f n t)
    ∙ ap (slice_index (numbers_below f n ++ (n ∷ []))) none
    ∙ get_or-append-add (numbers_below f n) (n ∷ []) 0 0

pub taken_before : (f : ℕ → Bool) (n i : ℕ) → IsTrue (f n) → i < length (numbers_below f n) → slice_index (numbers_below f (suc n)) i ≡ slice_index (numbers_below f n) i
taken_before f n i t h = ap (λ (xs : List ℕ). slice_index xs i) (taken f n t) ∙ get_or_append_left (numbers_below f n) (n ∷ []) 0 i h

-- ---- up to a later number
pub still : (f : ℕ → Bool) (n more i : ℕ) → i < length (numbers_below f n)
    → (i < length (numbers_below f (n + more))) × (slice_index (numbers_below f (n + more)) i ≡ slice_index (numbers_below f n) i)
still f n zero i h = let e : n + 0 ≡ n = omega arith in subst (λ (m : ℕ). (i < length (numbers_below f m)) × (slice_index (numbers_below f m) i ≡ slice_index (numbers_below f n) i)) (sym e) (h, refl)
still f n (suc more) i h =
    let e : n + suc more ≡ suc (n + more) = omega arith in
    let b = still f n more i h in
    subst (λ (m : ℕ). (i < length (numbers_below f m)) × (slice_index (numbers_below f m) i ≡ slice_index (numbers_below f n) i)) (sym e)
    (⊎_elim
    (λ t. let c = taken_count f (n + more) t in (omega (arith, c, b.0), taken_before f (n + more) i t b.0 ∙ b.1))
    (λ t. let p = passed f (n + more) t in (subst (λ (xs : List ℕ). i < length xs) (sym p) b.0, ap (λ (xs : List ℕ). slice_index xs i) p ∙ b.1))
    (cases_Bool (f (n + more))))

-- ---- which they are
pub record IsNumber (f : ℕ → Bool) (n at : ℕ) : Type 0 where
  pub below : at < n
  pub holds : IsTrue (f at)

pub each_number : (f : ℕ → Bool) (n i : ℕ) → i < length (numbers_below f n) → IsNumber f n (slice_index (numbers_below f n) i)
each_number f zero i h = absurd (let z = ap length (none_below f) in omega (arith, h, z))
each_number f (suc n) i h = ⊎_elim
    (λ t. let c = taken_count f n t in ⊎_elim
    (λ l. let b = each_number f n i l in subst (λ (m : ℕ). IsNumber f (suc n) m) (sym (taken_before f n i t l)) (record { below = omega (arith, b.below); holds = b.holds }))
    (λ g. let e : i ≡ length (numbers_below f n) = omega (arith, g, h, c) in
    let k : slice_index (numbers_below f (suc n)) i ≡ n = ap (slice_index (numbers_below f (suc n))) e ∙ taken_last f n t in
    subst (λ (m : ℕ). IsNumber f (suc n) m) (sym k) (record { below = omega arith; holds = t }))
    (cases_lt i (length (numbers_below f n))))
    (λ t. let p = passed f n t in
    let b = each_number f n i (subst (λ (xs : List ℕ). i < length xs) p h) in
    subst (λ (xs : List ℕ). IsNumber f (suc n) (slice_index xs i)) (sym p) (record { below = omega (arith, b.below); holds = b.holds }))
    (cases_Bool (f n))

record IsListed (f : ℕ → Bool) (n at : ℕ) : Type 0 where
  place : ℕ
  within : place < length (numbers_below f n)
  is : slice_index (numbers_below f n) place ≡ at

every_number : (f : ℕ → Bool) (n at : ℕ) → at < n → IsTrue (f at) → IsListed f n at
every_number f zero at h t = absurd (omega (arith, h))
every_number f (suc n) at h t = ⊎_elim
    (λ l. let b = every_number f n at l t in
    let e : n + 1 ≡ suc n = omega arith in
    let s = still f n 1 b.place b.within in
    let w : b.place < length (numbers_below f (suc n)) = subst (λ (m : ℕ). b.place < length (numbers_below f m)) e s.0 in
    let i : slice_index (numbers_below f (suc n)) b.place ≡ at = subst (λ (m : ℕ). slice_index (numbers_below f m) b.place ≡ slice_index (numbers_below f n) b.place) e s.1 ∙ b.is in
    record { place = b.place; within = w; is = i })
    (λ g. let same : at ≡ n = omega (arith, h, g) in
    let u : IsTrue (f n) = subst (λ (m : ℕ). IsTrue (f m)) same t in
    let c = taken_count f n u in
    record { place = length (numbers_below f n); within = omega (arith, c); is = taken_last f n u ∙ sym same })
    (cases_lt at n)

in_order : (f : ℕ → Bool) (n i j : ℕ) → i < j → j < length (numbers_below f n) → slice_index (numbers_below f n) i < slice_index (numbers_below f n) j
in_order f zero i j h k = absurd (let z = ap length (none_below f) in omega (arith, k, z))
in_order f (suc n) i j h k = ⊎_elim
    (λ t. let c = taken_count f n t in ⊎_elim
    (λ l. let b = in_order f n i j h l in
    let ei = taken_before f n i t (omega (arith, h, l)) in
    let ej = taken_before f n j t l in omega (arith, b, ei, ej))
    (λ g. let e : j ≡ length (numbers_below f n) = omega (arith, g, k, c) in
    let l : i < length (numbers_below f n) = omega (arith, h, e) in
    let last : slice_index (numbers_below f (suc n)) j ≡ n = ap (slice_index (numbers_below f (suc n))) e ∙ taken_last f n t in
    let b = each_number f n i l in
    let below = b.below in
    let ei = taken_before f n i t l in omega (arith, ei, last, below))
    (cases_lt j (length (numbers_below f n))))
    (λ t. let p = passed f n t in
    subst (λ (xs : List ℕ). slice_index xs i < slice_index xs j) (sym p) (in_order f n i j h (subst (λ (xs : List ℕ). j < length xs) p k)))
    (cases_Bool (f n))

-- ---- reach
module _ (settings : Settings) (own : Own) (aircraft : Traffic) where
  enters_is : (level : Level) → IsTrue (enters settings own aircraft level) ↔ CanEnter level (place_now own aircraft) (horizontal_speed settings own aircraft) (vertical_speed settings own aircraft)
  enters_is level =
      let e = both_is _ _ (le_is _ _) (both_is _ _ (le_is _ _) (le_is _ _)) in (
        (λ t. let p = e.0 t in record { east = p.0; north = p.1.0; up = p.1.1 }),
        (λ c. e.1 (c.east, (c.north, c.up))),
      )

  record EntersOne (levels : List Level) : Type 0 where
    place : ℕ
    level : Level
    there : slice_get levels place ≡ Some level
    enters : CanEnter level (place_now own aircraft) (horizontal_speed settings own aircraft) (vertical_speed settings own aircraft)

  one_is : (levels : List Level) → IsTrue (list_any (enters settings own aircraft) levels) ↔ EntersOne levels
  one_is [] = ((λ t. absurd (cc t)), (λ o. absurd (cc o.there)))
  one_is (level ∷ levels) =
      let r = one_is levels in
      let e = either_is (enters settings own aircraft level) (list_any (enters settings own aircraft) levels) (enters_is level) r in (
        (λ t. ⊎_elim
            (λ c. record { place = 0; level = level; there = refl; enters = c })
            (λ o. record { place = suc o.place; level = o.level; there = o.there; enters = o.enters })
            (e.0 t)),
        (λ o. e.1 (first o.place o.level o.there o.enters)),
      )
    where
      first : (place : ℕ) (l : Level) → slice_get (level ∷ levels) place ≡ Some l → CanEnter l (place_now own aircraft) (horizontal_speed settings own aircraft) (vertical_speed settings own aircraft)
          → CanEnter level (place_now own aircraft) (horizontal_speed settings own aircraft) (vertical_speed settings own aircraft) ⊎ EntersOne levels
      first zero l t c = inl (subst (λ (x : Level). CanEnter x (place_now own aircraft) (horizontal_speed settings own aircraft) (vertical_speed settings own aircraft)) (sym (same_Some level l t)) c)
      first (suc place) l t c = inr (record { place = place; level = l; there = t; enters = c })

  near_is : IsTrue (list_any (enters settings own aircraft) settings.levels) ↔ IsNearEnough settings own aircraft
  near_is =
      let o = one_is settings.levels in (
        (λ t. let x = o.0 t in
            let back : x.place + 1 - 1 ≡ x.place = omega arith in
            record { number = x.place + 1; level = x.level; there = record { numbered = omega arith; there = ap (slice_get settings.levels) back ∙ x.there }; enters = x.enters }),
        (λ r. o.1 (record { place = r.number - 1; level = r.level; there = r.there.there; enters = r.enters })),
      )

  unsure_is : (exact : Bool) → IsTrue (not exact) ↔ (exact ≡ false)
  unsure_is true = ((λ t. absurd (cc t)), (λ e. absurd (cc e)))
  unsure_is false = ((λ _. refl), (λ _. refl))

  in_reach_is : IsTrue (not (are_exact aircraft.bounds) || list_any (enters settings own aircraft) settings.levels) ↔ IsInReach settings own aircraft
  in_reach_is = either_is (not (are_exact aircraft.bounds)) (list_any (enters settings own aircraft) settings.levels) (unsure_is (are_exact aircraft.bounds)) near_is

module _ (s : SceneState) where
  by_item : (at : ℕ) (o : Option Traffic) → slice_get (aircraft_of s.picture) at ≡ o → IsTrue (is_reached s.settings s.picture.own o) ↔ IsInReachAt s at
  unfolding is_reached
  by_item at None e = ((λ t. absurd (cc t)), (λ r. let x = r.there in absurd (cc (x, e))))
  by_item at (Some aircraft) e =
      let i = in_reach_is s.settings s.picture.own aircraft in (
        (λ t. record { aircraft = aircraft; there = e; reached = i.0 t }),
        (λ r. i.1 (subst (λ (t : Traffic). IsInReach s.settings s.picture.own t) (same_Some r.aircraft aircraft (sym r.there ∙ e)) r.reached)),
      )

  pub reached_is : (at : ℕ) → IsTrue (is_reached_at s at) ↔ IsInReachAt s at
  unfolding is_reached_at
  reached_is at = by_item at _ refl

  pub are_in_reach : AreInReach s (places_in_reach s)
  are_in_reach = record {
    each = λ i h. (reached_is _).0 (each_number (is_reached_at s) (length (aircraft_of s.picture)) i h).holds;
    every = λ at r. let e = every_number (is_reached_at s) (length (aircraft_of s.picture)) at (slice_get_within (aircraft_of s.picture) at r.aircraft r.there) ((reached_is at).1 r) in
        (e.place, e.within, get_or_from_slice_get (places_in_reach s) e.place (slice_index (places_in_reach s) e.place) at (slice_get-get_or (places_in_reach s) e.place 0 e.within) ∙ e.is);
    in_order = in_order (is_reached_at s) (length (aircraft_of s.picture));
  }

  pub listed_is : (at : ℕ) → Contains (places_in_reach s) at ↔ IsInReachAt s at
  listed_is at = (
    (λ (k, h, e). subst (IsInReachAt s) (sym (get_or_from_slice_get (places_in_reach s) k _ at (slice_get-get_or (places_in_reach s) k 0 h)) ∙ e) (are_in_reach.each k h)),
    (λ r. are_in_reach.every at r),
  )

  pub place_within : (i : ℕ) → i < length (places_in_reach s) → slice_index (places_in_reach s) i < length (aircraft_of s.picture)
  place_within i h = (each_number (is_reached_at s) (length (aircraft_of s.picture)) i h).below

-- ---- counting
pub count_small : (f : ℕ → Bool) (n : ℕ) → length (numbers_below f n) ≤ n
count_small f zero = let z = ap length (none_below f) in omega (arith, z)
count_small f (suc n) = ⊎_elim
    (λ t. let c = taken_count f n t in let h = count_small f n in omega (arith, c, h))
    (λ t. let p = ap length (passed f n t) in let h = count_small f n in omega (arith, p, h))
    (cases_Bool (f n))

module _ (s : SceneState) (n : ℕ) (b : Bool) (is : IsTrue b ↔ IsInReachAt s n) where
  reached_here : b ≡ true → IsTrue (is_reached_at s n)
  reached_here t = (reached_is s n).1 (is.0 t)

  not_reached_here : b ≡ false → is_reached_at s n ≡ false
  not_reached_here t = false_from_ne_true (is_reached_at s n) (λ r. let x = is.1 ((reached_is s n).0 r) in cc (x, t))

  pub listed_here : b ≡ true → numbers_below (is_reached_at s) n ++ (n ∷ []) ≡ numbers_below (is_reached_at s) (n + 1)
  listed_here t = let e : suc n ≡ n + 1 = omega arith in sym (taken (is_reached_at s) n (reached_here t)) ∙ ap (numbers_below (is_reached_at s)) e

  pub passed_here : b ≡ false → numbers_below (is_reached_at s) n ≡ numbers_below (is_reached_at s) (n + 1)
  passed_here t = let e : suc n ≡ n + 1 = omega arith in sym (passed (is_reached_at s) n (not_reached_here t)) ∙ ap (numbers_below (is_reached_at s)) e

-- the test of the aircraft that stands there
module _ (s : SceneState) (n : ℕ) (aircraft : Traffic) (there : slice_get (aircraft_of s.picture) n ≡ Some aircraft) (b : Bool) (is : IsTrue b ↔ IsInReach s.settings s.picture.own aircraft) where
  pub tested_here : IsTrue b ↔ IsInReachAt s n
  tested_here = (
    (λ t. record { aircraft = aircraft; there = there; reached = is.0 t }),
    (λ r. is.1 (subst (λ (t : Traffic). IsInReach s.settings s.picture.own t) (same_Some r.aircraft aircraft (sym r.there ∙ there)) r.reached)),
  )
