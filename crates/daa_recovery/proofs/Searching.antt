-- The search for the recovery of a kind, value by value.
use Rattle.std.proofs.Common.{◌≡◌, ℕ, ◌+◌, ◌<◌, ◌≤◌, ℤ, ◌≤ℤ◌, Bool, true, false, cond, refl, Option, Some, None, length, sym, subst, ◌∙◌, arith, ⊎_elim}
use Rattle.std.specs.Prelude.{slice_get, int_lt}
use Rattle.std.proofs.lemmas.Int.{ints}
use Rattle.std.proofs.lemmas.Bool.{cases_lt}
use Rattle.std.proofs.lemmas.Option.{same_Some, slice_get_within}
use Rattle.daa_config.specs.declared.kind.Kind.{Kind}
use Rattle.daa_config.specs.Candidates.{values_of, candidate_to}
use Rattle.daa_resolve.specs.Side.{present_of}
use Rattle.daa_resolve.specs.declared.side.Side.{Side}
use Rattle.daa_recovery.specs.OutlookState.{OutlookState}
use Rattle.daa_recovery.specs.Recovery.{Recovers, IsAmong, RecoversAt, IsFound}
use Rattle.daa_recovery.specs.Inside.Search.{placed, bound_of, bound_for, IsBeforeHorizon, IsFirstFound, IsFoundBelow, IsLeastAt, IsLeastTime}
use Rattle.daa_recovery.specs.declared.recovery.Recovery.{Recovery}

-- ---- value by value

-- of numbers
not_below : (a b : ℤ) → int_lt a b ≡ false → b ≤ℤ a
not_below a b h = grind (arith, ints)

below_both : (a b c : ℤ) → int_lt a b ≡ true → b ≤ℤ c → a ≤ℤ c
below_both a b c h k = grind (arith, ints)

grown : (b : Bool) (n : ℕ) → n ≤ cond b (n + 1) n
grown true n = omega arith
grown false n = omega arith

shrunk : (b : Bool) (n m : ℕ) → m < cond b (n + 1) n → m ≤ n
shrunk true n m h = omega (arith, h)
shrunk false n m h = omega (arith, h)

module _ (p : OutlookState) (kind : Kind) (side : Option Side) where
  pub found_first : IsFoundBelow p kind side 0 None
  found_first = record { first = tt; none_sooner = λ m one lt i value h. absurd (omega (arith, h)) }

  bound_within : (count : ℕ) (found : Option Recovery) → IsFirstFound p kind side count found → bound_of p found ≤ p.horizon
  bound_within count None h = omega arith
  bound_within count (Some r) h = let b = h.before in omega (arith, b)

  pub before_horizon : (count : ℕ) (found : Option Recovery) → IsFirstFound p kind side count found → IsBeforeHorizon p found
  before_horizon count None h = tt
  before_horizon count (Some r) h = h.before

  module _ (index : ℕ) (value : ℤ) (there : slice_get (values_of kind p.settings) index ≡ Some value) where
    -- a value at the index is this one
    this : (i m : ℕ) (v : ℤ) → i ≡ index → RecoversAt p kind side i m v → v ≡ value
    this i m v same r =
        let at : slice_get (values_of kind p.settings) index ≡ Some v = subst (λ (j : ℕ). slice_get (values_of kind p.settings) j ≡ Some v) same r.there in
        same_Some v value (sym at ∙ there)

    here : (i m : ℕ) (v : ℤ) → i ≡ index → RecoversAt p kind side i m v → Recovers p (candidate_to kind value) m
    here i m v same r = subst (λ (z : ℤ). Recovers p (candidate_to kind z) m) (this i m v same r) r.recovers

    among_here : (i m : ℕ) (v : ℤ) → i ≡ index → RecoversAt p kind side i m v → IsAmong side kind (present_of kind p.picture.own) value
    among_here i m v same r = subst (λ (z : ℤ). IsAmong side kind (present_of kind p.picture.own) z) (this i m v same r) r.among

    sooner : (bound : ℕ) → ((m : ℕ) → 1 ≤ m → m < bound → (i : ℕ) (v : ℤ) → i < index → ¬ RecoversAt p kind side i m v)
        → ((m : ℕ) → 1 ≤ m → m < bound → ¬ Recovers p (candidate_to kind value) m)
        → (m : ℕ) → 1 ≤ m → m < bound → (i : ℕ) (v : ℤ) → i < index + 1 → ¬ RecoversAt p kind side i m v
    sooner bound before none m one lt i v h r = ⊎_elim
        (λ l. before m one lt i v l r)
        (λ ge. none m one lt (here i m v (omega (arith, h, ge)) r))
        (cases_lt i index)

    -- the value comes before the best so far
    abbrev earlier : Recovery → Bool
    earlier r = int_lt (placed p kind value) (placed p kind r.value)

    bound_least : (found : Option Recovery) → bound_of p found ≤ bound_for p kind found value
    bound_least None = omega arith
    bound_least (Some r) = grown (earlier r) r.after

    -- the value does not recover at the time of the best so far, or comes after it
    kept_before : (r : Recovery) → 1 ≤ r.after → (b : Bool) → earlier r ≡ b → ((m : ℕ) → 1 ≤ m → m < cond b (r.after + 1) r.after → ¬ Recovers p (candidate_to kind value) m)
        → Recovers p (candidate_to kind value) r.after → placed p kind r.value ≤ℤ placed p kind value
    kept_before r one true e none x = absurd (none r.after one (omega arith) x)
    kept_before r one false e none x = not_below _ _ e

    first_kept : (found : Option Recovery) → IsFirstFound p kind side index found → IsLeastTime p (candidate_to kind value) (bound_for p kind found value) None
        → IsFirstFound p kind side (index + 1) found
    first_kept None h none = tt
    first_kept (Some r) h none = record {
      index = h.index;
      below = omega (arith, h.below);
      some = h.some;
      before = h.before;
      recovers = h.recovers;
      first = λ i v lt x. ⊎_elim
          (λ l. h.first i v l x)
          (λ ge. at_index i v (omega (arith, lt, ge)) x)
          (cases_lt i index);
    }
      where
        at_index : (i : ℕ) (v : ℤ) → i ≡ index → RecoversAt p kind side i r.after v → placed p kind r.value ≤ℤ placed p kind v
        at_index i v same x =
            subst (λ (z : ℤ). placed p kind r.value ≤ℤ placed p kind z) (sym (this i r.after v same x)) (kept_before r h.some (earlier r) refl none (here i r.after v same x))

    -- the value does not take the place of the best so far
    pub found_kept : (found : Option Recovery) → IsFoundBelow p kind side index found → IsLeastTime p (candidate_to kind value) (bound_for p kind found value) None
        → IsFoundBelow p kind side (index + 1) found
    found_kept found h none = record {
      first = first_kept found h.first none;
      none_sooner = sooner (bound_of p found) h.none_sooner (λ m one lt. let l = bound_least found in none m one (omega (arith, lt, l)));
    }

    -- the value is not among those that are asked about
    pub found_beside : (found : Option Recovery) → IsFoundBelow p kind side index found → ¬ IsAmong side kind (present_of kind p.picture.own) value
        → IsFoundBelow p kind side (index + 1) found
    found_beside found h none = record {
      first = first_beside found h.first;
      none_sooner = λ m one lt i v k r. ⊎_elim
          (λ l. h.none_sooner m one lt i v l r)
          (λ ge. none (among_here i m v (omega (arith, k, ge)) r))
          (cases_lt i index);
    }
      where
        first_beside : (found : Option Recovery) → IsFirstFound p kind side index found → IsFirstFound p kind side (index + 1) found
        first_beside None h = tt
        first_beside (Some r) h = record {
          index = h.index;
          below = omega (arith, h.below);
          some = h.some;
          before = h.before;
          recovers = h.recovers;
          first = λ i v lt x. ⊎_elim
              (λ l. h.first i v l x)
              (λ ge. absurd (none (among_here i r.after v (omega (arith, lt, ge)) x)))
              (cases_lt i index);
        }

    -- what recovers below the bound for a value does so at the time of the best so far at the latest
    bound_most : (found : Option Recovery) (after : ℕ) → after < bound_for p kind found value → after ≤ bound_of p found
    bound_most None after lt = omega (arith, lt)
    bound_most (Some r) after lt = shrunk (earlier r) r.after after lt

    in_time : (found : Option Recovery) → IsFirstFound p kind side index found → (after : ℕ) → after < bound_for p kind found value → after < p.horizon
    in_time None h after lt = lt
    in_time (Some r) h after lt = let m = bound_most (Some r) after lt in let b = h.before in omega (arith, m, b)

    -- of the values before, none that recovers at its time comes before it
    won : (found : Option Recovery) → IsFoundBelow p kind side index found → (after : ℕ) → 1 ≤ after → after < bound_for p kind found value
        → (i : ℕ) (v : ℤ) → i < index → RecoversAt p kind side i after v → placed p kind value ≤ℤ placed p kind v
    won None h after one lt i v l x = absurd (h.none_sooner after one lt i v l x)
    won (Some r) h after one lt i v l x = by_order (earlier r) refl lt
      where
        at_once : earlier r ≡ true → after ≡ r.after → placed p kind value ≤ℤ placed p kind v
        at_once e same = below_both _ _ _ e (h.first.first i v l (subst (λ (m : ℕ). RecoversAt p kind side i m v) same x))

        by_order : (b : Bool) → earlier r ≡ b → after < cond b (r.after + 1) r.after → placed p kind value ≤ℤ placed p kind v
        by_order false e k = absurd (h.none_sooner after one k i v l x)
        by_order true e k = ⊎_elim
            (λ s. absurd (h.none_sooner after one s i v l x))
            (λ ge. at_once e (omega (arith, k, ge)))
            (cases_lt after r.after)

    -- the value takes the place of the best so far
    pub found_sooner : (found : Option Recovery) (after : ℕ) → IsFoundBelow p kind side index found → IsAmong side kind (present_of kind p.picture.own) value
        → IsLeastAt p (candidate_to kind value) (bound_for p kind found value) after
        → IsFoundBelow p kind side (index + 1) (Some (record { after = after; value = value }))
    found_sooner found after h among l =
        let b = bound_most found after l.below in
        record {
          first = record {
            index = index;
            below = omega arith;
            some = l.some;
            before = in_time found h.first after l.below;
            recovers = record { there = there; among = among; recovers = l.recovers };
            first = λ i v lt x. ⊎_elim
                (λ k. won found h after l.some l.below i v k x)
                (λ ge. at_index i v (omega (arith, lt, ge)) x)
                (cases_lt i index);
          };
          none_sooner = sooner after (λ m one lt i v s r. h.none_sooner m one (omega (arith, lt, b)) i v s r) l.none_sooner;
        }
      where
        at_index : (i : ℕ) (v : ℤ) → i ≡ index → RecoversAt p kind side i after v → placed p kind value ≤ℤ placed p kind v
        at_index i v same x = subst (λ (z : ℤ). placed p kind value ≤ℤ placed p kind z) (sym (this i after v same x)) (omega (arith, ints))

  -- all values were tried
  pub found_all : (count : ℕ) (found : Option Recovery) → length (values_of kind p.settings) ≤ count → IsFoundBelow p kind side count found → IsFound p kind side found
  found_all count None all h = λ m one lt index value r.
      let w = slice_get_within (values_of kind p.settings) index value r.there in h.none_sooner m one lt index value (omega (arith, w, all)) r
  found_all count (Some x) all h = record {
    index = h.first.index;
    some = h.first.some;
    before = h.first.before;
    recovers = h.first.recovers;
    none_sooner = λ m one lt i v r. let w = slice_get_within (values_of kind p.settings) i v r.there in h.none_sooner m one lt i v (omega (arith, w, all)) r;
    first = λ i v r. let w = slice_get_within (values_of kind p.settings) i v r.there in h.first.first i v (omega (arith, w, all)) r;
  }
