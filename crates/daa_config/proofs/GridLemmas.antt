-- Values of a kind, by their indices.
use Rattle.std.proofs.Common.{◌≡◌, ◌<◌, ◌≤◌, ◌+◌, ◌*◌, ◌/◌, ◌∙◌, ℕ, zero, suc, List, [], ◌∷◌, length, map, Some, refl, sym, ap, arith, subst}
use Rattle.std.specs.Prelude.{ℤ, pos, ◌+ℤ◌, ◌*ℤ◌, ◌-ℤ◌, ◌≤ℤ◌, ◌<ℤ◌, nat_abs, slice_get, slice_index_or, All, Contains, ◌-◌}
use Rattle.std.specs.List.{range_with_len}
use Rattle.std.specs.Option.{option_map}
use Rattle.std.proofs.lemmas.Int.{ints, to_z-of_z}
use Rattle.std.proofs.lemmas.List.FromFn.{length-map-range_with_len}
use Rattle.std.proofs.lemmas.Option.{slice_get-map}
use mir.Val.{SFits, to_z, of_z}
use mir.Syntax.{w32, w64}
use Rattle.std.proofs.Math.Nat.{le-div_iff_mul-le, mul-le-mul_right}
use lib.IntN.{pos-*ℤ-pos, zero-*ℤ, +ℤ_idr}
use Rattle.daa_fixed.specs.Size.{IsFrom}
use Rattle.daa_config.specs.Numbers.{count_of}
use Rattle.daa_config.specs.Inside.Stepped.{IsStepped}
use Rattle.daa_config.specs.Settings.{Settings, IsAccepted, IsInBounds, value_bounds}
use Rattle.daa_config.specs.Candidates.{grid_of, values_of, least_of, greatest_of, AreStepsUpTo}
use Rattle.daa_config.specs.declared.numbers.Grid.{Grid}
use Rattle.daa_config.specs.declared.kind.Kind.{Kind}
use Rattle.daa_config.specs.declared.kind.Kind.TheVariants.{Track, GroundSpeed, VerticalSpeed, Altitude}
use Rattle.daa_config.proofs.RangeLemmas.{stepped, size_is}

-- ---- one grid

steps_within : (d s i : ℕ) → 1 ≤ s → i < d / s + 1 → i * s ≤ d
steps_within d s i h k = (le-div_iff_mul-le {k = s} {x = i} {y = d} (omega arith)).0 (omega arith)

steps_over : (d s : ℕ) → 1 ≤ s → d < (d / s + 1) * s
steps_over d s h = omega arith

-- a grid's distance and step as numbers without sign
pub record Counted (g : Grid) : Type 0 where
  pub step : g.step ≡ pos (nat_abs g.step)
  pub one : 1 ≤ nat_abs g.step
  pub distance : (g.max -ℤ g.min) ≡ pos (nat_abs (g.max -ℤ g.min))

pub counted : (g : Grid) → IsStepped g → Counted g
counted g h =
    let l = h.step in let o = h.ordered in
    let s = size_is g.step (omega (arith, ints)) in
    record { step = s; one = omega (arith, ints, s); distance = size_is (g.max -ℤ g.min) (omega (arith, ints)) }

-- so many steps
times : (g : Grid) (i : ℕ) → Counted g → pos i *ℤ g.step ≡ pos (i * nat_abs g.step)
times g i k = ap (λ (z : ℤ). pos i *ℤ z) k.step ∙ pos-*ℤ-pos i (nat_abs g.step)

pub record IsWithin (g : Grid) (i : ℕ) : Type 0 where
  pub none : pos 0 ≤ℤ (pos i *ℤ g.step)
  pub few : (pos i *ℤ g.step) ≤ℤ pos 200000
  pub low : g.min ≤ℤ (g.min +ℤ pos i *ℤ g.step)
  pub last : (g.min +ℤ pos i *ℤ g.step) ≤ℤ (g.min +ℤ pos (count_of g - 1) *ℤ g.step)
  pub high : (g.min +ℤ pos i *ℤ g.step) ≤ℤ g.max

pub within : (g : Grid) (i : ℕ) → IsStepped g → i < count_of g → IsWithin g i
unfolding count_of
within g i h k =
    let c = counted g h in
    let n : ℕ = nat_abs g.step in
    let d : ℕ = nat_abs (g.max -ℤ g.min) in
    let at : pos i *ℤ g.step ≡ pos (i * n) = times g i c in
    let end : pos (d / n + 1 - 1) *ℤ g.step ≡ pos ((d / n + 1 - 1) * n) = times g (d / n + 1 - 1) c in
    let up : i * n ≤ d = steps_within d n i c.one k in
    let far : i * n ≤ (d / n + 1 - 1) * n = mul-le-mul_right n (omega arith) in
    let e = c.distance in let l = h.low in let m = h.high in
    record {
      none = rw at (omega (arith, ints));
      few = rw at (omega (arith, ints));
      low = rw at (omega (arith, ints));
      last = rw (at, end) (omega (arith, ints));
      high = rw at (omega (arith, ints));
    }

pub over : (g : Grid) → IsStepped g → g.max <ℤ (g.min +ℤ pos (count_of g) *ℤ g.step)
unfolding count_of
over g h =
    let c = counted g h in
    let n : ℕ = nat_abs g.step in
    let d : ℕ = nat_abs (g.max -ℤ g.min) in
    let end : pos (d / n + 1) *ℤ g.step ≡ pos ((d / n + 1) * n) = times g (d / n + 1) c in
    let far : d < (d / n + 1) * n = steps_over d n c.one in
    let e = c.distance in
    rw end (omega (arith, ints))

pub some_value : (g : Grid) → 1 ≤ count_of g
unfolding count_of
some_value g = omega arith

-- ---- the list of values

-- the index at an index
index_at : (a n i : ℕ) → i < n → slice_get (range_with_len a n) i ≡ Some (a + i)
index_at a zero i h = absurd (omega arith)
index_at a (suc n) zero h = let e : a ≡ a + 0 = omega arith in ap (λ (j : ℕ). Some j) e
index_at a (suc n) (suc i) h = let e : a + 1 + i ≡ a + suc i = omega arith in index_at (a + 1) n i (omega arith) ∙ ap (λ (j : ℕ). Some j) e

-- the value at an index
abbrev step_of : Grid → ℕ → ℤ
step_of g i = g.min +ℤ pos i *ℤ g.step

step_at : (g : Grid) (i : ℕ) → i < count_of g → slice_get (map (step_of g) (range_with_len 0 (count_of g))) i ≡ Some (step_of g i)
step_at g i h =
    let e : 0 + i ≡ i = omega arith in
    slice_get-map (step_of g) (range_with_len 0 (count_of g)) i
    ∙ ap (option_map (step_of g)) (index_at 0 (count_of g) i h ∙ ap (λ (j : ℕ). Some j) e)

pub length-values : (k : Kind) (s : Settings) → length (values_of k s) ≡ count_of (grid_of k s)
unfolding values_of
length-values k s = length-map-range_with_len (step_of (grid_of k s)) 0 (count_of (grid_of k s))

below_count : (k : Kind) (s : Settings) (i : ℕ) → i < length (values_of k s) → i < count_of (grid_of k s)
below_count k s i h = omega (arith, length-values k s)

pub get-values : (k : Kind) (s : Settings) (i : ℕ) → i < length (values_of k s)
    → slice_get (values_of k s) i ≡ Some ((grid_of k s).min +ℤ pos i *ℤ (grid_of k s).step)
unfolding values_of
get-values k s i h = step_at (grid_of k s) i (below_count k s i h)

-- ---- the kinds of an accepted configuration

pub stepped_kind : (s : Settings) (k : Kind) → IsAccepted s → IsStepped (grid_of k s)
unfolding grid_of
stepped_kind s Track h = let t = h.track_step.least in record {
  low = omega (arith, ints);
  ordered = omega (arith, ints);
  high = omega (arith, ints);
  step = omega (arith, ints);
}
stepped_kind s GroundSpeed h = stepped (value_bounds GroundSpeed) s.numbers.gs (omega (arith, ints)) (omega (arith, ints)) h.gs
stepped_kind s VerticalSpeed h = stepped (value_bounds VerticalSpeed) s.numbers.vs (omega (arith, ints)) (omega (arith, ints)) h.vs
stepped_kind s Altitude h = stepped (value_bounds Altitude) s.numbers.alt (omega (arith, ints)) (omega (arith, ints)) h.alt

quotient : (n k : ℕ) → n / k ≤ n
quotient n k = grind arith

-- a full turn has at most 360 tracks
pub few_tracks : (s : Settings) → count_of (grid_of Track s) ≤ 360
unfolding grid_of count_of
few_tracks s = omega (arith, quotient 359 (nat_abs s.numbers.track_step))

pub few_of_kind : (s : Settings) (k : Kind) → IsAccepted s → count_of (grid_of k s) ≤ 512
unfolding grid_of
few_of_kind s Track h = omega (arith, few_tracks s)
few_of_kind s GroundSpeed h = h.gs.few
few_of_kind s VerticalSpeed h = h.vs.few
few_of_kind s Altitude h = h.alt.few

-- the ends of a kind's grid are in the kind's range
pub in_bounds_of : (s : Settings) (k : Kind) (z : ℤ) → IsAccepted s → (grid_of k s).min ≤ℤ z → z ≤ℤ (grid_of k s).max → IsInBounds (value_bounds k) z
unfolding grid_of
in_bounds_of s Track z h low high = record { least = low; most = high }
in_bounds_of s GroundSpeed z h low high = let l = h.gs.least in let m = h.gs.most in record { least = omega (arith, ints); most = omega (arith, ints) }
in_bounds_of s VerticalSpeed z h low high = let l = h.vs.least in let m = h.vs.most in record { least = omega (arith, ints); most = omega (arith, ints) }
in_bounds_of s Altitude z h low high = let l = h.alt.least in let m = h.alt.most in record { least = omega (arith, ints); most = omega (arith, ints) }

-- a value at an index of a kind
pub record IsValueAt (k : Kind) (s : Settings) (i : ℕ) (z : ℤ) : Type 0 where
  pub there : slice_get (values_of k s) i ≡ Some z
  pub within : IsFrom (least_of k s) (greatest_of k s) z
  pub in_range : IsInBounds (value_bounds k) z

pub value_there : (k : Kind) (s : Settings) (i : ℕ) → IsAccepted s → i < length (values_of k s) → IsValueAt k s i ((grid_of k s).min +ℤ pos i *ℤ (grid_of k s).step)
unfolding least_of greatest_of
value_there k s i h lt =
    let g = grid_of k s in
    let w = within g i (stepped_kind s k h) (omega (arith, length-values k s)) in
    record { there = get-values k s i lt; within = record { least = w.low; most = w.last }; in_range = in_bounds_of s k _ h w.low w.high }

pub steps_up_to : (k : Kind) (s : Settings) → IsAccepted s → AreStepsUpTo (grid_of k s) (values_of k s)
steps_up_to k s h =
    let g = grid_of k s in
    let p = stepped_kind s k h in
    let e = length-values k s in
    record {
      each = get-values k s;
      within = λ i lt. (within g i p (omega (arith, e))).high;
      over = rw e (over g p);
    }

pub some_values : (k : Kind) (s : Settings) → 1 ≤ length (values_of k s)
some_values k s = omega (arith, length-values k s, some_value (grid_of k s))

-- ---- the ends of the list

index_from : (xs : List ℤ) (i : ℕ) (d x : ℤ) → slice_get xs i ≡ Some x → slice_index_or xs i d ≡ x
index_from [] i d x e = cc
index_from (y ∷ ys) zero d x e = cc
index_from (y ∷ ys) (suc i) d x e = index_from ys i d x e

-- a value that is listed
listed_at : (k : Kind) (s : Settings) (i : ℕ) (d z : ℤ) → IsAccepted s → i < length (values_of k s) → slice_index_or (values_of k s) i d ≡ z
    → IsFrom (least_of k s) (greatest_of k s) z
listed_at k s i d z h lt e =
    let v = value_there k s i h lt in
    subst (λ (x : ℤ). IsFrom (least_of k s) (greatest_of k s) x) (sym (index_from (values_of k s) i d _ v.there) ∙ e) v.within

pub none_less : (k : Kind) (s : Settings) → IsAccepted s → All (λ v. least_of k s ≤ℤ v) (values_of k s)
none_less k s h = λ i d lt. (listed_at k s i d _ h lt refl).least

pub none_greater : (k : Kind) (s : Settings) → IsAccepted s → All (λ v. v ≤ℤ greatest_of k s) (values_of k s)
none_greater k s h = λ i d lt. (listed_at k s i d _ h lt refl).most

pub first_value : (k : Kind) (s : Settings) (z : ℤ) → slice_get (values_of k s) 0 ≡ Some z → z ≡ least_of k s
unfolding least_of
first_value k s z e =
    let g = grid_of k s in
    let v = get-values k s 0 (some_values k s) in
    let same : Some z ≡ Some (g.min +ℤ pos 0 *ℤ g.step) = sym e ∙ v in
    let is : z ≡ g.min +ℤ pos 0 *ℤ g.step = cc in
    is ∙ ap (λ (y : ℤ). g.min +ℤ y) (zero-*ℤ g.step) ∙ +ℤ_idr g.min

pub last_value : (k : Kind) (s : Settings) (n : ℕ) (z : ℤ) → n ≡ length (values_of k s) → slice_get (values_of k s) (n - 1) ≡ Some z → z ≡ greatest_of k s
unfolding greatest_of
last_value k s n z e h =
    let g = grid_of k s in
    let same : n - 1 ≡ count_of g - 1 = omega (arith, length-values k s) in
    let v = get-values k s (n - 1) (omega (arith, some_values k s)) in
    let found : Some z ≡ Some (g.min +ℤ pos (n - 1) *ℤ g.step) = sym h ∙ v in
    let is : z ≡ g.min +ℤ pos (n - 1) *ℤ g.step = cc in
    is ∙ ap (λ (i : ℕ). g.min +ℤ pos i *ℤ g.step) same

-- ---- what the code computes

abbrev kept : ℤ → ℤ
kept z = to_z w64 (of_z w64 z)

-- each step of the sum fits, and it is the value
pub record Computes (g : Grid) (x : ℤ) (i : ℕ) : Type 0 where
  pub product : SFits w64 (kept x *ℤ kept g.step)
  pub sum : SFits w64 (kept g.min +ℤ kept (kept x *ℤ kept g.step))
  pub narrow : SFits w32 (kept (kept g.min +ℤ kept (kept x *ℤ kept g.step)))
  pub value : to_z w32 (of_z w32 (kept (kept g.min +ℤ kept (kept x *ℤ kept g.step)))) ≡ g.min +ℤ pos i *ℤ g.step

pub computes : (g : Grid) (x : ℤ) (i : ℕ) → x ≡ pos i → i < count_of g → IsStepped g → SFits w64 x → SFits w64 g.min → SFits w64 g.step → Computes g x i
computes g x i e lt h fx fm fs =
    let w = within g i h lt in
    let a = w.none in let b = w.few in let l = w.low in let u = w.high in let low = h.low in let high = h.high in
    let fp : SFits w64 (pos i *ℤ g.step) = omega (arith, ints) in
    let fv : SFits w64 (g.min +ℤ pos i *ℤ g.step) = omega (arith, ints) in
    let fn : SFits w32 (g.min +ℤ pos i *ℤ g.step) = omega (arith, ints) in
    let p : kept x *ℤ kept g.step ≡ pos i *ℤ g.step = rw (to_z-of_z w64 x fx, to_z-of_z w64 g.step fs, e) refl in
    let q : kept (kept x *ℤ kept g.step) ≡ pos i *ℤ g.step = rw p (to_z-of_z w64 _ fp) in
    let t : kept g.min +ℤ kept (kept x *ℤ kept g.step) ≡ g.min +ℤ pos i *ℤ g.step = rw (to_z-of_z w64 g.min fm, q) refl in
    let v : kept (kept g.min +ℤ kept (kept x *ℤ kept g.step)) ≡ g.min +ℤ pos i *ℤ g.step = rw t (to_z-of_z w64 _ fv) in
    record {
      product = rw p fp;
      sum = rw t fv;
      narrow = rw v fn;
      value = rw v (to_z-of_z w32 _ fn);
    }

-- ---- what is listed

pub contains_from : (xs : List ℤ) (i : ℕ) (x : ℤ) → i < length xs → slice_get xs i ≡ Some x → Contains xs x
contains_from xs i x lt e = (i, lt, index_from xs i x x e)
