-- From the rows of a configuration's numbers to the ranges that they are in.
use Rattle.std.proofs.Common.{◌≡◌, ◌∙◌, ◌≤◌, ◌%◌, ◌==◌, ◌++◌, ℕ, zero, suc, Bool, true, false, ◌&&◌, List, [], ◌∷◌, length, map, Option, Some, None, option_map, refl, sym, ap, arith, nat_lt, subst}
use Rattle.std.specs.Prelude.{ℤ, pos, negsuc, ◌≤ℤ◌, ◌-ℤ◌, int_lt, int_le, nat_abs, slice_get, ◌-◌}
use Rattle.std.specs.List.{list_all, flat_map}
use Rattle.std.specs.Option.{option_map_or}
use Rattle.std.proofs.lemmas.Int.{ints}
use Rattle.std.proofs.lemmas.Bool.Decides.{nat_tests}
use Rattle.std.proofs.lemmas.List.{length-map}
use Rattle.std.proofs.lemmas.List.Folds.{list_all-append}
use Rattle.std.proofs.lemmas.Bool.{and_parts, or_parts}
use Rattle.daa_fixed.specs.Size.{IsFrom}
use Rattle.daa_config.specs.declared.kind.Kind.TheVariants.{GroundSpeed, VerticalSpeed, Altitude}
use Rattle.daa_config.specs.declared.level.Level.{Level}
use Rattle.daa_config.specs.declared.limits.Bounds.{Bounds}
use Rattle.daa_config.specs.declared.numbers.Grid.{Grid}
use Rattle.daa_config.specs.declared.numbers.Numbers.{Numbers}
use Rattle.daa_config.specs.declared.numbers.LevelNumbers.{LevelNumbers}
use Rattle.daa_config.specs.declared.numbers.RecoveryNumbers.{RecoveryNumbers}
use Rattle.daa_taumod.specs.declared.Volume.{Volume}
use Rattle.daa_config.specs.Limits.{full_turn}
use Rattle.daa_config.specs.Numbers.{count_of}
use Rattle.daa_config.specs.Inside.Numbers.{levels_are_wrong, has_too_many}
use Rattle.daa_config.specs.Rows.{Row, document_rows, grid_rows, level_rows, recovery_rows}
use Rattle.daa_config.specs.Inside.Rows.{level_fits, recovery_fits}
use Rattle.daa_config.specs.Inside.Stepped.{IsStepped}
use Rattle.daa_config.specs.Settings.{IsGridInRange, IsLevelInRange, IsAccepted, IsCylinder, value_bounds}
use Rattle.daa_config.specs.ConfigOf.{Written, rows_of}
use Rattle.daa_config.specs.Level.{level_of, cylinder_of, asks_nearest, is_set}

-- ---- tests

at_most : (a b : ℤ) → int_le a b ≡ true → a ≤ℤ b
at_most a b h = grind (arith, ints)

not_below : (a b : ℤ) → int_lt a b ≡ false → b ≤ℤ a
not_below a b h = grind (arith, ints)

not_over : (m n : ℕ) → nat_lt m n ≡ false → n ≤ m
not_over m n h = grind (arith, nat_tests)

some_of : (n : ℕ) → (n == 0) ≡ false → 1 ≤ n
some_of n h = grind (arith, nat_tests)

equal_from : (m n : ℕ) → (m == n) ≡ true → m ≡ n
equal_from m n h = grind (arith, nat_tests)

-- the test of a row for a number
abbrev is_in : ℤ → ℤ → ℤ → Bool
is_in low high z = int_le low z && int_le z high

in_bounds : (low high z : ℤ) → is_in low high z ≡ true → IsFrom low high z
in_bounds low high z h =
    let b = and_parts (int_le low z) (int_le z high) h in
    record { least = at_most _ _ b.0; most = at_most _ _ b.1 }

-- ---- all rows, table by table

-- the rows of a table pass
abbrev pub fit : List Row → Bool
fit rows = list_all (λ row. row.fits) rows

of_recovery : (r : Option RecoveryNumbers) → fit (option_map_or recovery_rows r []) ≡ recovery_fits r
of_recovery None = refl
of_recovery (Some n) = refl

of_levels : (ls : List LevelNumbers) → fit (flat_map level_rows ls) ≡ list_all level_fits ls
of_levels [] = refl
of_levels (l ∷ ls) = list_all-append (λ (row : Row). row.fits) (level_rows l) (flat_map level_rows ls) ∙ ap (λ b. level_fits l && b) (of_levels ls)

-- the tests of the tables, one after the other
abbrev pub tables_fit : Written → Bool
tables_fit w =
    fit (document_rows w.numbers w.last_times) && (fit (grid_rows (value_bounds GroundSpeed) w.numbers.gs) && (fit (grid_rows (value_bounds VerticalSpeed) w.numbers.vs)
    && (fit (grid_rows (value_bounds Altitude) w.numbers.alt) && (recovery_fits w.recovery && list_all level_fits w.levels))))

pub all_rows : (w : Written) → fit (rows_of w) ≡ tables_fit w
unfolding rows_of
all_rows w =
    let p : Row → Bool = λ row. row.fits in
    let d = document_rows w.numbers w.last_times in
    let g = grid_rows (value_bounds GroundSpeed) w.numbers.gs in
    let v = grid_rows (value_bounds VerticalSpeed) w.numbers.vs in
    let a = grid_rows (value_bounds Altitude) w.numbers.alt in
    let r = option_map_or recovery_rows w.recovery [] in
    let l = flat_map level_rows w.levels in
    list_all-append p d (g ++ (v ++ (a ++ (r ++ l))))
    ∙ ap (λ b. fit d && b) (list_all-append p g (v ++ (a ++ (r ++ l)))
    ∙ ap (λ b. fit g && b) (list_all-append p v (a ++ (r ++ l))
    ∙ ap (λ b. fit v && b) (list_all-append p a (r ++ l)
    ∙ ap (λ b. fit a && b) (list_all-append p r l
    ∙ ap (λ b. b && fit l) (of_recovery w.recovery)
    ∙ ap (λ b. recovery_fits w.recovery && b) (of_levels w.levels)))))

-- tests one after the other: all before the last pass, or one fails
passes_on : (a b c d e x : Bool) → a ≡ true → b ≡ true → c ≡ true → d ≡ true → e ≡ true → (a && (b && (c && (d && (e && x))))) ≡ x
passes_on a b c d e x ha hb hc hd he = rw (ha, hb, hc, hd, he) refl

fails_late : (a b c d e x : Bool) → a ≡ true → b ≡ true → c ≡ true → d ≡ true → e ≡ false → (a && (b && (c && (d && (e && x))))) ≡ false
fails_late a b c d e x ha hb hc hd he = rw (ha, hb, hc, hd, he) refl

fails_first : (a x : Bool) → a ≡ false → (a && x) ≡ false
fails_first a x ha = rw ha refl

-- the tables of the document and of the kinds pass
pub record AreKindsFit (w : Written) : Type 0 where
  pub top : fit (document_rows w.numbers w.last_times) ≡ true
  pub gs : fit (grid_rows (value_bounds GroundSpeed) w.numbers.gs) ≡ true
  pub vs : fit (grid_rows (value_bounds VerticalSpeed) w.numbers.vs) ≡ true
  pub alt : fit (grid_rows (value_bounds Altitude) w.numbers.alt) ≡ true

pub levels_decide : (w : Written) → AreKindsFit w → recovery_fits w.recovery ≡ true → fit (rows_of w) ≡ list_all level_fits w.levels
levels_decide w k r = all_rows w ∙ passes_on _ _ _ _ _ (list_all level_fits w.levels) k.top k.gs k.vs k.alt r

pub recovery_refuses : (w : Written) → AreKindsFit w → recovery_fits w.recovery ≡ false → fit (rows_of w) ≡ false
recovery_refuses w k r = all_rows w ∙ fails_late _ _ _ _ _ (list_all level_fits w.levels) k.top k.gs k.vs k.alt r

pub top_refuses : (w : Written) → fit (document_rows w.numbers w.last_times) ≡ false → fit (rows_of w) ≡ false
top_refuses w t = all_rows w ∙ fails_first _ _ t

-- ---- grids

-- the numbers of a grid that passes, its count left aside
record Fits (values : Bounds) (g : Grid) : Type 0 where
  min : IsFrom values.low values.high g.min
  max : IsFrom g.min values.high g.max
  step : IsFrom (pos 1) (values.high -ℤ values.low) g.step
  rate : IsFrom (pos 1) (pos 10000) g.rate

fits_grid : (values : Bounds) (g : Grid) → fit (grid_rows values g) ≡ true → Fits values g
fits_grid values g h =
    let a = and_parts (is_in values.low values.high g.min) _ h in
    let b = and_parts (is_in g.min values.high g.max) _ a.1 in
    let d = and_parts (is_in (pos 1) (values.high -ℤ values.low) g.step) _ b.1 in
    let e = and_parts (is_in (pos 1) (pos 10000) g.rate) _ d.1 in
    record { min = in_bounds _ _ _ a.0; max = in_bounds _ _ _ b.0; step = in_bounds _ _ _ d.0; rate = in_bounds _ _ _ e.0 }

in_range : (values : Bounds) (g : Grid) → Fits values g → nat_lt 512 (count_of g) ≡ false → IsGridInRange values g
in_range values g f h = record {
  least = f.min.least;
  ordered = f.max.least;
  most = f.max.most;
  step = f.step;
  few = not_over 512 (count_of g) h;
}

-- ---- the numbers of the document's own rows

record Parts (n : Numbers) : Type 0 where
  resolve : IsFrom (pos 1) (pos 4) n.resolve
  turn_rate : IsFrom (pos 1) (pos 30) n.turn_rate
  track_step : IsFrom (pos 1) (pos 90) n.track_step

parts : (n : Numbers) (last : ℤ) → fit (document_rows n last) ≡ true → Parts n
parts n last h =
    let a = and_parts (is_in (pos 1) (pos 4) n.resolve) _ h in
    let b = and_parts (is_in (pos 1) (pos 30) n.turn_rate) _ a.1 in
    let d = and_parts (is_in (pos 1) (pos 90) n.track_step) _ b.1 in
    record { resolve = in_bounds _ _ _ a.0; turn_rate = in_bounds _ _ _ b.0; track_step = in_bounds _ _ _ d.0 }

-- ---- levels

pub size_is : (z : ℤ) → pos 0 ≤ℤ z → z ≡ pos (nat_abs z)
size_is (pos n) h = refl
size_is (negsuc n) h = absurd (omega (arith, ints))

-- a number from low to high, as a number without sign
sized : (low high : ℕ) (z : ℤ) → IsFrom (pos low) (pos high) z → (low ≤ nat_abs z) × (nat_abs z ≤ high)
sized low high z f =
    let l = f.least in let m = f.most in
    let e = size_is z (omega (arith, ints)) in
    (omega (arith, ints), omega (arith, ints))

-- each number of a level that passes
record LevelParts (n : LevelNumbers) : Type 0 where
  dthr : IsFrom (pos 1) (pos 10000) n.dthr
  zthr : IsFrom (pos 0) (pos 10000) n.zthr
  tthr : IsFrom (pos 0) (pos 120) n.tthr
  tcoa : IsFrom (pos 0) (pos 120) n.tcoa
  lookahead : IsFrom (pos 1) (pos 180) n.lookahead
  alert : IsFrom (pos 1) (pos 180) n.alert

level_parts : (n : LevelNumbers) → level_fits n ≡ true → LevelParts n
level_parts n h =
    let a = and_parts (is_in (pos 1) (pos 10000) n.dthr) _ h in
    let b = and_parts (is_in (pos 0) (pos 10000) n.zthr) _ a.1 in
    let d = and_parts (is_in (pos 0) (pos 120) n.tthr) _ b.1 in
    let e = and_parts (is_in (pos 0) (pos 120) n.tcoa) _ d.1 in
    let f = and_parts (is_in (pos 1) (pos 180) n.lookahead) _ e.1 in
    let g = and_parts (is_in (pos 1) (pos 180) n.alert) _ f.1 in
    record {
      dthr = in_bounds _ _ _ a.0;
      zthr = in_bounds _ _ _ b.0;
      tthr = in_bounds _ _ _ d.0;
      tcoa = in_bounds _ _ _ e.0;
      lookahead = in_bounds _ _ _ f.0;
      alert = in_bounds _ _ _ g.0;
    }

-- no number of a level that passes is negative or large
pub record AreSmall (n : LevelNumbers) : Type 0 where
  pub dthr : IsFrom (pos 0) (pos 10000) n.dthr
  pub zthr : IsFrom (pos 0) (pos 10000) n.zthr
  pub tthr : IsFrom (pos 0) (pos 10000) n.tthr
  pub tcoa : IsFrom (pos 0) (pos 10000) n.tcoa
  pub lookahead : IsFrom (pos 0) (pos 10000) n.lookahead
  pub alert : IsFrom (pos 0) (pos 10000) n.alert

widened : (low high : ℕ) (z : ℤ) → high ≤ 10000 → IsFrom (pos low) (pos high) z → IsFrom (pos 0) (pos 10000) z
widened low high z few f =
    let l = f.least in let m = f.most in record { least = omega (arith, ints); most = omega (arith, ints) }

pub all_small : (n : LevelNumbers) → level_fits n ≡ true → AreSmall n
all_small n h =
    let p = level_parts n h in
    record {
      dthr = widened 1 10000 n.dthr (omega arith) p.dthr;
      zthr = widened 0 10000 n.zthr (omega arith) p.zthr;
      tthr = widened 0 120 n.tthr (omega arith) p.tthr;
      tcoa = widened 0 120 n.tcoa (omega arith) p.tcoa;
      lookahead = widened 1 180 n.lookahead (omega arith) p.lookahead;
      alert = widened 1 180 n.alert (omega arith) p.alert;
    }

level_in_range : (n : LevelNumbers) → level_fits n ≡ true → IsLevelInRange (level_of n)
level_in_range n h =
    let p = level_parts n h in
    let dthr = sized 1 10000 n.dthr p.dthr in
    let zthr = sized 0 10000 n.zthr p.zthr in
    let tthr = sized 0 120 n.tthr p.tthr in
    let tcoa = sized 0 120 n.tcoa p.tcoa in
    let look = sized 1 180 n.lookahead p.lookahead in
    let warn = sized 1 180 n.alert p.alert in
    record {
      volume = record { dthr = omega (arith, dthr); zthr = omega (arith, zthr); tthr = tthr.1; tcoa = tcoa.1 };
      dthr_least = omega (arith, dthr);
      lookahead_least = look.0;
      lookahead_most = look.1;
      alert_least = warn.0;
      alert_most = warn.1;
    }

each_level : (ns : List LevelNumbers) → list_all level_fits ns ≡ true → (i : ℕ) (level : Level) → slice_get (map level_of ns) i ≡ Some level → IsLevelInRange level
each_level [] h i level e = cc
each_level (n ∷ ns) h zero level e =
    let same : level_of n ≡ level = cc in
    subst IsLevelInRange same (level_in_range n (and_parts (level_fits n) _ h).0)
each_level (n ∷ ns) h (suc i) level e = each_level ns (and_parts (level_fits n) _ h).1 i level e

-- ---- what is accepted

-- the numbers of a recovery that passes
record RecoveryParts (n : RecoveryNumbers) : Type 0 where
  hdist : IsFrom (pos 1) (pos 10000) n.hdist
  vdist : IsFrom (pos 0) (pos 10000) n.vdist

recovery_parts : (n : RecoveryNumbers) → recovery_fits (Some n) ≡ true → RecoveryParts n
recovery_parts n h =
    let a = and_parts (is_in (pos 1) (pos 10000) n.hdist) _ h in
    let b = and_parts (is_in (pos 0) (pos 10000) n.vdist) _ a.1 in
    record { hdist = in_bounds _ _ _ a.0; vdist = in_bounds _ _ _ b.0 }

-- neither is negative or large
pub record IsRecoverySmall (n : RecoveryNumbers) : Type 0 where
  pub hdist : IsFrom (pos 0) (pos 10000) n.hdist
  pub vdist : IsFrom (pos 0) (pos 10000) n.vdist

pub recovery_small : (n : RecoveryNumbers) → recovery_fits (Some n) ≡ true → IsRecoverySmall n
recovery_small n h =
    let p = recovery_parts n h in
    record { hdist = widened 1 10000 n.hdist (omega arith) p.hdist; vdist = p.vdist }

recovery_in_range : (r : Option RecoveryNumbers) → recovery_fits r ≡ true → (cylinder : Volume) → option_map cylinder_of r ≡ Some cylinder → IsCylinder cylinder
recovery_in_range None h cylinder e = absurd (cc e)
recovery_in_range (Some n) h cylinder e =
    let p = recovery_parts n h in
    let hdist = sized 1 10000 n.hdist p.hdist in
    let vdist = sized 0 10000 n.vdist p.vdist in
    let same : cylinder_of n ≡ cylinder = cc in
    subst IsCylinder same (record {
      in_range = record { dthr = omega (arith, hdist); zthr = omega (arith, vdist); tthr = omega arith; tcoa = omega arith };
      wide = omega (arith, hdist);
      tthr = refl;
      tcoa = refl;
      model = refl;
    })

-- what the tests of the tables give
record Ranges (w : Written) : Type 0 where
  numbers : Parts w.numbers
  gs : Fits (value_bounds GroundSpeed) w.numbers.gs
  vs : Fits (value_bounds VerticalSpeed) w.numbers.vs
  alt : Fits (value_bounds Altitude) w.numbers.alt
  recovery : recovery_fits w.recovery ≡ true
  levels : list_all level_fits w.levels ≡ true

ranges : (w : Written) → fit (rows_of w) ≡ true → Ranges w
ranges w h =
    let a = and_parts (fit (document_rows w.numbers w.last_times)) _ (sym (all_rows w) ∙ h) in
    let b = and_parts (fit (grid_rows (value_bounds GroundSpeed) w.numbers.gs)) _ a.1 in
    let d = and_parts (fit (grid_rows (value_bounds VerticalSpeed) w.numbers.vs)) _ b.1 in
    let e = and_parts (fit (grid_rows (value_bounds Altitude) w.numbers.alt)) _ d.1 in
    let f = and_parts (recovery_fits w.recovery) _ e.1 in
    record {
      numbers = parts _ w.last_times a.0;
      gs = fits_grid _ _ b.0;
      vs = fits_grid _ _ d.0;
      alt = fits_grid _ _ e.0;
      recovery = f.0;
      levels = f.1;
    }

pub recovery_passes : (w : Written) → fit (rows_of w) ≡ true → recovery_fits w.recovery ≡ true
recovery_passes w h = (ranges w h).recovery

pub levels_pass : (w : Written) → fit (rows_of w) ≡ true → list_all level_fits w.levels ≡ true
levels_pass w h = (ranges w h).levels

pub accepted : (w : Written) → fit (rows_of w) ≡ true → (full_turn % nat_abs w.numbers.track_step == 0) ≡ true → levels_are_wrong w.numbers.resolve w.levels ≡ false
    → has_too_many w.numbers ≡ false
    → IsAccepted (record {
      numbers = w.numbers;
      recovery = option_map cylinder_of w.recovery;
      nearest = asks_nearest w.recovery;
      last_times = is_set w.last_times;
      levels = map level_of w.levels;
    })
unfolding levels_are_wrong has_too_many
accepted w fitting divides counted few =
    let r = ranges w fitting in
    let p = r.numbers in
    let l = or_parts (length w.levels == 0) _ counted in
    let m = or_parts (nat_lt 4 (length w.levels)) _ l.1 in
    let x = or_parts (nat_lt 512 (count_of w.numbers.gs)) _ few in
    let y = or_parts (nat_lt 512 (count_of w.numbers.vs)) _ x.1 in
    let z = or_parts (nat_lt 512 (count_of w.numbers.alt)) _ y.1 in
    let same : length (map level_of w.levels) ≡ length w.levels = length-map w.levels level_of in
    let one = some_of (length w.levels) l.0 in
    let four = not_over 4 (length w.levels) m.0 in
    record {
      rates = record { turn = p.turn_rate; gs = r.gs.rate; vs = r.vs.rate; alt = r.alt.rate };
      track_step = p.track_step;
      divides = equal_from (full_turn % nat_abs w.numbers.track_step) 0 divides;
      gs = in_range _ _ r.gs x.0;
      vs = in_range _ _ r.vs y.0;
      alt = in_range _ _ r.alt z.0;
      some_level = omega arith;
      few_levels = omega arith;
      level = λ l level at. each_level w.levels r.levels (l - 1) level at.there;
      recovery = recovery_in_range w.recovery r.recovery;
      resolve = record { least = p.resolve.least; most = rw same (not_below (pos (length w.levels)) w.numbers.resolve m.1) };
    }

-- levels whose count passes are no more than a list of them has room for
pub few_counted : (resolve : ℤ) (levels : List LevelNumbers) → levels_are_wrong resolve levels ≡ false → length levels ≤ 4
unfolding levels_are_wrong
few_counted resolve levels counted =
    let l = or_parts (length levels == 0) _ counted in
    let m = or_parts (nat_lt 4 (length levels)) _ l.1 in
    not_over 4 (length levels) m.0

-- ---- counting along a grid

pub stepped : (values : Bounds) (g : Grid) → negsuc 99999 ≤ℤ values.low → values.high ≤ℤ pos 100000 → IsGridInRange values g → IsStepped g
stepped values g low high r =
    let a = r.least in let b = r.most in let d = r.step.least in
    record { low = omega (arith, ints); ordered = r.ordered; high = omega (arith, ints); step = d }

-- the grids of numbers that pass
pub record AreStepped (n : Numbers) : Type 0 where
  pub gs : IsStepped n.gs
  pub vs : IsStepped n.vs
  pub alt : IsStepped n.alt

fits_stepped : (values : Bounds) (g : Grid) → negsuc 99999 ≤ℤ values.low → values.high ≤ℤ pos 100000 → Fits values g → IsStepped g
fits_stepped values g low high f =
    let a = f.min.least in let b = f.max.most in
    record { low = omega (arith, ints); ordered = f.max.least; high = omega (arith, ints); step = f.step.least }

pub all_stepped : (w : Written) → fit (rows_of w) ≡ true → AreStepped w.numbers
all_stepped w h =
    let r = ranges w h in
    record {
      gs = fits_stepped (value_bounds GroundSpeed) w.numbers.gs (omega (arith, ints)) (omega (arith, ints)) r.gs;
      vs = fits_stepped (value_bounds VerticalSpeed) w.numbers.vs (omega (arith, ints)) (omega (arith, ints)) r.vs;
      alt = fits_stepped (value_bounds Altitude) w.numbers.alt (omega (arith, ints)) (omega (arith, ints)) r.alt;
    }
