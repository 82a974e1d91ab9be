-- No two values of a kind have one place in the order in which they are named.
use Rattle.std.proofs.Common.{◌≡◌, ◌∙◌, ◌+◌, ◌*◌, ◌≤◌, ℕ, ℤ, pos, negsuc, ◌+ℤ◌, ◌-ℤ◌, Bool, true, false, Some, ap, sym, subst, arith}
use Rattle.std.specs.Prelude.{nat_abs, slice_get, if◌then◌else◌}
use Rattle.std.specs.Int.{int_rem_euclid}
use Rattle.std.proofs.lemmas.Int.{ints}
use Rattle.daa_config.specs.Candidates.{values_of}
use Rattle.daa_config.specs.Settings.{Settings, IsAccepted}
use Rattle.daa_config.specs.declared.kind.Kind.{Kind}
use Rattle.daa_config.specs.declared.kind.Kind.TheVariants.{Track, GroundSpeed, VerticalSpeed, Altitude}
use Rattle.daa_config.proofs.RangeLemmas.{size_is}
use Rattle.daa_state.specs.declared.word.Own.{Own}
use Rattle.daa_resolve.specs.Side.{present_of}
use Rattle.daa_resolve.specs.declared.side.Side.TheVariants.{Upper}
use Rattle.daa_resolve.proofs.OneResolution.{turn_only, degrees}
use Rattle.daa_recovery.specs.Order.{way_of, place_of_way, place_of}

same_pos : (m n : ℕ) → pos m ≡ pos n → m ≡ n
same_pos m n e = cc

place_only : (x y : ℤ) → place_of_way x ≡ place_of_way y → x ≡ y
place_only (pos m) (pos n) e = let f = same_pos (2 * m) (2 * n) e in ap (λ (k : ℕ). pos k) (omega (arith, f))
place_only (pos m) (negsuc n) e = let f = same_pos (2 * m) (2 * n + 3) e in absurd (omega (arith, f))
place_only (negsuc m) (pos n) e = let f = same_pos (2 * m + 3) (2 * n) e in absurd (omega (arith, f))
place_only (negsuc m) (negsuc n) e = let f = same_pos (2 * m + 3) (2 * n + 3) e in ap (λ (k : ℕ). negsuc k) (omega (arith, f))

-- degrees: 179 more and then less leave the turn to a value
turned : (now : ℤ) (a b : ℕ) → a ≤ 359 → b ≤ 359 → way_of Track now (pos a) ≡ way_of Track now (pos b) → a ≡ b
turned now a b h k e = turn_only Upper (now -ℤ pos 179) a b h k (sym (from (pos a)) ∙ less _ _ e ∙ from (pos b))
  where
    from : (v : ℤ) → int_rem_euclid (v -ℤ now +ℤ pos 179) (pos 360) ≡ int_rem_euclid (v -ℤ (now -ℤ pos 179)) (pos 360)
    from v = let f : (v -ℤ now +ℤ pos 179) ≡ (v -ℤ (now -ℤ pos 179)) = omega (arith, ints) in ap (λ (z : ℤ). int_rem_euclid z (pos 360)) f

    less : (x y : ℤ) → (x -ℤ pos 179) ≡ (y -ℤ pos 179) → x ≡ y
    less x y e = omega (arith, ints)

way_only : (s : Settings) (kind : Kind) (now v w : ℤ) (i j : ℕ) → IsAccepted s → slice_get (values_of kind s) i ≡ Some v → slice_get (values_of kind s) j ≡ Some w
    → way_of kind now v ≡ way_of kind now w → v ≡ w
way_only s Track now v w i j ok a b e =
    let x = degrees s i v ok a in let y = degrees s j w ok b in
    let m = size_is v x.0 in let n = size_is w y.0 in
    let f = subst (λ (z : ℤ). way_of Track now z ≡ way_of Track now w) m e in
    let g = subst (λ (z : ℤ). way_of Track now (pos (nat_abs v)) ≡ way_of Track now z) n f in
    let t = turned now (nat_abs v) (nat_abs w) (let h = x.1 in omega (arith, ints, m)) (let h = y.1 in omega (arith, ints, n)) g in
    m ∙ ap (λ (k : ℕ). pos k) t ∙ sym n
way_only s GroundSpeed now v w i j ok a b e = omega (arith, ints)
way_only s VerticalSpeed now v w i j ok a b e = omega (arith, ints)
way_only s Altitude now v w i j ok a b e = omega (arith, ints)

by_only : (nearest : Bool) (s : Settings) (kind : Kind) (now v w : ℤ) (i j : ℕ) → IsAccepted s → slice_get (values_of kind s) i ≡ Some v → slice_get (values_of kind s) j ≡ Some w
    → (if nearest then place_of_way (way_of kind now v) else v) ≡ (if nearest then place_of_way (way_of kind now w) else w) → v ≡ w
by_only true s kind now v w i j ok a b e = way_only s kind now v w i j ok a b (place_only (way_of kind now v) (way_of kind now w) e)
by_only false s kind now v w i j ok a b e = e

pub placed_only : (s : Settings) (own : Own) (kind : Kind) (v w : ℤ) (i j : ℕ) → IsAccepted s → slice_get (values_of kind s) i ≡ Some v → slice_get (values_of kind s) j ≡ Some w
    → place_of s own kind v ≡ place_of s own kind w → v ≡ w
placed_only s own kind v w i j ok a b e = by_only s.nearest s kind (present_of kind own) v w i j ok a b e
