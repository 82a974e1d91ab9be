-- The best of one index more.
use Rattle.std.proofs.Common.{◌≡◌, ◌<◌, ◌+◌, ◌∙◌, ℕ, ℤ, ◌≤ℤ◌, Option, Some, None, length, slice_get, subst, arith, below_more, Bool, true, false, w64, FitsSigned, to_z, of_z}
use lib.Signed.{le_z}
use Rattle.std.proofs.lemmas.Int.{ints, to_z-of_z}
use Rattle.std.proofs.lemmas.Option.{slice_get_within}
use Rattle.daa_config.specs.Settings.{Settings}
use Rattle.daa_config.specs.Candidates.{values_of}
use Rattle.daa_config.specs.declared.kind.Kind.{Kind}
use Rattle.daa_config.specs.declared.candidate.Resolution.TheVariants.{To, Nothing}
use Rattle.daa_state.specs.declared.word.Own.{Own}
use Rattle.daa_resolve.specs.declared.side.Side.{Side}
use Rattle.daa_resolve.specs.Open.{IsOpen}
use Rattle.daa_resolve.specs.Resolution.{IsOpenOnSide, IsNearest, IsResolution}
use Rattle.daa_resolve.specs.Side.{present_of, distance_of}
use Rattle.daa_resolve.specs.Inside.Best.{IsBest}

module _ (Covered : ℕ → ℕ → Type 0) (s : Settings) (own : Own) (kind : Kind) (side : Side) (n : ℕ) where
  abbrev Open : ℕ → ℤ → Type 0
  Open p v = IsOpenOnSide Covered s own kind side p v

  abbrev far : ℤ → ℤ
  far v = distance_of kind side (present_of kind own) v

  -- a value open at index n is v
  same_value : (v w : ℤ) → Open n v → Open n w → v ≡ w
  same_value v w a b = let x = a.value_is in let y = b.value_is in cc

  -- what is no farther than the values open below n, and than v at n, is no farther than those below n + 1
  none_nearer : (u v : ℤ) → ((p : ℕ) (w : ℤ) → p < n → Open p w → far u ≤ℤ far w) → Open n v → far u ≤ℤ far v → (p : ℕ) (w : ℤ) → p < n + 1 → Open p w → far u ≤ℤ far w
  none_nearer u v near c order p w k d = below_more (λ q. (x : ℤ) → Open q x → far u ≤ℤ far x) n (λ q l x e. near q x l e)
      (λ x e. subst (λ (y : ℤ). far u ≤ℤ far y) (same_value v x c e) order) p k w d

  pub skip : (best : Option ℕ) → IsBest Covered s own kind side n best → ((v : ℤ) → Open n v → ⊥) → IsBest Covered s own kind side (n + 1) best
  skip None h none = λ p v k c. below_more (λ q. (x : ℤ) → Open q x → ⊥) n (λ q l x e. h q x l e) none p k v c
  skip (Some other) (u, k, c, near) none = (u, omega arith, c, λ p v l d. below_more (λ q. (x : ℤ) → Open q x → far u ≤ℤ far x) n (λ q i x e. near q x i e) (λ x e. absurd (none x e)) p l v d)

  pub first : (v : ℤ) → IsBest Covered s own kind side n None → Open n v → IsBest Covered s own kind side (n + 1) (Some n)
  first v h c = (v, omega arith, c, none_nearer v v (λ p w k d. absurd (h p w k d)) c (omega (arith, ints)))

  pub keep : (other : ℕ) (v : ℤ) → (b : IsBest Covered s own kind side n (Some other)) → Open n v → far b.0 ≤ℤ far v
      → IsBest Covered s own kind side (n + 1) (Some other)
  keep other v (u, k, c, near) d order = (u, omega arith, c, none_nearer u v near d order)

  pub change : (other : ℕ) (v : ℤ) → (b : IsBest Covered s own kind side n (Some other)) → Open n v → far v ≤ℤ far b.0
      → IsBest Covered s own kind side (n + 1) (Some n)
  change other v (u, k, c, near) d order = (v, omega arith, d, none_nearer v v (λ p w l e. let m = near p w l e in omega (arith, ints)) d (omega (arith, ints)))

module _ (Covered : ℕ → ℕ → Type 0) (s : Settings) (own : Own) (kind : Kind) (side : Side) where
  pub nothing : (IsOpen Covered s 0 → ⊥) → IsBest Covered s own kind side (length (values_of kind s)) None → IsResolution Covered s own kind side Nothing
  nothing closed h = (closed, λ p v c. h p v (slice_get_within (values_of kind s) p v c.value_is) c)

  pub going : (IsOpen Covered s 0 → ⊥) → (index : ℕ) (value : ℤ) → IsBest Covered s own kind side (length (values_of kind s)) (Some index)
      → slice_get (values_of kind s) index ≡ Some value → IsResolution Covered s own kind side (To value)
  going closed index value (v, k, c, near) e =
      let f : v ≡ value = (let x = c.value_is in cc) in
      (closed, subst (IsNearest Covered s own kind side) f (index, c, λ p w d. near p w (slice_get_within (values_of kind s) p w d.value_is) d))

-- what a comparison of two distances says
compared : (a b x y : ℤ) (r : Bool) → FitsSigned w64 a → FitsSigned w64 b → a ≡ x → b ≡ y
    → le_z (to_z w64 (of_z w64 a)) (to_z w64 (of_z w64 b)) ≡ r → le_z x y ≡ r
compared a b x y r f g d e t = rw (← to_z-of_z w64 a f ∙ d, ← to_z-of_z w64 b g ∙ e) t

pub nearer : (a b x y : ℤ) → FitsSigned w64 a → FitsSigned w64 b → a ≡ x → b ≡ y
    → le_z (to_z w64 (of_z w64 a)) (to_z w64 (of_z w64 b)) ≡ true → x ≤ℤ y
nearer a b x y f g d e t = let s = compared a b x y true f g d e t in grind (arith, ints)

pub farther : (a b x y : ℤ) → FitsSigned w64 a → FitsSigned w64 b → a ≡ x → b ≡ y
    → le_z (to_z w64 (of_z w64 a)) (to_z w64 (of_z w64 b)) ≡ false → y ≤ℤ x
farther a b x y f g d e t = let s = compared a b x y false f g d e t in grind (arith, ints)
