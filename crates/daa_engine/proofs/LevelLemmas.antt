-- Levels of masks that are put together.
use Rattle.std.proofs.Common.{◌≡◌, ◌<◌, ◌≤◌, ◌-◌, ◌⊎◌, ◌∙◌, ℕ, zero, suc, max, length, bit_or, replicate, refl, sym, ap, subst, arith, inl, inr}
use Rattle.std.specs.Prelude.{slice_index}
use Rattle.std.specs.Int.{bit_at}
use Rattle.std.proofs.lemmas.Nat.Bits.{bit_at_or, bit_at-lt, bit_at-zero}
use Rattle.std.proofs.lemmas.List.{get_or-replicate, get_or_past, length-replicate}
use Rattle.std.proofs.lemmas.Bool.{cases_lt}
use Rattle.daa_fixed.specs.Mask.{HasLevel}
use Rattle.daa_bands.specs.Board.{HasLevelOn}

max_one : (a b c : ℕ) → c ≡ max a b → a < 2 → b < 2 → c ≡ 1 → (a ≡ 1) ⊎ (b ≡ 1)
max_one zero b c e h k l = inr (omega arith)
max_one (suc zero) b c e h k l = inl refl
max_one (suc (suc a)) b c e h k l = absurd (omega arith)

pub either : (a b l : ℕ) → HasLevel (bit_or a b) l → HasLevel a l ⊎ HasLevel b l
either a b l h = max_one _ _ _ (bit_at_or a b (l - 1)) (bit_at-lt a (l - 1)) (bit_at-lt b (l - 1)) h

max_left : (a b c : ℕ) → c ≡ max a b → b < 2 → a ≡ 1 → c ≡ 1
max_left a b c e h k = omega arith

pub left : (a b l : ℕ) → HasLevel a l → HasLevel (bit_or a b) l
left a b l h = max_left _ _ _ (bit_at_or a b (l - 1)) (bit_at-lt b (l - 1)) h

max_right : (a b c : ℕ) → c ≡ max a b → a < 2 → b ≡ 1 → c ≡ 1
max_right a b c e h k = omega arith

pub right : (a b l : ℕ) → HasLevel b l → HasLevel (bit_or a b) l
right a b l h = max_right _ _ _ (bit_at_or a b (l - 1)) (bit_at-lt a (l - 1)) h

pub along : (a b l : ℕ) → a ≡ b → HasLevel a l → HasLevel b l
along a b l e h = subst (λ (x : ℕ). HasLevel x l) e h

-- ---- a clear board

le_by : (n i k : ℕ) → k ≡ n → n ≤ i → k ≤ i
le_by n i k e h = omega arith

zero_at : (n i : ℕ) → slice_index (replicate n 0) i ≡ 0
zero_at n i = go (cases_lt i n)
  where
    go : (i < n) ⊎ (n ≤ i) → slice_index (replicate n 0) i ≡ 0
    go (inl h) = get_or-replicate n i 0 0 h
    go (inr h) = get_or_past (replicate n 0) i 0 (le_by n i (length (replicate n 0)) (length-replicate n 0) h)

pub nothing_set : (n i l : ℕ) → HasLevelOn (replicate n 0) i l → ⊥
nothing_set n i l h = let e = sym (ap (λ (x : ℕ). bit_at x (l - 1)) (zero_at n i) ∙ bit_at-zero (l - 1)) ∙ h in omega (arith, e)
