-- One more digit.
use Rattle.std.proofs.Common.{ℕ, ◌+◌, ◌-◌, ◌*◌, ◌<◌, ◌≤◌, ◌≡◌, List, [], ◌∷◌, ◌++◌, take, length, map, get_or, ap, ◌∙◌, Bool, true, ◌&&◌, ◌^◌, add-one, arith, pow-suc, lit<}
use Rattle.std.proofs.Math.Nat.{pow-le-pow_right}
use Rattle.std.proofs.lemmas.List.{take_more, map-append}
use Rattle.std.proofs.lemmas.Int.Digits.{number_push}
use Rattle.std.specs.Int.Digits.{number_from_digits}
use Rattle.daa_state.specs.Inside.Number.{size_of_digits}

pub size_more : (xs : List ℕ) (i : ℕ) → i < length xs → size_of_digits (take (i + 1) xs) ≡ size_of_digits (take i xs) * 10 + (get_or xs i 0 - 48)
size_more xs i h =
    let f : ℕ → ℕ = λ d. d - 48 in
    let e : take (i + 1) xs ≡ take i xs ++ get_or xs i 0 ∷ [] = take_more xs i 0 h in
    ap (λ (ds : List ℕ). size_of_digits ds) e ∙ ap (number_from_digits 10) (map-append f (take i xs) (get_or xs i 0 ∷ []))
    ∙ number_push 10 (map f (take i xs)) (get_or xs i 0 - 48)

pub both : {a b c : Bool} → c ≡ (a && b) → a ≡ true → b ≡ true → c ≡ true
both e h k = cc

pub grown : (v i d : ℕ) → v < 10 ^ i → d < 10 → v * 10 + d < 10 ^ (i + 1)
grown v i d h k = rw (add-one, pow-suc) (omega arith)

-- a number of few digits
pub below_most : (v i : ℕ) → v < 10 ^ i → i ≤ 18 → v < 10 ^ 18
below_most v i h k =
    let most : 10 ^ i ≤ 10 ^ 18 = pow-le-pow_right (lit< tt) k in
    omega arith
