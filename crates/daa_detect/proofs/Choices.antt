-- Of two facts that are tested one after the other.
use Rattle.std.proofs.Common.{◌≡◌, ◌↔◌, ◌⊎◌, inr, ⊎_elim, Bool, false}
use Rattle.std.specs.Prelude.{IsTrue}

-- where the first fact does not hold, the second decides
pub second : {A B : Type 0} (a b : Bool) → (IsTrue a ↔ A) → (IsTrue b ↔ B) → a ≡ false → IsTrue b ↔ (A ⊎ B)
second a b h k e = ((λ t. inr (k.0 t)), ⊎_elim (λ x. absurd (cc (h.1 x, e))) k.1)
