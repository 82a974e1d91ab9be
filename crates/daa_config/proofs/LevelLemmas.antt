-- What holds at a level of a configuration.
use Rattle.std.proofs.Common.{◌≡◌, ◌↔◌, ◌<◌, ℕ, List, Option, Some, length, sym, subst, ⊎_elim}
use Rattle.std.specs.Prelude.{IsSomeAnd, slice_get}
use Rattle.std.proofs.lemmas.Bool.{cases_lt}
use Rattle.std.proofs.lemmas.Option.{slice_get_past}
use Rattle.daa_config.specs.declared.level.Level.{Level}

-- what holds of a level that is there
pub at_level : (levels : List Level) (i : ℕ) (level : Level) (P : Level → Type 0) → slice_get levels i ≡ Some level → P level ↔ IsSomeAnd (slice_get levels i) P
at_level levels i level P e = subst (λ (o : Option Level). P level ↔ IsSomeAnd o P) (sym e) ((λ p. p), (λ p. p))

-- where something holds of a level, it is there
pub there : (levels : List Level) (i : ℕ) (P : Level → Type 0) → IsSomeAnd (slice_get levels i) P → i < length levels
there levels i P h = ⊎_elim (λ l. l) (λ l. absurd (subst (λ (o : Option Level). IsSomeAnd o P) (slice_get_past levels i l) h)) (cases_lt i (length levels))
