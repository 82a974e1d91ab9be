-- What a contract sees of a shelf in memory.
use Rattle.std.specs.Prelude.{ℕ, List, Option, option_and_then, position, slice_get}
use Rattle.std.specs.Str.{bytes_eq}

-- names and the texts at their places, which calls fail, how many calls were made, and how many failed
pub record MemShelfState : Type 0 where
  pub names : List (List ℕ)
  pub texts : List (List ℕ)
  pub fails : List ℕ
  pub calls : ℕ
  pub faults : ℕ

-- the first index of the name
abbrev pub place_of : List (List ℕ) → List ℕ → Option ℕ
place_of names name = position (λ held. bytes_eq held name) names

-- the text at the first place of the name, where there is one
abbrev pub text_under : List (List ℕ) → List (List ℕ) → List ℕ → Option (List ℕ)
text_under names texts name = option_and_then (slice_get texts) (place_of names name)
