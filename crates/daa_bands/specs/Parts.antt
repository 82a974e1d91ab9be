-- A list in two parts, or in a part for each of some elements.
use Rattle.std.specs.Prelude.{◌≡◌, List, [], ◌∷◌, ◌++◌}

-- the list is a first part of which P holds, followed by a second one of which Q holds
pub record SplitsInto {A : Type 0} (P Q : List A → Type 0) (whole : List A) : Type 0 where
  pub first : List A
  pub second : List A
  pub first_is : P first
  pub second_is : Q second
  pub joined : whole ≡ first ++ second

-- the list is one part for each element, in their order
abbrev pub SplitsByEach : {A B : Type 0} → (A → List B → Type 0) → List A → List B → Type 0
SplitsByEach Is [] whole = whole ≡ []
SplitsByEach Is (element ∷ others) whole = SplitsInto (Is element) (SplitsByEach Is others) whole
