-- The rule of the shared value: what is shown only grows.
use Rattle.std.specs.Prelude.{◌≡◌, ℕ, List, Option, Some, IfSome}
use mathlib.Core.Option.{some}
use lib.ListN.{get_elem?}
use Rattle.daa_screen.specs.Story.{Story, GoesOn}

-- what an end of the shared value has seen begins what is shown, if it has seen anything
abbrev pub IsBehind : Story → Option Story → Type 0
IsBehind shown seen = IfSome seen (λ s. GoesOn s shown)

-- this holds of all ends. So nothing can be shown that does not go on from what an end may have seen
abbrev pub IsGrowing : Story → List (Option Story) → Type 0
IsGrowing shown ends = (seat : ℕ) (seen : Option Story) → get_elem? ends seat ≡ some seen → IsBehind shown seen

-- a look sees what is shown, which goes on from what was seen before
pub record Looks (before : Option Story) (shown : Story) (after : Option Story) : Type 0 where
  pub seen : after ≡ Some shown
  pub behind : IsBehind shown before
