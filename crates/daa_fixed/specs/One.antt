-- Exactly one thing meets a relation.
use Rattle.std.specs.Prelude.{◌≡◌}

-- exactly one thing meets `Is`
pub record HasOne {A : Type 0} (Is : A → Type 0) : Type 0 where
  pub one : A
  pub is : Is one
  pub only : (other : A) → Is other → other ≡ one
