-- What slices of a line hold, which the clauses of private functions cite.
use Rattle.std.specs.Prelude.{ℕ, List, map}
use Rattle.std.specs.Borrow.{Bor}

-- bytes, as numbers
abbrev pub Bytes : Type 0
Bytes = List ℕ

-- the bytes that each slice holds
abbrev pub texts : List (Bor Bytes) → List Bytes
texts fields = map (λ field. field.now) fields
