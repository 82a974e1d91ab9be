-- Values that are read one after the other.
use Rattle.std.proofs.Common.{Bool, true, false, Ok, Err}
use Rattle.std.specs.Prelude.{IfOk, if◌then◌else◌}
use Rattle.daa_state.specs.Fault.{Checked, ◌>>=◌}

-- what holds of what comes next wherever P holds of the first, where P holds of it
pub IfOk-with : {A B : Type 0} (P : A → Type 0) (Q : B → Type 0) (first : Checked A) (next : A → Checked B) → IfOk first P → ((a : A) → P a → IfOk (next a) Q) → IfOk (first >>= next) Q
IfOk-with P Q (Ok a) next p h = h a p
IfOk-with P Q (Err fault) next p h = tt

pub IfOk-if : {A : Type 0} (P : A → Type 0) (test : Bool) (x y : Checked A) → IfOk x P → IfOk y P → IfOk (if test then x else y) P
IfOk-if P true x y h k = h
IfOk-if P false x y h k = k

-- what needs nothing of the first
pub IfOk-any : {A B : Type 0} (Q : B → Type 0) (first : Checked A) (next : A → Checked B) → ((a : A) → IfOk (next a) Q) → IfOk (first >>= next) Q
IfOk-any Q (Ok a) next h = h a
IfOk-any Q (Err fault) next h = tt
