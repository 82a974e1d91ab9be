-- What a taker took from the ring.
use Rattle.std.specs.Prelude.{ℕ, ◌≡◌, ◌-◌, ◌++◌, Bool, List, length}
use Rattle.std.specs.List.{concat}
use Rattle.daa_ahead.specs.Bytes.{Bytes}
use Rattle.daa_ahead.specs.Taker.{Takes}

-- what was popped since
pub record Joins (popped_old popped_new : List Bytes) (bytes : Bytes) : Type 0 where
  pub gone : List Bytes
  pub popped : popped_new ≡ popped_old ++ gone
  pub joined : bytes ≡ concat gone

-- what was popped went to the taker, in some pieces
pub record Took {T : Type 0} (takes : T → Bytes → Bool → T → Type 0) (more : Bool) (old new : T)
    (popped_old popped_new : List Bytes) : Type 0 where
  pub pieces : List Bytes
  pub joins : Joins popped_old popped_new (concat pieces)
  pub taken : Takes takes more old pieces new

-- how many more bytes may be popped
abbrev pub left_of : ℕ → List Bytes → ℕ
left_of most popped = most - length (concat popped)
