-- What reading shows of a report: it is compared with what a source hands out.
use Rattle.std.specs.Prelude.{ℕ, ◌≡◌, ◌≤◌, ◌++◌, Bool, true, [], length}
use Rattle.daa_ahead.specs.Bytes.{Bytes, StreamState, HandsOut, IsSpent}
use Rattle.daa_ahead.specs.Moves.{ReadsAll, ReadFails, PassesMost}
use Rattle.daa_judge.specs.Judged.{Differs, Begins}
use Rattle.daa_judge.specs.declared.found.Found.{Found}
use Rattle.daa_judge.specs.declared.found.Found.TheVariants as found

module _ (report : Bytes) (most : ℕ) where
  -- what was read shows, whatever may follow it (nothing, if it was all: `ended`), that it differs
  -- from the report, and in which line first; all of it but at most the last 4096 bytes begin the
  -- report
  pub record ShowsDifference (number : ℕ) (old new : StreamState) : Type 0 where
    pub front : Bytes
    pub last : Bytes
    pub handed : HandsOut most old new (front ++ last)
    pub ended : Bool
    pub over : ended ≡ true → IsSpent old.bytes new.bytes
    pub differs : (more : Bytes) → (ended ≡ true → more ≡ []) → Differs report number ((front ++ last) ++ more)
    pub begins : Begins front report
    pub one_read : length last ≤ 4096
    pub calm : new.faults ≡ old.faults

  -- what reading shows of the report, by what was found: what the source hands out was read to its
  -- end, and is the report; it differs; a read failed, or one byte past the limit was read, and the
  -- report begins with what was read before
  abbrev pub Finds : Found → (old new : StreamState) → Type 0
  Finds found.Alike old new = ReadsAll old new report × (length report ≤ most)
  Finds (found.Differs number) old new = ShowsDifference number old new
  Finds found.Fault old new = (bytes : Bytes) × ReadFails old new bytes × (length bytes ≤ most) × Begins bytes report
  Finds found.Limit old new = (bytes : Bytes) × PassesMost most old new bytes × Begins bytes report
