-- What each atomic step shows its seat. The number found is the word as it was before the step.
use Rattle.std.specs.Prelude.{◌≡◌, ◌≢◌, ℕ, ◌-◌, ◌<◌, ◌≤◌, List, length, slice_index}
use Rattle.atomic_table.specs.Table.{Step, Me}
use Rattle.daa_range.specs.Range.{range_len}
use Rattle.daa_range.specs.Word.{first_part, upto_part, unpacked, IsInOrder}
use Rattle.daa_schedule.specs.CoreState.{once_below}
use Rattle.daa_pool.specs.declared.view.View.{View}
use Rattle.daa_pool.specs.View.{settled, times}
use Rattle.daa_pool.specs.Inside.View.{HasPart, looked, looked_home, claimed, stolen, kept, ended, opener}
use Rattle.daa_pool.specs.History.{IsOneHistory}

-- a seat as the table has it: its view, and the slots that it holds, which are none here
abbrev pub Sat : Type 0
Sat = Me (Unit {0}) View

-- the step gives the seat this view, and leaves its slots
abbrev pub Becomes : Sat → View → Sat → Type 0
Becomes before view after = (after.0 ≡ view) × (after.1 ≡ before.1)

-- what is found in the own range
pub record IsHome (view : View) (word : ℕ) : Type 0 where
  pub in_order : IsInOrder word
  pub first : first_part word ≡ view.bound.first
  pub upto : upto_part word ≤ view.bound.upto

-- the first seat is given the answers
abbrev pub begins : ℕ → List ℕ → Step (Unit {0}) → Sat → ℕ → Sat → Type 0
begins workers answers step before found after = Becomes before (opener workers answers) after

-- a look at the own range
abbrev pub looks_home : Step (Unit {0}) → Sat → ℕ → Sat → Type 0
looks_home step before found after = Becomes before (looked_home before.0 found) after × IsHome before.0 found

-- a claim from the own range, or a look at it where its word has changed
abbrev pub claims : Step (Unit {0}) → Sat → ℕ → Sat → Type 0
claims step before found after =
    (found ≡ step.first → Becomes before (claimed before.0) after × (before.0.bound.first < length before.0.answers))
    × (found ≢ step.first → Becomes before (looked_home before.0 found) after × IsHome before.0 found)

-- a look at another worker's range
abbrev pub looks_away : Step (Unit {0}) → Sat → ℕ → Sat → Type 0
looks_away step before found after = Becomes before (looked before.0 step.word found) after × IsInOrder found

-- a steal from another worker's range, or a look at it where its word has changed
abbrev pub steals : Step (Unit {0}) → Sat → ℕ → Sat → Type 0
steals step before found after =
    (found ≡ step.first → Becomes before (stolen before.0 step.word (unpacked found)) after × ((unpacked found).upto ≤ length before.0.answers))
    × (found ≢ step.first → Becomes before (looked before.0 step.word found) after × IsInOrder found)

-- the seat keeps what it stole, and has its first unit in hand
abbrev pub keeps : Step (Unit {0}) → Sat → ℕ → Sat → Type 0
keeps step before found after = Becomes before (kept before.0) after

-- the answer of the unit in hand goes onto the board
abbrev pub settles : Step (Unit {0}) → Sat → ℕ → Sat → Type 0
settles step before found after = Becomes before (settled before.0 step.first) after × (length (settled before.0 step.first).settled ≤ length before.0.answers)

-- the worker ends; its own range is empty
abbrev pub ends : Step (Unit {0}) → Sat → ℕ → Sat → Type 0
ends step before found after = Becomes before (ended before.0 found) after × (range_len (unpacked found) ≡ 0) × (length before.0.settled ≤ length before.0.answers)

-- a seat with all numbers, each ended, reads an answer; each unit was settled once, in one history
abbrev pub reads : Step (Unit {0}) → Sat → ℕ → Sat → Type 0
reads step before found after =
    Becomes before before.0 after
    × (found ≡ slice_index before.0.answers (step.word - before.0.workers))
    × ((unit : ℕ) → times unit before.0.settled ≡ once_below unit (length before.0.answers))
    × IsOneHistory before.0.answers before.0.workers (HasPart before.0)
