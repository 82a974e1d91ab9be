-- The rule of the pool's table: what holds of its words and of all views between any two steps.
use Rattle.std.specs.Prelude.{◌≡◌, ℕ, ◌+◌, ◌<◌, ◌≤◌, true, false, List, [], ◌∷◌, length, slice_index, slice_set, replicate, ◌⊎◌}
use Rattle.std.specs.List.{sum_by, Contains}
use mathlib.Core.Option.{some}
use lib.ListN.{get_elem?}
use Rattle.atomic_table.specs.Table.{State}
use Rattle.daa_range.specs.Range.{range_of}
use Rattle.daa_range.specs.Word.{packed, unpacked, IsInOrder}
use Rattle.daa_schedule.specs.CoreState.{CoreState, worker_count, unit_count, no_units, range_at, hand_at, has_ended, word_on, opened, times_on, IsWhole}
use Rattle.daa_schedule.specs.Inside.CoreState.{IsShaped}
use Rattle.daa_schedule.specs.Runs.{steps_of, IsHistory}
use Rattle.daa_schedule.specs.declared.step.Step.{Step}
use Rattle.daa_pool.specs.declared.view.View.{View}
use Rattle.daa_pool.specs.declared.view.Part.{Part}
use Rattle.daa_pool.specs.declared.pool.Size.{Size}
use Rattle.daa_pool.specs.View.{part_of, times}
use Rattle.daa_pool.specs.Inside.View.{blank, spent, HasNumber}
use Rattle.daa_pool.specs.History.{IsPartOf}

-- the table of a pool: its words, and the views of its seats
abbrev pub Pools : Type 0
Pools = State (Unit {0}) View

-- the word at a place of the table
abbrev pub word_at : List ℕ → ℕ → ℕ
word_at words index = slice_index words index

-- the words show the core's ranges and its board: first a word for each worker, which is its range, and then a word for each unit
pub record Shows (words : List ℕ) (workers : ℕ) (core : CoreState) : Type 0 where
  pub wide : length words ≡ workers + unit_count core
  pub crew : worker_count core ≡ workers
  pub in_order : (worker : ℕ) → worker < workers → IsInOrder (word_at words worker)
  pub ranges : (worker : ℕ) → worker < workers → range_at core worker ≡ unpacked (word_at words worker)
  pub board : (unit : ℕ) → unit < unit_count core → word_on core unit ≡ word_at words (workers + unit)

-- what holds of the live view of the seat id. The holder names for each number the seat that has
-- it, and the carrier is the seat that has the count of seats made
pub record IsSeated (core : CoreState) (history : List Step) (workers made carrier : ℕ) (holder : ℕ → ℕ) (id : ℕ) (view : View) : Type 0 where
  -- its numbers were given out, and no other seat has them
  pub number : (number : ℕ) → HasNumber view number → (number < made) × (holder number ≡ id)
  pub carries : view.carries ≡ true → (id ≡ carrier) × (view.made ≡ made)
  -- all views carry the same answers and number of workers
  pub crew : view.workers ≡ workers
  pub answers : view.answers ≡ core.answers
  -- the view shows its worker's hand, mark and steps in the history; each look is true somewhere
  pub hand : hand_at core view.number ≡ view.hand
  pub over : has_ended core view.number ≡ view.over
  pub part : IsPartOf (opened core.answers workers) history (part_of view)
  -- the own range begins where the bound begins, and ends there or before
  pub first : (range_at core view.number).first ≡ view.bound.first
  pub upto : (range_at core view.number).upto ≤ view.bound.upto
  -- what was joined to it has ended, with an empty hand
  pub joined : (part : Part) → Contains view.joined part → (hand_at core part.number ≡ no_units) × (has_ended core part.number ≡ true) × IsPartOf (opened core.answers workers) history part

-- the seat id has a live view that has the number
abbrev pub IsHeld : List View → ℕ → ℕ → Type 0
IsHeld views id number = (view : View) × (get_elem? views id ≡ some view) × (view.live ≡ true) × HasNumber view number

-- a number that no seat has yet: its range and its hand are empty, and it has done nothing
pub record IsUnmade (core : CoreState) (history : List Step) (words : List ℕ) (number : ℕ) : Type 0 where
  pub word : word_at words number ≡ 0
  pub hand : hand_at core number ≡ no_units
  pub going : has_ended core number ≡ false
  pub moves : steps_of number history ≡ []

-- The words and the views show a core that is whole. A history of steps, none of them refused,
-- leads to it from the opening. Each worker's steps in it are those of its view, and each look of a
-- view was true at some point of it
pub record Ruled (workers : ℕ) (table : Pools) : Type 0 where
  pub core : CoreState
  pub log : List Step
  pub made : ℕ
  pub carrier : ℕ
  pub holder : ℕ → ℕ
  pub shaped : IsShaped core
  pub whole : IsWhole core
  pub shows : Shows table.words workers core
  pub history : IsHistory (opened core.answers workers) log core
  -- one live view carries the count of seats made; each number below the count is in a live view, and each other number is unmade
  pub fits : made ≤ workers
  pub carried : (view : View) × (get_elem? table.views carrier ≡ some view) × (view.live ≡ true) × (view.carries ≡ true)
  pub held : (number : ℕ) → number < made → IsHeld table.views (holder number) number
  pub unmade : (number : ℕ) → made ≤ number → number < workers → IsUnmade core log table.words number
  pub seats : (id : ℕ) (view : View) → get_elem? table.views id ≡ some view → view.live ≡ true → IsSeated core log workers made carrier holder id view
  pub others : (id : ℕ) (view : View) → get_elem? table.views id ≡ some view → view.live ≡ false → view ≡ spent
  -- over all views, a unit is settled once where its word is not 0, and else not at all
  pub settled : (unit : ℕ) → sum_by (λ view. times unit view.settled) table.views ≡ times_on unit core.board

-- the words at the opening: the first has the range of all units, and all others are 0
abbrev pub opening_words : ℕ → ℕ → List ℕ
opening_words workers units = slice_set (replicate (workers + units) 0) 0 (packed (range_of 0 units))

-- before the first seat is given the answers
pub record IsBlank (workers units : ℕ) (table : Pools) : Type 0 where
  pub words : table.words ≡ opening_words workers units
  pub views : table.views ≡ blank ∷ []

-- the rule: the first seat has not begun, or words and views show a core that is whole
abbrev pub Holds : Size → Pools → Type 0
Holds size table = IsBlank size.workers size.units table ⊎ Ruled size.workers table
