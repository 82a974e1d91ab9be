-- How each step changes what a seat knows of its pool.
use Rattle.std.specs.Prelude.{◌≡◌, ℕ, ◌+◌, true, false, List, [], ◌∷◌, ◌++◌, length, if◌then◌else◌, ◌⊎◌}
use Rattle.std.specs.List.{Contains}
use Rattle.daa_range.specs.Range.{RangeState, range_of, upper_of, first_unit_of, rest_of}
use Rattle.daa_range.specs.Word.{unpacked}
use Rattle.daa_schedule.specs.CoreState.{no_units}
use Rattle.daa_schedule.specs.declared.step.Step.TheVariants.{Claim, Steal, Keep, End}
use Rattle.daa_pool.specs.declared.view.View.{View}
use Rattle.daa_pool.specs.declared.view.Look.{Look}
use Rattle.daa_pool.specs.declared.view.Part.{Part}
use Rattle.daa_pool.specs.View.{part_of}

-- what a seat finds in a worker's range
abbrev pub look : View → ℕ → ℕ → Look
look view worker word = record { worker = worker; word = word; moves = length view.moves }

-- the part is the view's own, or one that was joined to it
abbrev pub HasPart : View → Part → Type 0
HasPart view part = (part_of view ≡ part) ⊎ Contains view.joined part

-- the number is the view's own, or one that was joined to it
abbrev pub HasNumber : View → ℕ → Type 0
HasNumber view number = (view.number ≡ number) ⊎ ((part : Part) × Contains view.joined part × (part.number ≡ number))

-- a seat that has just been made
abbrev pub newcomer : ℕ → ℕ → List ℕ → View
newcomer number workers answers = record {
  live = true;
  number = number;
  workers = workers;
  answers = answers;
  bound = no_units;
  hand = no_units;
  settled = [];
  looks = [];
  moves = [];
  over = false;
  joined = [];
  carries = false;
  made = 0;
}

-- what is left of a view that was joined to another
abbrev pub spent : View
spent = record (newcomer 0 0 []) { live = false }

-- the view of the one seat before it is given the answers
abbrev pub blank : View
blank = record spent { carries = true }

-- the first seat, which has the range of all units and the count of seats made
abbrev pub opener : ℕ → List ℕ → View
opener workers answers = record (newcomer 0 workers answers) { bound = range_of 0 (length answers); carries = true; made = 1 }

-- after a look at a worker's range
abbrev pub looked : View → ℕ → ℕ → View
looked view worker word = record view { looks = view.looks ++ look view worker word ∷ [] }

-- after a look at the own range, which bounds it from then on
abbrev pub looked_home : View → ℕ → View
looked_home view word = record view { bound = unpacked word; looks = view.looks ++ look view view.number word ∷ [] }

-- after a Claim: the first unit of the own range is in the hand
abbrev pub claimed : View → View
claimed view = record view { bound = rest_of view.bound; hand = first_unit_of view.bound; moves = view.moves ++ Claim view.number ∷ [] }

-- after a Steal: the upper half of the other range is in the hand
abbrev pub stolen : View → ℕ → RangeState → View
stolen view other range = record view { hand = upper_of range; moves = view.moves ++ Steal view.number other ∷ [] }

-- after a Keep: the hand has its first unit, and the own range the rest
abbrev pub kept : View → View
kept view = record view { bound = rest_of view.hand; hand = first_unit_of view.hand; moves = view.moves ++ Keep view.number ∷ [] }

-- after an End, which looks at the own range
abbrev pub ended : View → ℕ → View
ended view word = record view { over = true; looks = view.looks ++ look view view.number word ∷ []; moves = view.moves ++ End view.number ∷ [] }

-- a seat that another was split from: it has no count of the seats any more
abbrev pub left_behind : View → View
left_behind view = record view { carries = false }

-- the seat that was split from it: it has the next number, and the count of seats made
abbrev pub next_seat : View → View
next_seat view = record (newcomer view.made view.workers view.answers) { carries = true; made = view.made + 1 }

-- a seat that another was joined to: it has what both settled, what both did and saw, and the count of seats made where one of them had it
abbrev pub gathered : View → View → View
gathered view other = record view {
  settled = view.settled ++ other.settled;
  joined = view.joined ++ part_of other ∷ other.joined;
  carries = if view.carries then true else other.carries;
  made = if view.carries then view.made else other.made;
}
