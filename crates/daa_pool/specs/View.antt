-- What a seat knows of its pool that contracts read, and how a Settle changes it.
use Rattle.std.specs.Prelude.{ℕ, ◌==◌, List, [], ◌∷◌, ◌++◌, if◌then◌else◌}
use Rattle.std.specs.List.{sum_by}
use Rattle.daa_schedule.specs.CoreState.{no_units}
use Rattle.daa_schedule.specs.declared.step.Step.TheVariants.{Settle}
use Rattle.daa_pool.specs.declared.view.View.{View}
use Rattle.daa_pool.specs.declared.view.Part.{Part}

-- what this worker did and saw
abbrev pub part_of : View → Part
part_of view = record { number = view.number; moves = view.moves; looks = view.looks }

-- how often a unit is in a list of settled ones
abbrev pub times : ℕ → List ℕ → ℕ
times unit units = sum_by (λ settled. if settled == unit then 1 else 0) units

-- after a Settle: the hand is empty, and one unit more is settled
abbrev pub settled : View → ℕ → View
settled view word = record view { hand = no_units; settled = view.settled ++ view.hand.first ∷ []; moves = view.moves ++ Settle view.number word ∷ [] }
