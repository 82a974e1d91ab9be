-- What holds of every list of words.
use Rattle.std.specs.Prelude.{ℕ, ◌≡◌, Bool, false, List, Option, Some, [], codes, option_and_then, option_map}
use Rattle.std.specs.Option.{option_map_or}
use Rattle.clap.specs.Simple.{subcommand_of}
use Rattle.clap.specs.Takes.{is_given}
use Rattle.clap.specs.Walk.{Text, first_of}
use Rattle.clap.specs.Faults.{fault_of}
use Rattle.daa_words.specs.Command.{daidalus}
use Rattle.daa_words.specs.Order.{Asked, IsInRange, number_at, order_of}
use Rattle.daa_words.specs.Task.{Task, Replay, Exercise, Judge}

-- the name of the subcommand that clap reads in the words
abbrev pub subcommand_in : List Text → Option Text
subcommand_in words = option_map (λ p. p.0) (subcommand_of daidalus words)

-- the first text that clap reads at this option of the subcommand
abbrev pub text_in : Text → List Text → Option Text
text_in id words = option_and_then (λ p. first_of id p.1) (subcommand_of daidalus words)

-- the number that clap reads at this option of the subcommand
abbrev pub number_in : Text → List Text → Option ℕ
number_in id words = option_and_then (λ p. number_at id p.1) (subcommand_of daidalus words)

-- the words themselves give this option of the subcommand
abbrev pub is_given_in : Text → List Text → Bool
is_given_in id words = option_map_or (λ p. is_given id p.1) (subcommand_of daidalus words) false

-- the words ask for this task
abbrev pub AsksForTask : List Text → Task → Type 0
AsksForTask words (Replay ahead) = (subcommand_in words ≡ Some (codes "replay"))
    × (number_in (codes "ahead") words ≡ Some ahead)
    × (is_given_in (codes "ahead") words ≡ false → ahead ≡ 0)
AsksForTask words (Exercise seed moments) = (subcommand_in words ≡ Some (codes "exercise"))
    × (number_in (codes "seed") words ≡ Some seed)
    × (number_in (codes "moments") words ≡ Some moments)
AsksForTask words (Judge states) = (subcommand_in words ≡ Some (codes "judge"))
    × (text_in (codes "states") words ≡ Some states)

-- the words ask for this task, with the configuration at `--config` and the number of workers at
-- `--workers`, which is 4 where that is not given
pub record AsksFor (words : List Text) (asked : Asked) : Type 0 where
  pub order : order_of words ≡ Some asked
  pub task : AsksForTask words asked.task
  pub config : text_in (codes "config") words ≡ Some asked.config
  pub workers : number_in (codes "workers") words ≡ Some asked.workers
  pub default : is_given_in (codes "workers") words ≡ false → asked.workers ≡ 4
  pub in_range : IsInRange asked

-- an order is read wherever clap's definition finds no fault
abbrev pub EachTakenOrders : Type 0
EachTakenOrders =
    (words : List Text) → fault_of daidalus words ≡ [] → (asked : Asked) × AsksFor words asked

-- an order is read only where clap's definition finds no fault
abbrev pub EachOrderIsTaken : Type 0
EachOrderIsTaken =
    (words : List Text) (asked : Asked) → order_of words ≡ Some asked → fault_of daidalus words ≡ []
