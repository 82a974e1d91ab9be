-- What the words of a command line ask for.
use Rattle.std.specs.Prelude.{ℕ, ◌≤◌, ◌<◌, ◌^◌, List, Option, Some, None, codes, if◌then◌else◌, option_and_then, option_map}
use Rattle.std.specs.Str.{bytes_eq}
use Rattle.std.specs.Str.Parse.{digits_value, without_leading_plus}
use Rattle.clap.specs.Simple.{subcommand_of}
use Rattle.clap.specs.ValueTests.{is_unsigned_in}
use Rattle.clap.specs.Walk.{Row, Text, first_of, is_empty, one_of}
use Rattle.clap.specs.Faults.{fault_of}
use Rattle.daa_words.specs.Command.{daidalus}
use Rattle.daa_words.specs.declared.order.Order.{Order}
use Rattle.daa_words.specs.declared.order.Task.{Task as Coded}
use Rattle.daa_words.specs.declared.order.Task.TheVariants as coded
use Rattle.daa_words.specs.Task.{Task, Replay, Exercise, Judge}

-- what is asked for: the task, the bytes of the configuration's name, and the number of workers
pub record Asked : Type 0 where
  pub task : Task
  pub config : Text
  pub workers : ℕ

-- a task of the program's own as what it asks for
abbrev pub task_of : Coded → Task
task_of (coded.Replay ahead) = Replay ahead
task_of (coded.Exercise seed moments) = Exercise seed moments
task_of (coded.Judge states) = Judge states.now

-- an order as what it asks for
abbrev pub meaning : Order → Asked
meaning o = record { task = task_of o.task; config = o.config.now; workers = o.workers }

-- the numbers of a task are in their ranges
abbrev pub TaskIsInRange : Task → Type 0
TaskIsInRange (Replay ahead) = ahead ≤ 1024
TaskIsInRange (Exercise seed moments) = (seed < 2 ^ 32) × (1 ≤ moments) × (moments ≤ 10000)
TaskIsInRange (Judge states) = Unit {0}

-- all numbers of what is asked for are in their ranges
pub record IsInRange (asked : Asked) : Type 0 where
  pub at_least_one : 1 ≤ asked.workers
  pub at_most_16 : asked.workers ≤ 16
  pub task : TaskIsInRange asked.task

-- the number at an option: what the text that clap reads there is to `u32`, digits after a `+` if
-- there is one; clap has taken a minus off it, and lets none but that of a zero pass
abbrev pub number_at : Text → List Row → Option ℕ
number_at id rows = option_and_then
    (λ text. if is_unsigned_in 0 4294967295 text then Some (digits_value 10 (without_leading_plus text)) else None)
    (one_of id rows)

-- the task of a subcommand, by its name and the rows of its options: with the numbers, or the text,
-- at these; none where one is not there, or no task has the name
abbrev pub task_by : Text → List Row → Option Task
task_by name rows =
    if bytes_eq name (codes "replay") then option_map Replay (number_at (codes "ahead") rows)
    else if bytes_eq name (codes "exercise") then
    option_and_then (λ seed. option_map (Exercise seed) (number_at (codes "moments") rows)) (number_at (codes "seed") rows)
    else if bytes_eq name (codes "judge") then option_map Judge (first_of (codes "states") rows)
    else None

-- what a subcommand asks for, by its name and the rows of its options: its task, the first text at
-- `--config`, and the number at `--workers`; none where one of them is not there
unfoldable pub asked_by : Text × List Row → Option Asked
asked_by p = option_and_then (λ task. option_and_then (λ config. option_map
    (λ workers. record { task = task; config = config; workers = workers })
    (number_at (codes "workers") p.1)) (first_of (codes "config") p.1)) (task_by p.0 p.1)

-- what the words ask for, the program's name first: what the subcommand asks for, where clap's
-- definition finds no fault in them, and else none
unfoldable pub order_of : List Text → Option Asked
order_of words = option_and_then asked_by (if is_empty (fault_of daidalus words) then subcommand_of daidalus words else None)
