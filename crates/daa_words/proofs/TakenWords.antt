-- Words without a fault ask for a replay or for an exercise, with numbers in their ranges.
use Rattle.std.proofs.Common.{◌≡◌, ◌∙◌, ◌||◌, ◌⊎◌, ℕ, Bool, true, false, List, [], Option, Some, None, arith, inl, inr, is_some, true≢false, refl, sym, ap, subst, codes}
use Rattle.std.specs.Prelude.{option_and_then, option_map, unwrap_or}
use Rattle.std.specs.Option.{option_map_or}
use Rattle.std.specs.Str.{bytes_eq}
use Rattle.std.proofs.lemmas.Slice.Eq.{bytes_eq-Decides}
use Rattle.clap.proofs.OnLiterals.{clap_on_literals}
use Rattle.clap.specs.Faults.{fault_of}
use Rattle.clap.specs.Lexer.{without_minus}
use Rattle.clap.specs.Simple.{built, filled, subcommand_of, with_index}
use Rattle.clap.specs.Takes.{is_given}
use Rattle.clap.specs.Walk.{Row, Rule, Text, first_of}
use Rattle.daa_words.specs.Task.{Task, Replay, Exercise, Judge}
use Rattle.daa_words.specs.Command.{config, daidalus, workers}
use Rattle.daa_words.specs.Inside.Command.{ahead, moments, seed, states}
use Rattle.daa_words.specs.Order.{Asked, IsInRange, TaskIsInRange, asked_by, number_at, order_of, task_by}
use Rattle.daa_words.specs.Laws.{AsksFor, AsksForTask}
use Rattle.daa_words.proofs.LevelOptions.{Each, HasIfNamed, HasText, enters, subcommand_text}
use Rattle.daa_words.proofs.NumberLemmas.{HasNumber, number_at_text, number_of, number_there}
use Rattle.daa_words.proofs.NoHelp.{IsKnownOrHelp, subcommand_known}
use Rattle.daa_words.proofs.WordsLemmas.{taken_by_order}

-- ---- the definition, as clap fills it in

abbrev filled_in : Rule → Rule
filled_in a = with_index 1 (filled a)

abbrev is_exercise : Text → Bool
is_exercise name = bytes_eq name (codes "exercise")

abbrev is_replay : Text → Bool
is_replay name = bytes_eq name (codes "replay")

abbrev is_judge : Text → Bool
is_judge name = bytes_eq name (codes "judge")

abbrev is_task : Text → Bool
is_task name = is_replay name || (is_exercise name || is_judge name)

tasks_or_help : Each (IsKnownOrHelp is_task) (built daidalus).subs
unfolding daidalus clap_on_literals
tasks_or_help = (inl refl, (inl refl, (inl refl, (inr (refl, refl), tt))))

help_is_enabled : (built daidalus).top.disable_help_subcommand ≡ false
unfolding daidalus clap_on_literals
help_is_enabled = refl

subcommand_is_required : (built daidalus).top.subcommand_required ≡ true
unfolding daidalus clap_on_literals
subcommand_is_required = refl

tasks_want_config : Each (HasIfNamed is_task (filled_in config)) (built daidalus).subs
unfolding daidalus clap_on_literals
tasks_want_config = (
  inr ((inr refl, (inl refl, (inl refl, (inl refl, tt)))), inl refl),
  (
    inr ((inr refl, (inl refl, (inl refl, (inl refl, (inl refl, tt))))), inl refl),
    (inr ((inr refl, (inl refl, (inl refl, (inl refl, tt)))), inl refl), (inl refl, tt)),
  ),
)

tasks_have_workers : Each (HasIfNamed is_task (filled_in workers)) (built daidalus).subs
unfolding daidalus clap_on_literals
tasks_have_workers = (
  inr ((inl refl, (inr refl, (inl refl, (inl refl, tt)))), inr refl),
  (
    inr ((inl refl, (inl refl, (inl refl, (inr refl, (inl refl, tt))))), inr refl),
    (inr ((inl refl, (inl refl, (inr refl, (inl refl, tt)))), inr refl), (inl refl, tt)),
  ),
)

replay_has_ahead : Each (HasIfNamed is_replay (filled_in ahead)) (built daidalus).subs
unfolding daidalus clap_on_literals
replay_has_ahead = (
  inr ((inl refl, (inl refl, (inr refl, (inl refl, tt)))), inr refl),
  (inl refl, (inl refl, (inl refl, tt))),
)

exercise_wants_seed : Each (HasIfNamed is_exercise (filled_in seed)) (built daidalus).subs
unfolding daidalus clap_on_literals
exercise_wants_seed = (
  inl refl,
  (inr ((inl refl, (inr refl, (inl refl, (inl refl, (inl refl, tt))))), inl refl), (inl refl, (inl refl, tt))),
)

exercise_wants_moments : Each (HasIfNamed is_exercise (filled_in moments)) (built daidalus).subs
unfolding daidalus clap_on_literals
exercise_wants_moments = (
  inl refl,
  (inr ((inl refl, (inl refl, (inr refl, (inl refl, (inl refl, tt))))), inl refl), (inl refl, (inl refl, tt))),
)

judge_wants_states : Each (HasIfNamed is_judge (filled_in states)) (built daidalus).subs
unfolding daidalus clap_on_literals
judge_wants_states = (
  inl refl,
  (inl refl, (inr ((inl refl, (inr refl, (inl refl, (inl refl, tt)))), inl refl), (inl refl, tt))),
)

-- ---- a subcommand's order

-- a subcommand has this task
record HasTask (p : Text × List Row) : Type 0 where
  task : Task
  is : task_by p.0 p.1 ≡ Some task
  asked : (words : List Text) → subcommand_of daidalus words ≡ Some p → AsksForTask words task
  in_range : TaskIsInRange task

-- the name is one of the two
one_of_both : (a b : Bool) → (a || b) ≡ true → (a ≡ true) ⊎ (b ≡ true)
one_of_both true b e = inl refl
one_of_both false b e = inr e

name_met : (words : List Text) (p : Text × List Row) (name : Text) → p.0 ≡ name → subcommand_of daidalus words ≡ Some p
    → option_map (λ (q : Text × List Row). q.0) (subcommand_of daidalus words) ≡ Some name
name_met words p name is met = ap (option_map (λ (q : Text × List Row). q.0)) met ∙ ap Some is

number_met : (words : List Text) (p : Text × List Row) (id : Text) (n : ℕ) → number_at id p.1 ≡ Some n → subcommand_of daidalus words ≡ Some p
    → option_and_then (λ (q : Text × List Row). number_at id q.1) (subcommand_of daidalus words) ≡ Some n
number_met words p id n is met = ap (option_and_then (λ (q : Text × List Row). number_at id q.1)) met ∙ is

given_met : (words : List Text) (p : Text × List Row) (id : Text) → subcommand_of daidalus words ≡ Some p
    → option_map_or (λ (q : Text × List Row). is_given id q.1) (subcommand_of daidalus words) false ≡ false → is_given id p.1 ≡ false
given_met words p id met e = ap (λ o. option_map_or (λ (q : Text × List Row). is_given id q.1) o false) (sym met) ∙ e

-- where the words give no number there is the default
zero_by_default : (p : Text × List Row) (h : HasText (filled_in ahead) p.1) (number : ℕ) → number_at (codes "ahead") p.1 ≡ Some number
    → is_given (codes "ahead") p.1 ≡ false → number ≡ 0
zero_by_default p h number at not_given =
    let text : Some (codes "0") ≡ Some h.text = h.default not_given in
    let same : codes "0" ≡ h.text = ap (λ o. unwrap_or o (codes "0")) text in
    let zero : Some number ≡ number_of (without_minus (codes "0")) =
    sym at ∙ number_at_text (filled_in ahead) 0 1024 p.1 refl h ∙ ap (λ t. number_of (without_minus t)) (sym same) in
    ap (λ o. unwrap_or o 0) zero

replay_is : (p : Text × List Row) → p.0 ≡ codes "replay" → HasText (filled_in ahead) p.1 → HasNumber (codes "ahead") 0 1024 p.1 → HasTask p
replay_is p name text a = record {
  task = Replay a.number;
  is = rw (name, a.is) refl;
  asked = λ words met. (
    name_met words p (codes "replay") name met,
    number_met words p (codes "ahead") a.number a.is met,
    λ e. zero_by_default p text a.number a.is (given_met words p (codes "ahead") met e),
  );
  in_range = a.at_most;
}

exercise_is : (p : Text × List Row) → p.0 ≡ codes "exercise" → HasNumber (codes "seed") 0 4294967295 p.1 → HasNumber (codes "moments") 1 10000 p.1
    → HasTask p
exercise_is p name s m = record {
  task = Exercise s.number m.number;
  is = rw (name, s.is, m.is) refl;
  asked = λ words met. (
    name_met words p (codes "exercise") name met,
    number_met words p (codes "seed") s.number s.is met,
    number_met words p (codes "moments") m.number m.is met,
  );
  in_range = (omega (arith, s.at_most), m.at_least, m.at_most);
}

judge_is : (p : Text × List Row) → p.0 ≡ codes "judge" → HasText (filled_in states) p.1 → HasTask p
judge_is p name t = record {
  task = Judge t.text;
  is = rw (name, t.first) refl;
  asked = λ words met. (
    name_met words p (codes "judge") name met,
    ap (option_and_then (λ (q : Text × List Row). first_of (codes "states") q.1)) met ∙ t.first,
  );
  in_range = tt;
}

-- the order of a subcommand with a task, a text at `--config` and a number at `--workers`
asked_is : (p : Text × List Row) (task : Task) (text : Text) (number : ℕ) → task_by p.0 p.1 ≡ Some task → first_of (codes "config") p.1 ≡ Some text
    → number_at (codes "workers") p.1 ≡ Some number → asked_by p ≡ Some (record { task = task; config = text; workers = number })
unfolding asked_by
asked_is p task text number is first at = rw (is, first, at) refl

order_is : (words : List Text) (p : Text × List Row) (asked : Asked) → fault_of daidalus words ≡ [] → subcommand_of daidalus words ≡ Some p
    → asked_by p ≡ Some asked → order_of words ≡ Some asked
unfolding order_of
order_is words p asked none met is = rw (none, met) is

-- where the words give no workers there are 4
four_by_default : (p : Text × List Row) (h : HasText (filled_in workers) p.1) (number : ℕ) → number_at (codes "workers") p.1 ≡ Some number
    → is_given (codes "workers") p.1 ≡ false → number ≡ 4
four_by_default p h number at not_given =
    let text : Some (codes "4") ≡ Some h.text = h.default not_given in
    let same : codes "4" ≡ h.text = ap (λ o. unwrap_or o (codes "4")) text in
    let four : Some number ≡ number_of (without_minus (codes "4")) =
    sym at ∙ number_at_text (filled_in workers) 1 16 p.1 refl h ∙ ap (λ t. number_of (without_minus t)) (sym same) in
    ap (λ o. unwrap_or o 4) four

-- ---- the law

module _ (words : List Text) (none : fault_of daidalus words ≡ []) where
  by_parts : (p : Text × List Row) → subcommand_of daidalus words ≡ Some p → HasTask p → (text : HasText (filled_in config) p.1)
      → HasText (filled_in workers) p.1 → HasNumber (codes "workers") 1 16 p.1 → (asked : Asked) × AsksFor words asked
  by_parts p met task text crew number =
      let asked : Asked = record { task = task.task; config = text.text; workers = number.number } in (
        asked,
        record {
          order = order_is words p asked none met (asked_is p task.task text.text number.number task.is text.first number.is);
          task = task.asked words met;
          config = ap (option_and_then (λ (q : Text × List Row). first_of (codes "config") q.1)) met ∙ text.first;
          workers = number_met words p (codes "workers") number.number number.is met;
          default = λ e. four_by_default p crew number.number number.is
              (ap (λ o. option_map_or (λ (q : Text × List Row). is_given (codes "workers") q.1) o false) (sym met) ∙ e);
          in_range = record { at_least_one = number.at_least; at_most_16 = number.at_most; task = task.in_range };
        },
      )

  by_name : (p : Text × List Row) → subcommand_of daidalus words ≡ Some p → is_task p.0 ≡ true → (asked : Asked) × AsksFor words asked
  by_name p met named = by_parts p met (task_of (one_of_both (bytes_eq p.0 (codes "replay")) _ named)) text crew
      (number_there (filled_in workers) 1 16 p.1 refl (omega arith) crew)
    where
      text : HasText (filled_in config) p.1
      text = subcommand_text daidalus words is_task (filled_in config) refl refl tasks_want_config none p met named

      crew : HasText (filled_in workers) p.1
      crew = subcommand_text daidalus words is_task (filled_in workers) refl refl tasks_have_workers none p met named

      other_of : (is_exercise p.0 ≡ true) ⊎ (is_judge p.0 ≡ true) → HasTask p
      other_of (inl exercise) = exercise_is p ((bytes_eq-Decides p.0 (codes "exercise")).0 exercise)
          (number_there (filled_in seed) 0 4294967295 p.1 refl (omega arith)
          (subcommand_text daidalus words is_exercise (filled_in seed) refl refl exercise_wants_seed none p met exercise))
          (number_there (filled_in moments) 1 10000 p.1 refl (omega arith)
          (subcommand_text daidalus words is_exercise (filled_in moments) refl refl exercise_wants_moments none p met exercise))
      other_of (inr judge) = judge_is p ((bytes_eq-Decides p.0 (codes "judge")).0 judge)
          (subcommand_text daidalus words is_judge (filled_in states) refl refl judge_wants_states none p met judge)

      task_of : (is_replay p.0 ≡ true) ⊎ ((is_exercise p.0 || is_judge p.0) ≡ true) → HasTask p
      task_of (inl replay) = replay_is p ((bytes_eq-Decides p.0 (codes "replay")).0 replay) places (number_there (filled_in ahead) 0 1024 p.1 refl (omega arith) places)
        where
          places : HasText (filled_in ahead) p.1
          places = subcommand_text daidalus words is_replay (filled_in ahead) refl refl replay_has_ahead none p met replay
      task_of (inr other) = other_of (one_of_both (is_exercise p.0) _ other)

  pub taken_words_ask : (asked : Asked) × AsksFor words asked
  taken_words_ask = go (subcommand_of daidalus words) refl (enters daidalus words subcommand_is_required none)
    where
      go : (o : Option (Text × List Row)) → subcommand_of daidalus words ≡ o → is_some (subcommand_of daidalus words) ≡ true → (asked : Asked) × AsksFor words asked
      go None met there = absurd (true≢false (sym there ∙ ap is_some met))
      go (Some p) met there = by_name p met (subcommand_known daidalus words is_task tasks_or_help help_is_enabled none p met)

-- the numbers of each order are in their ranges
pub order_in_range : (words : List Text) (asked : Asked) → order_of words ≡ Some asked → IsInRange asked
order_in_range words asked order =
    let asks = taken_words_ask words (taken_by_order words asked order) in
    let same : Some asks.0 ≡ Some asked = sym asks.1.order ∙ order in
    subst IsInRange (ap (λ o. unwrap_or o asked) same) asks.1.in_range

-- and so are those of an order that is read of the matches
pub read_in_range : (words : List Text) (asked : Asked) (rows : Option (Text × List Row)) → fault_of daidalus words ≡ [] → rows ≡ subcommand_of daidalus words
    → Some asked ≡ option_and_then asked_by rows → IsInRange asked
unfolding order_of
read_in_range words asked rows none is read =
    order_in_range words asked (rw none (ap (option_and_then asked_by) (sym is) ∙ sym read))
