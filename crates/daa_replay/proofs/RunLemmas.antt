-- What a run leaves, by its status.
use Rattle.std.proofs.Common.{◌≡◌, ◌≢◌, ◌≤◌, ◌==◌, ℕ, List, [], ◌∷◌, Result, Ok, Err, refl, sym, ap, subst, ◌∙◌, arith, inl, inr, if◌then◌else◌}
use Rattle.std.specs.Prelude.{OnErr, OnOk, Option, length, codes}
use Rattle.daa_io.specs.Shelf.{longest_text}
use Rattle.daa_config.specs.Settings.{Settings}
use Rattle.daa_io.specs.Faults.{HasRisen}
use Rattle.daa_report.specs.Lines.{Text, numbers_line}
use Rattle.daa_report.specs.Says.{Says}
use Rattle.daa_words.specs.Task.{Task, Replay, Exercise, Judge}
use Rattle.daa_exercise.specs.Summary.{IsSummaryOf}
use Rattle.daa_replay.specs.declared.status.Status.{Status}
use Rattle.daa_judge.specs.declared.found.Found.TheVariants as found
use Rattle.daa_lines.specs.LinesOf.{Bytes}
use Rattle.daa_replay.specs.declared.opening.Work.{Work}
use Rattle.daa_replay.specs.declared.opening.Work.TheVariants as work
use Rattle.daa_replay.specs.declared.opening.Unready.{Unready}
use Rattle.daa_replay.specs.declared.opening.Unready.TheVariants as unready
use Rattle.daa_replay.specs.declared.status.Status.TheVariants.{Accepted, Refused, NotTaken, BadConfiguration, SourceFault, SinkFault, NoMemory, ShelfFault, Limit, StatesLong}
use Rattle.daa_replay.specs.Judge.{Judged}
use Rattle.daa_replay.specs.Opening.{usage_line, Opens, IsHeld}
use Rattle.daa_replay.specs.Outside.{Outside, ShelfState, outside, OnlyWrites, BreaksSome}
use Rattle.daa_replay.specs.Tasks.{Ends}
use Rattle.daa_ahead.specs.Bytes.{StreamState}
use Rattle.daa_replay.specs.Inside.Run.{Leaves, Performs, Replays, Judges, Exercises}
use Rattle.daa_replay.specs.Run.{Breaks, FetchFails, IsCode, IsLine, IsLong, IsUntouched, IsUsage, Runs, Under}
use Rattle.daa_replay.specs.Inside.Opening.{OpensAs, IsWork}
use Rattle.daa_replay.specs.Inside.Status.{code_of, long_line, BreaksLine, Takes, WritesReason, WritesLine, WritesCode}

-- ---- statuses and their numbers

abbrev status_of : ℕ → Status
status_of n = if n == 0 then Accepted else (if n == 1 then Refused else (if n == 2 then NotTaken else (if n == 3 then BadConfiguration else (if n == 4 then SourceFault
    else (if n == 5 then SinkFault else (if n == 6 then NoMemory else (if n == 7 then ShelfFault else (if n == 8 then Limit else StatesLong))))))))

named : (s : Status) → (status_of (code_of s) ≡ s) × (code_of s ≤ 9)
named Accepted = (refl, omega arith)
named Refused = (refl, omega arith)
named NotTaken = (refl, omega arith)
named BadConfiguration = (refl, omega arith)
named SourceFault = (refl, omega arith)
named SinkFault = (refl, omega arith)
named NoMemory = (refl, omega arith)
named ShelfFault = (refl, omega arith)
named Limit = (refl, omega arith)
named StatesLong = (refl, omega arith)

-- a status is known by its number
known : (s t : Status) → code_of s ≡ code_of t → s ≡ t
known s t e = sym (named s).0 ∙ ap status_of e ∙ (named t).0

same_count : (a b : ℕ) → b ≡ a → a ≤ b
same_count a b e = omega (arith, e)

-- ---- the task

pub by_work : (most : ℕ) (status : Status) (settings : Settings) (work known : Work) (old new : Outside) → work ≡ known
    → Leaves (Performs settings most known) status old new → Leaves (Performs settings most work) status old new
by_work most status settings work known old new e h = subst (λ (t : Work). Leaves (Performs settings most t) status old new) (sym e) h

-- `same` was written, or the sink failed within it
pub same_written : {E : Type 0} (settings : Settings) (states : Bytes) (most : ℕ) (old new : Outside) (r : Result (Unit {0}) E) (result : Status)
    → Judged settings states most found.Alike old.source new.source → Says old.sink.bytes new.sink.bytes old.sink.faults new.sink.faults (codes "same\n") r
    → OnOk r (result ≡ Accepted) → OnErr r (result ≡ SinkFault) → Judges settings most states old new result
same_written settings states most old new (Ok x) result j s whole broken =
    subst (Judges settings most states old new) (sym whole) (record { text = codes "same\n"; is = (j, refl); taken = s.whole; calm = s.cause.steady })
same_written settings states most old new (Err x) result j s whole broken =
    subst (Judges settings most states old new) (sym broken) (record { risen = s.cause.risen; front = s.front.0; unwritten = s.front.1; is = inl (j, sym s.front.2); taken = s.front.3 })

-- the number of the first line that differs was written, or the sink failed within it
pub difference_written : {E : Type 0} (settings : Settings) (states : Bytes) (most number : ℕ) (old new : Outside) (r : Result (Unit {0}) E) (result : Status)
    → Judged settings states most (found.Differs number) old.source new.source → Says old.sink.bytes new.sink.bytes old.sink.faults new.sink.faults (numbers_line (codes "differs") (number ∷ [])) r
    → OnOk r (result ≡ Refused) → OnErr r (result ≡ SinkFault) → Judges settings most states old new result
difference_written settings states most number old new (Ok x) result j s whole broken =
    subst (Judges settings most states old new) (sym whole) (record { text = numbers_line (codes "differs") (number ∷ []); is = (number, j, refl); taken = s.whole; calm = s.cause.steady })
difference_written settings states most number old new (Err x) result j s whole broken =
    subst (Judges settings most states old new) (sym broken) (record { risen = s.cause.risen; front = s.front.0; unwritten = s.front.1; is = inr (number, j, sym s.front.2); taken = s.front.3 })

-- the summary was written, or the sink failed within it
pub exercised : {E : Type 0} (settings : Settings) (most seed moments : ℕ) (before after : ShelfState) (so ko kn : StreamState) (text : Text) (r : Result (Unit {0}) E) (result : Status)
    → IsSummaryOf settings seed moments text → Says ko.bytes kn.bytes ko.faults kn.faults text r
    → OnOk r (result ≡ Accepted) → OnErr r (result ≡ SinkFault) → Exercises settings most seed moments (outside before so ko) (outside after so kn) result
exercised settings most seed moments before after so ko kn text (Ok x) result i s whole broken =
    subst (Exercises settings most seed moments (outside before so ko) (outside after so kn)) (sym whole)
    (refl, record { text = text; is = i; taken = s.whole; calm = s.cause.steady })
exercised settings most seed moments before after so ko kn text (Err x) result i s whole broken =
    subst (Exercises settings most seed moments (outside before so ko) (outside after so kn)) (sym broken)
    (refl, record { risen = s.cause.risen; front = s.front.0; unwritten = s.front.1; is = subst (IsSummaryOf settings seed moments) s.front.2 i; taken = s.front.3 })

-- ---- the run

module _ (most : ℕ) (words : List Text) (old new : Outside) where
  -- what a run leaves
  abbrev Left : Status → Type 0
  Left Accepted = Under words old.shelf.texts (Ends most old new Accepted)
  Left Refused = Under words old.shelf.texts (Ends most old new Refused)
  Left NotTaken = OnlyWrites (IsUsage words) old new
  Left BadConfiguration = OnlyWrites (IsCode words old.shelf.texts) old new
  Left SourceFault = Under words old.shelf.texts (Ends most old new SourceFault)
  Left SinkFault = Breaks most words old new
  Left NoMemory = IsUntouched old new
  Left ShelfFault = FetchFails words old new
  Left Limit = Under words old.shelf.texts (Ends most old new Limit)
  Left StatesLong = OnlyWrites (IsLong words old.shelf.texts) old new

  module _ (texts : new.shelf.texts ≡ old.shelf.texts) (fetches : old.shelf.faults ≤ new.shelf.faults) where
    by_status : (result : Status) → Left result → (result ≢ ShelfFault → new.shelf.faults ≡ old.shelf.faults)
        → old.source.faults ≤ new.source.faults → old.sink.faults ≤ new.sink.faults → Runs most words (code_of result) old new
    by_status result left calm reads writes = record {
      named = (named result).1;
      accepted = λ e. at Accepted e;
      refused = λ e. at Refused e;
      not_taken = λ e. at NotTaken e;
      bad_configuration = λ e. at BadConfiguration e;
      read_fault = λ e. at SourceFault e;
      write_fault = λ e. at SinkFault e;
      no_memory = λ e. at NoMemory e;
      fetch_fault = λ e. at ShelfFault e;
      limit = λ e. at Limit e;
      states_long = λ e. at StatesLong e;
      texts = texts;
      shelf_calm = λ n. calm (λ e. n (ap code_of e));
      fetches = fetches;
      reads = reads;
      writes = writes;
    }
      where
        at : (t : Status) → code_of result ≡ code_of t → Left t
        at t e = subst Left (known result t e) left

    -- ---- a task

    module _ (settings : Settings) where
      replayed : (ahead : ℕ) → Opens words old.shelf.texts (Replay ahead) settings → (s : Status) → Replays settings most ahead old new s → Left s
      replayed ahead opens Accepted r = record { task = Replay ahead; settings = settings; opens = opens; so = r }
      replayed ahead opens Refused r = record { task = Replay ahead; settings = settings; opens = opens; so = r }
      replayed ahead opens SourceFault r = record { task = Replay ahead; settings = settings; opens = opens; so = r }
      replayed ahead opens SinkFault r = inr (record { task = Replay ahead; settings = settings; opens = opens; so = r })
      replayed ahead opens Limit r = record { task = Replay ahead; settings = settings; opens = opens; so = r }
      replayed ahead opens NotTaken r = absurd r
      replayed ahead opens BadConfiguration r = absurd r
      replayed ahead opens NoMemory r = absurd r
      replayed ahead opens ShelfFault r = absurd r
      replayed ahead opens StatesLong r = absurd r

      drawn : (seed moments : ℕ) → Opens words old.shelf.texts (Exercise seed moments) settings → (s : Status) → Exercises settings most seed moments old new s → Left s
      drawn seed moments opens Accepted r = record { task = Exercise seed moments; settings = settings; opens = opens; so = r }
      drawn seed moments opens SinkFault r = inr (record { task = Exercise seed moments; settings = settings; opens = opens; so = r })
      drawn seed moments opens Refused r = absurd r
      drawn seed moments opens SourceFault r = absurd r
      drawn seed moments opens Limit r = absurd r
      drawn seed moments opens NotTaken r = absurd r
      drawn seed moments opens BadConfiguration r = absurd r
      drawn seed moments opens NoMemory r = absurd r
      drawn seed moments opens ShelfFault r = absurd r
      drawn seed moments opens StatesLong r = absurd r

      module _ (name : Text) (states : Bytes) (opens : Opens words old.shelf.texts (Judge name) settings) (held : IsHeld old.shelf.texts name states)
          (short : length states ≤ longest_text) where
        judged : (s : Status) → Judges settings most states old new s → Left s
        judged Accepted r = record { task = Judge name; settings = settings; opens = opens; so = record { states = states; held = held; short = short; so = r } }
        judged Refused r = record { task = Judge name; settings = settings; opens = opens; so = record { states = states; held = held; short = short; so = r } }
        judged SourceFault r = record { task = Judge name; settings = settings; opens = opens; so = record { states = states; held = held; short = short; so = r } }
        judged SinkFault r = inr (record { task = Judge name; settings = settings; opens = opens; so = record { states = states; held = held; short = short; so = r } })
        judged Limit r = record { task = Judge name; settings = settings; opens = opens; so = record { states = states; held = held; short = short; so = r } }
        judged NotTaken r = absurd r
        judged BadConfiguration r = absurd r
        judged NoMemory r = absurd r
        judged ShelfFault r = absurd r
        judged StatesLong r = absurd r

      asks : (task known : Task) → task ≡ known → Opens words old.shelf.texts task settings → Opens words old.shelf.texts known settings
      asks task known e o = subst (λ (t : Task). Opens words old.shelf.texts t settings) e o

      performed : (task : Task) (w : Work) (result : Status) → Opens words old.shelf.texts task settings → IsWork old.shelf.texts task w
          → Performs settings most w old new result → Left result
      performed task (work.Replay ahead) result opens is r = replayed ahead (asks task (Replay ahead) is opens) result r
      performed task (work.Exercise seed moments) result opens is r = drawn seed moments (asks task (Exercise seed moments) is opens) result r
      performed task (work.Judge states sheet) result opens (name, is, held, short) r =
          judged name states.items (asks task (Judge name) is opens) held short result r

      pub performs_runs : (task : Task) (w : Work) (result : Status) → new.shelf.faults ≡ old.shelf.faults → Opens words old.shelf.texts task settings
          → IsWork old.shelf.texts task w → Leaves (Performs settings most w) result old new → Runs most words (code_of result) old new
      performs_runs task w result calm opens is r = by_status result (performed task w result opens is r.so) (λ n. calm) r.reads r.writes

    -- ---- a run that could not be made ready

    module _ (source : new.source ≡ old.source) where
      reads : old.source.faults ≤ new.source.faults
      reads = same_count _ _ (ap (λ (x : StreamState). x.faults) source)

      broken : (text : Text) → BreaksLine old.sink new.sink text → IsLine words old.shelf.texts text → BreaksSome (IsLine words old.shelf.texts) old.sink new.sink
      broken text b is =
          let f = b.front in
          record { risen = b.risen; front = f.0; unwritten = f.1; is = subst (IsLine words old.shelf.texts) f.2 is; taken = f.3 }

      line_runs : (said : Status) (text : Text) (result : Status) → new.shelf.faults ≡ old.shelf.faults → IsLine words old.shelf.texts text
          → (Takes old.sink new.sink text → Left said) → WritesLine said old.sink new.sink text result → Runs most words (code_of result) old new
      line_runs said text result calm is whole (inl w) =
          by_status result (subst Left (sym w.0) (whole w.1)) (λ n. calm) reads (same_count _ _ w.1.calm)
      line_runs said text result calm is whole (inr w) =
          by_status result (subst Left (sym w.0) (inl (source, broken text w.1 is))) (λ n. calm) reads
          w.1.later

      pub reason_runs : (why : Unready) (result : Status) → OpensAs words old.shelf.texts (Err why) → WritesReason why old.sink new.sink result
          → (why ≡ unready.ShelfFault → HasRisen old.shelf.faults new.shelf.faults) → (why ≢ unready.ShelfFault → new.shelf.faults ≡ old.shelf.faults)
          → Runs most words (code_of result) old new
      reason_runs unready.NotTaken result opens tells risen calm =
          line_runs NotTaken usage_line result (calm (λ e. cc)) (inl (opens, refl)) (λ w. (source, record { text = usage_line; is = (opens, refl); taken = w.taken; calm = w.calm })) tells
      reason_runs (unready.Refused fault) result (code, refused, is) tells risen calm =
          line_runs BadConfiguration (numbers_line (codes "config") (code ∷ [])) result (calm (λ e. cc)) (inr (inl (code, refused, refl)))
          (λ w. (source, record { text = numbers_line (codes "config") (code ∷ []); is = (code, refused, refl); taken = w.taken; calm = w.calm }))
          (subst (λ (o : Option ℕ). WritesCode o old.sink new.sink result) is tells)
      reason_runs unready.StatesLong result opens tells risen calm =
          line_runs StatesLong long_line result (calm (λ e. cc)) (inr (inr (opens, refl))) (λ w. (source, record { text = long_line; is = (opens, refl); taken = w.taken; calm = w.calm })) tells
      reason_runs unready.ShelfFault result opens tells risen calm =
          by_status result (subst Left (sym tells.0) (record { asked = opens.0; taken = opens.1; risen = risen refl; untouched = record { source = source; sink = tells.1 } }))
          (λ n. absurd (n tells.0)) reads (same_count _ _ (ap (λ (x : StreamState). x.faults) tells.1))
      reason_runs unready.NoMemory result opens tells risen calm =
          by_status result (subst Left (sym tells.0) (record { source = source; sink = tells.1 })) (λ n. calm (λ e. cc)) reads
          (same_count _ _ (ap (λ (x : StreamState). x.faults) tells.1))
