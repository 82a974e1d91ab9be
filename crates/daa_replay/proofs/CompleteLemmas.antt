-- A run ends as the words, the shelf and the number of bytes say.
use Rattle.std.proofs.Common.{◌≡◌, ◌<◌, ◌≤◌, ◌⊎◌, ℕ, Bool, true, false, List, [], ◌∷◌, ◌++◌, length, Option, None, Some, Ok, Err, refl, zero, suc, sym, ap, subst, ◌∙◌, arith, inl, inr, length-append}
use Rattle.std.specs.Io.KnownBytes.{Consumes}
use Rattle.std.specs.Prelude.{IsSomeAnd, take}
use Rattle.daa_io.specs.Shelf.{Texts, longest_text}
use Rattle.daa_judge.specs.declared.found.Found.TheVariants as found
use Rattle.daa_io.specs.Faults.{HasRisen}
use Rattle.daa_ahead.specs.Bytes.{StreamState, IsSpent}
use Rattle.daa_ahead.specs.Moves.{PassesMost}
use Rattle.daa_config.specs.ConfigOf.{config_of}
use Rattle.daa_config.specs.Settings.{Settings}
use Rattle.daa_lines.specs.LinesOf.{Bytes}
use Rattle.daa_report.specs.Lines.{Text}
use Rattle.daa_words.specs.Order.{Asked, order_of}
use Rattle.daa_words.specs.Task.{Task, Replay, Exercise, Judge}
use Rattle.daa_replay.specs.Outside.{Outside, TakesSome, OnlyBreaks}
use Rattle.daa_replay.specs.Judge.{IsSame, IsDifference, WritesNothing}
use Rattle.daa_replay.specs.Opening.{IsHeld, Opens, OpensLong, IsRefused, HoldsNone, HoldsNoStates}
use Rattle.daa_replay.specs.Inside.Opening.{IsHeldLong}
use Rattle.daa_replay.specs.Moment.{IsReportOf}
use Rattle.daa_replay.specs.Replay.{Reports, ReportsAll}
use Rattle.daa_replay.specs.Run.{Under, IsLine, Runs, Breaks}
use Rattle.daa_replay.specs.Tasks.{OfStates, Ends}
use Rattle.daa_replay.specs.declared.status.Status.TheVariants.{Accepted, Refused, SourceFault, SinkFault, Limit}
use Rattle.daa_replay.specs.Complete.{RunsAreComplete, EndsAsGiven, Decides, IsQuiet, HoldsAccepted, HoldsStates, HoldsLong}
use Rattle.daa_replay.proofs.ComparedLemmas.{same_all, same_short, other_all, other_long, passes_long, passes_begins}

-- ---- how many bytes there were

-- at least the bytes that were handed out were there
handed_size : (a b : Option (List ℕ)) (all bytes : Bytes) → a ≡ Some all → Consumes a b bytes → length bytes ≤ length all
handed_size None b all bytes e h = cc
handed_size (Some xs) None all bytes e h = absurd h
handed_size (Some xs) (Some ys) all bytes e h =
    let same : xs ≡ all = cc in
    omega (arith, ap length h, ap length same, length-append bytes ys)

-- where none is left, no more
spent_size : (a b : Option (List ℕ)) (all bytes : Bytes) → a ≡ Some all → Consumes a b bytes → IsSpent a b → length all ≡ length bytes
spent_size None b all bytes e h s = cc
spent_size (Some xs) None all bytes e h s = absurd h
spent_size (Some xs) (Some ys) all bytes e h s =
    let same : xs ≡ all = cc in
    let none : ys ≡ [] = cc in
    omega (arith, ap length h, ap length same, ap length none, length-append bytes ys)

module _ (settings : Settings) (most : ℕ) (old new : Outside) (all : Bytes) (told : old.source.bytes ≡ Some all) where
  pub short : (refused : Bool) → ReportsAll settings most old new refused → length all ≤ most
  short refused r =
      let p = r.reports in
      let size = spent_size old.source.bytes new.source.bytes all p.bytes told p.read.handed p.read.over in
      omega (arith, p.bound)

  pub long : Reports settings most old new (PassesMost most) false → most < length all
  long p =
      let size = handed_size old.source.bytes new.source.bytes all (p.bytes ++ p.read.next ∷ []) told p.read.handed in
      omega (arith, p.read.full, length-append p.bytes (p.read.next ∷ []))

-- ---- words are taken or not, a text is held or not, and it is accepted or refused

module _ (words : List Text) where
  taken_twice : (a b : Asked) → order_of words ≡ Some a → order_of words ≡ Some b → a ≡ b
  taken_twice a b h k =
      let e : Some a ≡ Some b = sym h ∙ k in
      cc

  not_taken_now : (a : Asked) → order_of words ≡ None → order_of words ≡ Some a → ⊥
  not_taken_now a h k =
      let e : None ≡ Some a = sym h ∙ k in
      cc

  held_once : (texts : Option Texts) (held : Texts) (a b : Asked) (s t : Text) → texts ≡ Some held → a ≡ b
      → IsHeld texts a.config s → IsHeld texts b.config t → s ≡ t
  held_once None held a b s t e same h k = cc
  held_once (Some other) held a b s t e same h k =
      let f : Some s ≡ Some t = sym h ∙ ap (λ (x : Asked). other x.config) same ∙ k in
      cc

  -- a shelf that tells its texts gives the words one text
  same_text : (texts : Option Texts) (held : Texts) (a b : Asked) (s t : Text) → texts ≡ Some held → order_of words ≡ Some a → order_of words ≡ Some b
      → IsHeld texts a.config s → IsHeld texts b.config t → s ≡ t
  same_text texts held a b s t told h k = held_once texts held a b s t told (taken_twice a b h k)

  not_held : (texts : Option Texts) (held : Texts) (a b : Asked) (s : Text) → texts ≡ Some held → a ≡ b → held a.config ≡ None → IsHeld texts b.config s → ⊥
  not_held None held a b s e same none h = cc
  not_held (Some other) held a b s e same none h =
      let f : other ≡ held = cc in
      let g : None ≡ Some s = sym none ∙ ap (λ (x : Texts). x a.config) (sym f) ∙ ap (λ (x : Asked). other x.config) same ∙ h in
      cc

  pub one_task : (texts : Option Texts) (task other : Task) (a b : Settings) → Opens words texts task a → Opens words texts other b → task ≡ other
  one_task texts task other a b h k = sym h.wanted ∙ ap (λ (x : Asked). x.task) (taken_twice h.asked k.asked h.taken k.taken) ∙ k.wanted

  -- a comparison is neither a replay nor an exercise
  pub no_judge_replay : (texts : Option Texts) (ahead : ℕ) (name : Text) (a b : Settings) → Opens words texts (Replay ahead) a → Opens words texts (Judge name) b → ⊥
  no_judge_replay texts ahead name a b h k =
      let e : Replay ahead ≡ Judge name = one_task texts (Replay ahead) (Judge name) a b h k in
      cc

  pub no_judge_exercise : (texts : Option Texts) (seed moments : ℕ) (name : Text) (a b : Settings) → Opens words texts (Exercise seed moments) a → Opens words texts (Judge name) b → ⊥
  no_judge_exercise texts seed moments name a b h k =
      let e : Exercise seed moments ≡ Judge name = one_task texts (Exercise seed moments) (Judge name) a b h k in
      cc

  pub one_name : (texts : Option Texts) (m n : Text) (a b : Settings) → Opens words texts (Judge m) a → Opens words texts (Judge n) b → m ≡ n
  one_name texts m n a b h k =
      let e : Judge m ≡ Judge n = one_task texts (Judge m) (Judge n) a b h k in
      cc

  pub one_configuration : (texts : Option Texts) (held : Texts) (task other_task : Task) (settings other : Settings) → texts ≡ Some held
      → Opens words texts task settings → Opens words texts other_task other → settings ≡ other
  one_configuration texts held task other_task settings other told h k =
      let same = same_text texts held h.asked k.asked h.text k.text told h.taken k.taken h.held k.held in
      let e : Ok settings ≡ Ok other = sym h.accepted ∙ ap config_of same ∙ k.accepted in
      cc

  open_or_refused : (texts : Option Texts) (held : Texts) (task : Task) (settings : Settings) (code : ℕ) → texts ≡ Some held
      → Opens words texts task settings → IsRefused words texts code → ⊥
  open_or_refused texts held task settings code told h k =
      let same = same_text texts held h.asked k.asked h.text k.text told h.taken k.taken h.held k.held in
      let e : Ok settings ≡ Err k.fault = sym h.accepted ∙ ap config_of same ∙ k.refused in
      cc

  open_or_missing : (texts : Option Texts) (task : Task) (settings : Settings) → Opens words texts task settings → HoldsNone words texts → ⊥
  open_or_missing texts task settings h m = not_held texts m.held m.asked h.asked h.text m.told (taken_twice m.asked h.asked m.taken h.taken) m.missing h.held

  held_same : (texts : Option Texts) (held : Texts) (m n s t : Text) → texts ≡ Some held → m ≡ n → IsHeld texts m s → IsHeld texts n t → s ≡ t
  held_same None held m n s t e same h k = cc
  held_same (Some other) held m n s t e same h k =
      let f : Some s ≡ Some t = sym h ∙ ap other same ∙ k in
      cc

  held_or_long : (texts : Option Texts) (held : Texts) (m n s : Text) → texts ≡ Some held → m ≡ n → IsHeld texts m s → length s ≤ longest_text → IsHeldLong texts n → ⊥
  held_or_long None held m n s e same h short k = cc
  held_or_long (Some other) held m n s e same h short k =
      let f : other n ≡ Some s = ap other (sym same) ∙ h in
      let l : longest_text < length s = subst (λ (o : Option Text). IsSomeAnd o (λ text. longest_text < length text)) f k in
      absurd (omega (arith, l))

  held_or_none : (texts : Option Texts) (held : Texts) (m n s : Text) → texts ≡ Some held → m ≡ n → IsHeld texts m s → held n ≡ None → ⊥
  held_or_none None held m n s e same h k = cc
  held_or_none (Some other) held m n s e same h k =
      let f : other ≡ held = cc in
      let g : Some s ≡ None = sym h ∙ ap other same ∙ ap (λ (x : Texts). x n) f ∙ k in
      cc

  long_or_none : (texts : Option Texts) (held : Texts) (m n : Text) → texts ≡ Some held → m ≡ n → IsHeldLong texts m → held n ≡ None → ⊥
  long_or_none None held m n e same h k = cc
  long_or_none (Some other) held m n e same h k =
      let f : other ≡ held = cc in
      let g : other m ≡ None = ap other same ∙ ap (λ (x : Texts). x n) f ∙ k in
      subst (λ (o : Option Text). IsSomeAnd o (λ text. longest_text < length text)) g h

  refused_or_missing : (texts : Option Texts) (code : ℕ) → IsRefused words texts code → HoldsNone words texts → ⊥
  refused_or_missing texts code h m = not_held texts m.held m.asked h.asked h.text m.told (taken_twice m.asked h.asked m.taken h.taken) m.missing h.held

-- ---- by the status

-- the ten statuses
by_status : (status : ℕ) (G : Type 0) → status ≤ 9
    → (status ≡ 0 → G) → (status ≡ 1 → G) → (status ≡ 2 → G) → (status ≡ 3 → G) → (status ≡ 4 → G)
    → (status ≡ 5 → G) → (status ≡ 6 → G) → (status ≡ 7 → G) → (status ≡ 8 → G) → (status ≡ 9 → G) → G
by_status zero G b s0 s1 s2 s3 s4 s5 s6 s7 s8 s9 = s0 refl
by_status (suc zero) G b s0 s1 s2 s3 s4 s5 s6 s7 s8 s9 = s1 refl
by_status (suc (suc zero)) G b s0 s1 s2 s3 s4 s5 s6 s7 s8 s9 = s2 refl
by_status (suc (suc (suc zero))) G b s0 s1 s2 s3 s4 s5 s6 s7 s8 s9 = s3 refl
by_status (suc (suc (suc (suc zero)))) G b s0 s1 s2 s3 s4 s5 s6 s7 s8 s9 = s4 refl
by_status (suc (suc (suc (suc (suc zero))))) G b s0 s1 s2 s3 s4 s5 s6 s7 s8 s9 = s5 refl
by_status (suc (suc (suc (suc (suc (suc zero)))))) G b s0 s1 s2 s3 s4 s5 s6 s7 s8 s9 = s6 refl
by_status (suc (suc (suc (suc (suc (suc (suc zero))))))) G b s0 s1 s2 s3 s4 s5 s6 s7 s8 s9 = s7 refl
by_status (suc (suc (suc (suc (suc (suc (suc (suc zero)))))))) G b s0 s1 s2 s3 s4 s5 s6 s7 s8 s9 = s8 refl
by_status (suc (suc (suc (suc (suc (suc (suc (suc (suc zero))))))))) G b s0 s1 s2 s3 s4 s5 s6 s7 s8 s9 = s9 refl
by_status (suc (suc (suc (suc (suc (suc (suc (suc (suc (suc n)))))))))) G b s0 s1 s2 s3 s4 s5 s6 s7 s8 s9 = absurd (omega (arith, b))

module _ (most status : ℕ) (words : List Text) (old new : Outside) (r : Runs most words status old new) where
  abbrev Left : (Task → Settings → Type 0) → Type 0
  Left P = Under words old.shelf.texts P

  -- where something was read or an exercise ended, there was a configuration
  opened_refused : (P : Task → Settings → Type 0) (held : Texts) (code : ℕ) → old.shelf.texts ≡ Some held → Left P → IsRefused words old.shelf.texts code → ⊥
  opened_refused P held code told u k = open_or_refused words old.shelf.texts held u.task u.settings code told u.opens k

  opened_missing : (P : Task → Settings → Type 0) → Left P → HoldsNone words old.shelf.texts → ⊥
  opened_missing P u m = open_or_missing words old.shelf.texts u.task u.settings u.opens m

  not_taken_here : (P : Task → Settings → Type 0) → order_of words ≡ None → Left P → ⊥
  not_taken_here P n u = not_taken_now words u.opens.asked n u.opens.taken

  -- the source failed
  risen_of : (task : Task) (settings : Settings) → Ends most old new SourceFault task settings → HasRisen old.source.faults new.source.faults
  risen_of (Replay ahead) settings f = f.read.risen
  risen_of (Exercise seed moments) settings f = absurd f
  risen_of (Judge name) settings f = f.so.judged.finds.1.risen

  read_risen : status ≡ 4 → HasRisen old.source.faults new.source.faults
  read_risen e = let u = r.read_fault e in risen_of u.task u.settings u.so

  -- the sink failed
  broken_of : (task : Task) (settings : Settings) → Ends most old new SinkFault task settings → HasRisen old.sink.faults new.sink.faults
  broken_of (Replay ahead) settings f = f.written.risen
  broken_of (Exercise seed moments) settings f = f.1.risen
  broken_of (Judge name) settings f = f.so.risen

  write_risen : status ≡ 5 → HasRisen old.sink.faults new.sink.faults
  write_risen e = go (r.write_fault e)
    where
      go : Breaks most words old new → HasRisen old.sink.faults new.sink.faults
      go (inl l) = l.1.risen
      go (inr u) = broken_of u.task u.settings u.so

  -- the sink failed: while which text
  broken : (G : Type 0) (b : Breaks most words old new) → (order_of words ≡ None → G) → ((code : ℕ) → IsRefused words old.shelf.texts code → G)
      → (OpensLong words old.shelf.texts → G) → (Left (Ends most old new SinkFault) → G) → G
  broken G b usage code long under = go b
    where
      of_line : (line : Text) → IsLine words old.shelf.texts line → G
      of_line line (inl u) = usage u.0
      of_line line (inr (inl c)) = code c.0 c.1
      of_line line (inr (inr l)) = long l.0

      go : OnlyBreaks (IsLine words old.shelf.texts) old new ⊎ Left (Ends most old new SinkFault) → G
      go (inl l) = of_line (l.1.front ++ l.1.unwritten) l.1.is
      go (inr u) = under u

  -- the words ask for this task
  module _ (task : Task) (settings : Settings) (opens : Opens words old.shelf.texts task settings) where
    of_task : (P : Task → Settings → Type 0) (u : Left P) → P task u.settings
    of_task P u = subst (λ (t : Task). P t u.settings) (one_task words old.shelf.texts u.task task u.settings settings u.opens opens) u.so

  -- a replay with an accepted configuration
  module _ (ahead : ℕ) (o : HoldsAccepted words old.shelf.texts (Replay ahead)) (q : IsQuiet old new) where
    by_bytes : (G : Type 0) → ((s : Settings) → ReportsAll s most old new false → status ≡ 0 → G)
        → ((s : Settings) → ReportsAll s most old new true → status ≡ 1 → G)
        → (status ≡ 6 → G)
        → ((s : Settings) → Reports s most old new (PassesMost most) false → status ≡ 8 → G) → G
    by_bytes G s0 s1 s6 s8 = by_status status G r.named
        (λ e. let u = r.accepted e in s0 u.settings (of_task (Replay ahead) o.settings o.opens (Ends most old new Accepted) u) e)
        (λ e. let u = r.refused e in s1 u.settings (of_task (Replay ahead) o.settings o.opens (Ends most old new Refused) u) e)
        (λ e. absurd (not_taken_now words o.opens.asked (r.not_taken e).1.is.0 o.opens.taken))
        (λ e. let u = (r.bad_configuration e).1.is in absurd (open_or_refused words _ o.held _ o.settings u.0 o.told o.opens u.1))
        (λ e. absurd (q.source (read_risen e)))
        (λ e. absurd (q.sink (write_risen e)))
        s6
        (λ e. absurd (q.shelf (r.fetch_fault e).risen))
        (λ e. let u = r.limit e in s8 u.settings (of_task (Replay ahead) o.settings o.opens (Ends most old new Limit) u) e)
        (λ e. let u = (r.states_long e).1.is.0 in absurd (no_judge_replay words old.shelf.texts ahead u.name o.settings u.settings o.opens u.opens))

  -- an exercise with an accepted configuration
  module _ (seed moments : ℕ) (o : HoldsAccepted words old.shelf.texts (Exercise seed moments)) (q : IsQuiet old new) where
    ended : (status ≡ 0) ⊎ (status ≡ 6)
    ended = by_status status _ r.named
        (λ e. inl e)
        (λ e. absurd (of_task (Exercise seed moments) o.settings o.opens (Ends most old new Refused) (r.refused e)))
        (λ e. absurd (not_taken_now words o.opens.asked (r.not_taken e).1.is.0 o.opens.taken))
        (λ e. let u = (r.bad_configuration e).1.is in absurd (open_or_refused words _ o.held _ o.settings u.0 o.told o.opens u.1))
        (λ e. absurd (of_task (Exercise seed moments) o.settings o.opens (Ends most old new SourceFault) (r.read_fault e)))
        (λ e. absurd (q.sink (write_risen e)))
        (λ e. inr e)
        (λ e. absurd (q.shelf (r.fetch_fault e).risen))
        (λ e. absurd (of_task (Exercise seed moments) o.settings o.opens (Ends most old new Limit) (r.limit e)))
        (λ e. let u = (r.states_long e).1.is.0 in absurd (no_judge_exercise words old.shelf.texts seed moments u.name o.settings u.settings o.opens u.opens))

  -- a comparison with states that the shelf holds
  module _ (settings : Settings) (states : Text) (o : HoldsStates words old.shelf.texts settings states) where
    -- the configuration and the states are the only ones
    here : (P : Settings → Bytes → Type 0) (Q : Task → Settings → Type 0) (u : Left Q) → OfStates old.shelf.texts o.opens.name (P u.settings) → P settings states
    here P Q u t =
        let same = one_configuration words old.shelf.texts o.held u.task (Judge o.opens.name) u.settings settings o.told u.opens o.opens.opens in
        let held = held_same words old.shelf.texts o.held o.opens.name o.opens.name t.states states o.told refl t.held o.opens.held in
        subst (λ (x : Text). P settings x) held (subst (λ (x : Settings). P x t.states) same t.so)

    same_here : status ≡ 0 → TakesSome (IsSame settings most old new states) old.sink new.sink
    same_here e =
        let u = r.accepted e in
        here (λ s t. TakesSome (IsSame s most old new t) old.sink new.sink) (Ends most old new Accepted) u
        (of_task (Judge o.opens.name) settings o.opens.opens (Ends most old new Accepted) u)

    other_here : status ≡ 1 → TakesSome (IsDifference settings most old new states) old.sink new.sink
    other_here e =
        let u = r.refused e in
        here (λ s t. TakesSome (IsDifference s most old new t) old.sink new.sink) (Ends most old new Refused) u
        (of_task (Judge o.opens.name) settings o.opens.opens (Ends most old new Refused) u)

    limit_here : status ≡ 8 → WritesNothing settings most old new found.Limit states
    limit_here e =
        let u = r.limit e in
        here (λ s t. WritesNothing s most old new found.Limit t) (Ends most old new Limit) u
        (of_task (Judge o.opens.name) settings o.opens.opens (Ends most old new Limit) u)

    by_finding : (G : Type 0) → IsQuiet old new → (status ≡ 0 → G) → (status ≡ 1 → G) → (status ≡ 6 → G) → (status ≡ 8 → G) → G
    by_finding G q s0 s1 s6 s8 = by_status status G r.named
        s0
        s1
        (λ e. absurd (not_taken_now words o.opens.opens.asked (r.not_taken e).1.is.0 o.opens.opens.taken))
        (λ e. let u = (r.bad_configuration e).1.is in absurd (open_or_refused words _ o.held _ settings u.0 o.told o.opens.opens u.1))
        (λ e. absurd (q.source (read_risen e)))
        (λ e. absurd (q.sink (write_risen e)))
        s6
        (λ e. absurd (q.shelf (r.fetch_fault e).risen))
        s8
        (λ e. let u = (r.states_long e).1.is.0 in
        absurd (held_or_long words old.shelf.texts o.held o.opens.name u.name states o.told
        (one_name words old.shelf.texts o.opens.name u.name settings u.settings o.opens.opens u.opens) o.opens.held o.opens.short u.long))

    module _ (all : Bytes) (told : old.source.bytes ≡ Some all) where
      abbrev so : StreamState
      so = old.source

      abbrev sn : StreamState
      sn = new.source

      decides : Decides most status old new settings states all
      decides = record {
        same = λ e. let j = (same_here e).is.0 in
            subst (λ (x : Text). IsReportOf settings states true x) (sym (same_all j.report.one most so sn all told j.finds)) j.report.is;
        other = λ e is. let t = (other_here e).is in let j = t.1 in other_all j.report.one most so sn all told t.0 j.finds (j.report.only all is);
        short = λ q few. by_finding _ q inl (λ e. inr (inl e)) (λ e. inr (inr e))
            (λ e. let j = (limit_here e).judged in let l = passes_long j.report.one most so sn all told j.finds in absurd (omega (arith, few, l)));
        long = λ q many. by_finding _ q
            (λ e. let j = (same_here e).is.0 in let l = same_short j.report.one most so sn all told j.finds in absurd (omega (arith, many, l)))
            (λ e. inr (inl e)) (λ e. inr (inr e)) inl;
        begins = λ e. let j = (limit_here e).judged in let b = passes_begins j.report.one most so sn all told j.finds in
            (b.0, subst (λ (x : Text). IsReportOf settings states true x) b.1 j.report.is);
        parts = λ e many b. let t = (other_here e).is in let j = t.1 in
            other_long j.report.one most so sn all told t.0 j.finds many (b.0, sym (j.report.only (take most all ++ b.0) b.1));
      }

  -- a comparison with states that are too long
  module _ (o : HoldsLong words old.shelf.texts) where
    long_here : (P : Bytes → Type 0) → OfStates old.shelf.texts o.opens.name P → ⊥
    long_here P t = held_or_long words old.shelf.texts o.held o.opens.name o.opens.name t.states o.told refl t.held t.short o.opens.long

    long_ends : (status ≡ 5) ⊎ ((status ≡ 6) ⊎ ((status ≡ 7) ⊎ (status ≡ 9)))
    long_ends = by_status status _ r.named
        (λ e. absurd (long_here _ (of_task (Judge o.opens.name) o.opens.settings o.opens.opens (Ends most old new Accepted) (r.accepted e))))
        (λ e. absurd (long_here _ (of_task (Judge o.opens.name) o.opens.settings o.opens.opens (Ends most old new Refused) (r.refused e))))
        (λ e. absurd (not_taken_now words o.opens.opens.asked (r.not_taken e).1.is.0 o.opens.opens.taken))
        (λ e. let u = (r.bad_configuration e).1.is in absurd (open_or_refused words _ o.held _ o.opens.settings u.0 o.told o.opens.opens u.1))
        (λ e. absurd (long_here _ (of_task (Judge o.opens.name) o.opens.settings o.opens.opens (Ends most old new SourceFault) (r.read_fault e))))
        (λ e. inl e)
        (λ e. inr (inl e))
        (λ e. inr (inr (inl e)))
        (λ e. absurd (long_here _ (of_task (Judge o.opens.name) o.opens.settings o.opens.opens (Ends most old new Limit) (r.limit e))))
        (λ e. inr (inr (inr e)))

  -- a comparison with states that are not there
  module _ (o : HoldsNoStates words old.shelf.texts) where
    none_here : (P : Bytes → Type 0) → OfStates old.shelf.texts o.name P → ⊥
    none_here P t = held_or_none words old.shelf.texts o.held o.name o.name t.states o.told refl t.held o.missing

    none_long : OpensLong words old.shelf.texts → ⊥
    none_long u = long_or_none words old.shelf.texts o.held u.name o.name o.told
        (one_name words old.shelf.texts u.name o.name u.settings o.settings u.opens o.opens) u.long o.missing

    none_refused : (code : ℕ) → IsRefused words old.shelf.texts code → ⊥
    none_refused code k = open_or_refused words old.shelf.texts o.held (Judge o.name) o.settings code o.told o.opens k

    none_ends : (status ≡ 6) ⊎ (status ≡ 7)
    none_ends = by_status status _ r.named
        (λ e. absurd (none_here _ (of_task (Judge o.name) o.settings o.opens (Ends most old new Accepted) (r.accepted e))))
        (λ e. absurd (none_here _ (of_task (Judge o.name) o.settings o.opens (Ends most old new Refused) (r.refused e))))
        (λ e. absurd (not_taken_now words o.opens.asked (r.not_taken e).1.is.0 o.opens.taken))
        (λ e. absurd (none_refused (r.bad_configuration e).1.is.0 (r.bad_configuration e).1.is.1))
        (λ e. absurd (none_here _ (of_task (Judge o.name) o.settings o.opens (Ends most old new SourceFault) (r.read_fault e))))
        (λ e. absurd (broken ⊥ (r.write_fault e) (λ n. not_taken_now words o.opens.asked n o.opens.taken) none_refused none_long
        (λ u. none_here _ (of_task (Judge o.name) o.settings o.opens (Ends most old new SinkFault) u))))
        (λ e. inl e)
        (λ e. inr e)
        (λ e. absurd (none_here _ (of_task (Judge o.name) o.settings o.opens (Ends most old new Limit) (r.limit e))))
        (λ e. absurd (none_long (r.states_long e).1.is.0))

  pub ends_as_given : EndsAsGiven most words status old new
  ends_as_given = record {
    short = λ all o le. by_bytes o.ahead o.accepted o.quiet _ (λ s u e. inl e) (λ s u e. inr (inl e)) (λ e. inr (inr e))
        (λ s u e. let l = long s most old new all o.told u in absurd (omega (arith, le)));
    long = λ all o lt. by_bytes o.ahead o.accepted o.quiet _
        (λ s u e. let l = short s most old new all o.told _ u in absurd (omega (arith, lt)))
        (λ s u e. let l = short s most old new all o.told _ u in absurd (omega (arith, lt)))
        (λ e. inr e) (λ s u e. inl e);
    exercise = ended;
    compared = λ settings states all o. decides settings states o.held all o.told;
    states_long = long_ends;
    no_states = none_ends;
    not_taken = λ n. by_status status _ r.named
        (λ e. absurd (not_taken_here _ n (r.accepted e)))
        (λ e. absurd (not_taken_here _ n (r.refused e)))
        (λ e. inl e)
        (λ e. let u = (r.bad_configuration e).1.is in absurd (not_taken_now words u.1.asked n u.1.taken))
        (λ e. absurd (not_taken_here _ n (r.read_fault e)))
        (λ e. inr (inl e))
        (λ e. inr (inr e))
        (λ e. let u = r.fetch_fault e in absurd (not_taken_now words u.asked n u.taken))
        (λ e. absurd (not_taken_here _ n (r.limit e)))
        (λ e. let u = (r.states_long e).1.is.0 in absurd (not_taken_now words u.opens.asked n u.opens.taken));
    rejected = λ k. by_status status _ r.named
        (λ e. absurd (opened_refused _ k.held k.code k.told (r.accepted e) k.refused))
        (λ e. absurd (opened_refused _ k.held k.code k.told (r.refused e) k.refused))
        (λ e. absurd (not_taken_now words k.refused.asked (r.not_taken e).1.is.0 k.refused.taken))
        (λ e. inl e)
        (λ e. absurd (opened_refused _ k.held k.code k.told (r.read_fault e) k.refused))
        (λ e. inr (inl e))
        (λ e. inr (inr (inl e)))
        (λ e. inr (inr (inr e)))
        (λ e. absurd (opened_refused _ k.held k.code k.told (r.limit e) k.refused))
        (λ e. let u = (r.states_long e).1.is.0 in absurd (open_or_refused words _ k.held (Judge u.name) u.settings k.code k.told u.opens k.refused));
    missing = λ m. by_status status _ r.named
        (λ e. absurd (opened_missing _ (r.accepted e) m))
        (λ e. absurd (opened_missing _ (r.refused e) m))
        (λ e. absurd (not_taken_now words m.asked (r.not_taken e).1.is.0 m.taken))
        (λ e. let u = (r.bad_configuration e).1.is in absurd (refused_or_missing words _ u.0 u.1 m))
        (λ e. absurd (opened_missing _ (r.read_fault e) m))
        (λ e. absurd (broken ⊥ (r.write_fault e)
        (λ n. not_taken_now words m.asked n m.taken)
        (λ code k. refused_or_missing words _ code k m)
        (λ u. open_or_missing words _ (Judge u.name) u.settings u.opens m)
        (λ u. opened_missing _ u m)))
        (λ e. inl e)
        (λ e. inr e)
        (λ e. absurd (opened_missing _ (r.limit e) m))
        (λ e. let u = (r.states_long e).1.is.0 in absurd (open_or_missing words _ (Judge u.name) u.settings u.opens m));
    no_read_fault = λ calm e. calm (read_risen e);
    no_write_fault = λ calm e. calm (write_risen e);
    no_fetch_fault = λ calm e. calm (r.fetch_fault e).risen;
  }

pub runs_complete : RunsAreComplete
runs_complete most status words old new r = ends_as_given most status words old new r
