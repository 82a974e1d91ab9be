-- A configuration that is too long, and what is left where a run without one says why.
use Rattle.std.proofs.Common.{◌≡◌, ◌≢◌, ◌<◌, ℕ, List, subst, length, replicate, Option, None, Some, Result, Ok, Err, refl, arith, inl, inr}
use Rattle.std.specs.Prelude.{IfSome, IsSomeAnd, OnErr, OnOk}
use Rattle.std.proofs.lemmas.Bool.{lt-ltb}
use Rattle.std.proofs.lemmas.List.{length-replicate}
use Rattle.daa_io.specs.Shelf.{Texts, longest_text}
use Rattle.daa_io.specs.declared.shelf.FetchFault.{FetchFault}
use Rattle.daa_io.specs.declared.shelf.FetchFault.TheVariants as fetch
use Rattle.daa_config.specs.declared.fault.ConfigFault.{ConfigFault}
use Rattle.daa_config.specs.declared.fault.ConfigFault.TheVariants.{TooLong}
use Rattle.daa_config.specs.declared.fault.ConfigFault.TheVariants as config_fault
use Rattle.daa_config.specs.ConfigOf.{config_of}
use Rattle.daa_report.specs.Lines.{Text}
use Rattle.daa_report.specs.Says.{Says}
use Rattle.daa_replay.specs.declared.status.Status.{Status}
use Rattle.daa_replay.specs.declared.status.Status.TheVariants.{SinkFault}
use Rattle.daa_ahead.specs.Bytes.{StreamState}
use Rattle.daa_config.specs.Settings.{Settings}
use Rattle.daa_engine.specs.EngineState.{EngineState}
use Rattle.daa_words.specs.Order.{Asked, order_of}
use Rattle.daa_words.specs.Task.{Task, Judge}
use Rattle.daa_replay.specs.declared.opening.Ready.{Ready}
use Rattle.daa_replay.specs.declared.opening.Unready.{Unready}
use Rattle.daa_replay.specs.declared.opening.Unready.TheVariants as unready
use Rattle.daa_replay.specs.declared.opening.Work.{Work}
use Rattle.daa_replay.specs.Opening.{Opens}
use Rattle.daa_replay.specs.Inside.Opening.{FetchesAs, MakesReady, OpensAs, PreparesAs, ReadsAs, cause_of_fetch, unready_of}
use Rattle.daa_replay.specs.Inside.Status.{WritesLine}

too_long : (text : Text) → longest_text < length text → config_of text ≡ Err TooLong
unfolding config_of
too_long text h = rw (lt-ltb longest_text (length text) h) refl

-- a text that is too long to be fetched is refused as one; where the shelf tells no text, some long text is
pub refused_long : (texts : Option Texts) (name : Text)
    → IfSome texts (λ held. IsSomeAnd (held name) (λ text. longest_text < length text)) → FetchesAs texts name (Err (unready_of TooLong))
refused_long None name h =
    let text : Text = replicate 65537 0 in
    (text, tt, (1, too_long text (omega (arith, length-replicate {A = ℕ} 65537 0)), refl))
refused_long (Some held) name h = go (held name) refl h
  where
    go : (found : Option Text) → held name ≡ found → IsSomeAnd found (λ text. longest_text < length text) → FetchesAs (Some held) name (Err (unready_of TooLong))
    go None e k = absurd k
    go (Some text) e k = (text, e, (1, too_long text k, refl))

-- a text is refused for a fault, or there was no memory
pub refused_as : (text : Text) (fault : ConfigFault) → (fault ≢ config_fault.NoMemory → config_of text ≡ Err fault) → ReadsAs text (Err (unready_of fault))
refused_as text TooLong h = (1, h (λ e. cc), refl)
refused_as text config_fault.NotToml h = (2, h (λ e. cc), refl)
refused_as text config_fault.UnknownKey h = (3, h (λ e. cc), refl)
refused_as text config_fault.MissingKey h = (4, h (λ e. cc), refl)
refused_as text config_fault.NotNumber h = (5, h (λ e. cc), refl)
refused_as text config_fault.OutOfRange h = (6, h (λ e. cc), refl)
refused_as text config_fault.Levels h = (7, h (λ e. cc), refl)
refused_as text config_fault.TooMany h = (8, h (λ e. cc), refl)
refused_as text config_fault.NoMemory h = tt

-- ---- why there is no text

-- no configuration
pub no_text : (texts : Option Texts) (name : Text) (why : FetchFault) → (why ≡ fetch.TooLong → IfSome texts (λ held. IsSomeAnd (held name) (λ text. longest_text < length text)))
    → FetchesAs texts name (Err (cause_of_fetch (unready_of TooLong) why))
no_text texts name fetch.TooLong h = refused_long texts name (h refl)
no_text texts name fetch.Failed h = tt
no_text texts name fetch.NoMemory h = tt

-- ---- what is made ready

-- no engine was made
pub no_engine : (texts : Option Texts) (asked : Asked) (why : Unready) → FetchesAs texts asked.config (Err why) → MakesReady texts asked (Err why)
no_engine texts asked unready.NotTaken h = h
no_engine texts asked (unready.Refused fault) h = h
no_engine texts asked unready.StatesLong h = absurd h
no_engine texts asked unready.ShelfFault h = tt
no_engine texts asked unready.NoMemory h = tt

-- an engine was made, and no work
pub no_work : (texts now : Option Texts) (asked : Asked) (settings : Settings) (why : Unready) → now ≡ texts → FetchesAs texts asked.config (Ok settings)
    → PreparesAs now asked.task (Err why) → MakesReady texts asked (Err why)
no_work texts now asked settings unready.NotTaken e f h = h
no_work texts now asked settings (unready.Refused fault) e f h = absurd h
no_work texts now asked settings unready.StatesLong e f h = (settings, f, subst (λ (x : Option Texts). PreparesAs x asked.task (Err unready.StatesLong)) e h)
no_work texts now asked settings unready.ShelfFault e f h = tt
no_work texts now asked settings unready.NoMemory e f h = tt

pub made : (texts now : Option Texts) (asked : Asked) (engine : EngineState) (w : Work) → now ≡ texts → FetchesAs texts asked.config (Ok engine.settings)
    → PreparesAs now asked.task (Ok w) → MakesReady texts asked (Ok (record { engine = engine; work = w }))
made texts now asked engine w e f h = (f, subst (λ (x : Option Texts). PreparesAs x asked.task (Ok w)) e h)

-- what is asked is what the words ask for
opens_here : (words : List Text) (texts : Option Texts) (asked : Asked) (task : Task) (settings : Settings) → order_of words ≡ Some asked → asked.task ≡ task
    → FetchesAs texts asked.config (Ok settings) → Opens words texts task settings
opens_here words texts asked task settings taken wanted (text, held, reads) =
    record { asked = asked; taken = taken; wanted = wanted; text = text; held = held; accepted = reads }

pub opened_by : (words : List Text) (texts : Option Texts) (asked : Asked) (r : Result Ready Unready) → order_of words ≡ Some asked → MakesReady texts asked r → OpensAs words texts r
opened_by words texts asked (Ok ready) taken h = (asked.task, opens_here words texts asked asked.task ready.engine.settings taken refl h.0, h.1)
opened_by words texts asked (Err unready.NotTaken) taken h = absurd h
opened_by words texts asked (Err (unready.Refused fault)) taken (text, held, reads) =
    (reads.0, record { asked = asked; taken = taken; text = text; held = held; fault = fault; refused = reads.1; numbered = reads.2 }, reads.2)
opened_by words texts asked (Err unready.StatesLong) taken (settings, fetched, (name, is, long)) =
    record { name = name; settings = settings; opens = opens_here words texts asked (Judge name) settings taken is fetched; long = long }
opened_by words texts asked (Err unready.ShelfFault) taken h = (asked, taken)
opened_by words texts asked (Err unready.NoMemory) taken h = tt

-- a line was written, or the sink failed within it
pub writes : {E : Type 0} (old new : StreamState) (text : Text) (r : Result (Unit {0}) E) (said result : Status)
    → Says old.bytes new.bytes old.faults new.faults text r → OnOk r (result ≡ said) → OnErr r (result ≡ SinkFault)
    → WritesLine said old new text result
writes old new text (Ok x) said result s whole broken = inl (whole, record { taken = s.whole; calm = s.cause.steady })
writes old new text (Err e) said result s whole broken = inr (broken, record { risen = s.cause.risen; later = s.cause.later; front = s.front })
