-- A beginning of a report.
use Rattle.std.proofs.Common.{◌≡◌, ◌∙◌, Bool, List, [], ◌∷◌, ◌++◌, Result, Ok, Err, refl, ap, append_assoc, inl}
use Rattle.std.specs.Prelude.{OnErr, OnOk}
use Rattle.daa_bands.specs.Parts.{SplitsByEach}
use Rattle.daa_config.specs.Settings.{Settings}
use Rattle.daa_lines.specs.LinesOf.{Bytes}
use Rattle.daa_report.specs.Lines.{Text}
use Rattle.daa_ahead.specs.Bytes.{ToldBytes}
use Rattle.daa_replay.specs.declared.lines.Event.{Event}
use Rattle.daa_replay.specs.Lines.{events_of}
use Rattle.daa_replay.specs.Inside.Batch.{AppendsSome, StopsWithin}
use Rattle.daa_replay.specs.Inside.Events.{IsFront}
use Rattle.daa_replay.specs.Inside.Moment.{BeginsText}
use Rattle.daa_replay.specs.Moment.{IsEventText}
use Rattle.daa_replay.proofs.TextLemmas.{begins-more}

-- what holds anyway holds at an error
pub on_err : {T E : Type 0} (r : Result T E) (P : Type 0) → P → OnErr r P
on_err (Ok x) P p = tt
on_err (Err e) P p = p

pub ok_both : {T E : Type 0} (r : Result T E) (P Q R : Type 0) → (P → Q → R) → OnOk r P → OnOk r Q → OnOk r R
ok_both (Ok x) P Q R f p q = f p q
ok_both (Err e) P Q R f p q = tt

pub err_both : {T E : Type 0} (r : Result T E) (P Q R : Type 0) → (P → Q → R) → OnErr r P → OnErr r Q → OnErr r R
err_both (Ok x) P Q R f p q = tt
err_both (Err e) P Q R f p q = f p q

-- nothing is a beginning of every text
pub begins-nothing : (settings : Settings) (events : List Event) → BeginsText settings events []
begins-nothing settings [] = refl
begins-nothing settings (e ∷ events) = inl refl

module _ (settings : Settings) where
  -- the texts of the first events, and a beginning of the next one's
  pub record IsBegun (bytes : Bytes) (ended : Bool) (front : Text) : Type 0 where
    pub written : List Event
    pub later : List Event
    pub events : events_of bytes ended ≡ written ++ later
    pub whole : Text
    pub texts : SplitsByEach (IsEventText settings) written whole
    pub begun : Text
    pub begins : BeginsText settings later begun
    pub together : front ≡ whole ++ begun

module _ {settings : Settings} where
  -- the sink failed within the texts of the first events
  pub stops-first : (old new : ToldBytes) (bytes : Bytes) (ended : Bool) (events : List Event) → IsFront events (events_of bytes ended)
      → StopsWithin settings events old new → AppendsSome (IsBegun settings bytes ended) old new
  stops-first old new bytes ended events front s = record {
    text = s.whole ++ s.begun;
    is = record {
      written = s.written;
      later = s.later ++ front.0;
      events = front.1 ∙ ap (λ (l : List Event). l ++ front.0) s.events_are ∙ append_assoc s.written s.later front.0;
      whole = s.whole;
      texts = s.texts;
      begun = s.begun;
      begins = begins-more settings s.later front.0 s.begun s.begins;
      together = refl;
    };
    taken = s.taken;
  }
