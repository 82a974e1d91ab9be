-- What a word makes of the moments.
use Rattle.std.specs.Prelude.{ℕ, Bool, true, false, List, [], ◌∷◌, ◌++◌, ◌==◌, length, nat_le, is_some, map, ok_or, Option, Some, None, Ok, Err, if◌then◌else◌}
use Rattle.std.specs.List.{list_any}
use Rattle.std.specs.Str.{bytes_eq}
use Rattle.daa_state.specs.Fault.{Checked, ◌>>=◌, checked_map}
use Rattle.daa_state.specs.Bounds.{no_error}
use Rattle.daa_state.specs.declared.moments.Moment.{Moment}
use Rattle.daa_state.specs.declared.word.Own.{Own}
use Rattle.daa_state.specs.declared.word.ReportBounds.{ReportBounds}
use Rattle.daa_state.specs.declared.word.Traffic.{Traffic}
use Rattle.daa_state.specs.declared.word.Picture.{Picture}
use Rattle.daa_state.specs.declared.word.Word.{Word}
use Rattle.daa_state.specs.declared.word.Word.TheVariants as says
use Rattle.daa_state.specs.declared.fault.LineFault.TheVariants.{NoMoment, MomentOpen, NotLater, OwnTwice, SameId, Full, NoOwn, Unfinished}

-- the open moment, the time of the last ended moment, and the format of the lines
pub record MomentsState : Type 0 where
  pub moment : Option Moment
  pub last : Option ℕ
  pub format : ℕ

-- no moment is open, none was ended, and the format is 1
abbrev pub start : MomentsState
start = record { moment = None; last = None; format = 1 }

-- a new state, and the picture of the moment that was ended
pub record Stepped : Type 0 where
  pub state : MomentsState
  pub picture : Option Picture

-- a state and a picture, if there is one, as one
abbrev pub stepped : MomentsState → Option Picture → Stepped
stepped state picture = record { state = state; picture = picture }

-- a moment of this time, without an ownship and aircraft
abbrev pub empty_moment : ℕ → Moment
empty_moment time = record { time = time; own = None; bounds = no_error; traffic = record { items = [] } }

-- a moment begins where none is open, later than the last ended one
unfoldable pub begun_moment : Option Moment → Option ℕ → ℕ → Checked Moment
begun_moment (Some moment) last time = Err MomentOpen
begun_moment None None time = Ok (empty_moment time)
begun_moment None (Some last) time = if nat_le time last then Err (NotLater last) else Ok (empty_moment time)

-- the open moment gets its ownship, and what the ownship's report may err by
unfoldable pub with_own : Option Moment → Own → ReportBounds → Checked Moment
with_own None own bounds = Err NoMoment
with_own (Some moment) own bounds = if is_some moment.own then Err OwnTwice else Ok (record moment { own = Some own; bounds = bounds })

-- an aircraft of this identifier is there
abbrev pub has_id : List ℕ → List Traffic → Bool
has_id id traffic = list_any (λ aircraft. bytes_eq aircraft.id id) traffic

-- the open moment gets an aircraft more, after the others
unfoldable pub with_traffic : Option Moment → Traffic → Checked Moment
with_traffic None traffic = Err NoMoment
with_traffic (Some moment) traffic =
    if has_id traffic.id moment.traffic.items then Err SameId
    else if length moment.traffic.items == 64 then Err Full
    else Ok (record moment { traffic = record { items = moment.traffic.items ++ traffic ∷ [] } })

-- the word begins a moment or adds to the open one
abbrev pub is_addition : Word → Bool
is_addition (says.Moment time) = true
is_addition (says.Own own bounds) = true
is_addition (says.Traffic aircraft) = true
is_addition word = false

-- the aircraft, and beside its own bounds those of the ownship's report
abbrev pub beside : ReportBounds → Traffic → Traffic
beside own aircraft = record aircraft { bounds = record { own = own; aircraft = aircraft.bounds.aircraft } }

-- the aircraft of an open moment, each with the bounds of the ownship's report too
abbrev pub all_beside : Moment → List Traffic
all_beside moment = map (beside moment.bounds) moment.traffic.items

-- the open moment ends: its picture, if it has an ownship
unfoldable pub ended_picture : Option Moment → Checked Picture
ended_picture None = Err NoMoment
ended_picture (Some moment) =
    checked_map (λ own. record { time = moment.time; own = own; traffic = record { items = all_beside moment } }) (ok_or moment.own NoOwn)

-- what was made of the open moment takes its place, unless the word is refused
abbrev pub with_moment : MomentsState → Checked Moment → Checked Stepped
with_moment state made = checked_map (λ moment. stepped (record state { moment = Some moment }) None) made

-- what a word makes of a state, or why it is refused; then the state stays
unfoldable pub step : MomentsState → Word → Checked Stepped
step state (says.Moment time) = with_moment state (begun_moment state.moment state.last time)
step state (says.Own own bounds) = with_moment state (with_own state.moment own bounds)
step state (says.Traffic traffic) = with_moment state (with_traffic state.moment traffic)
step state (says.Format format) =
    if is_some state.moment then Err MomentOpen else Ok (stepped (record state { format = format }) None)
step state says.End = do
  picture ← ended_picture state.moment
  Ok (stepped (record state { moment = None; last = Some picture.time }) (Some picture))
step state says.Skip = Ok (stepped state None)

-- the end of the input: a moment that is open is unfinished
abbrev pub finished : MomentsState → Checked (Unit {0})
finished state = if is_some state.moment then Err Unfinished else Ok tt

-- a moment is open and has its ownship
abbrev pub has_own : Option Moment → Bool
has_own None = false
has_own (Some moment) = is_some moment.own
