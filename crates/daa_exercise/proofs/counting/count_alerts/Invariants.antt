use Rattle.std.proofs.Common.{◌+◌, ℕ, take}
use Rattle.std.specs.List.{AllZip}
use Rattle.daa_legs.specs.Alerts.{IsAlertLevel}
use Rattle.daa_state.specs.Picture.{aircraft_of}
use Rattle.daa_exercise.specs.Inside.Counting.{Adds, HasRoomFor}
use Rattle.daa_exercise.proofs.counting.count_alerts.Given as goal

-- the levels of the aircraft so far are counted
abbrev pub invariant-loop-place : goal.invariant-loop-place
invariant-loop-place l = record {
  adds : Adds (AllZip (IsAlertLevel l.config l.picture.own) (take l.place (aircraft_of l.picture))) l.initial.tally l.tally;
  room : (n : ℕ) → HasRoomFor (n + l.place) l.initial.tally → HasRoomFor n l.tally;
}
