use Rattle.std.proofs.Common.{◌≡◌, map, take, drop}
use Rattle.daa_numbers.specs.Refusal.{bad_id_from}
use Rattle.daa_numbers.specs.States.{traffic_of}
use Rattle.daa_numbers.proofs.states.all_aircraft.Given as goal

-- the aircraft so far are those of the numbers, with identifiers that are allowed; what is left decides
abbrev pub invariant-loop-place : goal.invariant-loop-place
invariant-loop-place l = record {
  so_far : l.all.items ≡ map traffic_of (take l.place l.traffic);
  left : bad_id_from l.place (drop l.place l.traffic) ≡ bad_id_from 0 l.traffic;
}
