use Rattle.std.proofs.Common.{◌≡◌, ◌<◌, ℕ, Some}
use Rattle.std.specs.Prelude.{slice_get}
use Rattle.daa_state.specs.Picture.{aircraft_of}
use Rattle.daa_state.specs.declared.word.Traffic.{Traffic}
use Rattle.daa_scan.specs.Reach.{IsInReach}
use Rattle.daa_scan.specs.Trunks.{AreIdle}
use Rattle.daa_scan.proofs.needs.needs_of.Given as goal

-- a kind that is not needed meets none of the aircraft so far
abbrev pub invariant-loop-place : goal.invariant-loop-place
invariant-loop-place l = (at : ℕ) (aircraft : Traffic) → at < l.place → slice_get (aircraft_of l.picture) at ≡ Some aircraft
    → IsInReach l.config l.picture.own aircraft → AreIdle l.config l.picture.own aircraft l.needs
