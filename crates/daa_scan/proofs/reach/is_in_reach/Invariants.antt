use Rattle.std.proofs.Common.{ℕ, ◌≤◌}
use Rattle.daa_config.specs.declared.level.Level.{Level}
use Rattle.daa_config.specs.Settings.{IsLevelAt}
use Rattle.daa_scan.specs.Reach.{place_now, horizontal_speed, vertical_speed, CanEnter}
use Rattle.daa_scan.proofs.reach.is_in_reach.Given as goal

abbrev pub invariant-loop-done : goal.invariant-loop-done
invariant-loop-done l = (j : ℕ) (level : Level) → j ≤ l.done → IsLevelAt l.encounter.config.now j level
    → ¬ CanEnter level (place_now l.encounter.own.now l.encounter.aircraft.now) (horizontal_speed l.encounter.config.now l.encounter.own.now l.encounter.aircraft.now)
    (vertical_speed l.encounter.config.now l.encounter.own.now l.encounter.aircraft.now)
