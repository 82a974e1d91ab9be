use Rattle.std.proofs.Common.{◌≡◌, ◌++◌, true, map, drop, length}
use Rattle.std.specs.List.{list_all}
use Rattle.daa_config.specs.Inside.Rows.{level_fits}
use Rattle.daa_config.specs.Level.{level_of}
use Rattle.daa_config.proofs.level.all_in_units.Given as goal

-- the levels so far, before those that are left, which pass
abbrev pub invariant-loop-one : goal.invariant-loop-one
invariant-loop-one l =
    (l.levels.items ++ map level_of (drop l.one-index l.numbers) ≡ map level_of l.numbers)
    × (list_all level_fits (drop l.one-index l.numbers) ≡ true)
    × (length l.levels.items ≡ l.one-index)
