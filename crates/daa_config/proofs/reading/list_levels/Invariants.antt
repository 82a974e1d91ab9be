use Rattle.std.proofs.Common.{◌≡◌, take}
use Rattle.daa_config.proofs.reading.list_levels.Given as goal

-- the levels so far
abbrev pub invariant-loop-one : goal.invariant-loop-one
invariant-loop-one l = l.all.items ≡ take l.one-index l.levels
