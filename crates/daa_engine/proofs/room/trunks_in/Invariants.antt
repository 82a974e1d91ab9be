use Rattle.std.proofs.Common.{◌≡◌, length}
use Rattle.daa_engine.proofs.room.trunks_in.Given as goal

-- there is room for so many
abbrev pub invariant-loop-place : goal.invariant-loop-place
invariant-loop-place l = length l.trunks.items ≡ l._place
