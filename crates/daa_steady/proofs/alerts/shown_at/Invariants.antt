use Rattle.std.proofs.Common.{◌<◌, ◌-◌, slice_index}
use Rattle.daa_fixed.specs.Mask.{IsGreatestLevel}
use Rattle.daa_steady.proofs.alerts.shown_at.Given as goal

abbrev pub invariant-loop-place : goal.invariant-loop-place
invariant-loop-place l = IsGreatestLevel (λ x. l.time < slice_index l.ends (x - 1)) l.place l.level
