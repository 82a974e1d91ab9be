use Rattle.std.proofs.Common.{◌-◌}
use Rattle.daa_fixed.specs.Mask.{IsGreatestLevel}
use Rattle.daa_closers.specs.Closers.{MeetsSome}
use Rattle.daa_closers.proofs.shown.shown_level.Given as goal

abbrev pub invariant-loop-l : goal.invariant-loop-l
invariant-loop-l l = IsGreatestLevel (MeetsSome l.config l.picture l.fn.candidate) (l.l - 1) l.shown
