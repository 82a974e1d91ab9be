use Rattle.std.proofs.Common.{◌≤◌, ◌-◌, ◌++◌, List, length, take}
use Rattle.daa_lines.specs.LinesOf.{Bytes}
use Rattle.daa_replay.specs.declared.lines.Event.{Event}
use Rattle.daa_replay.specs.Inside.Events.{HasLines}
use Rattle.daa_replay.specs.Inside.Lines.{Follows}
use Rattle.daa_replay.proofs.events.next_of_lines.Given as goal

abbrev pub invariant-loop-done : goal.invariant-loop-done
invariant-loop-done l = record {
  within : l.done ≤ length l.piece;
  forward : l.fn.done ≤ l.done;
  lines : HasLines (length l.piece - l.done) l.lines;
  kept : (bytes : Bytes) (given : List Event) → Follows (bytes ++ take l.fn.done l.piece) given l.fn.lines l.fn.moments
      → Follows (bytes ++ take l.done l.piece) given l.lines l.moments;
}

abbrev pub decreases-loop-done : goal.decreases-loop-done
decreases-loop-done l = length l.piece - l.done
