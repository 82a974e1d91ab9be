use Rattle.std.proofs.Common.{length, ◌-◌, ◌≤◌, ◌++◌, take, ℕ}
use Rattle.daa_ahead.specs.Bytes.{Bytes, StreamState, stream_state}
use Rattle.daa_judge.specs.Matching.{HasRoom, IsMatched}
use Rattle.daa_judge.proofs.matching.Matching.compare.Given as goal

abbrev pub invariant-loop-done : goal.invariant-loop-done
invariant-loop-done g l = record {
  within : l.done ≤ length l.text;
  room : HasRoom l.self;
  never_falls : g.S.Source.faults l.fn.source ≤ g.S.Source.faults l.source;
  matched : (most : ℕ) (first : StreamState) (before : Bytes)
      → IsMatched most first before l.fn.self (stream_state (g.S.Source.left l.fn.source) (g.S.Source.faults l.fn.source))
      → IsMatched most first (before ++ take l.done l.text) l.self (stream_state (g.S.Source.left l.source) (g.S.Source.faults l.source));
}

abbrev pub decreases-loop-done : goal.decreases-loop-done
decreases-loop-done g l = length l.text - l.done
