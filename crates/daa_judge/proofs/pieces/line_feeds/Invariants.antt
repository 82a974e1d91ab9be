use Rattle.std.proofs.Common.{◌≡◌, ◌≤◌, take}
use Rattle.daa_judge.specs.Matching as spec
use Rattle.daa_judge.proofs.pieces.line_feeds.Given as goal

abbrev pub invariant-loop-byte : goal.invariant-loop-byte
invariant-loop-byte l = record {
  few : l.count ≤ l.byte-index;
  counted : l.count ≡ spec.line_feeds (take l.byte-index l.bytes);
}
