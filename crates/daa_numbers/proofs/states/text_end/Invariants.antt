use Rattle.std.proofs.Common.{◌≡◌, ◌≤◌, ◌-◌, ◌++◌, take, drop, length}
use Rattle.daa_numbers.specs.States.{text_of}
use Rattle.daa_numbers.proofs.states.text_end.Given as goal

-- the bytes so far, before the text of those that are left
abbrev pub invariant-loop-end : goal.invariant-loop-end
invariant-loop-end l = record {
  within : l.end ≤ length l.bytes;
  so_far : take l.end l.bytes ++ text_of (drop l.end l.bytes) ≡ text_of l.bytes;
}

abbrev pub decreases-loop-end : goal.decreases-loop-end
decreases-loop-end l = length l.bytes - l.end
