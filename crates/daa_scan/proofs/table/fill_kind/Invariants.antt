use Rattle.std.proofs.Common.{◌≡◌, ◌+◌, length}
use Rattle.daa_scan.specs.Inside.Trunks.{AreBranchesBelow}
use Rattle.daa_scan.proofs.table.fill_kind.Given as goal

-- the candidates so far have their branches
abbrev pub invariant-loop-index : goal.invariant-loop-index
invariant-loop-index l = record {
  filled : AreBranchesBelow l.config l.own l.needs (l.start + l.index) l.branches;
  length_ : length l.branches ≡ length l.fn.branches;
}
