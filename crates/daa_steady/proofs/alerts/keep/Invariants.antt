use Rattle.std.proofs.Common.{◌≡◌, ◌<◌, ◌≤◌, ℕ, slice_index}
use Rattle.daa_steady.specs.Alerts.{ends_after}
use Rattle.daa_steady.proofs.alerts.keep.Given as goal

abbrev pub invariant-loop-place : goal.invariant-loop-place
invariant-loop-place l = record {
  done : (p : ℕ) → p < l.place → slice_index l.ends p ≡ ends_after l.rule l.recent l.end l.fn.ends p;
  left : (p : ℕ) → l.place ≤ p → slice_index l.ends p ≡ slice_index l.fn.ends p;
}
