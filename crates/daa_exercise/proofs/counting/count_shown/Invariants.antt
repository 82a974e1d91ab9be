use Rattle.std.proofs.Common.{◌+◌, ℕ}
use Rattle.daa_exercise.specs.Inside.Counting.{Adds, HasRoomFor}
use Rattle.daa_exercise.proofs.TallyLemmas.{AreFirst, ShowsAt}
use Rattle.daa_exercise.proofs.counting.count_shown.Given as goal

-- the levels of so many candidates of each half are counted
abbrev pub invariant-loop-place : goal.invariant-loop-place
invariant-loop-place l = record {
  first : Adds (AreFirst (λ i. ShowsAt l.board (l.start + i)) l.place) l.initial.tally l.tally;
  second : Adds (AreFirst (λ i. ShowsAt l.board (l.middle + i)) l.place) l.initial.other l.other;
  room : (n : ℕ) → HasRoomFor (n + l.place) l.initial.tally → HasRoomFor n l.tally;
}
