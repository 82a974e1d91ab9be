use Rattle.std.proofs.Common.{◌≡◌, ◌+◌, ◌-◌, ◌/◌, ℕ, arith, refl}
use Rattle.daa_exercise.specs.Inside.Counting.{Adds}
use Rattle.daa_exercise.proofs.JoinLemmas.{beside_added, beside_fits, beside_room}
use Rattle.daa_exercise.proofs.TallyLemmas.{AreFirst, ShowsAt, add_shown, first_as, first_next, first_none, room_for}
use Rattle.daa_exercise.proofs.counting.count_shown.Goals as goal
use Rattle.daa_exercise.proofs.counting.count_shown.Goals.{then-half-count, else-half-count}

pub loop-place-init : goal.loop-place-init
loop-place-init c = record {
  first = first_none (λ i. ShowsAt c.args.board.now (c.start-start.result + i)) c.args.tally.now;
  second = first_none (λ i. ShowsAt c.args.board.now (c.start-start.result + c.count-count.result / 2 + i)) c.new-other.result;
  room = λ n h. room_for n (n + 0) c.args.tally.now (omega arith) h;
}

pub add-requires-clause-room : goal.add-requires-clause-room
add-requires-clause-room c = c.loop-place.invariant.room 1
    (room_for (1 + c.loop-place.place) 512 c.args.tally.now (omega (arith, c.loop-place-test.true, c.count-count.ensures.few)) c.requires)

pub add-requires-in-loop-place-clause-room : goal.add-requires-in-loop-place-clause-room
add-requires-in-loop-place-clause-room c = beside_room c.new-other.result c.new-other.ensures
    (λ i. ShowsAt c.args.board.now (c.start-start.result + c.count-count.result / 2 + i)) c.loop-place.place c.loop-place.other
    (omega (arith, c.loop-place-test.true, c.count-count.ensures.few)) c.loop-place.invariant.second

pub loop-place-preserved : goal.loop-place-preserved
loop-place-preserved c = record {
  first = first_next (λ i. ShowsAt c.args.board.now (c.start-start.result + i)) c.loop-place.place c.shown.result
      c.args.tally.now c.loop-place.tally c.add.new.self c.shown.ensures c.loop-place.invariant.first c.add.ensures.counted;
  second = first_next (λ i. ShowsAt c.args.board.now (c.start-start.result + c.count-count.result / 2 + i)) c.loop-place.place c.shown-in-loop-place.result
      c.new-other.result c.loop-place.other c.add-in-loop-place.new.self c.shown-in-loop-place.ensures c.loop-place.invariant.second
      c.add-in-loop-place.ensures.counted;
  room = λ n h. c.add.ensures.room n (c.loop-place.invariant.room (n + 1) (room_for (n + 1 + c.loop-place.place) (n + (c.loop-place.place + 1)) c.args.tally.now (omega arith) h));
}

pub add-requires-then-half-count-clause-room : goal.add-requires-then-half-count-clause-room
add-requires-then-half-count-clause-room c = beside_room c.new-other.result c.new-other.ensures
    (λ i. ShowsAt c.args.board.now (c.start-start.result + c.count-count.result / 2 + i)) c.loop-place.place c.loop-place.other
    (omega (arith, c.loop-place.auto.place-end, c.count-count.ensures.few)) c.loop-place.invariant.second

pub add_all-requires : goal.add_all-requires
add_all-requires c =
    let start = c.start-start.result in
    let half = c.count-count.result / 2 in
    let left = c.count-count.result - half in
    let Is : ℕ → ℕ → Type 0 = λ i. ShowsAt c.args.board.now (start + half + i) in
    let none = c.new-other.result in
    let at : c.loop-place.place ≡ half = omega (arith, c.loop-place.auto.place-end, c.loop-place-test.false) in
    let before = first_as Is c.loop-place.place half none c.loop-place.other c.loop-place.other at refl c.loop-place.invariant.second in
    let second : Adds (AreFirst Is left) none c.if-half-count.other = elim c.if-half-count.branch [
      | then-half-count w ↦ first_as Is (half + 1) left none w.add-then-half-count.new.self c.if-half-count.other (omega (arith, w.if-half-count.true)) w.other-is
          (first_next Is half w.shown-then-half-count.result none c.loop-place.other w.add-then-half-count.new.self w.shown-then-half-count.ensures before
          w.add-then-half-count.ensures.counted)
      | else-half-count w ↦ first_as Is half left none c.loop-place.other c.if-half-count.other (omega (arith, w.if-half-count.false)) w.other-is before
    ] in
    beside_fits none c.new-other.ensures Is left c.loop-place.tally c.if-half-count.other
    (c.loop-place.invariant.room left (room_for (left + c.loop-place.place) 512 c.args.tally.now (omega (arith, at, c.count-count.ensures.few)) c.requires)) second

pub returns : goal.returns
returns c =
    let start = c.start-start.result in
    let half = c.count-count.result / 2 in
    let left = c.count-count.result - half in
    let Is : ℕ → ℕ → Type 0 = λ i. ShowsAt c.args.board.now (start + half + i) in
    let none = c.new-other.result in
    let at : c.loop-place.place ≡ half = omega (arith, c.loop-place.auto.place-end, c.loop-place-test.false) in
    let before = first_as Is c.loop-place.place half none c.loop-place.other c.loop-place.other at refl c.loop-place.invariant.second in
    let second : Adds (AreFirst Is left) none c.if-half-count.other = elim c.if-half-count.branch [
      | then-half-count w ↦ first_as Is (half + 1) left none w.add-then-half-count.new.self c.if-half-count.other (omega (arith, w.if-half-count.true)) w.other-is
          (first_next Is half w.shown-then-half-count.result none c.loop-place.other w.add-then-half-count.new.self w.shown-then-half-count.ensures before
          w.add-then-half-count.ensures.counted)
      | else-half-count w ↦ first_as Is half left none c.loop-place.other c.if-half-count.other (omega (arith, w.if-half-count.false)) w.other-is before
    ] in
    let first = first_as (λ i. ShowsAt c.args.board.now (start + i)) c.loop-place.place half c.args.tally.now c.loop-place.tally c.loop-place.tally at refl
    c.loop-place.invariant.first in
    let both = beside_added none c.new-other.ensures (ShowsAt c.args.board.now) start half left c.args.tally.now c.loop-place.tally c.if-half-count.other
    c.add_all.new.self first second c.add_all.ensures in
    add_shown c.args.board.now c.args.config.now c.args.config.now c.args.kind start c.count-count.result (half + left) c.args.tally.now c.add_all.new.self
    refl c.start-start.ensures.value c.count-count.ensures.value (omega arith) (omega arith) both
