use Rattle.std.proofs.Common.{◌≡◌, ◌<◌, ◌++◌, ℕ, length, take, sym, subst, ◌∙◌, arith}
use Rattle.daa_lines.specs.ComesFrom.{ComesFrom}
use Rattle.daa_lines.specs.Inside.Pushing.{after_byte}
use Rattle.daa_lines.proofs.FeedingLemmas.{taken_last, taken_more}
use Rattle.daa_lines.proofs.PushingLemmas.{comes-fed}
use Rattle.daa_lines.proofs.lines.Lines.feed.Goals as goal

pub returns-then-push-clause-taken : goal.returns-then-push-clause-taken
returns-then-push-clause-taken c =
    taken_last c.loop-i.self c.args.piece.now c.loop-i.i _ (omega arith) c.loop-i.invariant.free c.push.ensures.sized
    (sym c.push.ensures.last ∙ c.if-push.true) c.loop-i.invariant.taken

pub returns-then-push-clause-kept : goal.returns-then-push-clause-kept
returns-then-push-clause-kept c bytes taken s =
    comes-fed bytes c.args.piece.now taken c.loop-i.self c.push.new.self c.loop-i.i (omega arith) c.push.ensures.value
    c.loop-i.invariant.free c.loop-i.invariant.going c.push.ensures.sized (c.loop-i.invariant.kept bytes taken s)

pub loop-i-preserved : goal.loop-i-preserved
unfolding after_byte
loop-i-preserved c =
    let i = c.loop-i.i in
    let piece = c.args.piece.now in
    let within : i < length piece = omega arith in
    let more = taken_more c.loop-i.self c.push.new.self piece i _ within c.push.ensures.value c.loop-i.invariant.free c.push.ensures.sized
    (sym c.push.ensures.last ∙ c.if-push.false) c.loop-i.invariant.taken in
    record {
      free = more.0;
      going = rw c.push.ensures.value c.loop-i.invariant.going;
      fed = rw c.push.ensures.value (omega arith);
      number = rw c.push.ensures.value c.loop-i.invariant.number;
      taken = more.1;
      kept = λ bytes taken s.
          comes-fed bytes piece taken c.loop-i.self c.push.new.self i within c.push.ensures.value
          c.loop-i.invariant.free c.loop-i.invariant.going c.push.ensures.sized (c.loop-i.invariant.kept bytes taken s);
    }

pub returns-clause-kept : goal.returns-clause-kept
returns-clause-kept c bytes taken s =
    let all : c.loop-i.i ≡ length c.args.piece.now = omega (arith, c.loop-i-test.false, c.loop-i.auto.i-end, c.grow-grown.ensures.within) in
    subst (λ (n : ℕ). ComesFrom (bytes ++ take n c.args.piece.now) taken c.loop-i.self) all (c.loop-i.invariant.kept bytes taken s)
