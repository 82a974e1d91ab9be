use Rattle.std.proofs.Common.{◌≡◌, ◌∙◌, ◌-◌, ℕ, arith, subst}
use Rattle.daa_exercise.specs.Inside.Counting.{AreCounted}
use Rattle.daa_exercise.specs.Outputs.{outputs_of}
use Rattle.daa_exercise.proofs.CountLemmas.{roomy}
use Rattle.daa_exercise.proofs.JoinLemmas.{none_between, time_counted}
use Rattle.daa_exercise.proofs.clerk.Workspace.count.Goals as goal

pub loop-time-init : goal.loop-time-init
loop-time-init g c =
    let output = outputs_of c.args.sequence.now.seed in record {
      counted = none_between c.args.config.now output c.args.from c.new-counts.result (c.new-counts.ensures c.args.config.now output c.args.from);
      at = c.go_to.ensures.time;
      seed = c.go_to.ensures.seed;
    }

pub count_next-requires-clause-room : goal.count_next-requires-clause-room
count_next-requires-clause-room g c =
    roomy c.args.config.now (outputs_of c.args.sequence.now.seed) c.args.from (c.loop-time.time - c.args.from) c.loop-time.counts
    (omega (arith, c.loop-time-test.true, c.requires.few)) c.loop-time.invariant.counted

pub loop-time-preserved : goal.loop-time-preserved
loop-time-preserved g c =
    let i = c.loop-time.invariant in record {
      counted = time_counted c.args.config.now c.levels-levels.ensures.accepted c.args.sequence.now.seed c.args.from c.loop-time.time c.loop-time.sequence.seed
          c.loop-time.sequence.time c.loop-time.counts c.count_next.new.counts i.seed i.at (omega arith) i.counted c.count_next.ensures.counted;
      at = (let e = c.count_next.ensures.time in let f = i.at in omega (arith, e, f));
      seed = c.count_next.ensures.seed ∙ i.seed;
    }

pub returns-clause-part : goal.returns-clause-part
returns-clause-part g c =
    let all : c.loop-time.time ≡ c.args.upto = omega (arith, c.loop-time-test.false, c.requires.some) in record {
      some = c.requires.some;
      counted = subst (λ (t : ℕ). AreCounted c.args.config.now (outputs_of c.args.sequence.now.seed) c.args.from (t - c.args.from) c.loop-time.counts) all
          c.loop-time.invariant.counted;
    }
