use Rattle.std.proofs.Common.{◌≡◌, ◌∙◌, ◌+◌, ap, arith, zero-add, sym, rules, subst}
use Rattle.daa_config.specs.Settings.{Settings}
use Rattle.daa_engine.specs.EngineState.{EngineState}
use Rattle.daa_exercise.specs.Inside.Counting.{CountsPicture}
use Rattle.daa_exercise.specs.Outputs.{outputs_of}
use Rattle.daa_exercise.proofs.CountLemmas.{roomy}
use Rattle.daa_exercise.proofs.JoinLemmas.{next_counted}
use Rattle.daa_exercise.proofs.exercising.count_in_turn.Goals as goal

pub loop-time-init : goal.loop-time-init
loop-time-init g c = record {
  kept = search rules;
  counted = c.new-counts.ensures c.args.engine.now.settings (outputs_of c.args.seed) 0;
  at = c.of-sequence.ensures.time;
  seed = c.of-sequence.ensures.seed;
}

pub count_one-requires-clause-room : goal.count_one-requires-clause-room
count_one-requires-clause-room g c _ _ =
    roomy c.args.engine.now.settings (outputs_of c.args.seed) 0 c.loop-time._time c.loop-time.counts (omega (arith, c.loop-time-test.true, c.requires)) c.loop-time.invariant.counted

pub loop-time-preserved : goal.loop-time-preserved
loop-time-preserved g c =
    let i = c.loop-time.invariant in
    let same = ap (λ (e : EngineState). e.settings) i.kept in
    let at : c.loop-time.sequence.time ≡ 0 + c.loop-time._time = i.at ∙ sym (zero-add c.loop-time._time) in record {
      kept = search rules;
      counted = next_counted c.args.engine.now.settings c.config-config.ensures.accepted c.args.seed 0 c.loop-time._time c.loop-time.sequence.seed c.loop-time.sequence.time
          c.draw.new.picture c.loop-time.counts c.count_one.new.counts i.seed at c.draw.ensures.moment i.counted
          (subst (λ (s : Settings). CountsPicture s c.draw.new.picture c.loop-time.counts c.count_one.new.counts) same c.count_one.ensures.counted);
      at = (let e = c.draw.ensures.time in let f = i.at in omega (arith, e, f));
      seed = c.draw.ensures.seed ∙ i.seed;
    }
