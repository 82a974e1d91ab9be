use Rattle.std.proofs.Common.{◌∙◌, refl, arith}
use Rattle.daa_exercise.specs.Outputs.{outputs_of}
use Rattle.daa_exercise.proofs.JoinLemmas.{all_gathered, none_between, part_added, part_fits}
use Rattle.daa_exercise.proofs.beside.gather.Goals as goal

pub loop-left-init : goal.loop-left-init
loop-left-init g c = record {
  within = omega arith;
  counted = none_between c.args.config.now (outputs_of c.args.seed) c.args.moments c.new-counts.result (c.new-counts.ensures c.args.config.now (outputs_of c.args.seed) c.args.moments);
  parts = c.requires.parts;
  same_size = refl;
}

pub add_all-requires : goal.add_all-requires
add_all-requires g c =
    let i = c.loop-left.invariant in
    let part = c.part_upto-part in
    part_fits c.args.config.now c.args.seed c.loop-left.left c.args.moments part.result c.loop-left.counts part.ensures.part part.ensures.upto i.within i.counted
    c.requires.few

pub loop-left-preserved : goal.loop-left-preserved
loop-left-preserved g c =
    let i = c.loop-left.invariant in
    let part = c.part_upto-part in
    let some = part.ensures.part.some in
    let at = part.ensures.upto in record {
      within = omega (arith, some, at);
      counted = part_added c.args.config.now c.args.seed c.loop-left.left c.args.moments part.result c.loop-left.counts part.ensures.part part.ensures.upto i.within i.counted
          c.add_all.new.self c.add_all.ensures;
      parts = part.ensures.parts;
      same_size = part.ensures.same_size ∙ i.same_size;
    }

pub returns : goal.returns
returns g c = all_gathered c.args.config.now (outputs_of c.args.seed) c.loop-left.left c.args.moments c.loop-left.counts c.loop-left-test.false c.loop-left.invariant.counted
