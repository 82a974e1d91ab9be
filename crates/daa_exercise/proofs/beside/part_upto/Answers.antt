use Rattle.std.proofs.Common.{◌∙◌, ◌<◌, arith, length}
use Rattle.std.proofs.lemmas.List.Elements.{All-set}
use Rattle.std.proofs.Math.ListN.{length-set}
use Rattle.daa_exercise.specs.Inside.Stints.{HasStints}
use Rattle.daa_exercise.proofs.beside.part_upto.Goals as goal

pub returns-in-Some-clause-part : goal.returns-in-Some-clause-part
returns-in-Some-clause-part g c =
    let i = c.loop-place.invariant in
    let within : c.loop-place.place < length c.loop-place.clerks = omega (arith, c.loop-place-test.true, i.same_size) in
    let has = i.parts c.loop-place.place c.index-clerks-place.result within in
    c.in-Some.ensures.part c.args.config.now c.args.seed has

pub returns-in-Some-clause-parts : goal.returns-in-Some-clause-parts
returns-in-Some-clause-parts g c =
    let i = c.loop-place.invariant in
    let within : c.loop-place.place < length c.loop-place.clerks = omega (arith, c.loop-place-test.true, i.same_size) in
    let has = i.parts c.loop-place.place c.index-clerks-place.result within in
    All-set (HasStints c.args.config.now c.args.seed) c.loop-place.clerks c.loop-place.place c.part_upto.new.self
    (c.part_upto.ensures.kept c.args.config.now c.args.seed has) i.parts

pub loop-place-preserved : goal.loop-place-preserved
loop-place-preserved g c =
    let i = c.loop-place.invariant in
    let within : c.loop-place.place < length c.loop-place.clerks = omega (arith, c.loop-place-test.true, i.same_size) in
    let has = i.parts c.loop-place.place c.index-clerks-place.result within in record {
      parts = All-set (HasStints c.args.config.now c.args.seed) c.loop-place.clerks c.loop-place.place c.part_upto.new.self
          (c.part_upto.ensures.kept c.args.config.now c.args.seed has) i.parts;
      same_size = length-set c.loop-place.clerks c.loop-place.place c.part_upto.new.self ∙ i.same_size;
    }

pub returns-clause-parts : goal.returns-clause-parts
returns-clause-parts g c =
    let i = c.loop-place.invariant in
    let within : 0 < length c.loop-place.clerks = omega (arith, c.requires.some, i.same_size) in
    All-set (HasStints c.args.config.now c.args.seed) c.loop-place.clerks 0 _ (i.parts 0 c.index-clerks-0.result within) i.parts
