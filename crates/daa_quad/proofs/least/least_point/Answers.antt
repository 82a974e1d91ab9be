use Rattle.std.proofs.Common.{pos, ◌<ℤ◌, arith, rules}
use Rattle.std.proofs.lemmas.Int.{ints}
use Rattle.daa_quad.specs.Inside.Slope.{slope_of}
use Rattle.daa_quad.proofs.Sizes.{IsQuadInRange}
use Rattle.daa_fixed.proofs.PointSizes.{IsPointInRange}
use Rattle.daa_quad.proofs.least.least_point.Goals as goal
use Rattle.daa_quad.proofs.Parabolas.{start-least, end-least, vertex-least, vertex-between, vertex-bends, vertex-not_negative}

pub returns-then-slope_at-ge0-clause-least : goal.returns-then-slope_at-ge0-clause-least
returns-then-slope_at-ge0-clause-least c =
    let s : IsQuadInRange c.args.q.now = search rules in
    let tp : IsPointInRange c.args.from.now = search rules in
    let tr : IsPointInRange c.args.upto.now = search rules in
    start-least c.args.q.now c.args.from.now c.args.upto.now s tp tr (omega (arith, ints))

pub returns-then-slope_at-le0-clause-least : goal.returns-then-slope_at-le0-clause-least
returns-then-slope_at-le0-clause-least c =
    let s : IsQuadInRange c.args.q.now = search rules in
    let tp : IsPointInRange c.args.from.now = search rules in
    let tr : IsPointInRange c.args.upto.now = search rules in
    end-least c.args.q.now c.args.from.now c.args.upto.now s tp tr (omega (arith, ints))

pub vertex-requires-clause-bends : goal.vertex-requires-clause-bends
vertex-requires-clause-bends c =
    let s : IsQuadInRange c.args.q.now = search rules in
    let tp : IsPointInRange c.args.from.now = search rules in
    let tr : IsPointInRange c.args.upto.now = search rules in
    vertex-bends c.args.q.now c.args.from.now c.args.upto.now s tp tr (omega (arith, ints)) (omega (arith, ints))

pub vertex-requires-clause-not_negative : goal.vertex-requires-clause-not_negative
vertex-requires-clause-not_negative c =
    let s : IsQuadInRange c.args.q.now = search rules in
    let tp : IsPointInRange c.args.from.now = search rules in
    let tr : IsPointInRange c.args.upto.now = search rules in
    vertex-not_negative c.args.q.now c.args.from.now c.args.upto.now s tp tr (omega (arith, ints)) (omega (arith, ints))

pub vertex-requires-clause-in_range : goal.vertex-requires-clause-in_range
vertex-requires-clause-in_range c =
    let s : IsQuadInRange c.args.q.now = search rules in
    let tp : IsPointInRange c.args.from.now = search rules in
    let tr : IsPointInRange c.args.upto.now = search rules in
    let falls : slope_of c.args.q.now c.args.from.now.num c.args.from.now.den <ℤ pos 0 = omega (arith, ints) in
    let rises : pos 0 <ℤ slope_of c.args.q.now c.args.upto.now.num c.args.upto.now.den = omega (arith, ints) in
    c.requires.vertex (vertex-bends c.args.q.now c.args.from.now c.args.upto.now s tp tr falls rises) (vertex-between c.args.q.now c.args.from.now c.args.upto.now s tp tr falls rises)

pub returns-clause-between : goal.returns-clause-between
returns-clause-between c =
    let s : IsQuadInRange c.args.q.now = search rules in
    let tp : IsPointInRange c.args.from.now = search rules in
    let tr : IsPointInRange c.args.upto.now = search rules in
    let falls : slope_of c.args.q.now c.args.from.now.num c.args.from.now.den <ℤ pos 0 = omega (arith, ints) in
    let rises : pos 0 <ℤ slope_of c.args.q.now c.args.upto.now.num c.args.upto.now.den = omega (arith, ints) in
    rw (c.vertex.ensures.num, c.vertex.ensures.den) (vertex-between c.args.q.now c.args.from.now c.args.upto.now s tp tr falls rises)

pub returns-clause-least : goal.returns-clause-least
returns-clause-least c =
    let s : IsQuadInRange c.args.q.now = search rules in
    let tp : IsPointInRange c.args.from.now = search rules in
    let tr : IsPointInRange c.args.upto.now = search rules in
    rw (c.vertex.ensures.num, c.vertex.ensures.den) (vertex-least c.args.q.now c.args.from.now c.args.upto.now s tp tr)
