use Rattle.std.proofs.Common.{true, false, arith}
use Rattle.daa_scan.proofs.Sides.{clear_within}
use Rattle.daa_scan.proofs.marking.begin_level.Goals as goal

pub returns-then-not-round : goal.returns-then-not-round
returns-then-not-round c = record { from = c.requires.from; upto = c.requires.upto; upper = λ level at z j b v. omega (arith, b); lower = λ level at z j b v. omega (arith, b) }

pub returns-else-not-round : goal.returns-else-not-round
returns-else-not-round c =
    let r = c.args.round.now in
    let nested = r.known.within (cc c.if-not-round.false) in
    record {
      from = c.requires.from;
      upto = c.requires.upto;
      upper = clear_within r c.args.kind true c.args.stretch.now.upper nested c.requires.upper;
      lower = clear_within r c.args.kind false c.args.stretch.now.lower nested c.requires.lower;
    }
