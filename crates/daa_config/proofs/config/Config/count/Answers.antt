use Rattle.std.proofs.Common.{arith, refl}
use Rattle.daa_config.proofs.GridLemmas.{few_of_kind, length-values, some_values}
use Rattle.daa_config.proofs.config.Config.count.Goals as goal

pub returns-clause-value : goal.returns-clause-value
returns-clause-value c = omega (arith, length-values c.args.kind c.args.self.now, c.of.ensures, c.counts.ensures.value c.args.self.now refl c.args.kind)

pub returns-clause-some : goal.returns-clause-some
returns-clause-some c = omega (
  arith,
  some_values c.args.kind c.args.self.now,
  length-values c.args.kind c.args.self.now,
  c.of.ensures,
  c.counts.ensures.value c.args.self.now refl c.args.kind,
)

pub returns-clause-few : goal.returns-clause-few
returns-clause-few c = omega (arith, few_of_kind c.args.self.now c.args.kind c.counts.ensures.accepted, c.of.ensures, c.counts.ensures.value c.args.self.now refl c.args.kind)
