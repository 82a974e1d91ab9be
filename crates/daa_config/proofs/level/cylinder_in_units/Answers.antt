use Rattle.std.proofs.Common.{◌∙◌, sym, ap}
use Rattle.daa_config.specs.Inside.Rows.{recovery_fits}
use Rattle.daa_config.proofs.RangeLemmas.{recovery_small}
use Rattle.daa_config.proofs.level.cylinder_in_units.Goals as goal

pub in_cylinder-requires-clause-hdist : goal.in_cylinder-requires-clause-hdist
in_cylinder-requires-clause-hdist c = (recovery_small c.in-Some.numbers (sym (ap recovery_fits c.in-Some.is) ∙ c.requires)).hdist

pub in_cylinder-requires-clause-vdist : goal.in_cylinder-requires-clause-vdist
in_cylinder-requires-clause-vdist c = (recovery_small c.in-Some.numbers (sym (ap recovery_fits c.in-Some.is) ∙ c.requires)).vdist
