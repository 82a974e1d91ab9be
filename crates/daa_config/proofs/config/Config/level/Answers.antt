use Rattle.std.proofs.Common.{◌-◌, arith, ap, length, sym, subst, List, slice_index_or}
use Rattle.daa_config.specs.Settings.{Settings, IsLevelInRange}
use Rattle.daa_config.specs.declared.level.Level.{Level}
use Rattle.std.proofs.lemmas.Option.{slice_get-get_or}
use Rattle.daa_config.proofs.config.Config.level.Goals as goal

pub returns-clause-in_range : goal.returns-clause-in_range
returns-clause-in_range c =
    let same = ap (λ (s : Settings). length s.levels) c.self.view_is in
    let at = c.args.l - 1 in
    subst (λ (levels : List Level). IsLevelInRange (slice_index_or levels at _)) (sym c.deref.ensures.0)
    (c.self.invariant.0.level c.args.l _
    (record { numbered = c.requires.numbered; there = slice_get-get_or c.self.inside.levels.items at _ (omega arith) }))
