use Rattle.daa_config.specs.declared.kind.Kind.TheVariants.{Track, GroundSpeed, VerticalSpeed, Altitude}
use Rattle.daa_scan.proofs.Needed.{idle_by, needs_more}
use Rattle.daa_scan.proofs.needs.needed_at.Goals as goal

pub returns-clause-more : goal.returns-clause-more
returns-clause-more c = needs_more c.args.needs c.stays_needed.result c.stays_needed-2.result c.stays_needed.ensures.more c.stays_needed-2.ensures.more

pub returns-clause-idle : goal.returns-clause-idle
returns-clause-idle c =
    let e = c.args.encounter.now in
    let windows = c.windows_at-windows.ensures in
    idle_by e.config.now e.own.now e.aircraft.now c.stays_needed.result c.stays_needed-2.result c.args.level.now c.windows_at-windows.result.turns c.windows_at-windows.result.climbs
    c.stays_needed.ensures.none c.stays_needed-2.ensures.none (windows Track) (windows GroundSpeed) (windows VerticalSpeed) (windows Altitude)
