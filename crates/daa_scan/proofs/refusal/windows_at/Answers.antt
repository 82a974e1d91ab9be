use Rattle.std.proofs.Common.{refl}
use Rattle.daa_scan.proofs.Marks.{exact_else}
use Rattle.daa_scan.proofs.Refusing.{all_windows, every_window}
use Rattle.daa_scan.proofs.refusal.windows_at.Goals as goal

pub returns-then-not-are_exact : goal.returns-then-not-are_exact
returns-then-not-are_exact c = every_window c.args.encounter.now.config.now c.args.encounter.now.own.now c.args.encounter.now.aircraft.now c.args.level.now _ refl refl

pub returns : goal.returns
returns c = all_windows c.args.encounter.now.config.now c.args.encounter.now.own.now c.args.encounter.now.aircraft.now c.args.level.now c.requires.level c.args.present.now c.requires.present
    c.seconds_in_height.result c.seconds_in_plane.result c.seconds_in_height.ensures c.seconds_in_plane.ensures.begin c.seconds_in_plane.ensures.end
    (exact_else _ _ c.are_exact.ensures c.if-not-are_exact.false)
