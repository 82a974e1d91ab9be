use Rattle.std.proofs.Common.{◌+◌, ℕ, ap}
use Rattle.daa_config.specs.declared.kind.Kind.TheVariants.{Track, GroundSpeed, VerticalSpeed, Altitude}
use Rattle.daa_exercise.proofs.CountLemmas.{add_covered}
use Rattle.daa_exercise.proofs.counting.Counts.add.Goals as goal

pub returns : goal.returns
returns c =
    let covered = add_covered c.args.config.now c.args.picture.now c.args.board.now in
    let ok = c.requires.accepted in
    let board = c.requires.board in record {
      aircraft = ap (λ (n : ℕ). c.args.self.now.aircraft + n) c.len.ensures.value;
      alerts = c.count_alerts.ensures;
      track = covered Track _ _ ok board c.count_shown.ensures;
      speed = covered GroundSpeed _ _ ok board c.count_shown-2.ensures;
      climb = covered VerticalSpeed _ _ ok board c.count_shown-3.ensures;
      height = covered Altitude _ _ ok board c.count_shown-4.ensures;
    }
