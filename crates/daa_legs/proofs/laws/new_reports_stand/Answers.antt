use Rattle.std.proofs.Common.{◌≡◌, ◌+◌, ℕ, pos, ap, arith}
use Rattle.daa_fixed.specs.Leg.{plus, times}
use Rattle.daa_legs.specs.Relative.{reported_place, traffic_velocity}
use Rattle.daa_legs.proofs.laws.new_reports_stand.Goals as goal

pub returns : goal.returns
returns c aircraft k new =
    let same : aircraft.age + k ≡ k = omega (arith, new) in
    ap (λ (n : ℕ). plus (reported_place aircraft) (times (pos n) (traffic_velocity aircraft))) same
