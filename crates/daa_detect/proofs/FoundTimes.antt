-- A time was found exactly where there is one.
use Rattle.std.proofs.Common.{◌≡◌, ◌↔◌, Bool, Option, Some, None}
use Rattle.std.specs.Prelude.{IsTrue, MatchOption, is_some}
use Rattle.daa_fixed.specs.declared.Leg.{Leg}
use Rattle.daa_fixed.specs.declared.Point.{Point}
use Rattle.daa_fixed.specs.Time.{HoldsSometime, HoldsNever}
use Rattle.daa_taumod.specs.declared.Volume.{Volume}
use Rattle.daa_taumod.specs.Volume.{Violates}
use Rattle.daa_detect.specs.Hit.{IsHit}

pub found_sometime : (leg : Leg) (volume : Volume) (r : Option Point) (b : Bool) → MatchOption r (HoldsNever leg.secs (Violates leg volume)) (λ p. IsHit leg volume p.num p.den) → b ≡ is_some r
    → IsTrue b ↔ HoldsSometime leg.secs (Violates leg volume)
found_sometime leg volume None b h e = ((λ t. absurd (cc (t, e))), (λ s. absurd (h s.num s.den s.time s.holds)))
found_sometime leg volume (Some p) b h e = ((λ t. record { num = p.num; den = p.den; time = h.time; holds = h.violates }), (λ s. e))
