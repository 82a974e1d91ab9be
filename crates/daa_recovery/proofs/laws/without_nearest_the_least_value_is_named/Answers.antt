use Rattle.std.proofs.Common.{Bool, ◌≤ℤ◌, subst}
use Rattle.std.specs.Prelude.{if◌then◌else◌}
use Rattle.daa_recovery.specs.Order.{way_of, place_of_way}
use Rattle.daa_resolve.specs.Side.{present_of}
use Rattle.daa_recovery.proofs.laws.without_nearest_the_least_value_is_named.Goals as goal

pub returns : goal.returns
returns c p kind side r none least index value recovers =
    let now = present_of kind p.picture.own in
    subst (λ (b : Bool). (if b then place_of_way (way_of kind now r.value) else r.value) ≤ℤ (if b then place_of_way (way_of kind now value) else value)) none
    (least.first index value recovers)
