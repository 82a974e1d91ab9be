use Rattle.std.proofs.Common.{rules, ◌↔◌, FitsSigned, w64, to_z-of_z, pos, ◌+◌, ◌+ℤ◌, ◌*ℤ◌, ◌≤ℤ◌}
use Rattle.std.specs.Prelude.{IsTrue}
use Rattle.daa_scan.specs.Reach.{size_of}
use Rattle.daa_scan.proofs.reach.can_enter.Goals as goal
use Rattle.daa_scan.proofs.reach.can_enter.Goals.{After-is_at_most, After-is_at_most-2, After-is_at_most-3}

east_is : (c : After-is_at_most) → IsTrue c.is_at_most.result ↔
    (size_of c.args.place.now.flat.east ≤ℤ (pos c.args.level.now.volume.dthr +ℤ pos (c.args.level.now.volume.tthr + c.args.level.now.lookahead) *ℤ c.args.horizontal))
east_is c =
    let f : FitsSigned w64 c.args.place.now.flat.east = search rules in
    let h : FitsSigned w64 c.args.horizontal = c.ranges.horizontal in
    simp to_z-of_z at c.is_at_most.ensures

north_is : (c : After-is_at_most-2) → IsTrue c.is_at_most-2.result ↔
    (size_of c.args.place.now.flat.north ≤ℤ (pos c.args.level.now.volume.dthr +ℤ pos (c.args.level.now.volume.tthr + c.args.level.now.lookahead) *ℤ c.args.horizontal))
north_is c =
    let f : FitsSigned w64 c.args.place.now.flat.north = search rules in
    let h : FitsSigned w64 c.args.horizontal = c.ranges.horizontal in
    simp to_z-of_z at c.is_at_most-2.ensures

up_is : (c : After-is_at_most-3) → IsTrue c.is_at_most-3.result ↔
    (size_of c.args.place.now.up ≤ℤ (pos c.args.level.now.volume.zthr +ℤ pos (c.args.level.now.volume.tcoa + c.args.level.now.lookahead) *ℤ c.args.vertical))
up_is c =
    let f : FitsSigned w64 c.args.place.now.up = search rules in
    let h : FitsSigned w64 c.args.vertical = c.ranges.vertical in
    simp to_z-of_z at c.is_at_most-3.ensures

pub returns-then-not-is_at_most : goal.returns-then-not-is_at_most
returns-then-not-is_at_most c = (
  (λ t. absurd (cc t)),
  (λ r. let t = (east_is c.before).1 r.east in absurd (cc (t, c.if-not-is_at_most.true))),
)

pub returns-then-not-is_at_most-2 : goal.returns-then-not-is_at_most-2
returns-then-not-is_at_most-2 c = (
  (λ t. absurd (cc t)),
  (λ r. let t = (north_is c.before).1 r.north in absurd (cc (t, c.if-not-is_at_most-2.true))),
)

pub returns : goal.returns
returns c =
    let f : FitsSigned w64 c.args.place.now.flat.east = search rules in
    let g : FitsSigned w64 c.args.place.now.flat.north = search rules in
    let h : FitsSigned w64 c.args.horizontal = c.ranges.horizontal in
    let east = simp to_z-of_z at c.is_at_most.ensures in
    let north = simp to_z-of_z at c.is_at_most-2.ensures in (
      (λ t. record { east = east.0 c.if-not-is_at_most.false; north = north.0 c.if-not-is_at_most-2.false; up = (up_is c).0 t }),
      (λ r. (up_is c).1 r.up),
    )
