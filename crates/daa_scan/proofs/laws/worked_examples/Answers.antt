use Rattle.std.proofs.Common.{◌↔◌, sym, subst, arith, pos, ◌≤ℤ◌}
use Rattle.std.proofs.lemmas.Int.{ints}
use Rattle.daa_config.specs.declared.level.Level.{Level}
use Rattle.daa_scan.specs.Reach.{size_of, CanEnter}
use Rattle.daa_scan.proofs.laws.worked_examples.Goals as goal

pub returns : goal.returns
returns c level ahead up e =
    subst (λ (l : Level). CanEnter l (record { flat = record { east = pos 0; north = ahead }; up = up }) (pos 3601) (pos 1000) ↔ ((size_of ahead ≤ℤ pos 185805) × (size_of up ≤ℤ pos 37000))) (sym e)
    ((λ r. (r.north, r.up)), (λ p. record { east = omega (arith, ints); north = p.0; up = p.1 }))
