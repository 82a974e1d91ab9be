use Rattle.std.proofs.Common.{rules, ap, FitsSigned, w32, to_z-of_z, ℤ, pos, ◌-ℤ◌, arith, lit<}
use Rattle.daa_fixed.specs.Size.{IsWithin}
use Rattle.daa_fixed.proofs.Bounds.{as_within, minus, fits}
use Rattle.daa_heading.proofs.Sines.{sine_at-within}
use Rattle.daa_heading.proofs.heading.lower_sine.Goals as goal

zero_within : IsWithin 0 (pos 0)
zero_within = record { size = omega arith }

pub overflow_sub-result : goal.overflow_sub-result
overflow_sub-result c =
    let w : IsWithin 10000 c.table_sine.result = as_within c.table_sine.ensures (sine_at-within _) in
    let f : FitsSigned w32 c.table_sine.result = search rules in
    simp to_z-of_z (fits w32 (minus zero_within w) (lit< tt))

pub returns : goal.returns
returns c =
    let d : FitsSigned w32 c.args.deg = search rules in
    let w : IsWithin 10000 c.table_sine.result = as_within c.table_sine.ensures (sine_at-within _) in
    let f : FitsSigned w32 c.table_sine.result = search rules in
    let g : FitsSigned w32 (pos 0 -ℤ c.table_sine.result) = fits w32 (minus zero_within w) (lit< tt) in
    simp to_z-of_z (ap (λ (z : ℤ). pos 0 -ℤ z) (simp to_z-of_z at c.table_sine.ensures))
