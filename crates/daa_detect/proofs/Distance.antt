-- The square of the distance as a quadratic of the time.
use Rattle.std.proofs.Common.{◌≡◌, refl, arith, pos, ◌*ℤ◌, ◌-ℤ◌}
use Rattle.daa_fixed.specs.declared.Leg.{Leg}
use Rattle.daa_fixed.specs.Flat.{dot_of, square_of}
use Rattle.daa_fixed.specs.Leg.{IsLegInRange}
use Rattle.daa_fixed.specs.Size.{IsWithin}
use Rattle.daa_fixed.proofs.Bounds.{times, minus}
use Rattle.daa_fixed.proofs.LegSizes as size
use Rattle.daa_fixed.proofs.Lengths.{dot_nonneg}
use Rattle.daa_quad.specs.declared.Quad.{Quad}
use Rattle.daa_taumod.specs.declared.Volume.{Volume}
use Rattle.daa_taumod.specs.Volume.{IsVolumeInRange}

-- the quadratic whose value is the square of the distance less that of dthr
pub record IsDistance (leg : Leg) (volume : Volume) (q : Quad) : Type 0 where
  pub a : q.a ≡ dot_of leg.velocity.flat leg.velocity.flat
  pub b : q.b ≡ pos 2 *ℤ dot_of leg.place.flat leg.velocity.flat
  pub c : q.c ≡ dot_of leg.place.flat leg.place.flat -ℤ square_of (pos volume.dthr)

-- of a leg and a volume in range its numbers are in range
pub record HasDistance (leg : Leg) (volume : Volume) : Type 0 where
  pub quad : Quad
  pub is : IsDistance leg volume quad

pub distance : (leg : Leg) (volume : Volume) → IsLegInRange leg → IsVolumeInRange volume → HasDistance leg volume
distance leg volume r v =
    let wa = size.vv r in
    let wb = times two (size.sv r) in
    let wd = size.natural 360000 volume.dthr v.dthr in
    let wc = minus (size.ss r) (times wd wd) in
    record {
      quad = record {
        a = dot_of leg.velocity.flat leg.velocity.flat;
        b = pos 2 *ℤ dot_of leg.place.flat leg.velocity.flat;
        c = dot_of leg.place.flat leg.place.flat -ℤ square_of (pos volume.dthr);
        convex = dot_nonneg leg.velocity.flat;
        a_bound = omega (arith, wa.size);
        b_bound = omega (arith, wb.size);
        c_bound = omega (arith, wc.size);
      };
      is = record { a = refl; b = refl; c = refl };
    }
  where
    two : IsWithin 2 (pos 2)
    two = record { size = omega arith }
