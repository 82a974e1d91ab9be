-- A height within a band: the form in which the vertical part of the volume is solved for the time.
use Rattle.std.specs.Prelude.{ℤ, neg_ℤ, ◌+ℤ◌, ◌*ℤ◌, ◌≤ℤ◌}

-- what rises from height at speed is from low below to high above, at n/d
pub record IsInBand (height speed low high n d : ℤ) : Type 0 where
  pub above : (neg_ℤ low *ℤ d) ≤ℤ (d *ℤ height +ℤ n *ℤ speed)
  pub below : (d *ℤ height +ℤ n *ℤ speed) ≤ℤ (high *ℤ d)
