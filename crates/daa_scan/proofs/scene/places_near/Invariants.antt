use Rattle.std.proofs.Common.{◌≡◌}
use Rattle.daa_scan.specs.Packed.{is_reached_at, numbers_below}
use Rattle.daa_scan.proofs.scene.places_near.Given as goal

-- those in reach of the places so far
abbrev pub invariant-loop-place : goal.invariant-loop-place
invariant-loop-place l = l.places.items ≡ numbers_below (is_reached_at (record { settings = l.config; picture = l.picture })) l.place
