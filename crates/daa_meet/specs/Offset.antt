-- Errors that stay as they are from a report on: a false place, and a false velocity.
use Rattle.std.specs.Prelude.{ℕ, pos, ◌+◌, ◌*◌, ◌≤ℤ◌, ◌+ℤ◌, unsigned_abs, ◌≤◌}
use Rattle.daa_fixed.specs.declared.Solid.{Solid}
use Rattle.daa_fixed.specs.declared.Leg.{Leg}
use Rattle.daa_fixed.specs.Flat.{square_of}
use Rattle.daa_fixed.specs.Leg.{plus, minus, times}
use Rattle.daa_state.specs.declared.word.ReportBounds.{ReportBounds}

-- by how much the truth differs from a report: in place, and in velocity, which stays
pub record Offset : Type 0 where
  pub place : Solid
  pub velocity : Solid

-- the difference is within the bounds of the report
pub record IsWithinBounds (bounds : ReportBounds) (offset : Offset) : Type 0 where
  pub place : (square_of offset.place.flat.east +ℤ square_of offset.place.flat.north) ≤ℤ square_of (pos (36 * bounds.place))
  pub velocity : (square_of offset.velocity.flat.east +ℤ square_of offset.velocity.flat.north) ≤ℤ square_of (pos bounds.speed)
  pub height : unsigned_abs offset.place.up ≤ 60 * bounds.height
  pub climb : unsigned_abs offset.velocity.up ≤ bounds.climb

-- the difference in place so many seconds later
abbrev pub grown : Offset → ℕ → Solid
grown offset secs = plus offset.place (times (pos secs) offset.velocity)

-- the leg that begins at second k as it is in truth, where the ownship's report is off by the first and the aircraft's by the second
abbrev pub true_leg : Leg → (own aircraft : Offset) → (age k : ℕ) → Leg
true_leg leg own aircraft age k = record {
  place = plus leg.place (minus (grown own k) (grown aircraft (age + k)));
  velocity = plus leg.velocity (minus own.velocity aircraft.velocity);
  secs = leg.secs;
}
