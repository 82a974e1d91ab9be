-- What the ownship minus an aircraft may err by, from what the reports of both may err by.
use Rattle.std.specs.Prelude.{ℕ, ◌+◌, ◌*◌, Bool, ◌&&◌, ◌==◌}
use Rattle.daa_margin.specs.declared.ErrorBounds.{ErrorBounds}
use Rattle.daa_state.specs.declared.word.PairBounds.{PairBounds}
use Rattle.daa_state.specs.declared.word.ReportBounds.{ReportBounds}

-- a report without an error
abbrev pub is_exact : ReportBounds → Bool
is_exact bounds = bounds.place == 0 && (bounds.height == 0 && (bounds.speed == 0 && bounds.climb == 0))

-- both reports are without an error
abbrev pub are_exact : PairBounds → Bool
are_exact bounds = is_exact bounds.own && is_exact bounds.aircraft

-- what the ownship minus the aircraft may err by at second k, counted from the moment, where the aircraft's report was `age` seconds
-- old at the moment. The errors of the two add up. Those of the places have grown by those of the velocities, for k seconds the
-- ownship's and for age + k the aircraft's. In the units of a leg: 36 for a thousandth of a nautical mile, and 60 for a foot.
abbrev pub errors_on : PairBounds → (age k : ℕ) → ErrorBounds
errors_on bounds age k = record {
  place = 36 * (bounds.own.place + bounds.aircraft.place) + bounds.own.speed * k + bounds.aircraft.speed * (age + k);
  speed = bounds.own.speed + bounds.aircraft.speed;
  height = 60 * (bounds.own.height + bounds.aircraft.height) + bounds.own.climb * k + bounds.aircraft.climb * (age + k);
  climb = bounds.own.climb + bounds.aircraft.climb;
}
