-- Why a flight is refused.
use Rattle.std.specs.Prelude.{◌≡◌, ◌≢◌, ℤ, pos, Option}
use Rattle.daa_numbers.specs.Closing.{HasNoFlight}
use Rattle.daa_numbers.specs.Inside.Codes.{IsRefused}
use Rattle.daa_numbers.specs.declared.refusal.Refusal.{Refusal}

-- the code is 36, and no flight has the numbers where nothing is refused, or that of a refusal
pub record IsRefusedOfFlight (refusal : Option Refusal) (number value code : ℤ) : Type 0 where
  pub no_flight : code ≡ pos 36 → HasNoFlight refusal number value
  pub level : code ≢ pos 34
  pub refused : code ≢ pos 36 → IsRefused refusal code
