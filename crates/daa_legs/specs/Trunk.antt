-- The legs of a flight, kept in a list.
use Rattle.std.specs.Prelude.{◌≡◌, ℕ, ◌<◌, List, length, slice_index_or}
use Rattle.daa_config.specs.declared.config.Rates.{Rates}
use Rattle.daa_config.specs.declared.candidate.Candidate.{Candidate}
use Rattle.daa_state.specs.declared.word.Own.{Own}
use Rattle.daa_legs.specs.declared.own_leg.OwnLeg.{OwnLeg}
use Rattle.daa_legs.specs.OwnLeg.{own_leg}

-- the first n places of the list, which has 180, are the first n legs of the candidate's flight
pub record AreLegsOf (own : Own) (rates : Rates) (candidate : Candidate) (n : ℕ) (legs : List OwnLeg) : Type 0 where
  pub room : length legs ≡ 180
  pub each : (k : ℕ) (d : OwnLeg) → k < n → slice_index_or legs k d ≡ own_leg own rates candidate k
