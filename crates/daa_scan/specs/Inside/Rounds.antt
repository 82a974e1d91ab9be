-- What a round is of, and what a candidate does in it.
use Rattle.std.specs.Prelude.{ℕ, ◌<◌, ◌≤◌}
use Rattle.daa_config.specs.declared.candidate.Candidate.{Candidate}
use Rattle.daa_config.specs.Settings.{Settings}
use Rattle.daa_state.specs.declared.word.Own.{Own}
use Rattle.daa_state.specs.declared.word.Traffic.{Traffic}
use Rattle.daa_legs.specs.Meeting.{ViolatesOn, MeetsWithin}
use Rattle.daa_legs.specs.Runs.{MeetsBetween}
use Rattle.daa_scan.specs.declared.encounter.Round.{Round}

abbrev pub settings_in : Round → Settings
settings_in round = round.encounter.config.now

abbrev pub own_in : Round → Own
own_in round = round.encounter.own.now

abbrev pub aircraft_in : Round → Traffic
aircraft_in round = round.encounter.aircraft.now

-- the candidate violates the level's volume on leg k
abbrev pub IsHitOn : Round → Candidate → ℕ → Type 0
IsHitOn round candidate k = ViolatesOn (settings_in round) (own_in round) candidate (aircraft_in round) round.level.volume k

-- the candidate meets the aircraft within the level's lookahead
abbrev pub IsMet : Round → Candidate → Type 0
IsMet round candidate = MeetsWithin (settings_in round) (own_in round) candidate (aircraft_in round) round.level.volume round.level.lookahead

-- it meets it on this leg or later
abbrev pub IsMetFrom : Round → Candidate → ℕ → Type 0
IsMetFrom round candidate k = MeetsBetween (settings_in round) (own_in round) candidate (aircraft_in round) round.level.volume k round.level.lookahead

-- from this leg on the candidate does not violate the level's volume
abbrev pub IsClearFrom : Round → Candidate → ℕ → Type 0
IsClearFrom round candidate end = (k : ℕ) → k < 180 → end ≤ k → ¬ IsHitOn round candidate k
