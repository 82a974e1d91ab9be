-- The last time at which a manoeuvre of a kind may begin.
use Rattle.std.specs.Prelude.{ℕ, ℤ, ◌≡◌, ◌<◌, Option, Some, MatchOption, slice_get}
use Rattle.daa_config.specs.declared.candidate.Candidate.{Candidate}
use Rattle.daa_config.specs.declared.kind.Kind.{Kind}
use Rattle.daa_config.specs.Candidates.{values_of, candidate_to}
use Rattle.daa_config.specs.Settings.{Settings}
use Rattle.daa_state.specs.declared.word.Own.{Own}
use Rattle.daa_state.specs.declared.word.Picture.{Picture}
use Rattle.daa_state.specs.declared.word.Traffic.{Traffic}
use Rattle.daa_state.specs.Picture.{aircraft_of}
use Rattle.daa_recovery.specs.OutlookState.{IsClosedBy, IsHorizon}
use Rattle.daa_last.specs.Delayed.{ViolatesDelayed}

-- the aircraft closes the candidate's flight, delayed by m: it violates a level from `resolve` up at some time of a leg before the
-- level's lookahead
abbrev pub IsClosedDelayed : Settings → Own → Candidate → ℕ → Traffic → Type 0
IsClosedDelayed settings own candidate m aircraft = IsClosedBy settings (ViolatesDelayed settings own candidate m aircraft)

module _ (settings : Settings) (picture : Picture) where
  -- the candidate's flight, delayed by m, is open: no aircraft of the moment closes it
  abbrev pub IsOpenDelayed : Candidate → ℕ → Type 0
  IsOpenDelayed candidate m = (place : ℕ) (aircraft : Traffic) → slice_get (aircraft_of picture) place ≡ Some aircraft → ¬ IsClosedDelayed settings picture.own candidate m aircraft

module _ (settings : Settings) (picture : Picture) (kind : Kind) where
  -- some candidate of the kind, delayed by m, is open
  pub record IsSomeOpen (m : ℕ) : Type 0 where
    pub index : ℕ
    pub value : ℤ
    pub there : slice_get (values_of kind settings) index ≡ Some value
    pub is_open : IsOpenDelayed settings picture (candidate_to kind value) m

  -- m is the greatest number of seconds below the horizon such that some candidate of the kind, delayed by m, is open
  pub record IsLast (horizon m : ℕ) : Type 0 where
    pub before : m < horizon
    pub some : IsSomeOpen m
    pub none_later : (n : ℕ) → m < n → n < horizon → ¬ IsSomeOpen n

  -- the last time of a kind, where the horizon is the greatest lookahead of the levels from `resolve` up; None where no candidate of
  -- the kind is open at any delay below it
  pub record IsLastTime (found : Option ℕ) : Type 0 where
    pub horizon : ℕ
    pub ahead : IsHorizon settings horizon
    pub last : MatchOption found ((n : ℕ) → n < horizon → ¬ IsSomeOpen n) (IsLast horizon)
