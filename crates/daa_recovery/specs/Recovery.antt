-- When a candidate recovers, and the recovery of a kind.
use Rattle.std.specs.Prelude.{ℕ, ℤ, ◌≡◌, ◌≤◌, ◌<◌, ◌≤ℤ◌, Option, Some, None, slice_get}
use Rattle.daa_taumod.specs.declared.Volume.{Volume}
use Rattle.daa_config.specs.declared.candidate.Candidate.{Candidate}
use Rattle.daa_config.specs.declared.kind.Kind.{Kind}
use Rattle.daa_config.specs.Candidates.{values_of, candidate_to}
use Rattle.daa_config.specs.Settings.{Settings}
use Rattle.daa_state.specs.declared.word.Picture.{Picture}
use Rattle.daa_state.specs.declared.word.Traffic.{Traffic}
use Rattle.daa_state.specs.Picture.{aircraft_of}
use Rattle.daa_legs.specs.Meeting.{ViolatesOn, MeetsWithin}
use Rattle.daa_resolve.specs.Side.{present_of, IsOnSide}
use Rattle.daa_resolve.specs.declared.side.Side.{Side}
use Rattle.daa_recovery.specs.Order.{place_of}
use Rattle.daa_recovery.specs.OutlookState.{IsClosedBy, IsHorizon, OutlookState}
use Rattle.daa_recovery.specs.declared.recovery.Recovery.{Recovery}

module _ (p : OutlookState) (candidate : Candidate) where
  -- the aircraft violates a level that closes at some time of a leg from m on, before the level's lookahead
  abbrev pub IsClosedFrom : ℕ → Traffic → Type 0
  IsClosedFrom m aircraft = IsClosedBy p.settings (λ volume leg. (m ≤ leg) × ViolatesOn p.settings p.picture.own candidate aircraft volume leg)

  -- from m on the aircraft violates no level that closes, and it is in the cylinder at no time of a leg before the horizon
  pub record IsClear (m : ℕ) (aircraft : Traffic) : Type 0 where
    pub open_levels : ¬ IsClosedFrom m aircraft
    pub apart : ¬ MeetsWithin p.settings p.picture.own candidate aircraft p.cylinder p.horizon

  -- the candidate recovers at m: it is clear of every aircraft from m on, and before the horizon in the cylinder round none
  abbrev pub Recovers : ℕ → Type 0
  Recovers m = (place : ℕ) (aircraft : Traffic) → slice_get (aircraft_of p.picture) place ≡ Some aircraft → IsClear m aircraft

-- the value is among those that are asked about: all values of the kind, or if a side is named those on that side of the present value
abbrev pub IsAmong : Option Side → Kind → ℤ → ℤ → Type 0
IsAmong None kind now value = Unit {0}
IsAmong (Some side) kind now value = IsOnSide kind side now value

module _ (p : OutlookState) (kind : Kind) (side : Option Side) where
  -- the value at an index of the kind's rising list is among those that are asked about, and recovers at m
  pub record RecoversAt (index m : ℕ) (value : ℤ) : Type 0 where
    pub there : slice_get (values_of kind p.settings) index ≡ Some value
    pub among : IsAmong side kind (present_of kind p.picture.own) value
    pub recovers : Recovers p (candidate_to kind value) m

  -- the least time from 1 on, before the horizon, at which one of these values recovers, and of the values that do then the one that
  -- comes first: the least, or the nearest to the present value
  pub record IsLeast (r : Recovery) : Type 0 where
    pub index : ℕ
    pub some : 1 ≤ r.after
    pub before : r.after < p.horizon
    pub recovers : RecoversAt index r.after r.value
    pub none_sooner : (m : ℕ) → 1 ≤ m → m < r.after → (i : ℕ) (value : ℤ) → ¬ RecoversAt i m value
    pub first : (i : ℕ) (v : ℤ) → RecoversAt i r.after v → place_of p.settings p.picture.own kind r.value ≤ℤ place_of p.settings p.picture.own kind v

  -- the least recovery, or None: none of these values recovers at any time from 1 on before the horizon
  abbrev pub IsFound : Option Recovery → Type 0
  IsFound (Some r) = IsLeast r
  IsFound None = (m : ℕ) → 1 ≤ m → m < p.horizon → (i : ℕ) (value : ℤ) → ¬ RecoversAt i m value

-- the recovery of a kind in a moment, or that on one side of it, under a configuration that asks for recoveries
pub record IsRecoveryAmong (side : Option Side) (settings : Settings) (picture : Picture) (kind : Kind) (answer : Option Recovery) : Type 0 where
  pub cylinder : Volume
  pub horizon : ℕ
  pub asked : settings.recovery ≡ Some cylinder
  pub ahead : IsHorizon settings horizon
  pub found : IsFound (record { settings = settings; picture = picture; cylinder = cylinder; horizon = horizon }) kind side answer

-- the recovery of a kind, among all its values
abbrev pub IsRecovery : Settings → Picture → Kind → Option Recovery → Type 0
IsRecovery settings picture kind answer = IsRecoveryAmong None settings picture kind answer

-- the recovery on a side of a kind, among the values on that side of the present one
abbrev pub IsSideRecovery : Side → Settings → Picture → Kind → Option Recovery → Type 0
IsSideRecovery side settings picture kind answer = IsRecoveryAmong (Some side) settings picture kind answer
