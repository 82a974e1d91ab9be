-- Which legs of a flight keep a candidate from recovering, and the last of them.
use Rattle.std.specs.Prelude.{ℕ, ◌≡◌, ◌-◌, ◌<◌, ◌≤◌, Some, slice_get}
use Rattle.daa_config.specs.declared.candidate.Candidate.{Candidate}
use Rattle.daa_config.specs.declared.level.Level.{Level}
use Rattle.daa_state.specs.declared.word.Traffic.{Traffic}
use Rattle.daa_state.specs.Picture.{aircraft_of}
use Rattle.daa_legs.specs.Meeting.{ViolatesOn}
use Rattle.daa_recovery.specs.OutlookState.{Closes, OutlookState}

module _ (p : OutlookState) (candidate : Candidate) where
  -- the aircraft violates a level that closes on leg k, before the level's lookahead
  pub record IsClosedOn (aircraft : Traffic) (k : ℕ) : Type 0 where
    pub number : ℕ
    pub level : Level
    pub closes : Closes p.settings number level
    pub before : k < level.lookahead
    pub violates : ViolatesOn p.settings p.picture.own candidate aircraft level.volume k

  -- some aircraft of the moment does so
  pub record IsClosed (k : ℕ) : Type 0 where
    pub place : ℕ
    pub aircraft : Traffic
    pub there : slice_get (aircraft_of p.picture) place ≡ Some aircraft
    pub is : IsClosedOn aircraft k

  -- leg k comes into the cylinder round some aircraft of the moment
  pub record IsNear (k : ℕ) : Type 0 where
    pub place : ℕ
    pub aircraft : Traffic
    pub there : slice_get (aircraft_of p.picture) place ≡ Some aircraft
    pub is : ViolatesOn p.settings p.picture.own candidate aircraft p.cylinder k

  -- no leg before `upto` comes into a cylinder, and n is one more than the last of them that is closed, or 0
  pub record IsLastBefore (upto n : ℕ) : Type 0 where
    pub within : n ≤ upto
    pub apart : (k : ℕ) → k < upto → ¬ IsNear k
    pub closed : 1 ≤ n → IsClosed (n - 1)
    pub later : (k : ℕ) → n ≤ k → k < upto → ¬ IsClosed k

-- of the legs from `from` on none from leg n on is closed; n is at least `least`, and if it is more, the leg before it is closed
pub record IsRaised (Closed : ℕ → Type 0) (from least n : ℕ) : Type 0 where
  pub most : least ≤ n
  pub closed : least < n → Closed (n - 1)
  pub later : (k : ℕ) → from ≤ k → n ≤ k → ¬ Closed k
