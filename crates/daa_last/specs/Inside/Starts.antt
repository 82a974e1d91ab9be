-- Which delays are worth a try: the present flight is clear before them.
use Rattle.std.specs.Prelude.{ℕ, ◌≡◌, ◌+◌, ◌<◌, ◌≤◌, Some, slice_get}
use Rattle.daa_taumod.specs.declared.Volume.{Volume}
use Rattle.daa_config.specs.declared.candidate.Candidate.TheVariants.{Hold}
use Rattle.daa_config.specs.declared.level.Level.{Level}
use Rattle.daa_config.specs.Settings.{Settings}
use Rattle.daa_state.specs.declared.word.Own.{Own}
use Rattle.daa_state.specs.declared.word.Picture.{Picture}
use Rattle.daa_state.specs.declared.word.Traffic.{Traffic}
use Rattle.daa_state.specs.Picture.{aircraft_of}
use Rattle.daa_legs.specs.Meeting.{ViolatesOn}
use Rattle.daa_recovery.specs.OutlookState.{Closes}

module _ (settings : Settings) (own : Own) (aircraft : Traffic) where
  -- none of the legs of Hold before the leg upto violates the volume
  abbrev pub AreHeldClear : Volume → ℕ → Type 0
  AreHeldClear volume upto = (k : ℕ) → k < upto → ¬ ViolatesOn settings own Hold aircraft volume k

  -- k is the first leg of Hold that violates the volume, and is before the leg upto
  pub record IsFirstHeld (volume : Volume) (upto k : ℕ) : Type 0 where
    pub before : k < upto
    pub violates : ViolatesOn settings own Hold aircraft volume k
    pub none_before : AreHeldClear volume k

  -- the leg before leg m of Hold violates the level's volume, and is before its lookahead
  pub record IsHeldClosedBy (level : Level) (m : ℕ) : Type 0 where
    pub leg : ℕ
    pub is : leg + 1 ≡ m
    pub before : leg < level.lookahead
    pub violates : ViolatesOn settings own Hold aircraft level.volume leg

  -- of the delays below `most` those below `starts` are worth a try under this level: Hold is clear before each of them, and before each
  -- other it is not
  pub record AreStartsUnder (level : Level) (most starts : ℕ) : Type 0 where
    pub within : starts ≤ most
    pub clear : (k : ℕ) → k + 1 < starts → k < level.lookahead → ¬ ViolatesOn settings own Hold aircraft level.volume k
    pub ends : starts < most → IsHeldClosedBy level starts

  -- the aircraft violates no level that closes on a leg of Hold before leg m
  abbrev pub IsHeldOpen : ℕ → Type 0
  IsHeldOpen m = (l : ℕ) (level : Level) (k : ℕ) → Closes settings l level → k < level.lookahead → k < m → ¬ ViolatesOn settings own Hold aircraft level.volume k

  -- the aircraft violates a level that closes on the leg of Hold before leg m
  pub record IsHeldClosed (m : ℕ) : Type 0 where
    pub number : ℕ
    pub level : Level
    pub closes : Closes settings number level
    pub by : IsHeldClosedBy level m

  -- the same beside this aircraft, under all levels that close
  pub record AreStartsBeside (most starts : ℕ) : Type 0 where
    pub within : starts ≤ most
    pub clear : (m : ℕ) → m < starts → IsHeldOpen m
    pub ends : starts < most → IsHeldClosed starts

-- the same of all aircraft of the moment
module _ (settings : Settings) (picture : Picture) where
  abbrev pub IsHeldOpenOfAll : ℕ → Type 0
  IsHeldOpenOfAll m = (place : ℕ) (aircraft : Traffic) → slice_get (aircraft_of picture) place ≡ Some aircraft → IsHeldOpen settings picture.own aircraft m

  pub record IsHeldClosedOfSome (m : ℕ) : Type 0 where
    pub place : ℕ
    pub aircraft : Traffic
    pub there : slice_get (aircraft_of picture) place ≡ Some aircraft
    pub is : IsHeldClosed settings picture.own aircraft m

  pub record AreStarts (horizon starts : ℕ) : Type 0 where
    pub within : starts ≤ horizon
    pub clear : (m : ℕ) → m < starts → IsHeldOpenOfAll m
    pub ends : starts < horizon → IsHeldClosedOfSome starts
