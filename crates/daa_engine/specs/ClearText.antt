-- The text of a moment, and that what it says is clear in truth: for every truth that is within what the reports may err by.
use Rattle.std.specs.Prelude.{◌≡◌, ◌<◌, ◌≤ℤ◌, ◌⊎◌, ℕ, ℤ, [], Option, Some, option_map, slice_get}
use Rattle.std.specs.List.{All}
use Rattle.daa_config.specs.Candidates.{values_of, candidate_to}
use Rattle.daa_config.specs.Settings.{Settings}
use Rattle.daa_config.specs.declared.candidate.Candidate.{Candidate}
use Rattle.daa_config.specs.declared.kind.Kind.{Kind}
use Rattle.daa_state.specs.Picture.{aircraft_of}
use Rattle.daa_state.specs.declared.word.Picture.{Picture}
use Rattle.daa_state.specs.declared.word.Traffic.{Traffic}
use Rattle.daa_bands.specs.Parts.{SplitsByEach}
use Rattle.daa_bands.specs.declared.band.Band.{Band}
use Rattle.daa_resolve.specs.declared.side.Side.{Side}
use Rattle.daa_recovery.specs.declared.recovery.Recovery.{Recovery}
use Rattle.daa_report.specs.Lines.{Text, last_line, recover_line}
use Rattle.daa_engine.specs.Clear.{flight_of, named_by, IsClearAt, IsOpenInTruth, IsClearNowAbove, IsClearAheadAbove, IsClearBefore, HasOpenAfter, RecoversInTruth}
use Rattle.daa_engine.specs.MomentText.{AreAircraftLines, IsMomentText}

module _ (settings : Settings) (picture : Picture) where
  -- the two lines of an aircraft: it violates no level above its level now; and on the present flight no level above its alert, and that
  -- level not before its first second
  pub record AreClearLines (aircraft : Traffic) (text : Text) : Type 0 where
    pub are : AreAircraftLines settings picture aircraft text
    pub now : IsClearNowAbove settings picture.own aircraft are.now
    pub alert : IsClearAheadAbove settings picture.own aircraft are.alert.level
    pub first : (k : ℕ) → are.alert.first ≡ Some k → IsClearBefore settings picture.own aircraft are.alert.level k

  -- a band: the candidates to its values are clear at each level above its own
  abbrev pub IsClearBand : Kind → Band → Type 0
  IsClearBand kind band = (index : ℕ) (value : ℤ) (l : ℕ) → slice_get (values_of kind settings) index ≡ Some value → band.from ≤ℤ value → value ≤ℤ band.upto
      → band.level < l → IsClearAt settings picture (flight_of settings picture.own (candidate_to kind value)) 0 l

  -- a line of a last time: after so many seconds some flight of the kind is open; or no line
  abbrev pub IsClearLastText : Kind → Text → Type 0
  IsClearLastText kind text = (text ≡ [])
      ⊎ ((found : Option ℕ) × (text ≡ last_line kind found) × ((m : ℕ) → found ≡ Some m → HasOpenAfter settings picture kind m))

  -- a line of a recovery: the candidate to its value recovers after so many seconds; or no line
  abbrev pub IsClearRecoveryText : Kind → Text → Type 0
  IsClearRecoveryText kind text = (text ≡ [])
      ⊎ ((found : Option Recovery) × (text ≡ recover_line kind (option_map (λ r. (r.after, r.value)) found))
      × ((r : Recovery) → found ≡ Some r → RecoversInTruth settings picture (candidate_to kind r.value) r.after))

  -- the text of the moment, each of whose parts is clear in truth; an answer is, if the flight that it names is open
  pub record IsClearText (text : Text) : Type 0 where
    pub is : IsMomentText settings picture text
    pub alerts : SplitsByEach AreClearLines (aircraft_of picture) is.alerts
    pub bands : (kind : Kind) → All (IsClearBand kind) (is.bands kind)
    pub answers : (kind : Kind) (side : Side) (candidate : Candidate) → named_by kind (is.answers kind side) ≡ Some candidate
        → IsOpenInTruth settings picture (flight_of settings picture.own candidate) 0
    pub lasts : (kind : Kind) → IsClearLastText kind (is.lasts kind)
    pub recoveries : (kind : Kind) → IsClearRecoveryText kind (is.recoveries kind)
