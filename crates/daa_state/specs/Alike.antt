-- What holds of all reports of a word, of an open moment, of a picture and of a step: `Of` says it of an aircraft, and `Own` of what
-- the ownship's report may err by.
use Rattle.std.specs.Prelude.{All, IfSome}
use Rattle.daa_state.specs.MomentStep.{MomentsState, Stepped}
use Rattle.daa_state.specs.Picture.{aircraft_of}
use Rattle.daa_state.specs.declared.moments.Moment.{Moment}
use Rattle.daa_state.specs.declared.word.Picture.{Picture}
use Rattle.daa_state.specs.declared.word.ReportBounds.{ReportBounds}
use Rattle.daa_state.specs.declared.word.Traffic.{Traffic}
use Rattle.daa_state.specs.declared.word.Word.{Word}
use Rattle.daa_state.specs.declared.word.Word.TheVariants as says

module _ (Own : ReportBounds → Type 0) (Of : Traffic → Type 0) where
  -- of the report of the word, if it has one
  abbrev pub OfWord : Word → Type 0
  OfWord (says.Own own bounds) = Own bounds
  OfWord (says.Traffic aircraft) = Of aircraft
  OfWord _ = Unit {0}

  -- of the reports of the open moment
  pub record OfMoment (moment : Moment) : Type 0 where
    pub own : Own moment.bounds
    pub traffic : All Of moment.traffic.items

  -- of those of the open moment, if a moment is open
  abbrev pub OfState : MomentsState → Type 0
  OfState state = IfSome state.moment OfMoment

  -- of each aircraft of the picture
  abbrev pub OfPicture : Picture → Type 0
  OfPicture picture = All Of (aircraft_of picture)

  -- of what a step leaves, and of the picture of the moment that it ends
  pub record OfStep (next : Stepped) : Type 0 where
    pub state : OfState next.state
    pub picture : IfSome next.picture OfPicture
