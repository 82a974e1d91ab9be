-- Reports that are taken as the truth: of words, moments and pictures.
use Rattle.std.specs.Prelude.{◌≡◌}
use Rattle.daa_state.specs.Alike.{OfWord, OfState, OfPicture, OfStep}
use Rattle.daa_state.specs.Bounds.{no_error, exact}
use Rattle.daa_state.specs.MomentStep.{MomentsState, Stepped}
use Rattle.daa_state.specs.declared.word.Picture.{Picture}
use Rattle.daa_state.specs.declared.word.ReportBounds.{ReportBounds}
use Rattle.daa_state.specs.declared.word.Traffic.{Traffic}
use Rattle.daa_state.specs.declared.word.Word.{Word}

-- a report is taken as the truth
abbrev pub IsSureReport : ReportBounds → Type 0
IsSureReport bounds = bounds ≡ no_error

-- the reports of the ownship and of the aircraft are taken as the truth
abbrev pub IsSure : Traffic → Type 0
IsSure aircraft = aircraft.bounds ≡ exact

-- the report of the word is taken as the truth, if it has one
abbrev pub IsSureWord : Word → Type 0
IsSureWord = OfWord IsSureReport IsSure

-- the report of each aircraft of the picture is, and the ownship's
abbrev pub IsSurePicture : Picture → Type 0
IsSurePicture = OfPicture IsSureReport IsSure

-- each report of the open moment is, if a moment is open
abbrev pub IsSureState : MomentsState → Type 0
IsSureState = OfState IsSureReport IsSure

-- each report of what a step leaves is, and each of the picture of the moment that it ends
abbrev pub IsSureStep : Stepped → Type 0
IsSureStep = OfStep IsSureReport IsSure
