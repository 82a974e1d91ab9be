-- Aircraft whose reports have age 0.
use Rattle.std.specs.Prelude.{◌≡◌}
use Rattle.daa_state.specs.Alike.{OfWord, OfState, OfPicture, OfStep}
use Rattle.daa_state.specs.MomentStep.{MomentsState, Stepped}
use Rattle.daa_state.specs.declared.word.Picture.{Picture}
use Rattle.daa_state.specs.declared.word.ReportBounds.{ReportBounds}
use Rattle.daa_state.specs.declared.word.Traffic.{Traffic}
use Rattle.daa_state.specs.declared.word.Word.{Word}

-- its report is of age 0
abbrev pub IsCurrent : Traffic → Type 0
IsCurrent aircraft = aircraft.age ≡ 0

-- nothing is asked of the ownship, whose report is of the moment
abbrev pub IsAny : ReportBounds → Type 0
IsAny bounds = Unit {0}

-- the aircraft of the word has age 0, if it has one
abbrev pub IsCurrentWord : Word → Type 0
IsCurrentWord = OfWord IsAny IsCurrent

-- each aircraft of the picture has age 0
abbrev pub IsCurrentPicture : Picture → Type 0
IsCurrentPicture = OfPicture IsAny IsCurrent

-- each aircraft of the open moment has age 0, if a moment is open
abbrev pub IsCurrentState : MomentsState → Type 0
IsCurrentState = OfState IsAny IsCurrent

-- what a step leaves has ages 0, and so has the picture of the moment that it ends
abbrev pub IsCurrentStep : Stepped → Type 0
IsCurrentStep = OfStep IsAny IsCurrent
