-- Reports without an error.
use Rattle.daa_state.specs.declared.word.PairBounds.{PairBounds}
use Rattle.daa_state.specs.declared.word.ReportBounds.{ReportBounds}

-- a report without an error
abbrev pub no_error : ReportBounds
no_error = record { place = 0; height = 0; speed = 0; climb = 0 }

-- both reports are without an error
abbrev pub exact : PairBounds
exact = record { own = no_error; aircraft = no_error }
