-- The numbers of kinds, sides, candidates and faults in C.
use Rattle.std.specs.Prelude.{◌≢◌, ℤ, pos, Result, Ok, Err}
use Rattle.daa_config.specs.declared.fault.ConfigFault.{ConfigFault}
use Rattle.daa_config.specs.declared.fault.ConfigFault.TheVariants.{TooLong, NotToml, UnknownKey, MissingKey, NotNumber, OutOfRange, Levels, TooMany, NoMemory}
use Rattle.daa_config.specs.declared.candidate.Candidate.{Candidate}
use Rattle.daa_config.specs.declared.candidate.Candidate.TheVariants as goes
use Rattle.daa_config.specs.declared.kind.Kind.{Kind}
use Rattle.daa_config.specs.declared.kind.Kind.TheVariants.{Track, GroundSpeed, VerticalSpeed, Altitude}
use Rattle.daa_config.specs.Settings.{Settings}
use Rattle.daa_resolve.specs.declared.side.Side.{Side}
use Rattle.daa_resolve.specs.declared.side.Side.TheVariants.{Lower, Upper}
use Rattle.daa_numbers.specs.declared.candidates.DaaCandidate.{DaaCandidate}

-- the code of a configuration's fault
abbrev pub code_of : ConfigFault → ℤ
code_of TooLong = pos 1
code_of NotToml = pos 2
code_of UnknownKey = pos 3
code_of MissingKey = pos 4
code_of NotNumber = pos 5
code_of OutOfRange = pos 6
code_of Levels = pos 7
code_of TooMany = pos 8
code_of NoMemory = pos 20

-- the code that says whether a configuration is accepted
abbrev pub answer_of : Result Settings ConfigFault → ℤ
answer_of (Ok settings) = pos 0
answer_of (Err fault) = code_of fault

-- the number of a kind
abbrev pub kind_number : Kind → ℤ
kind_number Track = pos 1
kind_number GroundSpeed = pos 2
kind_number VerticalSpeed = pos 3
kind_number Altitude = pos 4

-- the number is none of a kind
abbrev pub IsNoKind : ℤ → Type 0
IsNoKind number = (kind : Kind) → kind_number kind ≢ number

-- the number of a side
abbrev pub side_number : Side → ℤ
side_number Lower = pos 0
side_number Upper = pos 1

-- the number is none of a side
abbrev pub IsNoSide : ℤ → Type 0
IsNoSide number = (side : Side) → side_number side ≢ number

-- the numbers of a candidate
abbrev pub candidate_by : Candidate → DaaCandidate
candidate_by goes.Hold = record { kind = pos 0; value = pos 0 }
candidate_by (goes.Track c) = record { kind = pos 1; value = c }
candidate_by (goes.GroundSpeed g) = record { kind = pos 2; value = g }
candidate_by (goes.VerticalSpeed w) = record { kind = pos 3; value = w }
candidate_by (goes.Altitude a) = record { kind = pos 4; value = a }
