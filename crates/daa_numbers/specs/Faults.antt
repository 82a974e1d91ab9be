-- What is filled in of states that are refused.
use Rattle.std.specs.Prelude.{◌≡◌, ◌⊎◌, ℕ, ℤ, pos, List, Some, None}
use Rattle.daa_state.specs.declared.checked.Field.{Field}
use Rattle.daa_state.specs.declared.checked.Field.TheVariants.{East, North, Altitude, Track, GroundSpeed, VerticalSpeed, SpeedEast, SpeedNorth, Age, PlaceBound, HeightBound, SpeedBound, ClimbBound}
use Rattle.daa_state.specs.declared.checked.OutOfRange.{OutOfRange}
use Rattle.daa_state.specs.declared.checked.PictureFault.TheVariants as says
use Rattle.daa_state.specs.declared.word.Own.{Own}
use Rattle.daa_numbers.specs.declared.faults.DaaFault.{DaaFault}
use Rattle.daa_numbers.specs.declared.refusal.Refusal.{Refusal}
use Rattle.daa_numbers.specs.declared.refusal.Refusal.TheVariants as refuses
use Rattle.daa_numbers.specs.declared.states.DaaTraffic.{DaaTraffic}
use Rattle.daa_numbers.specs.Asked.{IsTaken}
use Rattle.daa_numbers.specs.Codes.{code_of}
use Rattle.daa_numbers.specs.Refusal.{states_refusal}
use Rattle.daa_numbers.specs.States.{picture_of}

-- the number of a field of a state
abbrev pub number_of_field : Field → ℤ
number_of_field East = pos 1
number_of_field North = pos 2
number_of_field Altitude = pos 3
number_of_field Track = pos 4
number_of_field GroundSpeed = pos 5
number_of_field VerticalSpeed = pos 6
number_of_field SpeedEast = pos 7
number_of_field SpeedNorth = pos 8
number_of_field Age = pos 9
number_of_field PlaceBound = pos 10
number_of_field HeightBound = pos 11
number_of_field SpeedBound = pos 12
number_of_field ClimbBound = pos 13

-- a code and a place alone
abbrev pub plain_fault : ℤ → ℕ → DaaFault
plain_fault code place = record { code = code; field = pos 0; least = pos 0; greatest = pos 0; place = place }

-- the fault of a number that is out of its range: a code, the field, its range, and a place
abbrev pub ranged_fault : ℤ → ℕ → OutOfRange → DaaFault
ranged_fault code place fault =
    record { code = code; field = number_of_field fault.field; least = fault.least; greatest = fault.greatest; place = place }

-- the numbers of a refusal
abbrev pub fault_by : Refusal → DaaFault
fault_by (refuses.Config fault) = plain_fault (code_of fault) 0
fault_by (refuses.BadId place) = plain_fault (pos 21) place
fault_by (refuses.Picture says.TooMany) = plain_fault (pos 18) 0
fault_by (refuses.Picture (says.Own fault)) = ranged_fault (pos 16) 0 fault
fault_by (refuses.Picture (says.Traffic place fault)) = ranged_fault (pos 17) place fault
fault_by (refuses.Picture (says.SameId place)) = plain_fault (pos 22) place

-- nothing is wrong, and this is reported
pub record IsSound (own : Own) (traffic : List DaaTraffic) (out : DaaFault) : Type 0 where
  pub taken : IsTaken (picture_of 0 own traffic)
  pub none : states_refusal own traffic ≡ None
  pub filled : out ≡ plain_fault (pos 0) 0

-- something is wrong, and it is told
pub record IsWrong (own : Own) (traffic : List DaaTraffic) (out : DaaFault) : Type 0 where
  pub why : Refusal
  pub wrong : states_refusal own traffic ≡ Some why
  pub filled : out ≡ fault_by why

-- it is reported that nothing is wrong, or what is wrong
abbrev pub IsFaultOf : Own → List DaaTraffic → DaaFault → Type 0
IsFaultOf own traffic out = IsSound own traffic out ⊎ IsWrong own traffic out
