-- Why numbers are refused.
use Rattle.std.specs.Prelude.{◌≡◌, ◌+◌, ℕ, ℤ, pos, nat_lt, List, [], ◌∷◌, length, map, Option, Some, None, option_map, Result, Ok, Err, if◌then◌else◌}
use Rattle.daa_config.specs.Settings.{Settings}
use Rattle.daa_config.specs.declared.fault.ConfigFault.{ConfigFault}
use Rattle.daa_state.specs.Checked.{earlier, first_out_of_range, own_numbers, picture_fault_of, traffic_numbers}
use Rattle.daa_state.specs.Id.{is_id}
use Rattle.daa_state.specs.declared.checked.PictureFault.TheVariants as says
use Rattle.daa_state.specs.declared.word.Own.{Own}
use Rattle.daa_numbers.specs.declared.refusal.Refusal.{Refusal}
use Rattle.daa_numbers.specs.declared.refusal.Refusal.TheVariants as refuses
use Rattle.daa_numbers.specs.declared.setting.DaaConfig.{DaaConfig}
use Rattle.daa_numbers.specs.declared.states.DaaTraffic.{DaaTraffic}
use Rattle.daa_numbers.specs.Codes.{code_of}
use Rattle.daa_numbers.specs.Numbers.{settings_by}
use Rattle.daa_numbers.specs.States.{text_of, traffic_of}

-- the code of a refusal
abbrev pub refusal_code : Refusal → ℤ
refusal_code (refuses.Config fault) = code_of fault
refusal_code (refuses.BadId place) = pos 21
refusal_code (refuses.Picture says.TooMany) = pos 18
refusal_code (refuses.Picture (says.Own fault)) = pos 16
refusal_code (refuses.Picture (says.Traffic place fault)) = pos 17
refusal_code (refuses.Picture (says.SameId place)) = pos 22

-- the place of the first aircraft whose identifier is not allowed, of those that stand from a place on
unfoldable pub bad_id_from : ℕ → List DaaTraffic → Option ℕ
bad_id_from place [] = None
bad_id_from place (aircraft ∷ others) = if is_id (text_of aircraft.id) then bad_id_from (place + 1) others else Some place

-- why a configuration is refused
abbrev pub config_refusal : Result Settings ConfigFault → Option Refusal
config_refusal (Ok settings) = None
config_refusal (Err fault) = Some (refuses.Config fault)

-- why an ownship is refused
abbrev pub own_refusal : Own → Option Refusal
own_refusal own = option_map (λ fault. refuses.Picture (says.Own fault)) (first_out_of_range (own_numbers own))

-- why an aircraft is refused: its identifier before its numbers
abbrev pub traffic_refusal : DaaTraffic → Option Refusal
traffic_refusal aircraft =
    if is_id (text_of aircraft.id) then option_map (λ fault. refuses.Picture (says.Traffic 0 fault)) (first_out_of_range (traffic_numbers (traffic_of aircraft)))
    else Some (refuses.BadId 0)

-- why an ownship and aircraft are refused: too many aircraft, then the first identifier that is not allowed, then why they are no picture
unfoldable pub states_refusal : Own → List DaaTraffic → Option Refusal
states_refusal own traffic =
    if nat_lt 64 (length traffic) then Some (refuses.Picture says.TooMany)
    else earlier (option_map refuses.BadId (bad_id_from 0 traffic))
    (option_map refuses.Picture (picture_fault_of own (map traffic_of traffic)))

-- why a configuration, or else a picture, is refused
abbrev pub refusal_of : DaaConfig → Own → List DaaTraffic → Option Refusal
refusal_of config own traffic = earlier (config_refusal (settings_by config)) (states_refusal own traffic)

-- why a configuration, or else an ownship, is refused
abbrev pub refusal_of_own : DaaConfig → Own → Option Refusal
refusal_of_own config own = earlier (config_refusal (settings_by config)) (own_refusal own)

-- why a configuration, or else an ownship, or else one aircraft is refused
abbrev pub refusal_of_two : DaaConfig → Own → DaaTraffic → Option Refusal
refusal_of_two config own aircraft = earlier (refusal_of_own config own) (traffic_refusal aircraft)

-- the code is that of a refusal, which is there
abbrev pub IsCodeOf : Option Refusal → ℤ → Type 0
IsCodeOf refusal code = (why : Refusal) × (refusal ≡ Some why) × (refusal_code why ≡ code)
