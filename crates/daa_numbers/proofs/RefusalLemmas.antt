-- Why an ownship and aircraft are refused, found one thing after the other.
use Rattle.std.proofs.Common.{◌≡◌, ◌<◌, ◌≤◌, ◌+◌, ◌∙◌, ℕ, true, false, List, length, map, drop, slice_index_or, Option, Some, None, option_map, nat_lt, sym, ap}
use Rattle.std.specs.Prelude.{if◌then◌else◌}
use Rattle.std.proofs.lemmas.Bool.{lt-ltb, le-ltb}
use Rattle.std.proofs.lemmas.List.{drop_more, drop_all}
use Rattle.daa_config.specs.declared.fault.ConfigFault.{ConfigFault}
use Rattle.daa_config.specs.Settings.{Settings}
use Rattle.std.specs.Prelude.{Result, Ok, Err}
use Rattle.daa_state.specs.Checked.{earlier, picture_fault_of}
use Rattle.daa_state.specs.Id.{is_id}
use Rattle.daa_state.specs.declared.checked.PictureFault.{PictureFault}
use Rattle.daa_state.specs.declared.checked.PictureFault.TheVariants as says
use Rattle.daa_state.specs.declared.word.Own.{Own}
use Rattle.daa_state.specs.declared.word.Traffic.{Traffic}
use Rattle.daa_numbers.specs.Refusal.{bad_id_from, states_refusal, config_refusal}
use Rattle.daa_numbers.specs.States.{text_of, traffic_of}
use Rattle.daa_numbers.specs.declared.refusal.Refusal.{Refusal}
use Rattle.daa_numbers.specs.declared.refusal.Refusal.TheVariants as refuses
use Rattle.daa_numbers.specs.declared.states.DaaTraffic.{DaaTraffic}

-- ---- identifiers

bad-place : (traffic : List DaaTraffic) (place : ℕ) (d : DaaTraffic) → place < length traffic
    → bad_id_from place (drop place traffic)
    ≡ (if is_id (text_of (slice_index_or traffic place d).id) then bad_id_from (place + 1) (drop (place + 1) traffic) else Some place)
unfolding bad_id_from
bad-place traffic place d within = ap (bad_id_from place) (drop_more traffic place d within)

-- the identifier at a place is allowed
pub bad_passed : (traffic : List DaaTraffic) (place : ℕ) (d : DaaTraffic) (all : Option ℕ) → place < length traffic
    → is_id (text_of (slice_index_or traffic place d).id) ≡ true → bad_id_from place (drop place traffic) ≡ all
    → bad_id_from (place + 1) (drop (place + 1) traffic) ≡ all
bad_passed traffic place d all within allowed so_far =
    let rest : Option ℕ = bad_id_from (place + 1) (drop (place + 1) traffic) in
    sym (ap (λ b. if b then rest else Some place) allowed) ∙ sym (bad-place traffic place d within) ∙ so_far

-- the identifier at a place is not
pub bad_found : (traffic : List DaaTraffic) (place : ℕ) (d : DaaTraffic) (all : Option ℕ) → place < length traffic
    → is_id (text_of (slice_index_or traffic place d).id) ≡ false → bad_id_from place (drop place traffic) ≡ all → all ≡ Some place
bad_found traffic place d all within wrong so_far =
    let rest : Option ℕ = bad_id_from (place + 1) (drop (place + 1) traffic) in
    sym so_far ∙ bad-place traffic place d within ∙ ap (λ b. if b then rest else Some place) wrong

-- all are allowed
pub bad_past : (traffic : List DaaTraffic) (place : ℕ) (all : Option ℕ) → length traffic ≤ place
    → bad_id_from place (drop place traffic) ≡ all → all ≡ None
unfolding bad_id_from
bad_past traffic place all past so_far = sym so_far ∙ ap (bad_id_from place) (drop_all place traffic past)

-- ---- states

pub refused_many : (own : Own) (traffic : List DaaTraffic) → 64 < length traffic → states_refusal own traffic ≡ Some (refuses.Picture says.TooMany)
unfolding states_refusal
refused_many own traffic many = let test : nat_lt 64 (length traffic) ≡ true = lt-ltb 64 (length traffic) many in rw test

few_refused : (own : Own) (traffic : List DaaTraffic) → length traffic ≤ 64
    → states_refusal own traffic
    ≡ earlier (option_map refuses.BadId (bad_id_from 0 traffic)) (option_map refuses.Picture (picture_fault_of own (map traffic_of traffic)))
unfolding states_refusal
few_refused own traffic few = let test : nat_lt 64 (length traffic) ≡ false = le-ltb 64 (length traffic) few in rw test

pub refused_id : (own : Own) (traffic : List DaaTraffic) (place : ℕ) → length traffic ≤ 64 → bad_id_from 0 traffic ≡ Some place
    → states_refusal own traffic ≡ Some (refuses.BadId place)
refused_id own traffic place few wrong =
    few_refused own traffic few
    ∙ ap (λ (bad : Option ℕ). earlier (option_map refuses.BadId bad) (option_map refuses.Picture (picture_fault_of own (map traffic_of traffic)))) wrong

-- where each identifier is allowed, it is why the ownship and the aircraft are no picture
pub refused_picture : (own : Own) (traffic : List DaaTraffic) (all : List Traffic) (fault : Option PictureFault) → length traffic ≤ 64
    → bad_id_from 0 traffic ≡ None → all ≡ map traffic_of traffic → picture_fault_of own all ≡ fault
    → states_refusal own traffic ≡ option_map refuses.Picture fault
refused_picture own traffic all fault few sound same is =
    let first : picture_fault_of own (map traffic_of traffic) ≡ fault = sym (ap (picture_fault_of own) same) ∙ is in
    few_refused own traffic few
    ∙ ap (λ (bad : Option ℕ). earlier (option_map refuses.BadId bad) (option_map refuses.Picture (picture_fault_of own (map traffic_of traffic)))) sound
    ∙ ap (option_map refuses.Picture) first

-- ---- a configuration before them

pub config_first : (read : Result Settings ConfigFault) (fault : ConfigFault) (states : Option Refusal) → read ≡ Err fault
    → earlier (config_refusal read) states ≡ Some (refuses.Config fault)
config_first read fault states wrong = ap (λ (r : Result Settings ConfigFault). earlier (config_refusal r) states) wrong

pub config_passed : (read : Result Settings ConfigFault) (settings : Settings) (states why : Option Refusal) → read ≡ Ok settings → states ≡ why
    → earlier (config_refusal read) states ≡ why
config_passed read settings states why accepted is = ap (λ (r : Result Settings ConfigFault). earlier (config_refusal r) states) accepted ∙ is

pub accepted_alone : (read : Result Settings ConfigFault) (settings : Settings) → read ≡ Ok settings → config_refusal read ≡ None
accepted_alone read settings accepted = ap config_refusal accepted
