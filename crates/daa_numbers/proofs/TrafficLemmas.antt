-- Aircraft that are taken from a caller's numbers, one after the other.
use Rattle.std.proofs.Common.{◌≡◌, ◌<◌, ◌+◌, ◌++◌, ◌∷◌, [], ◌∙◌, ℕ, List, length, map, take, slice_index_or, ap, sym, true, Option}
use Rattle.std.specs.Prelude.{option_map}
use Rattle.std.proofs.lemmas.List.{take_more, map_push}
use Rattle.daa_state.specs.Checked.{first_out_of_range, traffic_numbers}
use Rattle.daa_state.specs.Id.{is_id}
use Rattle.daa_state.specs.declared.checked.OutOfRange.{OutOfRange}
use Rattle.daa_state.specs.declared.checked.PictureFault.TheVariants as says
use Rattle.daa_state.specs.declared.word.Traffic.{Traffic}
use Rattle.daa_numbers.specs.Refusal.{traffic_refusal}
use Rattle.daa_numbers.specs.States.{text_of, traffic_of}
use Rattle.daa_numbers.specs.declared.refusal.Refusal.TheVariants as refuses
use Rattle.daa_numbers.specs.declared.states.DaaTraffic.{DaaTraffic}

pub next_all : (numbers : List DaaTraffic) (all longer : List Traffic) (index : ℕ) (d : DaaTraffic) (one : Traffic) → index < length numbers
    → all ≡ map traffic_of (take index numbers) → one ≡ traffic_of (slice_index_or numbers index d) → longer ≡ all ++ one ∷ []
    → longer ≡ map traffic_of (take (index + 1) numbers)
next_all numbers all longer index d one within so_far is grown =
    let more : take (index + 1) numbers ≡ take index numbers ++ slice_index_or numbers index d ∷ [] = take_more numbers index d within in
    let mapped : map traffic_of (take (index + 1) numbers) ≡ map traffic_of (take index numbers) ++ traffic_of (slice_index_or numbers index d) ∷ [] =
    ap (map traffic_of) more ∙ map_push traffic_of (take index numbers) (slice_index_or numbers index d) in
    cc (mapped, so_far, is, grown)

-- why one aircraft is refused whose identifier is allowed
pub refusal_by : (t : DaaTraffic) (one : Traffic) (found : Option OutOfRange) → is_id (text_of t.id) ≡ true → one ≡ traffic_of t → first_out_of_range (traffic_numbers one) ≡ found
    → traffic_refusal t ≡ option_map (λ fault. refuses.Picture (says.Traffic 0 fault)) found
refusal_by t one found id same is =
    rw id (ap (option_map (λ fault. refuses.Picture (says.Traffic 0 fault))) (ap (λ (x : Traffic). first_out_of_range (traffic_numbers x)) (sym same) ∙ is))
