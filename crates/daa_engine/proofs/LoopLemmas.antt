-- What the loops over bands and aircraft have left.
use Rattle.std.proofs.Common.{◌≡◌, ◌<◌, ◌≤◌, ◌+◌, ◌++◌, ◌∙◌, ℕ, List, [], ◌∷◌, length, take, drop, sym, ap, arith, append_assoc, slice_index_or}
use Rattle.std.specs.List.{zip}
use Rattle.std.proofs.lemmas.List.{take_more, drop_more, take_all, take-append-drop}
use Rattle.std.proofs.lemmas.Slice.Zip.{length-zip, get_or-zip}
use Rattle.daa_config.specs.Settings.{Settings}
use Rattle.daa_config.specs.declared.kind.Kind.{Kind}
use Rattle.daa_bands.specs.declared.band.Band.{Band}
use Rattle.daa_bands.specs.Walk.{bands_left}
use Rattle.daa_bands.specs.Board.{HasLevelOn, mask_levels}
use Rattle.daa_bands.specs.KindBands.{AreKindBands}
use Rattle.daa_bands.proofs.WalkLemmas.{all_bands}
use Rattle.daa_bands.proofs.KindLemmas.{kind_bands_only}
use Rattle.daa_state.specs.declared.word.Traffic.{Traffic}
use Rattle.daa_engine.specs.declared.alerts.AircraftAlert.{AircraftAlert}

-- ---- bands

-- the bands that were given and those that are left are all
pub bands_split : (board : List ℕ) (s : Settings) (kind : Kind) (given all done left : List Band) → AreKindBands (HasLevelOn board) mask_levels s kind given
    → all ≡ given → all ≡ done ++ left → bands_left board s kind 0 ≡ done ++ left
bands_split board s kind given all done left a e split =
    kind_bands_only (HasLevelOn board) mask_levels s kind (bands_left board s kind 0) given (all_bands board s kind) a ∙ sym e ∙ split

pub next_split : (all done left rest : List Band) (x : Band) → all ≡ done ++ left → left ≡ x ∷ rest → all ≡ (done ++ x ∷ []) ++ rest
next_split all done left rest x split e = split ∙ ap (λ (bs : List Band). done ++ bs) e ∙ sym (append_assoc done (x ∷ []) rest)

-- ---- aircraft

abbrev Pair : Type 0
Pair = Traffic × AircraftAlert

long : (traffic : List Traffic) (alerts : List AircraftAlert) → length alerts ≡ length traffic → length (zip traffic alerts) ≡ length traffic
long traffic alerts e = let z = length-zip traffic alerts in omega arith

pub pair_more : (traffic : List Traffic) (alerts : List AircraftAlert) (i : ℕ) (t : Traffic) (d : AircraftAlert) → length alerts ≡ length traffic → i < length traffic
    → t ≡ slice_index_or traffic i t
    → (take (i + 1) (zip traffic alerts) ≡ take i (zip traffic alerts) ++ (t, slice_index_or alerts i d) ∷ [])
    × (zip traffic alerts ≡ take i (zip traffic alerts) ++ (t, slice_index_or alerts i d) ∷ drop (i + 1) (zip traffic alerts))
pair_more traffic alerts i t d e lt at_t =
    let l = long traffic alerts e in
    let ps : List Pair = zip traffic alerts in
    let f : AircraftAlert = slice_index_or alerts i d in
    let within : i < length ps = omega arith in
    let g : slice_index_or ps i (t, d) ≡ (t, f) = get_or-zip traffic alerts i (t, d) lt (omega arith)
    ∙ ap (λ (x : Traffic). (x, f)) (sym at_t) in (
      take_more ps i (t, d) within ∙ ap (λ (p : Pair). take i ps ++ p ∷ []) g,
      sym (take-append-drop i ps) ∙ ap (λ (qs : List Pair). take i ps ++ qs) (drop_more ps i (t, d) within ∙ ap (λ (p : Pair). p ∷ drop (i + 1) ps) g),
    )

pub pairs_all : (traffic : List Traffic) (alerts : List AircraftAlert) (n : ℕ) → length alerts ≡ length traffic → length traffic ≤ n → take n (zip traffic alerts) ≡ zip traffic alerts
pairs_all traffic alerts n e le = let l = long traffic alerts e in take_all n (zip traffic alerts) (omega arith)
