-- The masks of a stretch of candidates, told of a scene.
use Rattle.std.proofs.Common.{◌≡◌, ◌∙◌, inl, inr, ℕ, ◌+◌, ◌<◌, List, length, replicate, Some, ap, sym, subst, ⊎_elim, arith}
use Rattle.std.specs.Prelude.{slice_get, slice_index}
use Rattle.std.proofs.lemmas.List.{get_or-replicate}
use Rattle.std.proofs.lemmas.Option.{same_Some, slice_get_within, get_or_from_slice_get}
use Rattle.std.proofs.lemmas.List.Elements.{All-get_or}
use Rattle.daa_fixed.specs.Mask.{IsMaskOf}
use Rattle.daa_state.specs.InRange.{IsPictureInRange, IsTrafficInRange}
use Rattle.daa_state.specs.declared.word.Picture.{Picture}
use Rattle.daa_state.specs.Picture.{aircraft_of}
use Rattle.daa_state.specs.declared.word.Traffic.{Traffic}
use Rattle.daa_scan.specs.Inside.Marking.{AreMasks}
use Rattle.daa_scan.specs.SceneState.{SceneState, MeetsAt}
use Rattle.daa_scan.specs.Reach.{IsInReach, IsInReachAt}
use Rattle.daa_scan.specs.Trunks.{AreIdle, AreFlightsOf}
use Rattle.daa_scan.specs.Inside.Trunks.{Shared}
use Rattle.daa_scan.specs.Adding.{AddsLevels}
use Rattle.daa_scan.proofs.Masks.{mask_of_added}
use Rattle.daa_scan.proofs.Masking.{met_at}

module _ (s : SceneState) (at first n : ℕ) (aircraft : Traffic) (old masks : List ℕ) (ea : slice_get (aircraft_of s.picture) at ≡ Some aircraft)
    (h : AreMasks s.settings s.picture.own aircraft first n old masks) where
  pub masks_at : (j : ℕ) → j < length masks → AddsLevels (MeetsAt s (first + j) at) n (slice_index old j) (slice_index masks j)
  masks_at j b level one = let is = h j b level one in (
    (λ y. ⊎_elim (λ o. inl o) (λ (w, (x, e, m)). inr (w, (met_at s (first + j) at level x aircraft e ea).0 m)) (is.0 y)),
    (λ t. is.1 (⊎_elim (λ o. inl o) (λ (w, m). inr (w, (m.candidate, m.listed, (met_at s (first + j) at level m.candidate aircraft m.listed ea).1 m))) t)),
  )

-- where there was nothing
pub masks_alone : (s : SceneState) (at first n : ℕ) (old masks : List ℕ) → ((j : ℕ) → j < length masks
    → AddsLevels (MeetsAt s (first + j) at) n (slice_index old j) (slice_index masks j)) → old ≡ replicate (length old) 0 → length masks ≡ length old
    → (j : ℕ) → j < length masks → IsMaskOf (MeetsAt s (first + j) at) n (slice_index masks j)
masks_alone s at first n old masks h clear same j b =
    let none : slice_index old j ≡ 0 = ap (λ (xs : List ℕ). slice_index xs j) clear ∙ get_or-replicate (length old) j 0 0 (omega (arith, b, same)) in
    mask_of_added (MeetsAt s (first + j) at) n (slice_index masks j) (subst (λ (m : ℕ). AddsLevels (MeetsAt s (first + j) at) n m (slice_index masks j)) none (h j b))

-- nothing is met
pub adds_none : (s : SceneState) (at n : ℕ) → ((index l : ℕ) → MeetsAt s index at l → ⊥) → (j mask : ℕ) → AddsLevels (MeetsAt s j at) n mask mask
adds_none s at n never j mask l one = ((λ b. inl b), (λ t. ⊎_elim (λ b. b) (λ (w, m). absurd (never j l m)) t))

-- what is in reach needs no kind that is not kept
pub idle_at : (s : SceneState) (trunks : Shared) (at : ℕ) (aircraft : Traffic) → AreFlightsOf s.settings s.picture trunks.needs trunks.trunks trunks.branches
    → slice_get (aircraft_of s.picture) at ≡ Some aircraft → IsInReachAt s at
    → AreIdle s.settings s.picture.own aircraft trunks.needs
idle_at s trunks at aircraft h there r = h.idle at aircraft there (subst (λ (t : Traffic). IsInReach s.settings s.picture.own t) (same_Some r.aircraft aircraft (sym r.there ∙ there)) r.reached)

-- the aircraft of a picture in range is in range
pub traffic_in_range : (picture : Picture) (at : ℕ) (aircraft : Traffic) → IsPictureInRange picture → slice_get (aircraft_of picture) at ≡ Some aircraft → IsTrafficInRange aircraft
traffic_in_range picture at aircraft p there =
    let w = slice_get_within (aircraft_of picture) at aircraft there in
    subst (λ (t : Traffic). IsTrafficInRange t) (get_or_from_slice_get (aircraft_of picture) at aircraft aircraft there) (All-get_or IsTrafficInRange (aircraft_of picture) at aircraft w p.traffic)
