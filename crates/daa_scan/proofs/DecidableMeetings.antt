-- What is met can be decided.
use Rattle.std.proofs.Common.{◌≡◌, ◌⊎◌, inl, inr, ℕ, Some, None}
use Rattle.std.specs.Prelude.{slice_get}
use Rattle.daa_config.specs.declared.candidate.Candidate.{Candidate}
use Rattle.daa_config.specs.declared.level.Level.{Level}
use Rattle.daa_config.specs.Candidates.{candidates_of}
use Rattle.daa_fixed.proofs.Decidable.{IsDecidable, as_decided}
use Rattle.daa_config.specs.Settings.{Settings, IsAccepted, IsCandidateInRange, IsLevelAt}
use Rattle.daa_state.specs.declared.word.Own.{Own}
use Rattle.daa_state.specs.declared.word.Traffic.{Traffic}
use Rattle.daa_state.specs.InRange.{IsOwnInRange, IsTrafficInRange, IsPictureInRange}
use Rattle.daa_state.specs.Picture.{aircraft_of}
use Rattle.daa_legs.specs.Meeting.{Meets}
use Rattle.daa_legs.proofs.AtLevel.{looked, nothing, level_at, meets_at}
use Rattle.daa_scan.specs.SceneState.{SceneState, MeetsAt}
use Rattle.daa_scan.proofs.ListedCandidates.{listed}
use Rattle.daa_meet.proofs.Meetings.{within_decided}
use Rattle.daa_scan.proofs.Masking.{at_place, met_at}

module _ (settings : Settings) (own : Own) (aircraft : Traffic) (a : IsAccepted settings) (o : IsOwnInRange own) (t : IsTrafficInRange aircraft) where
  pub meets_decided : (candidate : Candidate) → IsCandidateInRange candidate → (l : ℕ) → IsDecidable (Meets settings own candidate aircraft l)
  meets_decided candidate h l = go (level_at settings l)
    where
      go : ((level : Level) × IsLevelAt settings l level) ⊎ ((level : Level) → IsLevelAt settings l level → ⊥) → IsDecidable (Meets settings own candidate aircraft l)
      go (inl (level, at)) =
          let r = a.level l level at in
          as_decided (meets_at settings own aircraft l level at candidate)
          (within_decided settings own candidate aircraft a o h t level.volume r.volume level.lookahead r.lookahead_most)
      go (inr none) = inr (λ m. none m.level m.there)

module _ (s : SceneState) (a : IsAccepted s.settings) (p : IsPictureInRange s.picture) where
  pub met_at_decided : (index at l : ℕ) → IsDecidable (MeetsAt s index at l)
  met_at_decided index at l = go (looked (slice_get (candidates_of s.settings) index)) (looked (slice_get (aircraft_of s.picture) at))
    where
      go : ((c : Candidate) × (slice_get (candidates_of s.settings) index ≡ Some c)) ⊎ (slice_get (candidates_of s.settings) index ≡ None)
          → ((t : Traffic) × (slice_get (aircraft_of s.picture) at ≡ Some t)) ⊎ (slice_get (aircraft_of s.picture) at ≡ None) → IsDecidable (MeetsAt s index at l)
      go (inl (c, ec)) (inl (t, ea)) =
          as_decided (met_at s index at l c t ec ea)
          (meets_decided s.settings s.picture.own t a p.own (at_place IsTrafficInRange (aircraft_of s.picture) at t p.traffic ea) c (listed s.settings a index c ec).in_range l)
      go (inl (c, ec)) (inr none) = inr (λ m. nothing m.aircraft _ none m.there)
      go (inr none) x = inr (λ m. nothing m.candidate _ none m.listed)
