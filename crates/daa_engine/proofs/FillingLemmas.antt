-- A board that is filled aircraft by aircraft.
use Rattle.std.proofs.Common.{◌<◌, ◌≤◌, ◌+◌, ◌-◌, ◌∙◌, ℕ, List, length, replicate, sym, ap, arith, inl, inr, below_more, ⊎_elim}
use Rattle.std.specs.Prelude.{slice_index}
use Rattle.std.specs.Int.{bit_at}
use Rattle.std.proofs.lemmas.Nat.Bits.{bit_at-zero}
use Rattle.std.proofs.lemmas.Bool.{cases_lt}
use Rattle.std.proofs.lemmas.List.{get_or_past}
use Rattle.std.proofs.lemmas.Option.{slice_get_within}
use Rattle.daa_config.specs.Settings.{Settings}
use Rattle.daa_config.specs.Candidates.{candidates_of}
use Rattle.daa_bands.specs.Board.{HasLevelOn, IsBoardOf}
use Rattle.daa_state.specs.Picture.{aircraft_of}
use Rattle.daa_state.specs.declared.word.Picture.{Picture}
use Rattle.daa_scan.specs.Adding.{AddsLevels}
use Rattle.daa_scan.specs.SceneState.{SceneState, MeetsAt}
use Rattle.daa_engine.specs.Covered.{CoveredAt}
use Rattle.daa_engine.proofs.Covered.{CoveredBelow, scene_of}
use Rattle.daa_engine.proofs.LevelLemmas.{nothing_set}

-- ---- one aircraft more

module _ (scene : SceneState) (n : ℕ) (old new : List ℕ) (room : length (candidates_of scene.settings) ≤ length new) (board : IsBoardOf (CoveredBelow scene n) scene.settings old)
    (adds : (j : ℕ) → j < length new → AddsLevels (MeetsAt scene j n) (length scene.settings.levels) (slice_index old j) (slice_index new j)) where
  inside : (index : ℕ) → index < length (candidates_of scene.settings) → index < length new
  inside index in' = omega (arith, in', room)

  covered : (index l : ℕ) → index < length (candidates_of scene.settings) → 1 ≤ l → l ≤ length scene.settings.levels → HasLevelOn new index l → CoveredBelow scene (n + 1) index l
  covered index l in' low high h = ⊎_elim
      (λ k. let x = (board.each index l in' low high).0 k in (x.0, omega arith, x.2))
      (λ (w, m). (n, omega arith, m))
      ((adds index (inside index in') l low).0 h)

  marked : (index l : ℕ) → index < length (candidates_of scene.settings) → 1 ≤ l → l ≤ length scene.settings.levels → CoveredBelow scene (n + 1) index l → HasLevelOn new index l
  marked index l in' low high (place, lt, meets) = below_more (λ (p : ℕ). MeetsAt scene index p l → HasLevelOn new index l) n
      (λ p k m. (adds index (inside index in') l low).1 (inl ((board.each index l in' low high).1 (p, k, m))))
      (λ m. (adds index (inside index in') l low).1 (inr (high, m)))
      place lt meets

  past : (index l : ℕ) → length new ≤ index → HasLevelOn new index l → ⊥
  past index l over h = let e = sym (ap (λ (x : ℕ). bit_at x (l - 1)) (get_or_past new index 0 over) ∙ bit_at-zero (l - 1)) ∙ h in omega (arith, e)

  pub aircraft_more : IsBoardOf (CoveredBelow scene (n + 1)) scene.settings new
  aircraft_more = record {
    each = λ index l in' low high. (covered index l in' low high, marked index l in' low high);
    no_level_above = λ index l high h. ⊎_elim
        (λ b. ⊎_elim (λ k. board.no_level_above index l high k) (λ (w, m). absurd (omega (arith, w, high))) ((adds index b l (omega (arith, high))).0 h))
        (λ over. past index l over h)
        (cases_lt index (length new));
    no_candidate_past = λ index l beyond low h. ⊎_elim
        (λ b. ⊎_elim (λ k. board.no_candidate_past index l beyond low k)
        (λ (w, m). let x = slice_get_within (candidates_of scene.settings) index m.candidate m.listed in
        absurd (omega (arith, x, beyond)))
        ((adds index b l low).0 h))
        (λ over. past index l over h)
        (cases_lt index (length new));
  }

-- ---- from none to all

pub aircraft_none : (scene : SceneState) (n : ℕ) → IsBoardOf (CoveredBelow scene 0) scene.settings (replicate n 0)
aircraft_none scene n = record {
  each = λ index l in' low high. ((λ h. absurd (nothing_set n index l h)), λ x. absurd (let lt = x.1 in omega arith));
  no_level_above = λ index l high h. nothing_set n index l h;
  no_candidate_past = λ index l past low h. nothing_set n index l h;
}

pub aircraft_all : (settings : Settings) (picture : Picture) (board : List ℕ) (n : ℕ) → length (aircraft_of picture) ≤ n
    → IsBoardOf (CoveredBelow (scene_of settings picture) n) settings board → IsBoardOf (CoveredAt settings picture) settings board
aircraft_all settings picture board n e h = record {
  each = λ index l in' low high. (
    (λ k. let x = (h.each index l in' low high).0 k in (x.0, x.2)),
    λ x. (h.each index l in' low high).1 (x.0, (let w = slice_get_within (aircraft_of picture) x.0 x.1.aircraft x.1.there in omega arith), x.1),
  );
  no_level_above = h.no_level_above;
  no_candidate_past = h.no_candidate_past;
}
