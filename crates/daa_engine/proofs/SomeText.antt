-- A picture in range has a text.
use Rattle.std.specs.Prelude.{codes, is_some}
use Rattle.std.proofs.Common.{◌≡◌, ◌≢◌, ◌++◌, Bool, true, false, Option, Some, None, option_map, ℕ, zero, suc, List, [], ◌∷◌, length, refl, subst, arith, inl, inr, ⊎_elim}
use Rattle.std.proofs.lemmas.Bool.{cases_lt}
use Rattle.std.proofs.lemmas.Option.{slice_get_within}
use Rattle.std.proofs.lemmas.List.Elements.{recursion_from_All}
use Rattle.std.specs.List.{flat_map, AllByRecursion}
use Rattle.daa_config.specs.Settings.{Settings, IsAccepted}
use Rattle.daa_config.specs.declared.kind.Kind.{Kind}
use Rattle.daa_state.specs.InRange.{IsTrafficInRange, IsPictureInRange}
use Rattle.daa_state.specs.Picture.{aircraft_of}
use Rattle.daa_state.specs.declared.word.Picture.{Picture}
use Rattle.daa_state.specs.declared.word.Traffic.{Traffic}
use Rattle.daa_scan.specs.SceneState.{MeetsAt}
use Rattle.daa_fixed.proofs.Decidable.{IsDecidable}
use Rattle.daa_scan.proofs.DecidableMeetings.{met_at_decided}
use Rattle.daa_alert.proofs.DecidableAlerts.{legs_told, alerts_decided, violated_now_decided}
use Rattle.daa_alert.proofs.SomeAlert.{some_greatest, some_now, some_alert}
use Rattle.daa_fixed.specs.One.{HasOne}
use Rattle.daa_bands.specs.KindBands.{AreKindBands}
use Rattle.daa_bands.proofs.SomeBands.{one_kind_list}
use Rattle.daa_resolve.specs.Resolution.{IsResolution}
use Rattle.daa_resolve.specs.declared.side.Side.{Side}
use Rattle.daa_resolve.specs.declared.side.Side.TheVariants.{Lower, Upper}
use Rattle.daa_resolve.proofs.SomeResolution.{one_resolution}
use Rattle.daa_config.specs.declared.candidate.Resolution.{Resolution}
use Rattle.daa_config.specs.declared.candidate.Resolution.TheVariants.{Keep, To, Nothing}
use Rattle.daa_last.proofs.SomeLast.{one_last_time}
use Rattle.daa_recovery.proofs.SomeRecovery.{one_recovery}
use Rattle.daa_report.specs.Lines.{Text, numbers_line, alert_line, resolve_line, last_line, recover_line}
use Rattle.daa_engine.specs.Covered.{CoveredAt}
use Rattle.daa_engine.proofs.Covered.{CoveredBelow, scene_of}
use Rattle.daa_bands.specs.Parts.{SplitsByEach}
use Rattle.daa_engine.specs.MomentText.{AreAircraftLines, IsLastText, IsRecoveryText, IsMomentText, of_each}
use Rattle.daa_engine.specs.Inside.Findings.{found_of}
use Rattle.daa_engine.specs.Inside.Written.{line_of}
use Rattle.daa_engine.proofs.OneText.{text_only}

module _ (s : Settings) (p : Picture) (a : IsAccepted s) (r : IsPictureInRange p) where
  -- ---- what is covered can be decided

  covered_below : (index l n : ℕ) → IsDecidable (CoveredBelow (scene_of s p) n index l)
  covered_below index l zero = inr (λ (place, lt, m). omega arith)
  covered_below index l (suc n) = go (covered_below index l n) (met_at_decided (scene_of s p) a r index n l)
    where
      none : (CoveredBelow (scene_of s p) n index l → ⊥) → (MeetsAt (scene_of s p) index n l → ⊥) → CoveredBelow (scene_of s p) (suc n) index l → ⊥
      none before here (place, lt, m) = ⊎_elim
          (λ below. before (place, below, m))
          (λ ge. let e : place ≡ n = omega (arith, lt, ge) in here (subst (λ (i : ℕ). MeetsAt (scene_of s p) index i l) e m))
          (cases_lt place n)

      go : IsDecidable (CoveredBelow (scene_of s p) n index l) → IsDecidable (MeetsAt (scene_of s p) index n l) → IsDecidable (CoveredBelow (scene_of s p) (suc n) index l)
      go (inl (place, lt, m)) t = inl (place, omega arith, m)
      go (inr before) (inl m) = inl (n, omega arith, m)
      go (inr before) (inr here) = inr (none before here)

  covered_decided : (index l : ℕ) → IsDecidable (CoveredAt s p index l)
  covered_decided index l = go (covered_below index l (length (aircraft_of p)))
    where
      go : IsDecidable (CoveredBelow (scene_of s p) (length (aircraft_of p)) index l) → IsDecidable (CoveredAt s p index l)
      go (inl (place, lt, m)) = inl (place, m)
      go (inr none) = inr (λ (place, m). none (place, slice_get_within (aircraft_of p) place m.aircraft m.there, m))

  -- ---- the lines

  aircraft_lines : (t : Traffic) → IsTrafficInRange t → (text : Text) × AreAircraftLines s p t text
  aircraft_lines t in' =
      let now = some_now s p.own t (violated_now_decided s p.own t a r.own in') in
      let alert = some_alert s p.own t (legs_told s p.own t a r.own in') (alerts_decided s p.own t a r.own in') in
      (numbers_line (codes "now " ++ t.id) (now.0 ∷ []) ++ alert_line t.id alert.0.level alert.0.first, record { now = now.0; alert = alert.0; now_is = now.1; alert_is = alert.1; text_is = refl })

  alert_lines : (ts : List Traffic) → AllByRecursion IsTrafficInRange ts → (text : Text) × SplitsByEach (AreAircraftLines s p) ts text
  alert_lines [] in' = ([], refl)
  alert_lines (t ∷ ts) in' =
      let first = aircraft_lines t in'.0 in
      let rest = alert_lines ts in'.1 in
      (first.0 ++ rest.0, record { first = first.0; second = rest.0; first_is = first.1; second_is = rest.1; joined = refl })

  bands : (kind : Kind) → HasOne (AreKindBands (CoveredAt s p) (length s.levels) s kind)
  bands kind = one_kind_list (CoveredAt s p) (length s.levels) s kind (λ index. some_greatest (CoveredAt s p index) (covered_decided index) (length s.levels))

  resolution : (kind : Kind) (side : Side) → HasOne (IsResolution (CoveredAt s p) s p.own kind side)
  resolution kind side = one_resolution (CoveredAt s p) covered_decided s p.own kind side a

  last_line_text : (kind : Kind) → (text : Text) × IsLastText s p true Nothing kind text
  last_line_text kind = let f = one_last_time s a p r kind in (last_line kind f.one, (f.one, f.is, refl))

  last_texts : (asked : Bool) (answer : Resolution) (kind : Kind) → (text : Text) × IsLastText s p asked answer kind text
  last_texts false answer kind = ([], refl)
  last_texts true Keep kind = ([], refl)
  last_texts true (To v) kind = last_line_text kind
  last_texts true Nothing kind = last_line_text kind

  there : {X : Type 0} (o : Option X) → is_some o ≡ true → o ≢ None
  there (Some v) e f = cc f
  there None e f = cc e

  recovery_texts : (asked : Bool) → is_some s.recovery ≡ asked → (lower upper : Resolution) (kind : Kind) → (text : Text) × IsRecoveryText s p asked lower upper kind text
  recovery_texts false e lower upper kind = ([], refl)
  recovery_texts true e Keep upper kind = ([], refl)
  recovery_texts true e (To v) upper kind = ([], refl)
  recovery_texts true e Nothing Keep kind = ([], refl)
  recovery_texts true e Nothing (To v) kind = ([], refl)
  recovery_texts true e Nothing Nothing kind =
      let f = one_recovery s a None p kind r (there s.recovery e) in (recover_line kind (option_map found_of f.one), (f.one, f.is, refl))

  some_text : (text : Text) × IsMomentText s p text
  some_text =
      let alerts = alert_lines (aircraft_of p) (recursion_from_All IsTrafficInRange (aircraft_of p) r.traffic) in
      let band_text = λ (kind : Kind). flat_map (line_of kind) (bands kind).one in
      let answers = λ (kind : Kind) (side : Side). (resolution kind side).one in
      let answer_text = λ (kind : Kind). resolve_line kind (answers kind Lower) (answers kind Upper) in
      let last_text = λ (kind : Kind). (last_texts s.last_times (answers kind Lower) kind).0 in
      let recovery_text = λ (kind : Kind). (recovery_texts (is_some s.recovery) refl (answers kind Lower) (answers kind Upper) kind).0 in (
        numbers_line (codes "moment") (p.time ∷ [])
            ++ (alerts.0 ++ (of_each band_text ++ (of_each answer_text ++ (of_each last_text ++ (of_each recovery_text ++ numbers_line (codes "done") (p.time ∷ [])))))),
        record {
          alerts = alerts.0;
          bands = λ kind. (bands kind).one;
          answers = answers;
          lasts = last_text;
          recoveries = recovery_text;
          alerts_are = alerts.1;
          bands_are = λ kind. (bands kind).is;
          answers_are = λ kind side. (resolution kind side).is;
          lasts_are = λ kind. (last_texts s.last_times (answers kind Lower) kind).1;
          recoveries_are = λ kind. (recovery_texts (is_some s.recovery) refl (answers kind Lower) (answers kind Upper) kind).1;
          text_is = refl;
        },
      )

  pub one_text : HasOne (IsMomentText s p)
  one_text = record { one = some_text.0; is = some_text.1; only = λ other h. text_only s p a other some_text.0 h some_text.1 }
