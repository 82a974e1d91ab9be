-- What is decided to be clear is clear in truth.
use Rattle.std.proofs.Common.{◌≡◌, ◌∙◌, sym, subst, refl, arith, ◌+◌, ◌-◌, ◌<◌, ◌≤◌, ℕ, pos, Some, length}
use Rattle.std.specs.Prelude.{slice_get}
use Rattle.std.proofs.lemmas.Option.{slice_get_within, same_Some, none-some}
use Rattle.daa_fixed.specs.Mask.{IsGreatestLevel}
use Rattle.daa_fixed.specs.Time.{HoldsSometime}
use Rattle.daa_taumod.specs.declared.Volume.{Volume}
use Rattle.daa_config.proofs.CandidateLemmas.{candidate_at}
use Rattle.daa_config.specs.Candidates.{candidates_of, candidate_to, start_of}
use Rattle.daa_config.specs.Settings.{Settings, IsLevelAt}
use Rattle.daa_config.specs.declared.candidate.Candidate.{Candidate}
use Rattle.daa_config.specs.declared.candidate.Candidate.TheVariants.{Hold}
use Rattle.daa_config.specs.declared.candidate.Resolution.{Resolution}
use Rattle.daa_config.specs.declared.candidate.Resolution.TheVariants.{Keep, To, Nothing}
use Rattle.daa_config.specs.declared.kind.Kind.{Kind}
use Rattle.daa_config.specs.declared.level.Level.{Level}
use Rattle.daa_state.specs.declared.word.Own.{Own}
use Rattle.daa_state.specs.declared.word.Picture.{Picture}
use Rattle.daa_state.specs.declared.word.Traffic.{Traffic}
use Rattle.daa_legs.specs.Alerts.{IsNowLevel, IsAlertLevel, IsFirstLeg}
use Rattle.daa_legs.specs.Relative.{relative_for}
use Rattle.daa_legs.specs.Violating.{ViolatesBy}
use Rattle.daa_legs.specs.declared.own_leg.OwnLeg.{OwnLeg}
use Rattle.daa_meet.proofs.Truth.{truth_by}
use Rattle.daa_meet.specs.InTruth.{IsClearOn}
use Rattle.daa_resolve.specs.Open.{IsOpen}
use Rattle.daa_resolve.specs.Resolution.{IsResolution}
use Rattle.daa_resolve.specs.declared.side.Side.{Side}
use Rattle.daa_last.specs.Last.{IsLastTime, IsOpenDelayed}
use Rattle.daa_recovery.specs.Recovery.{IsRecovery}
use Rattle.daa_recovery.specs.declared.recovery.Recovery.{Recovery}
use Rattle.daa_engine.specs.Clear.{flight_of, flight_after, named_by, IsClearAt, IsOpenInTruth, IsClearNowAbove, IsClearAheadAbove, IsClearBefore, HasOpenAfter, RecoversInTruth}
use Rattle.daa_engine.specs.Covered.{CoveredAt}

-- a leg of any flight
pub leg_clear : (flight : ℕ → OwnLeg) (aircraft : Traffic) (volume : Volume) (k : ℕ)
    → ¬ HoldsSometime 1 (ViolatesBy aircraft k (relative_for 1 (flight k) aircraft k) volume) → IsClearOn flight aircraft volume k
leg_clear flight aircraft volume k none n d t v = none (record {
  num = n;
  den = d;
  time = t;
  holds = truth_by aircraft k (relative_for 1 (flight k) aircraft k) v.truth volume n d t.from t.fraction v.within v.violates;
})

level_within : (settings : Settings) (l : ℕ) (level : Level) → IsLevelAt settings l level → l ≤ length settings.levels
level_within settings l level numbered = let some = numbered.numbered in let within = slice_get_within settings.levels (l - 1) level numbered.there in omega arith

hold_listed : (settings : Settings) → slice_get (candidates_of settings) 0 ≡ Some Hold
unfolding candidates_of
hold_listed settings = refl

module _ (settings : Settings) (picture : Picture) where
  -- ---- candidates

  pub candidate_clear : (index l : ℕ) (candidate : Candidate) → slice_get (candidates_of settings) index ≡ Some candidate → ¬ CoveredAt settings picture index l
      → IsClearAt settings picture (flight_of settings picture.own candidate) 0 l
  candidate_clear index l candidate listed uncovered level place aircraft numbered there k from before =
      leg_clear (flight_of settings picture.own candidate) aircraft level.volume k (λ v. uncovered (
        place,
        record {
          candidate = candidate;
          aircraft = aircraft;
          listed = listed;
          there = there;
          meets = record { level = level; there = numbered; meets = record { leg = k; before = before; violates = v } };
        },
      ))

  pub above_clear : (index shown l : ℕ) (candidate : Candidate) → slice_get (candidates_of settings) index ≡ Some candidate
      → IsGreatestLevel (CoveredAt settings picture index) (length settings.levels) shown → shown < l
      → IsClearAt settings picture (flight_of settings picture.own candidate) 0 l
  above_clear index shown l candidate listed greatest above level place aircraft numbered there =
      candidate_clear index l candidate listed (greatest.none_above l above (level_within settings l level numbered)) level place aircraft numbered there

  open_clear : (index : ℕ) (candidate : Candidate) → slice_get (candidates_of settings) index ≡ Some candidate → IsOpen (CoveredAt settings picture) settings index
      → IsOpenInTruth settings picture (flight_of settings picture.own candidate) 0
  open_clear index candidate listed is_open l from level place aircraft numbered there =
      candidate_clear index l candidate listed (is_open l from (level_within settings l level numbered)) level place aircraft numbered there

  pub answer_clear : (kind : Kind) (side : Side) (resolution : Resolution) (candidate : Candidate)
      → IsResolution (CoveredAt settings picture) settings picture.own kind side resolution → named_by kind resolution ≡ Some candidate
      → IsOpenInTruth settings picture (flight_of settings picture.own candidate) 0
  answer_clear kind side Keep candidate h e =
      subst (λ (c : Candidate). IsOpenInTruth settings picture (flight_of settings picture.own c) 0) (same_Some _ _ e) (open_clear 0 Hold (hold_listed settings) h)
  answer_clear kind side (To value) candidate (shut, (index, here, nearest)) e =
      subst (λ (c : Candidate). IsOpenInTruth settings picture (flight_of settings picture.own c) 0) (same_Some _ _ e)
      (open_clear (start_of kind settings + index) (candidate_to kind value) (candidate_at kind settings index value here.value_is) here.is_open)
  answer_clear kind side Nothing candidate h e = absurd (none-some candidate e)

  -- ---- flights that are delayed, and recoveries

  pub delayed_clear : (candidate : Candidate) (m : ℕ) → IsOpenDelayed settings picture candidate m
      → IsOpenInTruth settings picture (flight_after settings picture.own m candidate) 0
  delayed_clear candidate m is_open l from level place aircraft numbered there k first before =
      leg_clear (flight_after settings picture.own m candidate) aircraft level.volume k (λ v. is_open place aircraft there (record {
        number = l;
        level = level;
        closes = record { there = numbered; from = from };
        leg = k;
        before = before;
        violates = v;
      }))

  pub last_clear : (kind : Kind) (m : ℕ) → IsLastTime settings picture kind (Some m) → HasOpenAfter settings picture kind m
  last_clear kind m h =
      let some = h.last.some in
      record { index = some.index; value = some.value; there = some.there; is_open = delayed_clear (candidate_to kind some.value) m some.is_open }

  pub recovery_clear : (kind : Kind) (r : Recovery) → IsRecovery settings picture kind (Some r)
      → RecoversInTruth settings picture (candidate_to kind r.value) r.after
  recovery_clear kind r h =
      let clear = h.found.recovers.recovers in
      let flight = flight_of settings picture.own (candidate_to kind r.value) in
      record {
        is_open = λ l from level place aircraft numbered there k first before. leg_clear flight aircraft level.volume k
            (λ v. (clear place aircraft there).open_levels
            (record { number = l; level = level; closes = record { there = numbered; from = from }; leg = k; before = before; violates = (first, v) }));
        apart = λ cylinder l level place aircraft asked from numbered there k first before.
            let most = h.ahead.most l level (record { there = numbered; from = from }) in
            let same : h.cylinder ≡ cylinder = same_Some _ _ (sym h.asked ∙ asked) in
            subst (λ (c : Volume). IsClearOn flight aircraft c k) same
            (leg_clear flight aircraft h.cylinder k (λ v. (clear place aircraft there).apart (record { leg = k; before = omega (arith, before, most); violates = v })));
      }

-- ---- an aircraft

pub now_clear : (settings : Settings) (own : Own) (aircraft : Traffic) (now : ℕ) → IsNowLevel settings own aircraft now → IsClearNowAbove settings own aircraft now
now_clear settings own aircraft now h l level above numbered v = h.none_above l above (level_within settings l level numbered) (record {
  level = level;
  there = numbered;
  violates = truth_by aircraft 0 (relative_for 1 (flight_of settings own Hold 0) aircraft 0) v.truth level.volume (pos 0) (pos 1) (omega arith) (omega arith) v.within v.violates;
})

pub alert_clear : (settings : Settings) (own : Own) (aircraft : Traffic) (alert : ℕ) → IsAlertLevel settings own aircraft alert → IsClearAheadAbove settings own aircraft alert
alert_clear settings own aircraft alert h l level above numbered k from before =
    leg_clear (flight_of settings own Hold) aircraft level.volume k
    (λ v. h.none_above l above (level_within settings l level numbered)
    (record { level = level; there = numbered; meets = record { leg = k; before = before; violates = v } }))

pub first_clear : (settings : Settings) (own : Own) (aircraft : Traffic) (l k : ℕ) → IsFirstLeg settings own aircraft l k → IsClearBefore settings own aircraft l k
first_clear settings own aircraft l k h level numbered j from before =
    let same : h.level ≡ level = same_Some _ _ (sym h.there.there ∙ numbered.there) in
    subst (λ (x : Level). IsClearOn (flight_of settings own Hold) aircraft x.volume j) same
    (leg_clear (flight_of settings own Hold) aircraft h.level.volume j (h.none_before j before))
