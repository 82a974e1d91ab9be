-- A walk along the rest of a delayed flight, run by run, and a test of one leg.
use Rattle.std.proofs.Common.{◌≡◌, ◌↔◌, ℕ, ◌+◌, ◌<◌, ◌≤◌, Bool, ap, subst, ◌∙◌, ⊎_elim, arith}
use Rattle.std.proofs.lemmas.Bool.{cases_lt}
use Rattle.std.specs.Prelude.{IsTrue}
use Rattle.daa_fixed.specs.declared.Leg.{Leg}
use Rattle.daa_fixed.specs.declared.Solid.{Solid}
use Rattle.daa_fixed.specs.Time.{HoldsSometime}
use Rattle.daa_taumod.specs.declared.Volume.{Volume}
use Rattle.daa_config.specs.declared.candidate.Candidate.{Candidate}
use Rattle.daa_config.specs.declared.level.Level.{Level}
use Rattle.daa_config.specs.Settings.{Settings, rates_of}
use Rattle.daa_state.specs.declared.word.Own.{Own}
use Rattle.daa_state.specs.declared.word.Traffic.{Traffic}
use Rattle.daa_legs.specs.declared.own_leg.OwnLeg.{OwnLeg}
use Rattle.daa_legs.specs.declared.own_leg.OwnRun.{OwnRun}
use Rattle.daa_legs.specs.Relative.{relative_for}
use Rattle.daa_legs.specs.Runs.{first_leg_of}
use Rattle.daa_legs.specs.Violating.{ViolatesBy}
use Rattle.daa_last.specs.Delayed.{place_delayed, leg_delayed, ViolatesDelayed}
use Rattle.daa_last.specs.Inside.Search.{MeetsLate}
use Rattle.daa_last.proofs.LateRuns.{IsLateRun, late_seconds}

module _ (settings : Settings) (own : Own) (candidate : Candidate) (m : ℕ) (aircraft : Traffic) where
  -- a test of a run
  pub run_tested : (volume : Volume) (k : ℕ) (run : OwnRun) → IsLateRun own (rates_of settings) m candidate k run → 1 ≤ run.secs → (rel : Leg) (hit : Bool)
      → rel ≡ relative_for run.secs (first_leg_of run) aircraft k → IsTrue hit ↔ HoldsSometime rel.secs (ViolatesBy aircraft k rel volume)
      → IsTrue hit ↔ MeetsLate settings own candidate m aircraft volume k (k + run.secs)
  unfolding relative_for
  run_tested volume k run r some rel hit e h =
      let o = late_seconds settings own candidate m aircraft volume k run r some in
      let t = subst (λ (l : Leg). IsTrue hit ↔ HoldsSometime l.secs (ViolatesBy aircraft k l volume)) e h in
      ((λ x. o.0 (t.0 x)), (λ x. t.1 (o.1 x)))

  -- a test of a leg at one level
  pub before_tested : (level : Level) (k : ℕ) (leg : OwnLeg) (seen : Leg) (b : Bool) → leg ≡ leg_delayed own (rates_of settings) m candidate k → seen ≡ relative_for 1 leg aircraft k
      → IsTrue b ↔ ((k < level.lookahead) × HoldsSometime seen.secs (ViolatesBy aircraft k seen level.volume))
      → IsTrue b ↔ ((k < level.lookahead) × ViolatesDelayed settings own candidate m aircraft level.volume k)
  unfolding relative_for
  before_tested level k leg seen b e r h =
      subst (λ (l : Leg). IsTrue b ↔ ((k < level.lookahead) × HoldsSometime l.secs (ViolatesBy aircraft k l level.volume))) (r ∙ ap (λ (l : OwnLeg). relative_for 1 l aircraft k) e) h

  module _ (volume : Volume) (first : ℕ) where
    -- the place is that of leg k, and none of the legs from `first` on before it violates
    pub record IsWalkedLate (place : Solid) (k : ℕ) : Type 0 where
      pub from : first ≤ k
      pub at : place ≡ place_delayed own (rates_of settings) m candidate k
      pub none : (j : ℕ) → first ≤ j → j < k → ¬ ViolatesDelayed settings own candidate m aircraft volume j

    pub walked_first : (place : Solid) → place ≡ place_delayed own (rates_of settings) m candidate first → IsWalkedLate place first
    walked_first place e = record { from = omega arith; at = e; none = λ j le lt. absurd (omega (arith, le, lt)) }

    pub walked_next : (place next : Solid) (k secs : ℕ) → IsWalkedLate place k → next ≡ place_delayed own (rates_of settings) m candidate (k + secs)
        → ¬ MeetsLate settings own candidate m aircraft volume k (k + secs) → IsWalkedLate next (k + secs)
    walked_next place next k secs w e free =
        let from = w.from in
        record {
          from = omega (arith, from);
          at = e;
          none = λ j le lt v. ⊎_elim
              (λ before. w.none j le before v)
              (λ ge. free (record { leg = j; not_before = ge; before = lt; violates = v }))
              (cases_lt j k);
        }

    pub walked_met : (place : Solid) (k upto end : ℕ) → IsWalkedLate place k → end ≤ upto → MeetsLate settings own candidate m aircraft volume k end
        → MeetsLate settings own candidate m aircraft volume first upto
    walked_met place k upto end w le x =
        let from = w.from in
        record { leg = x.leg; not_before = omega (arith, from, x.not_before); before = omega (arith, le, x.before); violates = x.violates }

    pub walked_none : (place : Solid) (upto k : ℕ) → upto ≤ k → IsWalkedLate place k → MeetsLate settings own candidate m aircraft volume first upto → ⊥
    walked_none place upto k le w x = w.none x.leg x.not_before (omega (arith, le, x.before)) x.violates
