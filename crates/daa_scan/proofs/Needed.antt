-- Kinds that are needed: what a level, and what an aircraft, adds.
use Rattle.std.proofs.Common.{IsTrue, ◌≡◌, ℕ, ℤ, ◌+◌, ◌-◌, ◌≤◌, Bool, false, subst, arith, length, ⊎_elim}
use Rattle.std.proofs.lemmas.Bool.{cases_eq, cases_lt}
use Rattle.std.proofs.lemmas.Option.{slice_get_within}
use Rattle.daa_config.specs.declared.kind.Kind.{Kind}
use Rattle.daa_config.specs.declared.kind.Kind.TheVariants.{Track, GroundSpeed, VerticalSpeed, Altitude}
use Rattle.daa_config.specs.declared.level.Level.{Level}
use Rattle.daa_config.specs.Candidates.{candidate_to}
use Rattle.daa_config.specs.Settings.{Settings, IsLevelAt}
use Rattle.daa_state.specs.declared.word.Own.{Own}
use Rattle.daa_state.specs.declared.word.Traffic.{Traffic}
use Rattle.daa_legs.specs.Meeting.{MeetsWithin}
use Rattle.daa_legs.proofs.AtLevel.{one_level}
use Rattle.daa_scan.specs.declared.needs.Needs.{Needs}
use Rattle.daa_scan.specs.declared.refusal.Seconds.{Seconds}
use Rattle.daa_scan.specs.Trunks.{is_needed, AreIdle}
use Rattle.daa_scan.specs.Inside.Refusal.{AreSecondsOf}
use Rattle.daa_scan.specs.Inside.Needs.{NeedsMore, IsIdleAt}

below : (l j : ℕ) → j ≤ l + 1 → (j ≡ l + 1 → ⊥) → j ≤ l
below l j h n = ⊎_elim (λ k. omega (arith, k)) (λ k. absurd (n (omega (arith, h, k)))) (cases_lt j (l + 1))

module _ (settings : Settings) (own : Own) (aircraft : Traffic) where
  -- no candidate of a kind that is not needed meets the aircraft at one of the first n levels
  abbrev pub AreIdleBelow : (n : ℕ) → Needs → Type 0
  AreIdleBelow n needs = (l : ℕ) (level : Level) → l ≤ n → IsLevelAt settings l level → IsIdleAt settings own aircraft level needs

  pub none_idle : (needs : Needs) → AreIdleBelow 0 needs
  none_idle needs l level le at = absurd (omega (arith, le, at.numbered))

  -- the next level
  pub idle_next : (l : ℕ) (needs more : Needs) (next : Level) → IsLevelAt settings (l + 1) next → NeedsMore needs more → IsIdleAt settings own aircraft next more
      → AreIdleBelow l needs → AreIdleBelow (l + 1) more
  idle_next l needs more next at grows is h k level le there kind e z m = ⊎_elim
      (λ same. is kind e z (subst (λ (x : Level). MeetsWithin settings own (candidate_to kind z) aircraft x.volume x.lookahead)
      (one_level settings (l + 1) level next (subst (λ (i : ℕ). IsLevelAt settings i level) same there) at) m))
      (λ n. h k level (below l k le n) there kind (grows kind e) z m)
      (cases_eq k (l + 1))

  -- all of them
  pub idle_all : (n : ℕ) (needs : Needs) → length settings.levels ≤ n → AreIdleBelow n needs → AreIdle settings own aircraft needs
  idle_all n needs all h kind e l level at = let w = slice_get_within settings.levels (l - 1) level at.there in h l level (omega (arith, w, all)) at kind e

  -- a kind that has no seconds within the lookahead does not meet
  pub never_met : (kind : Kind) (level : Level) (seconds : Seconds) → AreSecondsOf settings own aircraft kind level.volume level.lookahead seconds → level.lookahead ≤ seconds.begin
      → (z : ℤ) → ¬ MeetsWithin settings own (candidate_to kind z) aircraft level.volume level.lookahead
  never_met kind level seconds h past z m = h.before z m.leg m.before (omega (arith, m.before, past)) m.violates

  -- a level adds the kinds that have seconds
  pub idle_by : (turns climbs : Bool) (level : Level) (heights way : Seconds) → (turns ≡ false → level.lookahead ≤ heights.begin) → (climbs ≡ false → level.lookahead ≤ way.begin)
      → AreSecondsOf settings own aircraft Track level.volume level.lookahead heights → AreSecondsOf settings own aircraft GroundSpeed level.volume level.lookahead heights
      → AreSecondsOf settings own aircraft VerticalSpeed level.volume level.lookahead way → AreSecondsOf settings own aircraft Altitude level.volume level.lookahead way
      → IsIdleAt settings own aircraft level (record { turns = turns; climbs = climbs })
  idle_by turns climbs level heights way t c a b d e Track n z = never_met Track level heights a (t n) z
  idle_by turns climbs level heights way t c a b d e GroundSpeed n z = never_met GroundSpeed level heights b (t n) z
  idle_by turns climbs level heights way t c a b d e VerticalSpeed n z = never_met VerticalSpeed level way d (c n) z
  idle_by turns climbs level heights way t c a b d e Altitude n z = never_met Altitude level way e (c n) z

-- and keeps the others
pub needs_more : (needs : Needs) (turns climbs : Bool) → (turns ≡ false → needs.turns ≡ false) → (climbs ≡ false → needs.climbs ≡ false) → NeedsMore needs (record { turns = turns; climbs = climbs })
needs_more needs turns climbs t c Track n = t n
needs_more needs turns climbs t c GroundSpeed n = t n
needs_more needs turns climbs t c VerticalSpeed n = c n
needs_more needs turns climbs t c Altitude n = c n

-- where every kind is needed none is idle
pub all_needed : (settings : Settings) (own : Own) (aircraft : Traffic) (needs : Needs) → ((kind : Kind) → IsTrue (is_needed needs kind)) → AreIdle settings own aircraft needs
all_needed settings own aircraft needs all kind n = absurd (let t = all kind in cc (t, n))
