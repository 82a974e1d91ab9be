-- The last leg of a straight rest that violates, and what is raised to the leg after it.
use Rattle.std.proofs.Common.{◌≡◌, ℕ, ◌+◌, ◌-◌, ◌<◌, ◌≤◌, max, pos, ◌≤ℤ◌, length, subst, arith, ⊎_elim}
use Rattle.std.proofs.lemmas.Bool.{cases_lt}
use Rattle.daa_config.specs.declared.candidate.Candidate.{Candidate}
use Rattle.daa_config.specs.declared.level.Level.{Level}
use Rattle.daa_config.specs.Settings.{IsLevelAt}
use Rattle.daa_state.specs.declared.word.Traffic.{Traffic}
use Rattle.daa_taumod.specs.declared.Volume.{Volume}
use Rattle.daa_legs.specs.Meeting.{ViolatesOn}
use Rattle.daa_legs.specs.Runs.{MeetsBetween}
use Rattle.daa_recovery.specs.OutlookState.{OutlookState}
use Rattle.daa_recovery.specs.Inside.Legs.{IsClosedOn, IsRaised}
use Rattle.daa_recovery.proofs.ClosingLevels.{IsNoLevel, levels_first, levels_more, levels_all}
use Rattle.daa_recovery.proofs.LastLegs.{IsLateOn, late_later}

module _ (p : OutlookState) (candidate : Candidate) (aircraft : Traffic) where
  module _ (volume : Volume) (upto : ℕ) where
    -- the volume is violated on leg k, which is before leg `upto`
    abbrev pub IsBefore : ℕ → Type 0
    IsBefore k = (k < upto) × ViolatesOn p.settings p.picture.own candidate aircraft volume k

    abbrev IsMetFrom : ℕ → Type 0
    IsMetFrom first = MeetsBetween p.settings p.picture.own candidate aircraft volume first upto

    -- ---- halving: the last such leg is from low on, before high
    pub record IsHalvedOn (first low high : ℕ) : Type 0 where
      pub ordered : low < high
      pub begin : first ≤ low
      pub end : high ≤ upto
      pub met : MeetsBetween p.settings p.picture.own candidate aircraft volume low upto
      pub none : ¬ MeetsBetween p.settings p.picture.own candidate aircraft volume high upto

    pub halved_on-first : (first : ℕ) → IsMetFrom first → IsHalvedOn first first upto
    halved_on-first first met = record {
      ordered = (let a = met.not_before in let b = met.before in omega (arith, a, b));
      begin = omega arith;
      end = omega arith;
      met = met;
      none = λ m. let a = m.not_before in let b = m.before in absurd (omega (arith, a, b));
    }

    pub halved_on-low : (first low middle high : ℕ) → low < middle → middle < high → IsMetFrom middle → IsHalvedOn first low high → IsHalvedOn first middle high
    halved_on-low first low middle high a b met h = record { ordered = b; begin = (let f = h.begin in omega (arith, f, a)); end = h.end; met = met; none = h.none }

    pub halved_on-high : (first low middle high : ℕ) → low < middle → middle < high → ¬ IsMetFrom middle → IsHalvedOn first low high → IsHalvedOn first low middle
    halved_on-high first low middle high a b none h = record { ordered = a; begin = h.begin; end = (let e = h.end in omega (arith, e, b)); met = h.met; none = none }

    pub halved_on-all : (first low high : ℕ) → high ≤ low + 1 → IsHalvedOn first low high → IsRaised IsBefore first first high
    halved_on-all first low high e h = record {
      most = (let a = h.begin in let o = h.ordered in omega (arith, a, o));
      closed = λ _. last;
      later = λ k from le x. h.none (record { leg = k; not_before = le; before = x.0; violates = x.1 });
    }
      where
        last : IsBefore (high - 1)
        last =
            let m = h.met in
            let o = h.ordered in
            let a = m.not_before in
            let b = m.before in
            ⊎_elim
            (λ lt. let same : m.leg ≡ high - 1 = omega (arith, a, o, e, lt) in subst IsBefore same (b, m.violates))
            (λ ge. absurd (h.none (record { leg = m.leg; not_before = ge; before = b; violates = m.violates })))
            (cases_lt m.leg high)

    -- ---- raised where the rest meets the volume, else as it was
    pub raised_met : (from need first n : ℕ) → first ≡ max from need → first < n → IsRaised IsBefore first first n → IsRaised IsBefore from need n
    raised_met from need first n e above r = record {
      most = omega (arith, e, above);
      closed = λ _. r.closed above;
      later = λ k a b. r.later k (omega (arith, above, b)) b;
    }

    pub raised_not : (from need first : ℕ) → first ≡ max from need → ¬ IsMetFrom first → IsRaised IsBefore from need need
    raised_not from need first e none = record {
      most = omega arith;
      closed = λ lt. absurd (omega (arith, lt));
      later = λ k a b x. none (record { leg = k; not_before = omega (arith, e, a, b); before = x.0; violates = x.1 });
    }

  -- ---- level by level

  -- raised so far, by the levels below l that close
  pub record IsRaisedBy (from need l n : ℕ) : Type 0 where
    pub begun : p.settings.numbers.resolve ≤ℤ pos l
    pub most : need ≤ n
    pub closed : need < n → IsClosedOn p candidate aircraft (n - 1)
    pub later : IsNoLevel p (IsLateOn p candidate aircraft from n) l

  pub raised_first : (from need l : ℕ) → p.settings.numbers.resolve ≤ℤ pos l → pos l ≡ p.settings.numbers.resolve → IsRaisedBy from need l need
  raised_first from need l begun e = record {
    begun = begun;
    most = omega arith;
    closed = λ lt. absurd (omega (arith, lt));
    later = levels_first p (IsLateOn p candidate aircraft from need) l e;
  }

  pub raised_more : (from need l n raised : ℕ) (level : Level) → IsLevelAt p.settings l level → p.settings.numbers.resolve ≤ℤ pos (l + 1)
      → IsRaised (IsBefore level.volume level.lookahead) from n raised → IsRaisedBy from need l n → IsRaisedBy from need (l + 1) raised
  raised_more from need l n raised level at next r h =
      let most = r.most in
      record {
        begun = next;
        most = (let m = h.most in omega (arith, m, most));
        closed = λ lt. ⊎_elim
            (λ more. let x = r.closed more in record { number = l; level = level; closes = record { there = at; from = h.begun }; before = x.0; violates = x.1 })
            (λ not. let same : n ≡ raised = omega (arith, not, most) in subst (λ (m : ℕ). IsClosedOn p candidate aircraft (m - 1)) same (h.closed (omega (arith, lt, same))))
            (cases_lt n raised);
        later = levels_more p (IsLateOn p candidate aircraft from raised) l level at
            (λ x. r.later x.leg x.in_rest x.not_before (x.before, x.violates))
            (late_later p candidate aircraft from n raised l most h.later);
      }

  pub raised_all : (from need l n : ℕ) → length p.settings.levels < l → IsRaisedBy from need l n → IsRaised (IsClosedOn p candidate aircraft) from need n
  raised_all from need l n all h = record {
    most = h.most;
    closed = h.closed;
    later = λ k a b x. levels_all p (IsLateOn p candidate aircraft from n) l all h.later x.number x.level x.closes
        (record { leg = k; in_rest = a; not_before = b; before = x.before; violates = x.violates });
  }
