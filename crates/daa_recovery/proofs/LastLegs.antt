-- The last closed leg of a flight, and the least time at which its candidate recovers.
use Rattle.std.proofs.Common.{◌≡◌, ℕ, ◌+◌, ◌-◌, ◌<◌, ◌≤◌, max, None, Some, length, subst, arith, ⊎_elim}
use Rattle.std.specs.Prelude.{slice_get}
use Rattle.std.proofs.lemmas.Bool.{cases_lt}
use Rattle.daa_config.specs.declared.candidate.Candidate.{Candidate}
use Rattle.daa_config.specs.declared.level.Level.{Level}
use Rattle.daa_config.specs.Settings.{rates_of}
use Rattle.daa_state.specs.declared.word.Traffic.{Traffic}
use Rattle.daa_state.specs.Picture.{aircraft_of}
use Rattle.daa_legs.specs.Branch.{FliesAs}
use Rattle.daa_legs.specs.Meeting.{ViolatesOn}
use Rattle.daa_legs.specs.Runs.{MeetsBetween}
use Rattle.daa_legs.proofs.Branching.{violates_alike}
use Rattle.daa_recovery.specs.OutlookState.{IsHorizon, OutlookState}
use Rattle.daa_recovery.specs.Recovery.{Recovers}
use Rattle.daa_recovery.specs.Inside.Legs.{IsClosedOn, IsClosed, IsNear, IsLastBefore, IsRaised}
use Rattle.daa_recovery.specs.Inside.Search.{IsLeastTime}
use Rattle.daa_recovery.proofs.ClosingLevels.{IsNoLevel, IsNoAircraft, aircraft_first, aircraft_more, aircraft_all}

module _ (p : OutlookState) (candidate : Candidate) where
  -- ---- what keeps it from recovering

  closed_keeps : (k m : ℕ) → m ≤ k → IsClosed p candidate k → ¬ Recovers p candidate m
  closed_keeps k m le x r = (r x.place x.aircraft x.there).open_levels
      (record { number = x.is.number; level = x.is.level; closes = x.is.closes; leg = k; before = x.is.before; violates = (le, x.is.violates) })

  pub near_never : (k bound : ℕ) → k < p.horizon → IsNear p candidate k → IsLeastTime p candidate bound None
  near_never k bound lt x m one b r = (r x.place x.aircraft x.there).apart (record { leg = k; before = lt; violates = x.is })

  pub late_never : (n bound : ℕ) → (1 ≤ n → IsClosed p candidate (n - 1)) → bound ≤ n → IsLeastTime p candidate bound None
  late_never n bound h le m one lt = closed_keeps (n - 1) m (omega (arith, one, lt, le)) (h (omega (arith, one, lt, le)))

  -- ---- where the last closed leg of all is known

  recovers_from : (n m : ℕ) → IsHorizon p.settings p.horizon → IsLastBefore p candidate p.horizon n → n ≤ m → Recovers p candidate m
  recovers_from n m ahead h le place aircraft there = record {
    open_levels = λ x.
        let most = ahead.most x.number x.level x.closes in
        h.later x.leg (omega (arith, le, x.violates.0)) (omega (arith, x.before, most))
        (record {
          place = place;
          aircraft = aircraft;
          there = there;
          is = record { number = x.number; level = x.level; closes = x.closes; before = x.before; violates = x.violates.1 };
        });
    apart = λ x. h.apart x.leg x.before (record { place = place; aircraft = aircraft; there = there; is = x.violates });
  }

  not_sooner : (n m : ℕ) → IsLastBefore p candidate p.horizon n → 1 ≤ m → m < max n 1 → ¬ Recovers p candidate m
  not_sooner n m h one lt = closed_keeps (n - 1) m (omega (arith, one, lt)) (h.closed (omega (arith, one, lt)))

  pub time_found : (n bound after : ℕ) → IsHorizon p.settings p.horizon → IsLastBefore p candidate p.horizon n → after ≡ max n 1 → after < bound → IsLeastTime p candidate bound (Some after)
  time_found n bound after ahead h e lt = record {
    some = omega (arith, e);
    below = lt;
    recovers = recovers_from n after ahead h (omega (arith, e));
    none_sooner = λ m one b. not_sooner n m h one (omega (arith, e, b));
  }

  pub time_none : (n bound after : ℕ) → IsLastBefore p candidate p.horizon n → after ≡ max n 1 → bound ≤ after → IsLeastTime p candidate bound None
  time_none n bound after h e le m one lt = not_sooner n m h one (omega (arith, e, lt, le))

  -- ---- leg by leg

  pub last_none : IsLastBefore p candidate 0 0
  last_none = record { within = omega arith; apart = λ k lt. absurd (omega (arith, lt)); closed = λ one. absurd (omega (arith, one)); later = λ k le lt. absurd (omega (arith, lt)) }

  apart_more : (k n : ℕ) → IsLastBefore p candidate k n → ¬ IsNear p candidate k → (j : ℕ) → j < k + 1 → ¬ IsNear p candidate j
  apart_more k n h none j lt = ⊎_elim
      (λ before. h.apart j before)
      (λ ge near. none (subst (IsNear p candidate) (omega (arith, lt, ge)) near))
      (cases_lt j k)

  pub last_closed : (k n : ℕ) → IsLastBefore p candidate k n → ¬ IsNear p candidate k → IsClosed p candidate k → IsLastBefore p candidate (k + 1) (k + 1)
  last_closed k n h none closed = record {
    within = omega arith;
    apart = apart_more k n h none;
    closed = λ _. subst (IsClosed p candidate) (omega arith) closed;
    later = λ j le lt. absurd (omega (arith, le, lt));
  }

  pub last_open : (k n : ℕ) → IsLastBefore p candidate k n → ¬ IsNear p candidate k → ¬ IsClosed p candidate k → IsLastBefore p candidate (k + 1) n
  last_open k n h none is_open = record {
    within = (let w = h.within in omega (arith, w));
    apart = apart_more k n h none;
    closed = h.closed;
    later = λ j le lt. ⊎_elim
        (λ before. h.later j le before)
        (λ ge closed. is_open (subst (IsClosed p candidate) (omega (arith, lt, ge)) closed))
        (cases_lt j k);
  }

  -- ---- the straight rest, aircraft by aircraft

  -- so far: leg n - 1 is closed unless n is 0; from leg n on none before leg `from` is, and none of the rest by the first aircraft; and
  -- the rest comes into the cylinder round none of them
  pub record IsNeeded (from count n : ℕ) : Type 0 where
    pub closed : 1 ≤ n → IsClosed p candidate (n - 1)
    pub before : (k : ℕ) → n ≤ k → k < from → ¬ IsClosed p candidate k
    pub later : (k : ℕ) → from ≤ k → n ≤ k → IsNoAircraft p (λ aircraft. IsClosedOn p candidate aircraft k) count
    pub apart : IsNoAircraft p (λ aircraft. MeetsBetween p.settings p.picture.own candidate aircraft p.cylinder from p.horizon) count

  pub needed_first : (from n : ℕ) → IsLastBefore p candidate from n → IsNeeded from 0 n
  needed_first from n h = record {
    closed = h.closed;
    before = h.later;
    later = λ k a b. aircraft_first p (λ aircraft. IsClosedOn p candidate aircraft k);
    apart = aircraft_first p (λ aircraft. MeetsBetween p.settings p.picture.own candidate aircraft p.cylinder from p.horizon);
  }

  pub raised_closed : (from n raised place : ℕ) (here : Traffic) → slice_get (aircraft_of p.picture) place ≡ Some here → (1 ≤ n → IsClosed p candidate (n - 1))
      → IsRaised (IsClosedOn p candidate here) from n raised → 1 ≤ raised → IsClosed p candidate (raised - 1)
  raised_closed from n raised place here there h r one = ⊎_elim
      (λ more. record { place = place; aircraft = here; there = there; is = r.closed more })
      (λ not.
      let same : n ≡ raised = (let most = r.most in omega (arith, not, most)) in
      subst (λ (m : ℕ). IsClosed p candidate (m - 1)) same (h (omega (arith, one, same))))
      (cases_lt n raised)

  pub needed_more : (from place n raised : ℕ) (here : Traffic) → slice_get (aircraft_of p.picture) place ≡ Some here → IsRaised (IsClosedOn p candidate here) from n raised
      → ¬ MeetsBetween p.settings p.picture.own candidate here p.cylinder from p.horizon → IsNeeded from place n → IsNeeded from (place + 1) raised
  needed_more from place n raised here there r none h =
      let most = r.most in
      record {
        closed = raised_closed from n raised place here there h.closed r;
        before = λ k le. h.before k (omega (arith, most, le));
        later = λ k a b. aircraft_more p (λ aircraft. IsClosedOn p candidate aircraft k) place here there (r.later k a b) (h.later k a (omega (arith, most, b)));
        apart = aircraft_more p (λ aircraft. MeetsBetween p.settings p.picture.own candidate aircraft p.cylinder from p.horizon) place here there none h.apart;
      }

  -- a closed leg is before the horizon
  closed_before : (n : ℕ) → IsHorizon p.settings p.horizon → (1 ≤ n → IsClosed p candidate (n - 1)) → n ≤ p.horizon
  closed_before n ahead h = ⊎_elim
      (λ none. omega (arith, none))
      (λ one. let x = h one in let b = x.is.before in let most = ahead.most x.is.number x.is.level x.is.closes in omega (arith, one, b, most))
      (cases_lt n 1)

  pub needed_all : (from count last n : ℕ) → IsHorizon p.settings p.horizon → length (aircraft_of p.picture) ≤ count → IsLastBefore p candidate from last → IsNeeded from count n
      → IsLastBefore p candidate p.horizon n
  needed_all from count last n ahead all b h = record {
    within = closed_before n ahead h.closed;
    apart = λ k lt near. ⊎_elim
        (λ early. b.apart k early near)
        (λ late. aircraft_all p (λ aircraft. MeetsBetween p.settings p.picture.own candidate aircraft p.cylinder from p.horizon) count all h.apart near.place near.aircraft near.there
        (record { leg = k; not_before = late; before = lt; violates = near.is }))
        (cases_lt k from);
    closed = h.closed;
    later = λ k le lt closed. ⊎_elim
        (λ early. h.before k le early closed)
        (λ late. aircraft_all p (λ aircraft. IsClosedOn p candidate aircraft k) count all (h.later k late le) closed.place closed.aircraft closed.there closed.is)
        (cases_lt k from);
  }

  -- ---- the straight rest, level by level

  -- the level is violated on a leg of the rest from leg n on, before its lookahead
  pub record IsLateOn (aircraft : Traffic) (from n : ℕ) (level : Level) : Type 0 where
    pub leg : ℕ
    pub in_rest : from ≤ leg
    pub not_before : n ≤ leg
    pub before : leg < level.lookahead
    pub violates : ViolatesOn p.settings p.picture.own candidate aircraft level.volume leg

  pub late_later : (aircraft : Traffic) (from n m l : ℕ) → n ≤ m → IsNoLevel p (IsLateOn aircraft from n) l → IsNoLevel p (IsLateOn aircraft from m) l
  late_later aircraft from n m l le h j level lt closes x =
      let b = x.not_before in
      h j level lt closes (record { leg = x.leg; in_rest = x.in_rest; not_before = omega (arith, le, b); before = x.before; violates = x.violates })

-- ---- it flies as the one that leads on its side before it leaves it

module _ (p : OutlookState) (candidate lead : Candidate) (n : ℕ) (alike : FliesAs p.picture.own (rates_of p.settings) candidate lead n) where
  pub near_alike : (k : ℕ) → k < n → IsNear p lead k → IsNear p candidate k
  near_alike k lt x = record {
    place = x.place;
    aircraft = x.aircraft;
    there = x.there;
    is = (violates_alike p.settings p.picture.own candidate lead x.aircraft p.cylinder n alike k lt).1 x.is;
  }

  alike_near : (k : ℕ) → k < n → IsNear p candidate k → IsNear p lead k
  alike_near k lt x = record {
    place = x.place;
    aircraft = x.aircraft;
    there = x.there;
    is = (violates_alike p.settings p.picture.own candidate lead x.aircraft p.cylinder n alike k lt).0 x.is;
  }

  closed_alike : (k : ℕ) → k < n → IsClosed p lead k → IsClosed p candidate k
  closed_alike k lt x = record {
    place = x.place;
    aircraft = x.aircraft;
    there = x.there;
    is = record {
      number = x.is.number;
      level = x.is.level;
      closes = x.is.closes;
      before = x.is.before;
      violates = (violates_alike p.settings p.picture.own candidate lead x.aircraft x.is.level.volume n alike k lt).1 x.is.violates;
    };
  }

  alike_closed : (k : ℕ) → k < n → IsClosed p candidate k → IsClosed p lead k
  alike_closed k lt x = record {
    place = x.place;
    aircraft = x.aircraft;
    there = x.there;
    is = record {
      number = x.is.number;
      level = x.is.level;
      closes = x.is.closes;
      before = x.is.before;
      violates = (violates_alike p.settings p.picture.own candidate lead x.aircraft x.is.level.volume n alike k lt).0 x.is.violates;
    };
  }

  pub last_alike : (upto last : ℕ) → upto ≤ n → IsLastBefore p lead upto last → IsLastBefore p candidate upto last
  last_alike upto last le h = record {
    within = h.within;
    apart = λ k lt near. h.apart k lt (alike_near k (omega (arith, lt, le)) near);
    closed = λ one. let w = h.within in closed_alike (last - 1) (omega (arith, one, w, le)) (h.closed one);
    later = λ k from lt closed. h.later k from lt (alike_closed k (omega (arith, lt, le)) closed);
  }
