-- What the search for a recovery keeps, and how far it has come: helpers of private functions.
use Rattle.std.specs.Prelude.{ℕ, ℤ, ◌≤◌, ◌<◌, ◌+◌, ◌≤ℤ◌, int_lt, if◌then◌else◌, Option, Some, None}
use Rattle.daa_config.specs.declared.candidate.Candidate.{Candidate}
use Rattle.daa_config.specs.declared.kind.Kind.{Kind}
use Rattle.daa_resolve.specs.declared.side.Side.{Side}
use Rattle.daa_recovery.specs.OutlookState.{OutlookState}
use Rattle.daa_recovery.specs.Order.{place_of}
use Rattle.daa_recovery.specs.Recovery.{Recovers, RecoversAt}
use Rattle.daa_recovery.specs.declared.recovery.Recovery.{Recovery}

-- the time below which no value so far recovers
abbrev pub bound_of : OutlookState → Option Recovery → ℕ
bound_of p (Some r) = r.after
bound_of p None = p.horizon

-- what was found, if anything, recovers before the horizon
abbrev pub IsBeforeHorizon : OutlookState → Option Recovery → Type 0
IsBeforeHorizon p (Some r) = r.after < p.horizon
IsBeforeHorizon p None = Unit {0}

module _ (p : OutlookState) (kind : Kind) where
  -- the place of a value in the order that the configuration asks for
  abbrev pub placed : ℤ → ℤ
  placed value = place_of p.settings p.picture.own kind value

  -- the time that the next value has to be below: that of the best so far, or one more where the next comes first of the two
  abbrev pub bound_for : Option Recovery → ℤ → ℕ
  bound_for None value = p.horizon
  bound_for (Some r) value = if int_lt (placed value) (placed r.value) then r.after + 1 else r.after

module _ (p : OutlookState) (kind : Kind) (side : Option Side) where
  -- the value of this recovery is below count, recovers at its time, and comes before all others below count that do so
  pub record IsFirst (count : ℕ) (r : Recovery) : Type 0 where
    pub index : ℕ
    pub below : index < count
    pub some : 1 ≤ r.after
    pub before : r.after < p.horizon
    pub recovers : RecoversAt p kind side index r.after r.value
    pub first : (i : ℕ) (value : ℤ) → i < count → RecoversAt p kind side i r.after value → placed p kind r.value ≤ℤ placed p kind value

  -- what was found, if anything, is the first value that recovers at its time
  abbrev pub IsFirstFound : (count : ℕ) → Option Recovery → Type 0
  IsFirstFound count (Some r) = IsFirst count r
  IsFirstFound count None = Unit {0}

  -- of the first values none recovers sooner than what was found, or at all before the horizon
  pub record IsFoundBelow (count : ℕ) (found : Option Recovery) : Type 0 where
    pub first : IsFirstFound count found
    pub none_sooner : (m : ℕ) → 1 ≤ m → m < bound_of p found → (i : ℕ) (value : ℤ) → i < count → ¬ RecoversAt p kind side i m value

-- the least time from 1 on below a bound at which the candidate recovers, or that there is none
module _ (p : OutlookState) (candidate : Candidate) (bound : ℕ) where
  -- the candidate recovers at this time, below the bound, and at no earlier one
  pub record IsLeastAt (after : ℕ) : Type 0 where
    pub some : 1 ≤ after
    pub below : after < bound
    pub recovers : Recovers p candidate after
    pub none_sooner : (m : ℕ) → 1 ≤ m → m < after → ¬ Recovers p candidate m

  -- it is the least such time, or there is none below the bound
  abbrev pub IsLeastTime : Option ℕ → Type 0
  IsLeastTime (Some after) = IsLeastAt after
  IsLeastTime None = (m : ℕ) → 1 ≤ m → m < bound → ¬ Recovers p candidate m
