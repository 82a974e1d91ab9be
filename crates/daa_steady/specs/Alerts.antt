-- Alerts that come and go, made steady: a level is shown once m of the last n moments had it, and for a while after.
use Rattle.std.specs.Prelude.{◌≡◌, ◌⊎◌, ◌<◌, ◌≤◌, ◌+◌, ◌-◌, ◌∷◌, [], ℕ, ℤ, pos, negsuc, ◌<ℤ◌, nat_le, Bool, List, take, slice_index, count_by, if◌then◌else◌}
use Rattle.daa_fixed.specs.Mask.{IsGreatestLevel}
use Rattle.daa_steady.specs.declared.alerts.DaaSteady.{DaaSteady}
use Rattle.daa_steady.specs.declared.alerts.DaaSteadyRule.{DaaSteadyRule}

-- at least one of at most 16 moments has to have a level
pub record IsRule (rule : DaaSteadyRule) : Type 0 where
  pub some : 1 ≤ rule.m
  pub within : rule.m ≤ rule.n
  pub few : rule.n ≤ 16

-- the rule asks for no moment, for more than it looks at, or looks at more than 16
abbrev pub IsNoRule : DaaSteadyRule → Type 0
IsNoRule rule = (rule.m ≡ 0) ⊎ (rule.n < rule.m) ⊎ (16 < rule.n)

-- the rule is one, but the number is neither a level, 0 to 4, nor -1 for an aircraft that the moment has not
pub record IsNoLevel (rule : DaaSteadyRule) (level : ℤ) : Type 0 where
  pub ruled : IsRule rule
  pub none : (level <ℤ negsuc 0) ⊎ (pos 4 <ℤ level)

-- the rule and the level are right, but the time is not after that of the moment before
pub record IsNotLater (rule : DaaSteadyRule) (time : ℕ) (level : ℤ) (state : DaaSteady) : Type 0 where
  pub ruled : IsRule rule
  pub least : level <ℤ negsuc 0 → ⊥
  pub greatest : pos 4 <ℤ level → ⊥
  pub before : time < state.next

-- nothing is kept, but which second is the first that is taken
abbrev pub none_kept : (next : ℕ) → DaaSteady
none_kept next = record {
  recent = 0 ∷ 0 ∷ 0 ∷ 0 ∷ 0 ∷ 0 ∷ 0 ∷ 0 ∷ 0 ∷ 0 ∷ 0 ∷ 0 ∷ 0 ∷ 0 ∷ 0 ∷ 0 ∷ [];
  ends = 0 ∷ 0 ∷ 0 ∷ 0 ∷ [];
  gone = 0;
  next = next;
}

-- the moment has not the aircraft: all that is kept of it stays until it is forgotten
pub record IsMissed (time : ℕ) (old new : DaaSteady) : Type 0 where
  pub held : time < old.gone → new ≡ record old { next = time + 1 }
  pub forgotten : old.gone ≤ time → new ≡ none_kept (time + 1)

-- the level is shown at the time: it is not yet the second at which it ends
abbrev pub IsShown : (time : ℕ) → DaaSteady → (l : ℕ) → Type 0
IsShown time state l = time < slice_index state.ends (l - 1)

module _ (rule : DaaSteadyRule) where
  -- at least m of the last n levels are l or greater
  abbrev pub is_had : List ℕ → (l : ℕ) → Bool
  is_had recent l = nat_le rule.m (count_by (λ level. nat_le l level) (take rule.n recent))

  -- the end of the level at a place, from level 1 on: a new one if the level is had, else the one before
  abbrev pub ends_after : (recent : List ℕ) (end : ℕ) (ends : List ℕ) (place : ℕ) → ℕ
  ends_after recent end ends place = if is_had recent (place + 1) then end else slice_index ends place

  -- the moment has the aircraft, with this level: it stands before those of the moments before it, and each level that is had is shown
  -- for so many seconds more. So long the aircraft is kept where it is absent
  pub record IsAdded (time level : ℕ) (old new : DaaSteady) : Type 0 where
    pub recent : new.recent ≡ level ∷ take 15 old.recent
    pub ends : (place : ℕ) → place < 4 → slice_index new.ends place ≡ ends_after new.recent (time + rule.hold + 1) old.ends place
    pub gone : new.gone ≡ time + rule.hold + 1
    pub next : new.next ≡ time + 1

  -- the moment is later than those before it; it has the aircraft, with a level of 0 to 4, or has it not, -1; and the greatest level is
  -- filled in that is shown then, or 0
  pub record IsSteadied (time : ℕ) (level : ℤ) (old new : DaaSteady) (shown : ℕ) : Type 0 where
    pub ruled : IsRule rule
    pub later : old.next ≤ time
    pub there : (l : ℕ) → level ≡ pos l → (l ≤ 4) × IsAdded time l old new
    pub absent : (n : ℕ) → level ≡ negsuc n → (n ≡ 0) × IsMissed time old new
    pub greatest : IsGreatestLevel (IsShown time new) 4 shown
