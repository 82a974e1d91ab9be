-- The side of a kind's answer, made steady: once taken it stays for some seconds, unless it has none.
use Rattle.std.specs.Prelude.{◌≡◌, ◌⊎◌, ◌<◌, ◌≤◌, ◌+◌, ◌-◌, ◌==◌, ◌&&◌, ℕ, ℤ, pos, negsuc, ◌<ℤ◌, ◌+ℤ◌, nat_lt, not, Bool, if◌then◌else◌}
use Rattle.std.specs.Ordering.{int_eq}
use Rattle.daa_steady.specs.declared.sides.DaaSide.{DaaSide}

-- a number of no side: the lower one is 0 and the upper one 1
abbrev pub IsNoSide : ℤ → Type 0
IsNoSide number = (number <ℤ pos 0) ⊎ (pos 1 <ℤ number)

-- the side is one, but the time is not after that of the moment before
pub record IsNotLaterSide (time : ℕ) (preferred : ℤ) (state : DaaSide) : Type 0 where
  pub least : preferred <ℤ pos 0 → ⊥
  pub greatest : pos 1 <ℤ preferred → ⊥
  pub before : time < state.next

-- of the numbers kept 1 is the lower side and 2 the upper one. `what` of an answer: 0 to keep the present flight, 1 for a value, 2 for nothing
module _ (lower upper : ℤ) where
  -- what the answer on a side is; nothing, where there is no side
  abbrev pub what_of : (side : ℕ) → ℤ
  what_of side = if side == 1 then lower else if side == 2 then upper else pos 2

  -- the side has a value
  abbrev pub has_value : (side : ℕ) → Bool
  has_value side = int_eq (what_of side) (pos 1)

  -- a side has no answer
  abbrev pub is_free : (side : ℕ) → Bool
  is_free side = int_eq (what_of side) (pos 2)

  -- the preferred side if it has a value, else the other one if that has, or none
  abbrev pub open_side : (preferred : ℕ) → ℕ
  open_side preferred = if has_value preferred then preferred else if has_value (3 - preferred) then 3 - preferred else 0

  -- the side in a moment: the one before it stays for its seconds, unless it has no answer
  abbrev pub side_after : (time preferred : ℕ) → DaaSide → ℕ
  side_after time preferred state = if nat_lt time state.until && not (is_free state.side) then state.side else open_side preferred

  -- the number of a side whose value is shown: -1 where it has none
  abbrev pub shown_of : (side : ℕ) → ℤ
  shown_of side = if has_value side then (if side == 1 then pos 0 else pos 1) else negsuc 0

-- when another side may take the place of this one: a side that is taken stays for its seconds
abbrev pub until_after : (seconds time side : ℕ) → DaaSide → ℕ
until_after seconds time side state = if side == state.side then state.until else time + seconds

-- what is kept after a moment, and the number of the side whose value is shown
pub record IsSideAfter (seconds time : ℕ) (lower upper : ℤ) (preferred : ℕ) (old new : DaaSide) (shown : ℤ) : Type 0 where
  pub side : new.side ≡ side_after lower upper time preferred old
  pub until : new.until ≡ until_after seconds time new.side old
  pub next : new.next ≡ time + 1
  pub shown_is : shown ≡ shown_of lower upper new.side

-- the moment is later than those before it; the numbers 0 and 1 of the sides are kept as 1 and 2
pub record IsKeptSide (seconds time : ℕ) (lower upper number : ℤ) (old new : DaaSide) (shown : ℤ) : Type 0 where
  pub later : old.next ≤ time
  pub preferred : ℕ
  pub number_is : pos preferred ≡ number +ℤ pos 1
  pub two : preferred < 3
  pub after : IsSideAfter seconds time lower upper preferred old new shown
