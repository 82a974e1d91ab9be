-- The mask of a candidate and an aircraft, as it is computed, and its entry in a word.
use Rattle.std.proofs.Common.{◌≡◌, ◌↔◌, refl, sym, ap, subst, ◌∙◌, arith, ⊎_elim, ℕ, zero, suc, ◌+◌, ◌-◌, ◌*◌, ◌/◌, ◌%◌, ◌^◌, ◌<◌, ◌≤◌, Bool, true, false, List, [], ◌∷◌, length, Option, Some, None}
use Rattle.std.specs.Prelude.{IsTrue, slice_get, if◌then◌else◌}
use Rattle.std.specs.Int.{bit_at}
use Rattle.std.proofs.lemmas.Bool.{cases_lt}
use Rattle.std.proofs.lemmas.Nat.Bits.{bit_at-zero, bit_at-suc, bit_at_lowest, bit_at-lt}
use Rattle.std.proofs.lemmas.Option.{same_Some, slice_get_within, slice_get_past, get_or_from_slice_get}
use Rattle.std.specs.List.{All}
use Rattle.daa_config.specs.declared.candidate.Candidate.{Candidate}
use Rattle.daa_config.specs.declared.level.Level.{Level}
use Rattle.daa_config.specs.Candidates.{candidates_of}
use Rattle.daa_fixed.specs.Mask.{IsMaskOf}
use Rattle.daa_config.specs.Settings.{Settings, IsAccepted, IsCandidateInRange, IsLevelAt}
use Rattle.daa_state.specs.declared.word.Own.{Own}
use Rattle.daa_state.specs.declared.word.Traffic.{Traffic}
use Rattle.daa_state.specs.InRange.{IsOwnInRange, IsTrafficInRange, IsPictureInRange}
use Rattle.daa_state.specs.Picture.{aircraft_of}
use Rattle.daa_legs.specs.Meeting.{Meets}
use Rattle.daa_scan.specs.SceneState.{SceneState, MeetsAt}
use Rattle.daa_scan.specs.Packed.{mask_of, entry_for, entry_at}
use Rattle.daa_scan.proofs.ListedCandidates.{listed}
use Rattle.daa_meet.proofs.Told.{is_met_within}
use Rattle.daa_meet.proofs.Told.{within_is}

-- ---- bits
pub same_bits : (n x y : ℕ) → x < 2 ^ n → y < 2 ^ n → ((i : ℕ) → bit_at x i ≡ bit_at y i) → x ≡ y
same_bits zero x y h k e = omega (arith, h, k)
same_bits (suc n) x y h k e =
    let half : x / 2 ≡ y / 2 = same_bits n (x / 2) (y / 2) (shorter x n h) (shorter y n k) (λ i. sym (bit_at-suc x i) ∙ e (suc i) ∙ bit_at-suc y i) in
    let low : x % 2 ≡ y % 2 = sym (bit_at_lowest x) ∙ e 0 ∙ bit_at_lowest y in
    omega (arith, half, low)
  where
    shorter : (x n : ℕ) → x < 2 ^ suc n → x / 2 < 2 ^ n
    shorter x n h = let p : 2 ^ suc n ≡ 2 * 2 ^ n = omega arith in omega (arith, h, p)

-- two masks of the same levels have the same bits
same_mask : (Holds : ℕ → Type 0) (top x y : ℕ) → IsMaskOf Holds top x → IsMaskOf Holds top y → (i : ℕ) → bit_at x i ≡ bit_at y i
same_mask Holds top x y h k i =
    let back : i + 1 - 1 ≡ i = omega arith in
    subst (λ (j : ℕ). bit_at x j ≡ bit_at y j) back (at_level (i + 1) (omega arith))
  where
    both_zero : (a b : ℕ) → a < 2 → b < 2 → (a ≡ 1 → ⊥) → (b ≡ 1 → ⊥) → a ≡ b
    both_zero zero zero p q f g = refl
    both_zero (suc zero) b p q f g = absurd (f refl)
    both_zero zero (suc zero) p q f g = absurd (g refl)
    both_zero (suc (suc a)) b p q f g = absurd (omega (arith, p))
    both_zero zero (suc (suc b)) p q f g = absurd (omega (arith, q))

    both : (a b : ℕ) → a < 2 → b < 2 → (a ≡ 1 → b ≡ 1) → (b ≡ 1 → a ≡ 1) → a ≡ b
    both zero zero p q f g = refl
    both zero (suc zero) p q f g = g refl
    both (suc zero) b p q f g = sym (f refl)
    both (suc (suc a)) b p q f g = absurd (omega (arith, p))
    both zero (suc (suc b)) p q f g = absurd (omega (arith, q))

    at_level : (l : ℕ) → 1 ≤ l → bit_at x (l - 1) ≡ bit_at y (l - 1)
    at_level l one = ⊎_elim
        (λ over. both_zero _ _ (bit_at-lt x (l - 1)) (bit_at-lt y (l - 1)) (h.none_above l over) (k.none_above l over))
        (λ within. both _ _ (bit_at-lt x (l - 1)) (bit_at-lt y (l - 1))
        (λ b. (k.each l one within).1 ((h.each l one within).0 b))
        (λ b. (h.each l one within).1 ((k.each l one within).0 b)))
        (cases_lt top l)

-- ---- the mask
first_bit : (met : Bool) (m : ℕ) → (bit_at ((if met then 1 else 0) + 2 * m) 0 ≡ 1) ↔ IsTrue met
first_bit true m = ((λ _. refl), (λ _. bit_at_lowest (1 + 2 * m) ∙ omega arith))
first_bit false m = ((λ e. absurd (even e)), (λ t. absurd (cc t)))
  where
    even : bit_at (0 + 2 * m) 0 ≡ 1 → ⊥
    even e = let l = bit_at_lowest (0 + 2 * m) in omega (arith, l, e)

later_bit : (met : Bool) (m i : ℕ) → bit_at ((if met then 1 else 0) + 2 * m) (suc i) ≡ bit_at m i
later_bit true m i = bit_at-suc (1 + 2 * m) i ∙ ap (λ (n : ℕ). bit_at n i) half
  where
    half : (1 + 2 * m) / 2 ≡ m
    half = omega arith
later_bit false m i = bit_at-suc (0 + 2 * m) i ∙ ap (λ (n : ℕ). bit_at n i) half
  where
    half : (0 + 2 * m) / 2 ≡ m
    half = omega arith

module _ (settings : Settings) (own : Own) (candidate : Candidate) (aircraft : Traffic) where
  -- the level at this place of a list is met
  record IsMet (levels : List Level) (i : ℕ) : Type 0 where
    level : Level
    there : slice_get levels i ≡ Some level
    met : IsTrue (is_met_within settings own candidate aircraft level.volume level.lookahead)

  bits_of : (levels : List Level) (i : ℕ) → (bit_at (mask_of settings own candidate aircraft levels) i ≡ 1) ↔ IsMet levels i
  unfolding mask_of
  bits_of [] i = ((λ e. let z = bit_at-zero i in absurd (omega (arith, e, z))), (λ m. absurd (cc m.there)))
  bits_of (level ∷ levels) zero =
      let b = first_bit (is_met_within settings own candidate aircraft level.volume level.lookahead) (mask_of settings own candidate aircraft levels) in (
        (λ e. record { level = level; there = refl; met = b.0 e }),
        (λ m. b.1 (subst (λ (l : Level). IsTrue (is_met_within settings own candidate aircraft l.volume l.lookahead)) (sym (same_Some level m.level m.there)) m.met)),
      )
  bits_of (level ∷ levels) (suc i) =
      let b = later_bit (is_met_within settings own candidate aircraft level.volume level.lookahead) (mask_of settings own candidate aircraft levels) i in
      let t = bits_of levels i in (
        (λ e. let m = t.0 (sym b ∙ e) in record { level = m.level; there = m.there; met = m.met }),
        (λ m. b ∙ t.1 (record { level = m.level; there = m.there; met = m.met })),
      )

  pub mask-small : (levels : List Level) → mask_of settings own candidate aircraft levels < 2 ^ length levels
  unfolding mask_of
  mask-small [] = omega arith
  mask-small (level ∷ levels) =
      let h = mask-small levels in
      let p : 2 ^ suc (length levels) ≡ 2 * 2 ^ length levels = omega arith in
      double (is_met_within settings own candidate aircraft level.volume level.lookahead) (mask_of settings own candidate aircraft levels) (2 ^ length levels) (2 ^ suc (length levels)) h p
    where
      double : (met : Bool) (m n t : ℕ) → m < n → t ≡ 2 * n → (if met then 1 else 0) + 2 * m < t
      double true m n t h e = omega (arith, h, e)
      double false m n t h e = omega (arith, h, e)

  module _ (a : IsAccepted settings) (o : IsOwnInRange own) (h : IsCandidateInRange candidate) (t : IsTrafficInRange aircraft) where
    pub mask_is : IsMaskOf (Meets settings own candidate aircraft) (length settings.levels) (mask_of settings own candidate aircraft settings.levels)
    mask_is = record {
      each = λ l one upto. let b = bits_of settings.levels (l - 1) in (
        (λ e. let m = b.0 e in
            let at : IsLevelAt settings l m.level = record { numbered = one; there = m.there } in
            let r = a.level l m.level at in
            record { level = m.level; there = at; meets = (within_is settings own candidate aircraft a o h t m.level.volume r.volume m.level.lookahead r.lookahead_most).0 m.met }),
        (λ m. let r = a.level l m.level m.there in
            b.1 (record { level = m.level; there = m.there.there; met = (within_is settings own candidate aircraft a o h t m.level.volume r.volume m.level.lookahead r.lookahead_most).1 m.meets })),
      );
      none_above = λ l over e. let m = (bits_of settings.levels (l - 1)).0 e in
          let w = slice_get_within settings.levels (l - 1) m.level m.there in absurd (omega (arith, w, over));
    }

-- ---- the entry
record IsThere {X : Type 0} (xs : List X) (i : ℕ) : Type 0 where
  item : X
  is : slice_get xs i ≡ Some item

there_is : {X : Type 0} (xs : List X) (i : ℕ) → i < length xs → IsThere xs i
there_is [] i h = absurd (omega (arith, h))
there_is (x ∷ xs) zero h = record { item = x; is = refl }
there_is (x ∷ xs) (suc i) h = let t = there_is xs i (omega (arith, h)) in record { item = t.item; is = t.is }

pub at_place : {X : Type 0} (P : X → Type 0) (xs : List X) (i : ℕ) (x : X) → All P xs → slice_get xs i ≡ Some x → P x
at_place P xs i x h e = subst P (get_or_from_slice_get xs i x x e) (h i x (slice_get_within xs i x e))

-- what is met at two places of their lists is what stands there meeting
pub met_at : (s : SceneState) (index at l : ℕ) (candidate : Candidate) (aircraft : Traffic) → slice_get (candidates_of s.settings) index ≡ Some candidate
    → slice_get (aircraft_of s.picture) at ≡ Some aircraft
    → Meets s.settings s.picture.own candidate aircraft l ↔ MeetsAt s index at l
met_at s index at l candidate aircraft ec ea = (
  (λ m. record { candidate = candidate; aircraft = aircraft; listed = ec; there = ea; meets = m }),
  (λ m. subst (λ (c : Candidate). Meets s.settings s.picture.own c aircraft l) (same_Some m.candidate candidate (sym m.listed ∙ ec))
      (subst (λ (t : Traffic). Meets s.settings s.picture.own m.candidate t l) (same_Some m.aircraft aircraft (sym m.there ∙ ea)) m.meets)),
)

entry-some : (s : SceneState) (at index : ℕ) (candidate : Candidate) (aircraft : Traffic) → slice_get (candidates_of s.settings) index ≡ Some candidate
    → slice_get (aircraft_of s.picture) at ≡ Some aircraft
    → entry_at s at index ≡ 1 + 2 * mask_of s.settings s.picture.own candidate aircraft s.settings.levels
unfolding entry_at
entry-some s at index candidate aircraft ec ea = λ i. entry_for s (ec i) (ea i)

four : (n : ℕ) → n ≤ 4 → 2 ^ n ≤ 16
four zero h = omega arith
four (suc zero) h = omega arith
four (suc (suc zero)) h = omega arith
four (suc (suc (suc zero))) h = omega arith
four (suc (suc (suc (suc zero)))) h = omega arith
four (suc (suc (suc (suc (suc n))))) h = absurd (omega (arith, h))

module _ (s : SceneState) (a : IsAccepted s.settings) (p : IsPictureInRange s.picture) where
  -- an entry where the list has the candidate
  pub record IsEntry (at index entry : ℕ) : Type 0 where
    pub mask : ℕ
    pub is : entry ≡ 1 + 2 * mask
    pub small : mask < 16
    pub met : IsMaskOf (MeetsAt s index at) (length s.settings.levels) mask

  pub entry_there : (at index : ℕ) → index < length (candidates_of s.settings) → at < length (aircraft_of s.picture) → IsEntry at index (entry_at s at index)
  entry_there at index hi ha =
      let c = there_is (candidates_of s.settings) index hi in
      let t = there_is (aircraft_of s.picture) at ha in
      let l = listed s.settings a index c.item c.is in
      let r = at_place IsTrafficInRange (aircraft_of s.picture) at t.item p.traffic t.is in
      let k = mask_is s.settings s.picture.own c.item t.item a p.own l.in_range r in
      let short = mask-small s.settings s.picture.own c.item t.item s.settings.levels in
      let few = four (length s.settings.levels) a.few_levels in
      record {
        mask = mask_of s.settings s.picture.own c.item t.item s.settings.levels;
        is = entry-some s at index c.item t.item c.is t.is;
        small = omega (arith, short, few);
        met = record {
          each = λ l one upto. let e = k.each l one upto in let m = met_at s index at l c.item t.item c.is t.is in ((λ b. m.0 (e.0 b)), (λ x. e.1 (m.1 x)));
          none_above = k.none_above;
        };
      }

  -- a mask of what is met makes the entry
  pub entry_is : (at index m : ℕ) → index < length (candidates_of s.settings) → at < length (aircraft_of s.picture) → m < 2 ^ 8
      → IsMaskOf (MeetsAt s index at) (length s.settings.levels) m → 1 + 2 * m ≡ entry_at s at index
  entry_is at index m hi ha small h =
      let e = entry_there at index hi ha in
      let same : m ≡ e.mask = same_bits 8 m e.mask small (omega (arith, e.small)) (same_mask _ _ m e.mask h e.met) in
      ap (λ (n : ℕ). 1 + 2 * n) same ∙ sym e.is

past : (s : SceneState) (at : ℕ) (c : Option Candidate) → c ≡ None → entry_for s c (slice_get (aircraft_of s.picture) at) ≡ 0
past s at c e = ap (λ (o : Option Candidate). entry_for s o (slice_get (aircraft_of s.picture) at)) e

pub entry_past : (s : SceneState) (at index : ℕ) → length (candidates_of s.settings) ≤ index → entry_at s at index ≡ 0
unfolding entry_at
entry_past s at index h = past s at _ (slice_get_past (candidates_of s.settings) index h)
