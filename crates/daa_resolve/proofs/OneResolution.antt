-- No two choices on a side are equally far, so that there is one answer.
use Rattle.std.proofs.Common.{◌≡◌, ◌≤◌, ◌+◌, ◌*◌, ◌%◌, ◌∙◌, ℕ, ℤ, pos, ◌≤ℤ◌, ◌+ℤ◌, ◌-ℤ◌, slice_get, Some, refl, sym, ap, subst, arith}
use Rattle.std.specs.Prelude.{nat_abs, ◌*ℤ◌}
use Rattle.std.specs.Int.{int_rem_euclid}
use Rattle.std.proofs.lemmas.Int.{ints, int_rem_euclid_is}
use Rattle.std.proofs.lemmas.Option.{slice_get_within}
use Rattle.daa_config.specs.Settings.{Settings, IsAccepted, IsInBounds, value_bounds}
use Rattle.daa_config.specs.Candidates.{values_of, grid_of}
use Rattle.daa_config.specs.declared.kind.Kind.{Kind}
use Rattle.daa_config.specs.declared.kind.Kind.TheVariants.{Track, GroundSpeed, VerticalSpeed, Altitude}
use Rattle.daa_config.specs.declared.candidate.Resolution.{Resolution}
use Rattle.daa_config.specs.declared.candidate.Resolution.TheVariants.{Keep, To, Nothing}
use Rattle.daa_config.proofs.GridLemmas.{value_there}
use Rattle.daa_config.proofs.RangeLemmas.{size_is}
use Rattle.daa_state.specs.declared.word.Own.{Own}
use Rattle.daa_resolve.specs.declared.side.Side.{Side}
use Rattle.daa_resolve.specs.declared.side.Side.TheVariants.{Lower, Upper}
use Rattle.daa_resolve.specs.Side.{way_of, distance_of, present_of}
use Rattle.daa_resolve.specs.Resolution.{IsResolution}

same_turn : (a b m n : ℕ) → a + n ≡ b + m → m % 360 ≡ n % 360 → a ≤ 359 → b ≤ 359 → a ≡ b
same_turn a b m n e h k l = omega arith

same_pos : (m n : ℕ) → pos m ≡ pos n → m ≡ n
same_pos m n e = cc

module _ (now : ℤ) (a b : ℕ) (few_a : a ≤ 359) (few_b : b ≤ 359) where
  abbrev turns : ℕ
  turns = nat_abs now + 1

  ahead : (c : ℕ) → pos 0 ≤ℤ ((pos c -ℤ now) +ℤ pos (turns * 360))
  ahead c = omega (arith, ints)

  behind : (c : ℕ) → c ≤ 359 → pos 0 ≤ℤ ((now -ℤ pos c) +ℤ pos (turns * 360))
  behind c h = omega (arith, ints)

  up_only : int_rem_euclid (pos a -ℤ now) (pos 360) ≡ int_rem_euclid (pos b -ℤ now) (pos 360) → a ≡ b
  up_only e =
      let x = size_is _ (ahead a) in let y = size_is _ (ahead b) in
      let m : ℕ = nat_abs ((pos a -ℤ now) +ℤ pos (turns * 360)) in let n : ℕ = nat_abs ((pos b -ℤ now) +ℤ pos (turns * 360)) in
      let r = sym (int_rem_euclid_is (pos a -ℤ now) (pos 360) 360 turns m (omega arith) refl x) ∙ e ∙ int_rem_euclid_is (pos b -ℤ now) (pos 360) 360 turns n (omega arith) refl y in
      same_turn a b m n (omega (arith, ints, x, y)) (same_pos _ _ r) few_a few_b

  down_only : int_rem_euclid (now -ℤ pos a) (pos 360) ≡ int_rem_euclid (now -ℤ pos b) (pos 360) → a ≡ b
  down_only e =
      let x = size_is _ (behind a few_a) in let y = size_is _ (behind b few_b) in
      let m : ℕ = nat_abs ((now -ℤ pos a) +ℤ pos (turns * 360)) in let n : ℕ = nat_abs ((now -ℤ pos b) +ℤ pos (turns * 360)) in
      let r = sym (int_rem_euclid_is (now -ℤ pos a) (pos 360) 360 turns m (omega arith) refl x) ∙ e ∙ int_rem_euclid_is (now -ℤ pos b) (pos 360) 360 turns n (omega arith) refl y in
      sym (same_turn b a m n (omega (arith, ints, x, y)) (same_pos _ _ r) few_b few_a)

pub turn_only : (side : Side) (now : ℤ) (a b : ℕ) → a ≤ 359 → b ≤ 359 → distance_of Track side now (pos a) ≡ distance_of Track side now (pos b) → a ≡ b
turn_only Upper now a b h k e = up_only now a b h k e
turn_only Lower now a b h k e = down_only now a b h k e

way_only : (side : Side) (now v w : ℤ) → way_of side now v ≡ way_of side now w → v ≡ w
way_only Upper now v w e = omega (arith, ints)
way_only Lower now v w e = omega (arith, ints)

-- the values of track are degrees
pub degrees : (s : Settings) (i : ℕ) (v : ℤ) → IsAccepted s → slice_get (values_of Track s) i ≡ Some v → (pos 0 ≤ℤ v) × (v ≤ℤ pos 359)
degrees s i v h e =
    let g = grid_of Track s in
    let t = value_there Track s i h (slice_get_within (values_of Track s) i v e) in
    let same : Some (g.min +ℤ pos i *ℤ g.step) ≡ Some v = sym t.there ∙ e in
    let is : g.min +ℤ pos i *ℤ g.step ≡ v = cc in
    let r = subst (λ (z : ℤ). IsInBounds (value_bounds Track) z) is t.in_range in
    (r.least, r.most)

module _ (Covered : ℕ → ℕ → Type 0) (s : Settings) (own : Own) (ok : IsAccepted s) where
  pub far_only : (kind : Kind) (side : Side) (p q : ℕ) (v w : ℤ) → slice_get (values_of kind s) p ≡ Some v → slice_get (values_of kind s) q ≡ Some w
      → distance_of kind side (present_of kind own) v ≡ distance_of kind side (present_of kind own) w → v ≡ w
  far_only Track side p q v w a b e =
      let x = degrees s p v ok a in let y = degrees s q w ok b in
      let m = size_is v x.0 in let n = size_is w y.0 in
      let f = subst (λ (z : ℤ). distance_of Track side (present_of Track own) z ≡ distance_of Track side (present_of Track own) w) m e in
      let g = subst (λ (z : ℤ). distance_of Track side (present_of Track own) (pos (nat_abs v)) ≡ distance_of Track side (present_of Track own) z) n f in
      let t = turn_only side (present_of Track own) (nat_abs v) (nat_abs w) (let h = x.1 in omega (arith, ints, m)) (let h = y.1 in omega (arith, ints, n)) g in
      m ∙ ap (λ (k : ℕ). pos k) t ∙ sym n
  far_only GroundSpeed side p q v w a b e = way_only side (present_of GroundSpeed own) v w e
  far_only VerticalSpeed side p q v w a b e = way_only side (present_of VerticalSpeed own) v w e
  far_only Altitude side p q v w a b e = way_only side (present_of Altitude own) v w e

  both : (x y : ℤ) → x ≤ℤ y → y ≤ℤ x → x ≡ y
  both x y h k = omega (arith, ints)

  pub one_answer : (kind : Kind) (side : Side) (a b : Resolution) → IsResolution Covered s own kind side a → IsResolution Covered s own kind side b → a ≡ b
  one_answer kind side Keep Keep h k = refl
  one_answer kind side Keep (To v) h k = absurd (k.0 h)
  one_answer kind side Keep Nothing h k = absurd (k.0 h)
  one_answer kind side (To v) Keep h k = absurd (h.0 k)
  one_answer kind side (To v) (To w) h k =
      let c = h.1.1 in let d = k.1.1 in
      ap (λ (z : ℤ). To z) (far_only kind side h.1.0 k.1.0 v w c.value_is d.value_is (both _ _ (h.1.2 k.1.0 w d) (k.1.2 h.1.0 v c)))
  one_answer kind side (To v) Nothing h k = absurd (k.1 h.1.0 v h.1.1)
  one_answer kind side Nothing Keep h k = absurd (h.0 k)
  one_answer kind side Nothing (To w) h k = absurd (h.1 k.1.0 w k.1.1)
  one_answer kind side Nothing Nothing h k = refl
