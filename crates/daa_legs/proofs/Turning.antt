-- A turn and the half turn that leads on its side.
use Rattle.std.proofs.Common.{◌≡◌, ℕ, ◌+◌, refl, ap, sym, ◌∙◌, arith, Bool, true, false, ℤ, pos, ◌+ℤ◌, ◌-ℤ◌, ◌*ℤ◌, ◌≤ℤ◌, ◌<ℤ◌}
use Rattle.std.proofs.lemmas.Int.{ints, int_min_is, by_lt_z}
use Rattle.std.specs.Prelude.{IsTrue, int_le}
use Rattle.std.specs.Int.{int_min, int_rem_euclid}
use Rattle.daa_fixed.specs.Size.{IsFrom}
use Rattle.daa_heading.proofs.Quarters.{le_true, le_false}
use Rattle.daa_config.specs.declared.config.Rates.{Rates}
use Rattle.daa_config.specs.declared.candidate.Candidate.TheVariants.{Track}
use Rattle.daa_state.specs.declared.word.Own.{Own}
use Rattle.daa_legs.specs.Turn.{right_angle, turned}
use Rattle.daa_legs.specs.Branch.{lead_of, FliesAs, FliesOn}
use Rattle.daa_legs.specs.Inside.Branch.{IsWholeLegs}
use Rattle.daa_legs.proofs.Arriving.{rem_back, rem_on, turned-arrives}
use Rattle.daa_legs.proofs.LeadingFlights.{within, track_same, track_settled}
use Rattle.daa_legs.proofs.ClosedForms.{rem_range, rem_small}
use Rattle.daa_legs.proofs.Turns.{turned_right, turned_left}

-- the angle to the track that is so many degrees to the right
pub angle_to : (track a : ℤ) → IsFrom (pos 0) (pos 359) track → IsFrom (pos 0) (pos 359) a → right_angle track (int_rem_euclid (track +ℤ a) (pos 360)) ≡ a
angle_to track a t h = by_lt_z (track +ℤ a) (pos 360)
    (λ l. ap (λ (z : ℤ). int_rem_euclid (z -ℤ track) (pos 360)) (rem_small (track +ℤ a) (record { least = omega (arith, ints, t.least, h.least); most = omega (arith, ints, l) }))
    ∙ ap (λ (z : ℤ). int_rem_euclid z (pos 360)) (back track a) ∙ rem_small a h)
    (λ g. ap (λ (z : ℤ). int_rem_euclid (z -ℤ track) (pos 360)) (rem_on (track +ℤ a) (record { least = omega (arith, ints, g); most = omega (arith, ints, t.most, h.most) }))
    ∙ rem_back _ (record { least = omega (arith, ints, h.least); most = omega (arith, ints, h.most) }) ∙ round track a)
  where
    back : (t a : ℤ) → (t +ℤ a) -ℤ t ≡ a
    back t a = omega (arith, ints)

    round : (t a : ℤ) → ((t +ℤ a) -ℤ pos 360 -ℤ t) +ℤ pos 360 ≡ a
    round t a = omega (arith, ints)

-- as long as the turn is not over, it is the same turn
right_alike : (track c d x : ℤ) → right_angle track c ≤ℤ pos 180 → right_angle track d ≤ℤ pos 180 → x ≤ℤ right_angle track c → x ≤ℤ right_angle track d → turned track c x ≡ turned track d x
right_alike track c d x h k l m =
    sym (turned_right track c x (le_true _ _ h))
    ∙ ap (λ (z : ℤ). int_rem_euclid (track +ℤ z) (pos 360)) (least (right_angle track c) (right_angle track d) l m)
    ∙ turned_right track d x (le_true _ _ k)
  where
    least : (a b : ℤ) → x ≤ℤ a → x ≤ℤ b → int_min x a ≡ int_min x b
    least a b p q = let u = int_min_is x a in let v = int_min_is x b in omega (arith, ints)

left_alike : (track c d x : ℤ) → pos 180 <ℤ right_angle track c → pos 180 <ℤ right_angle track d → x ≤ℤ (pos 360 -ℤ right_angle track c) → x ≤ℤ (pos 360 -ℤ right_angle track d)
    → turned track c x ≡ turned track d x
left_alike track c d x h k l m =
    sym (turned_left track c x (le_false _ _ h))
    ∙ ap (λ (z : ℤ). int_rem_euclid (track -ℤ z) (pos 360)) (least (pos 360 -ℤ right_angle track c) (pos 360 -ℤ right_angle track d) l m)
    ∙ turned_left track d x (le_false _ _ k)
  where
    least : (a b : ℤ) → x ≤ℤ a → x ≤ℤ b → int_min x a ≡ int_min x b
    least a b p q = let u = int_min_is x a in let v = int_min_is x b in omega (arith, ints)

-- once it is over it stays
right_over : (track c x y : ℤ) → right_angle track c ≤ℤ pos 180 → right_angle track c ≤ℤ x → right_angle track c ≤ℤ y → turned track c x ≡ turned track c y
right_over track c x y h l m =
    sym (turned_right track c x (le_true _ _ h))
    ∙ ap (λ (z : ℤ). int_rem_euclid (track +ℤ z) (pos 360)) (least (right_angle track c) l m)
    ∙ turned_right track c y (le_true _ _ h)
  where
    least : (a : ℤ) → a ≤ℤ x → a ≤ℤ y → int_min x a ≡ int_min y a
    least a p q = let u = int_min_is x a in let v = int_min_is y a in omega (arith, ints)

left_over : (track c x y : ℤ) → pos 180 <ℤ right_angle track c → (pos 360 -ℤ right_angle track c) ≤ℤ x → (pos 360 -ℤ right_angle track c) ≤ℤ y → turned track c x ≡ turned track c y
left_over track c x y h l m =
    sym (turned_left track c x (le_false _ _ h))
    ∙ ap (λ (z : ℤ). int_rem_euclid (track -ℤ z) (pos 360)) (least (pos 360 -ℤ right_angle track c) l m)
    ∙ turned_left track c y (le_false _ _ h)
  where
    least : (a : ℤ) → a ≤ℤ x → a ≤ℤ y → int_min x a ≡ int_min y a
    least a p q = let u = int_min_is x a in let v = int_min_is y a in omega (arith, ints)

-- an angle is from 0 to 359
pub angle_least : (track c : ℤ) → pos 0 ≤ℤ right_angle track c
angle_least track c = let b = rem_range (c -ℤ track) in omega (arith, ints, b.least)

pub angle_most : (track c : ℤ) → pos 0 ≤ℤ (pos 360 -ℤ right_angle track c)
angle_most track c = let b = rem_range (c -ℤ track) in omega (arith, ints, b.most)

module _ (own : Own) (rates : Rates) (r0 : pos 0 ≤ℤ rates.turn) (t : IsFrom (pos 0) (pos 359) own.trk) (c : ℤ) (n : ℕ) where
  pub turn_right : right_angle own.trk c ≤ℤ pos 180 → IsWholeLegs (right_angle own.trk c) rates.turn n → FliesAs own rates (Track c) (Track (int_rem_euclid (own.trk +ℤ pos 180) (pos 360))) (n + 1)
  turn_right h legs = record {
    same = λ k b.
        let x : ℤ = pos k *ℤ rates.turn in
        let l = within own rates rates.turn r0 (right_angle own.trk c) n legs (angle_least own.trk c) k (omega (arith, b)) in
        let half = angle_to own.trk (pos 180) t (record { least = omega (arith, ints); most = omega (arith, ints) }) in
        track_same own rates c _ k k (right_alike own.trk c _ x h (omega (arith, ints, half)) l (omega (arith, ints, half, h, l)));
  }

  pub turn_left : pos 181 ≤ℤ right_angle own.trk c → IsWholeLegs (pos 360 -ℤ right_angle own.trk c) rates.turn n
      → FliesAs own rates (Track c) (Track (int_rem_euclid (own.trk +ℤ pos 181) (pos 360))) (n + 1)
  turn_left h legs = record {
    same = λ k b.
        let x : ℤ = pos k *ℤ rates.turn in
        let l = within own rates rates.turn r0 (pos 360 -ℤ right_angle own.trk c) n legs (angle_most own.trk c) k (omega (arith, b)) in
        let half = angle_to own.trk (pos 181) t (record { least = omega (arith, ints); most = omega (arith, ints) }) in
        track_same own rates c _ k k (left_alike own.trk c _ x (omega (arith, ints, h)) (omega (arith, ints, half)) l (omega (arith, ints, half, h, l)));
  }

  pub right_arrives : IsFrom (pos 0) (pos 359) c → right_angle own.trk c ≤ℤ pos 180 → IsWholeLegs (right_angle own.trk c) rates.turn n → FliesOn own rates (Track c) (n + 1)
  right_arrives d h legs = record {
    there = λ k b. track_settled own rates c k
        (right_over own.trk c _ (pos 360) h (legs.after k (omega (arith, b))) (omega (arith, ints, h)) ∙ turned-arrives own.trk c (pos 360) t d (omega (arith, ints)));
  }

  pub left_arrives : IsFrom (pos 0) (pos 359) c → pos 181 ≤ℤ right_angle own.trk c → IsWholeLegs (pos 360 -ℤ right_angle own.trk c) rates.turn n → FliesOn own rates (Track c) (n + 1)
  left_arrives d h legs = record {
    there = λ k b. track_settled own rates c k
        (left_over own.trk c _ (pos 360) (omega (arith, ints, h)) (legs.after k (omega (arith, b))) (omega (arith, ints, h)) ∙ turned-arrives own.trk c (pos 360) t d (omega (arith, ints)));
  }

pub track_branch : (own : Own) (rates : Rates) (c : ℤ) (upper : Bool) (n : ℕ) → pos 0 ≤ℤ rates.turn → IsFrom (pos 0) (pos 359) own.trk → IsFrom (pos 0) (pos 359) c
    → (IsTrue upper → right_angle own.trk c ≤ℤ pos 180) → (upper ≡ false → pos 181 ≤ℤ right_angle own.trk c) → (IsTrue upper → IsWholeLegs (right_angle own.trk c) rates.turn n)
    → (upper ≡ false → IsWholeLegs (pos 360 -ℤ right_angle own.trk c) rates.turn n)
    → FliesAs own rates (Track c) (lead_of own (Track c) upper) (n + 1) × FliesOn own rates (Track c) (n + 1)
unfolding lead_of
track_branch own rates c true n r0 t d right left rl ll = (turn_right own rates r0 t c n (right refl) (rl refl), right_arrives own rates r0 t c n d (right refl) (rl refl))
track_branch own rates c false n r0 t d right left rl ll = (turn_left own rates r0 t c n (left refl) (ll refl), left_arrives own rates r0 t c n d (left refl) (ll refl))

pub not_le : (z : ℤ) → int_le z (pos 180) ≡ false → pos 181 ≤ℤ z
not_le z e = by_lt_z (pos 180) z (λ l. omega (arith, ints, l)) (λ g. absurd (let t = le_true z (pos 180) g in cc (t, e)))
