-- What the present flight tells of a kind's candidates: the seconds in which they may violate a volume.
use Rattle.std.proofs.Common.{◌≡◌, ℕ, ◌+◌, ◌-◌, ◌*◌, ◌/◌, ◌<◌, ◌≤◌, inl, inr, true, sym, subst, arith, nat_abs, le-div_iff_mul-le, ℤ, pos, negsuc, ◌+ℤ◌, ◌-ℤ◌, ◌*ℤ◌, ◌≤ℤ◌, ◌∷◌, []}
use Rattle.std.proofs.lemmas.Int.{ints}
use Rattle.daa_fixed.proofs.Integers.{mul_le, le_trans_ℤ, cancel_le}
use Rattle.daa_fixed.proofs.Ring.{ring, #, ◌⊖◌, ◌⊗◌}
use Rattle.daa_fixed.specs.declared.Leg.{Leg}
use Rattle.daa_fixed.specs.declared.Point.{Point}
use Rattle.daa_fixed.specs.Time.{IsTime, HoldsSometime}
use Rattle.daa_taumod.specs.declared.Volume.{Volume}
use Rattle.daa_taumod.specs.Volume.{Violates, ViolatesVertically}
use Rattle.daa_vwindow.specs.Window.{IsWindow}
use Rattle.daa_config.specs.declared.candidate.Candidate.TheVariants.{Hold}
use Rattle.daa_config.specs.declared.kind.Kind.{Kind}
use Rattle.daa_config.specs.declared.kind.Kind.TheVariants.{Track, GroundSpeed, VerticalSpeed, Altitude}
use Rattle.daa_config.specs.Candidates.{candidate_to}
use Rattle.daa_config.specs.declared.level.Level.{Level}
use Rattle.daa_config.specs.Settings.{Settings, IsLevelInRange, rates_of}
use Rattle.daa_state.specs.declared.word.Own.{Own}
use Rattle.daa_state.specs.declared.word.Traffic.{Traffic}
use Rattle.daa_legs.specs.Errors.{are_exact}
use Rattle.daa_legs.specs.Meeting.{ViolatesOn}
use Rattle.daa_legs.specs.OwnLeg.{own_leg}
use Rattle.daa_legs.specs.Relative.{relative_for}
use Rattle.daa_legs.proofs.SharedWords.{in_height}
use Rattle.daa_legs.specs.Inside.Shared.{in_plane}
use Rattle.daa_legs.proofs.Exactness.{exact_leg}
use Rattle.daa_legs.proofs.Shares.{KeepsHeights, KeepsWay, held_in_height, met_in_plane, track-keeps, speed-keeps, climb-keeps, height-keeps}
use Rattle.daa_legs.proofs.Stretches.{out_second}
use Rattle.daa_scan.specs.declared.refusal.Seconds.{Seconds}
use Rattle.daa_scan.specs.Inside.Refusal.{IsSecondOf, AreSecondsInHeight, AreSecondsOf, AreWindowsOf, window_of}

-- ---- the seconds of the vertical window
-- the first second that ends at n/d or after it, and the last that begins at n/d or before it
first : (num den result k : ℕ) → 1 ≤ den → result ≡ (num - 1) / den → num ≤ (k + 1) * den → result ≤ k
first num den result k d1 e h = grind (arith, le-div_iff_mul-le {k = den} {x = k + 1} {y = num - 1} (omega (arith, d1)))

last : (num den result k : ℕ) → 1 ≤ den → result ≡ num / den → k * den ≤ num → k ≤ result
last num den result k d1 e h = grind (arith, le-div_iff_mul-le {k = den} {x = k} {y = num} (omega (arith, d1)))

pub first_z : (num den : ℤ) (result k : ℕ) → pos 0 ≤ℤ num → pos 1 ≤ℤ den → result ≡ (nat_abs num - 1) / nat_abs den → num ≤ℤ (pos (k + 1) *ℤ den) → result ≤ k
first_z (pos num) (pos den) result k n0 d1 e h = first num den result k (omega (arith, ints, d1)) e (omega (arith, ints, h))
first_z (negsuc num) den result k n0 d1 e h = absurd (omega (arith, ints, n0))
first_z (pos num) (negsuc den) result k n0 d1 e h = absurd (omega (arith, ints, d1))

pub last_z : (num den : ℤ) (result k : ℕ) → pos 0 ≤ℤ num → pos 1 ≤ℤ den → result ≡ nat_abs num / nat_abs den → (pos k *ℤ den) ≤ℤ num → k ≤ result
last_z (pos num) (pos den) result k n0 d1 e h = last num den result k (omega (arith, ints, d1)) e (omega (arith, ints, h))
last_z (negsuc num) den result k n0 d1 e h = absurd (omega (arith, ints, n0))
last_z (pos num) (negsuc den) result k n0 d1 e h = absurd (omega (arith, ints, d1))

-- n/d of second k is not before num/den, which is then not after its end
ends_after : (num den n d : ℤ) (k : ℕ) → pos 0 ≤ℤ den → pos 1 ≤ℤ d → n ≤ℤ (pos 1 *ℤ d) → (num *ℤ d) ≤ℤ ((n +ℤ pos k *ℤ d) *ℤ den) → num ≤ℤ (pos (k + 1) *ℤ den)
ends_after num den n d k e0 d1 late h =
    let whole : (n +ℤ pos k *ℤ d) ≤ℤ (pos (k + 1) *ℤ d) = omega (arith, ints, late) in
    let more = le_trans_ℤ (num *ℤ d) ((n +ℤ pos k *ℤ d) *ℤ den) ((pos (k + 1) *ℤ d) *ℤ den) h (mul_le (n +ℤ pos k *ℤ d) (pos (k + 1) *ℤ d) den e0 whole) in
    let apart : (pos (k + 1) *ℤ d) *ℤ den -ℤ num *ℤ d ≡ d *ℤ (pos (k + 1) *ℤ den -ℤ num) =
    let K = # 0 in let D = # 1 in let E = # 2 in let N = # 3 in ring (pos (k + 1) ∷ d ∷ den ∷ num ∷ []) ((K ⊗ D) ⊗ E ⊖ N ⊗ D) (D ⊗ (K ⊗ E ⊖ N)) tt in
    let rest = cancel_le d (pos (k + 1) *ℤ den -ℤ num) (omega (arith, ints, d1)) (omega (arith, ints, more, apart)) in
    omega (arith, ints, rest)

-- n/d of second k is not after num/den, which is then not before its beginning
begins_before : (num den n d : ℤ) (k : ℕ) → pos 0 ≤ℤ den → pos 1 ≤ℤ d → pos 0 ≤ℤ n → ((n +ℤ pos k *ℤ d) *ℤ den) ≤ℤ (num *ℤ d) → (pos k *ℤ den) ≤ℤ num
begins_before num den n d k e0 d1 early h =
    let whole : (pos k *ℤ d) ≤ℤ (n +ℤ pos k *ℤ d) = omega (arith, ints, early) in
    let more = le_trans_ℤ ((pos k *ℤ d) *ℤ den) ((n +ℤ pos k *ℤ d) *ℤ den) (num *ℤ d) (mul_le (pos k *ℤ d) (n +ℤ pos k *ℤ d) den e0 whole) h in
    let apart : num *ℤ d -ℤ (pos k *ℤ d) *ℤ den ≡ d *ℤ (num -ℤ pos k *ℤ den) =
    let K = # 0 in let D = # 1 in let E = # 2 in let N = # 3 in ring (pos k ∷ d ∷ den ∷ num ∷ []) (N ⊗ D ⊖ (K ⊗ D) ⊗ E) (D ⊗ (N ⊖ K ⊗ E)) tt in
    let rest = cancel_le d (num -ℤ pos k *ℤ den) (omega (arith, ints, d1)) (omega (arith, ints, more, apart)) in
    omega (arith, ints, rest)

module _ (leg : Leg) (volume : Volume) where
  abbrev pub longest : Leg
  longest = record { place = leg.place; velocity = leg.velocity; secs = 180 }

  as_longest : (n d : ℤ) → ViolatesVertically leg volume n d → ViolatesVertically longest volume n d
  as_longest n d (inl x) = inl x
  as_longest n d (inr x) = inr (record { nearing = x.nearing; soon = x.soon })

  pub window_seconds : (p q : Point) (begin end : ℕ) → IsWindow 180 (ViolatesVertically longest volume) p q
      → ((k : ℕ) → p.num ≤ℤ (pos (k + 1) *ℤ p.den) → begin ≤ k) → ((k : ℕ) → (pos k *ℤ q.den) ≤ℤ q.num → k ≤ end)
      → AreSecondsInHeight leg volume (record { begin = begin; end = end + 1 })
  window_seconds p q begin end is firsts lasts k n d b t v =
      let within = (is.exact (n +ℤ pos k *ℤ d) d (out_second 180 k n d b t)).0 (as_longest (n +ℤ pos k *ℤ d) d v) in
      let from = firsts k (ends_after p.num p.den n d k (omega (arith, ints, is.first.fraction)) t.fraction t.upto within.from) in
      let upto = lasts k (begins_before q.num q.den n d k (omega (arith, ints, is.last.fraction)) t.fraction t.from within.upto) in
      record { from = from; upto = omega (arith, upto) }

  pub no_seconds : (seconds : Seconds) → ((n d : ℤ) → IsTime 180 n d → ViolatesVertically longest volume n d → ⊥) → AreSecondsInHeight leg volume seconds
  no_seconds seconds never k n d b t v = absurd (never (n +ℤ pos k *ℤ d) d (out_second 180 k n d b t) (as_longest (n +ℤ pos k *ℤ d) d v))

-- ---- the seconds of a kind
module _ (settings : Settings) (own : Own) (aircraft : Traffic) (volume : Volume) (m : ℕ) (leg : Leg)
    (present : leg ≡ relative_for m (own_leg own (rates_of settings) Hold 0) aircraft 0) (kind : Kind) (seconds : Seconds) where
  vertically : (n d : ℤ) → ViolatesVertically (in_height (relative_for 180 (own_leg own (rates_of settings) Hold 0) aircraft 0)) volume n d
      → ViolatesVertically (relative_for m (own_leg own (rates_of settings) Hold 0) aircraft 0) volume n d
  unfolding relative_for
  vertically n d (inl x) = inl x
  vertically n d (inr x) = inr (record { nearing = x.nearing; soon = x.soon })

  pub by_heights : are_exact aircraft.bounds ≡ true → m ≤ 180 → ((z : ℤ) → KeepsHeights own (rates_of settings) (candidate_to kind z)) → AreSecondsInHeight leg volume seconds
      → AreSecondsOf settings own aircraft kind volume m seconds
  by_heights exact short keeps only = record {
    before = λ z k b lt v. let s = second z k (omega (arith, b, short)) v in omega (arith, lt, s.from);
    after = λ z k b ge v. let s = second z k b v in omega (arith, ge, s.upto);
  }
    where
      second : (z : ℤ) (k : ℕ) → k < 180 → ViolatesOn settings own (candidate_to kind z) aircraft volume k → IsSecondOf seconds k
      second z k b x =
          let v = (exact_leg settings own (candidate_to kind z) aircraft volume exact k).0 x in
          only k v.num v.den b v.time (subst (λ (l : Leg). ViolatesVertically l volume (v.num +ℤ pos k *ℤ v.den) v.den) (sym present)
          (vertically (v.num +ℤ pos k *ℤ v.den) v.den (held_in_height settings own (candidate_to kind z) aircraft volume 180 (keeps z) k b v.num v.den v.time.fraction v.holds).vertical))

  in_way : HoldsSometime m (Violates (in_plane (relative_for m (own_leg own (rates_of settings) Hold 0) aircraft 0)) volume) → HoldsSometime leg.secs (Violates (in_plane leg) volume)
  unfolding relative_for
  in_way h = subst (λ (l : Leg). HoldsSometime l.secs (Violates (in_plane l) volume)) (sym present) h

  pub by_way : are_exact aircraft.bounds ≡ true → ((z : ℤ) → KeepsWay own (rates_of settings) (candidate_to kind z))
      → (HoldsSometime leg.secs (Violates (in_plane leg) volume) → seconds.begin ≡ 0) → seconds.end ≡ 180 → AreSecondsOf settings own aircraft kind volume m seconds
  by_way exact keeps all end = record {
    before = λ z k b lt v.
        let e = all (in_way (met_in_plane settings own (candidate_to kind z) aircraft volume m exact (keeps z) (record { leg = k; before = b; violates = v }))) in omega (arith, lt, e);
    after = λ z k b ge v. omega (arith, b, ge, end);
  }

-- the seconds of each kind at a level
module _ (settings : Settings) (own : Own) (aircraft : Traffic) (level : Level) (in_range : IsLevelInRange level) (leg : Leg)
    (present : leg ≡ relative_for level.lookahead (own_leg own (rates_of settings) Hold 0) aircraft 0) (turns climbs : Seconds)
    (only : AreSecondsInHeight leg level.volume turns) (all : HoldsSometime leg.secs (Violates (in_plane leg) level.volume) → climbs.begin ≡ 0) (end : climbs.end ≡ 180)
    (exact : are_exact aircraft.bounds ≡ true) where
  pub all_windows : AreWindowsOf settings own aircraft level (record { turns = turns; climbs = climbs })
  all_windows Track = by_heights settings own aircraft level.volume level.lookahead leg present Track turns exact in_range.lookahead_most (λ z. track-keeps own (rates_of settings) z) only
  all_windows GroundSpeed = by_heights settings own aircraft level.volume level.lookahead leg present GroundSpeed turns exact in_range.lookahead_most (λ z. speed-keeps own (rates_of settings) z) only
  all_windows VerticalSpeed = by_way settings own aircraft level.volume level.lookahead leg present VerticalSpeed climbs exact (λ z. climb-keeps own (rates_of settings) z) all end
  all_windows Altitude = by_way settings own aircraft level.volume level.lookahead leg present Altitude climbs exact (λ z. height-keeps own (rates_of settings) z) all end

-- each second is one of all
pub every_window : (settings : Settings) (own : Own) (aircraft : Traffic) (level : Level) (all : Seconds) → all.begin ≡ 0 → all.end ≡ 180
    → AreWindowsOf settings own aircraft level (record { turns = all; climbs = all })
every_window settings own aircraft level all first last kind = of_kind kind
  where
    every : (k : Kind) → AreSecondsOf settings own aircraft k level.volume level.lookahead all
    every k = record {
      before = λ z j b lt v. absurd (omega (arith, lt, first));
      after = λ z j b ge v. absurd (omega (arith, b, ge, last));
    }

    of_kind : (k : Kind) → AreSecondsOf settings own aircraft k level.volume level.lookahead (window_of (record { turns = all; climbs = all }) k)
    of_kind Track = every Track
    of_kind GroundSpeed = every GroundSpeed
    of_kind VerticalSpeed = every VerticalSpeed
    of_kind Altitude = every Altitude
