-- Whether the volume may be violated at a time can be decided.
use Rattle.std.proofs.Common.{◌↔◌, ◌⊎◌, inl, inr, ⊎_elim, ℤ, pos, ◌+ℤ◌, ◌*ℤ◌, ◌≤ℤ◌, ◌<ℤ◌}
use Rattle.std.proofs.lemmas.Int.{by_lt_z}
use Rattle.daa_fixed.proofs.Integers.{clash}
use Rattle.daa_fixed.proofs.Decidable.{IsDecidable, as_decided}
use Rattle.daa_fixed.specs.Flat.{dot_of}
use Rattle.daa_fixed.specs.declared.Leg.{Leg}
use Rattle.daa_taumod.specs.declared.Model.{Model}
use Rattle.daa_taumod.specs.declared.Model.TheVariants.{Tau, Tcpa, Taumod, Tep}
use Rattle.daa_taumod.specs.declared.Volume.{Volume}
use Rattle.daa_margin.specs.declared.ErrorBounds.{ErrorBounds}
use Rattle.daa_margin.specs.MayViolate.{HoldsWithinNext, MayBeNear, MayBeSoon, MayBeSoonBy, MayEnter, square_within, MayViolateVertically, MayBeCoAltitude, MayViolate}
use Rattle.daa_margin.specs.Inside.Cone.{DipsBetween}
use Rattle.daa_margin.specs.Inside.Heights.{ComesDown, ComesUp}
use Rattle.daa_margin.proofs.Cones.{near_between_is}
use Rattle.daa_margin.proofs.Roots.{root_above}
use Rattle.daa_margin.proofs.Rooms.{soon_is}
use Rattle.daa_margin.proofs.Within.{in_order, within_next, as_between, level_is}

pub le_decided : (x y : ℤ) → IsDecidable (x ≤ℤ y)
le_decided x y = by_lt_z y x (λ l. inr (λ k. clash x y k l)) inl

pub lt_decided : (x y : ℤ) → IsDecidable (x <ℤ y)
lt_decided x y = by_lt_z x y inl (λ k. inr (λ l. clash y x k l))

pub either_decided : {A B : Type 0} → IsDecidable A → IsDecidable B → IsDecidable (A ⊎ B)
either_decided (inl a) d = inl (inl a)
either_decided (inr n) (inl b) = inl (inr b)
either_decided (inr n) (inr m) = inr (⊎_elim n m)

module _ (leg : Leg) (volume : Volume) (bounds : ErrorBounds) (n d : ℤ) (n0 : pos 0 ≤ℤ n) (d1 : pos 1 ≤ℤ d) where
  abbrev later : ℤ
  later = n +ℤ pos volume.tthr *ℤ d

  dips_decided : IsDecidable (DipsBetween leg volume bounds n d later d)
  dips_decided = ⊎_elim (λ a. ⊎_elim (λ b. ⊎_elim (λ c. inl (record { falls = a; rises = b; near = c }))
      (λ no_c. inr (λ h. no_c h.near)) (le_decided _ _)) (λ no_b. inr (λ h. no_b h.rises)) (lt_decided _ _)) (λ no_a. inr (λ h. no_a h.falls)) (lt_decided _ _)

  near_decided : IsDecidable (HoldsWithinNext volume.tthr (MayBeNear leg volume bounds) n d)
  near_decided =
      let same = near_between_is leg volume bounds n d later d d1 d1 (in_order volume.tthr n d) in
      as_decided ((λ h. within_next volume.tthr (MayBeNear leg volume bounds) n d (same.0 h)), (λ h. same.1 (as_between volume.tthr (MayBeNear leg volume bounds) n d h)))
      (either_decided (le_decided _ _) (either_decided (le_decided _ _) dips_decided))

  soon_decided : IsDecidable (MayBeSoon leg volume bounds n d)
  soon_decided =
      let speed = root_above (dot_of leg.velocity.flat leg.velocity.flat) in
      let reach = root_above (square_within leg volume bounds speed.root) in
      as_decided (soon_is leg volume bounds n d speed.root reach.root speed.is reach.is) (le_decided _ _)

  pub soon_by_decided : (model : Model) → IsDecidable (MayBeSoonBy leg volume bounds model n d)
  soon_by_decided Tau = soon_decided
  soon_by_decided Tcpa = soon_decided
  soon_by_decided Taumod = soon_decided
  soon_by_decided Tep = inl tt

  enter_decided : IsDecidable (MayEnter leg volume bounds n d)
  enter_decided = ⊎_elim (λ a. ⊎_elim (λ b. inl (record { near = a; soon = b })) (λ no_b. inr (λ h. no_b h.soon)) (soon_by_decided volume.model))
      (λ no_a. inr (λ h. no_a h.near)) near_decided

  down_decided : (m e : ℤ) → IsDecidable (ComesDown leg bounds n d m e)
  down_decided m e = ⊎_elim (λ a. ⊎_elim (λ b. inl (record { begins = a; ends = b })) (λ no_b. inr (λ h. no_b h.ends)) (le_decided _ _))
      (λ no_a. inr (λ h. no_a h.begins)) (le_decided _ _)

  up_decided : (m e : ℤ) → IsDecidable (ComesUp leg bounds n d m e)
  up_decided m e = ⊎_elim (λ a. ⊎_elim (λ b. inl (record { begins = a; ends = b })) (λ no_b. inr (λ h. no_b h.ends)) (le_decided _ _))
      (λ no_a. inr (λ h. no_a h.begins)) (le_decided _ _)

  vertical_decided : IsDecidable (MayViolateVertically leg volume bounds n d)
  vertical_decided = either_decided (le_decided _ _)
      (as_decided (level_is leg volume bounds n d n0 d1) (either_decided (le_decided _ _) (either_decided (down_decided _ _) (up_decided _ _))))

  pub violation_decided : IsDecidable (MayViolate leg volume bounds n d)
  violation_decided = ⊎_elim (λ a. ⊎_elim (λ b. inl (record { horizontal = a; vertical = b })) (λ no_b. inr (λ h. no_b h.vertical)) vertical_decided)
      (λ no_a. inr (λ h. no_a h.horizontal)) (either_decided (le_decided _ _) enter_decided)
