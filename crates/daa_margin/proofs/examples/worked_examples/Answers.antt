use Rattle.std.proofs.Common.{inl, inr, subst, ℤ, pos, ◌≤ℤ◌}
use Rattle.std.specs.Int.Signed.{le_z_yes, lt_z_yes}
use Rattle.daa_fixed.specs.declared.Leg.{Leg}
use Rattle.daa_fixed.specs.Flat.{dot_of}
use Rattle.daa_taumod.specs.declared.Model.TheVariants.{Taumod}
use Rattle.daa_taumod.specs.declared.Volume.{Volume}
use Rattle.daa_taumod.specs.Examples.{volume_of}
use Rattle.daa_margin.specs.declared.ErrorBounds.{ErrorBounds}
use Rattle.daa_margin.specs.Examples.{bounds_of, standing, ahead_by}
use Rattle.daa_margin.specs.MayViolate.{IsRootAbove, MayBeSoon, square_within, twice_middle_at, twice_middle_error_at}
use Rattle.daa_margin.proofs.Growth.{room_of}
use Rattle.daa_margin.proofs.Roots.{is_root, zero_root, one_root}
use Rattle.daa_margin.proofs.examples.worked_examples.Goals as goal

-- what may be soon, is so by the roots that there are
by_roots : (leg : Leg) (volume : Volume) (bounds : ErrorBounds) (n d speed reach : ℤ) → IsRootAbove (dot_of leg.velocity.flat leg.velocity.flat) speed
    → IsRootAbove (square_within leg volume bounds speed) reach → MayBeSoon leg volume bounds n d
    → dot_of (twice_middle_at leg volume bounds n d) (twice_middle_at leg volume bounds n d)
    ≤ℤ room_of d (square_within leg volume bounds speed) reach (twice_middle_error_at leg volume bounds n d)
by_roots leg volume bounds n d speed reach one other h =
    let e = one_root _ _ _ h.speed_is one in
    let here : IsRootAbove (square_within leg volume bounds speed) h.reach = subst (λ (z : ℤ). IsRootAbove (square_within leg volume bounds z) h.reach) e h.reach_is in
    subst (λ (z : ℤ). dot_of (twice_middle_at leg volume bounds n d) (twice_middle_at leg volume bounds n d)
    ≤ℤ room_of d (square_within leg volume bounds speed) z (twice_middle_error_at leg volume bounds n d)) (one_root _ _ _ here other)
    (subst (λ (z : ℤ). dot_of (twice_middle_at leg volume bounds n d) (twice_middle_at leg volume bounds n d)
    ≤ℤ room_of d (square_within leg volume bounds z) h.reach (twice_middle_error_at leg volume bounds n d)) e h.soon)

not_soon_by_modified_tau : ¬ MayBeSoon standing (volume_of 23760 27000 1 0 Taumod) (bounds_of 0 500 0 0) (pos 1) (pos 1)
not_soon_by_modified_tau h = absurd (by_roots _ _ _ _ _ (pos 0) (pos 47523) zero_root (is_root _ _ (le_z_yes tt) (lt_z_yes tt) (le_z_yes tt)) h).le

ahead_a_unit_less : ¬ MayBeSoon (ahead_by 65800) (volume_of 21600 27000 16 0 Taumod) (bounds_of 999 0 0 0) (pos 0) (pos 1)
ahead_a_unit_less h =
    absurd (by_roots _ _ _ _ _ (pos 3600) (pos 72000) (is_root _ _ (le_z_yes tt) (lt_z_yes tt) (le_z_yes tt)) (is_root _ _ (le_z_yes tt) (lt_z_yes tt) (le_z_yes tt)) h).le

ahead_by_speed_a_unit_more : ¬ MayBeSoon (ahead_by 66244) (volume_of 21600 27000 16 0 Taumod) (bounds_of 0 100 0 0) (pos 0) (pos 1)
ahead_by_speed_a_unit_more h =
    absurd (by_roots _ _ _ _ _ (pos 3600) (pos 73287) (is_root _ _ (le_z_yes tt) (lt_z_yes tt) (le_z_yes tt)) (is_root _ _ (le_z_yes tt) (lt_z_yes tt) (le_z_yes tt)) h).le

pub returns : goal.returns
returns c = record {
  place = record { horizontal = inl (le_z_yes tt); vertical = inl (le_z_yes tt) };
  place_a_unit_less = λ h. absurd h.le;
  grown = le_z_yes tt;
  not_grown_yet = λ h. absurd h.le;
  soon_by_entry = inr (record {
    near = record { num = pos 2; den = pos 1; fraction = le_z_yes tt; from = le_z_yes tt; upto = le_z_yes tt; holds = le_z_yes tt };
    soon = tt;
  });
  not_soon_by_modified_tau = not_soon_by_modified_tau;
  ahead = record {
    horizontal = inr (record {
      near = record { num = pos 16; den = pos 1; fraction = le_z_yes tt; from = le_z_yes tt; upto = le_z_yes tt; holds = le_z_yes tt };
      soon = record {
        speed = pos 3600;
        reach = pos 72000;
        speed_is = is_root _ _ (le_z_yes tt) (lt_z_yes tt) (le_z_yes tt);
        reach_is = is_root _ _ (le_z_yes tt) (lt_z_yes tt) (le_z_yes tt);
        soon = le_z_yes tt;
      };
    });
    vertical = inl (le_z_yes tt);
  };
  ahead_a_unit_less = ahead_a_unit_less;
  ahead_by_speed = record {
    horizontal = inr (record {
      near = record { num = pos 16; den = pos 1; fraction = le_z_yes tt; from = le_z_yes tt; upto = le_z_yes tt; holds = le_z_yes tt };
      soon = record {
        speed = pos 3600;
        reach = pos 73287;
        speed_is = is_root _ _ (le_z_yes tt) (lt_z_yes tt) (le_z_yes tt);
        reach_is = is_root _ _ (le_z_yes tt) (lt_z_yes tt) (le_z_yes tt);
        soon = le_z_yes tt;
      };
    });
    vertical = inl (le_z_yes tt);
  };
  ahead_by_speed_a_unit_more = ahead_by_speed_a_unit_more;
  height = inl (le_z_yes tt);
  height_a_unit_less = λ h. absurd h.le;
  co_altitude_by_height = inr (record {
    num = pos 29;
    den = pos 1;
    fraction = le_z_yes tt;
    from = le_z_yes tt;
    upto = le_z_yes tt;
    holds = le_z_yes tt;
  });
  co_altitude_by_climb = inr (record {
    num = pos 25;
    den = pos 1;
    fraction = le_z_yes tt;
    from = le_z_yes tt;
    upto = le_z_yes tt;
    holds = le_z_yes tt;
  });
}
