use Rattle.std.proofs.Common.{inl, inr, pos}
use Rattle.std.specs.Int.Signed.{le_z_yes, lt_z_yes}
use Rattle.daa_taumod.specs.declared.Model.TheVariants.{Tau, Tcpa, Taumod, Tep}
use Rattle.daa_taumod.specs.Examples.{volume_of, touching, ahead, inside, below}
use Rattle.daa_taumod.specs.Volume.{IsSoon, ViolatesHorizontally, ViolatesVertically}
use Rattle.daa_taumod.proofs.examples.worked_examples.Goals as goal

a_unit_less : ¬ ViolatesHorizontally touching (volume_of 23759 27000 0 0 Taumod) (pos 1) (pos 2)
a_unit_less (inl h) = absurd h.le
a_unit_less (inr h) = absurd h.near.le

before_the_touch : ¬ ViolatesHorizontally touching (volume_of 23760 27000 0 0 Taumod) (pos 0) (pos 1)
before_the_touch (inl h) = absurd h.le
before_the_touch (inr h) = absurd h.soon.le

after_the_touch : ¬ ViolatesHorizontally touching (volume_of 23760 27000 35 0 Taumod) (pos 1) (pos 1)
after_the_touch (inl h) = absurd h.le
after_the_touch (inr h) = absurd h.nearing.lt

a_unit_less_ahead : ¬ ViolatesHorizontally ahead (volume_of 23759 27000 120 0 Tcpa) (pos 0) (pos 1)
a_unit_less_ahead (inl h) = absurd h.le
a_unit_less_ahead (inr h) = absurd h.near.le

not_soon_by_tau : ¬ ViolatesHorizontally inside (volume_of 23760 27000 11 0 Tau) (pos 0) (pos 1)
not_soon_by_tau (inl h) = absurd h.le
not_soon_by_tau (inr h) = absurd h.soon.le

not_soon_by_entry : ¬ ViolatesHorizontally inside (volume_of 23760 27000 4 0 Tep) (pos 0) (pos 1)
not_soon_by_entry (inl h) = absurd h.le
not_soon_by_entry (inr h) = too_late h.soon
  where
    too_late : IsSoon Tep inside (volume_of 23760 27000 4 0 Tep) (pos 0) (pos 1) → ⊥
    too_late (inl later) = absurd later.le
    too_late (inr later) = absurd later.le

not_soon_by_modified_tau : ¬ ViolatesHorizontally inside (volume_of 23760 27000 6 0 Taumod) (pos 0) (pos 1)
not_soon_by_modified_tau (inl h) = absurd h.le
not_soon_by_modified_tau (inr h) = absurd h.soon.le

not_soon_by_closest : ¬ ViolatesHorizontally inside (volume_of 23760 27000 8 0 Tcpa) (pos 0) (pos 1)
not_soon_by_closest (inl h) = absurd h.le
not_soon_by_closest (inr h) = absurd h.soon.le

co_altitude_too_late : ¬ ViolatesVertically below (volume_of 23760 29999 0 29 Taumod) (pos 0) (pos 1)
co_altitude_too_late (inl h) = absurd h.le
co_altitude_too_late (inr h) = absurd h.soon.le

pub returns : goal.returns
returns c = record {
  touch = record { horizontal = inl (le_z_yes tt); vertical = inl (le_z_yes tt) };
  a_unit_less = a_unit_less;
  before_the_touch = before_the_touch;
  after_the_touch = after_the_touch;
  touch_ahead = record {
    horizontal = inr (record { nearing = lt_z_yes tt; soon = le_z_yes tt; near = le_z_yes tt });
    vertical = inl (le_z_yes tt);
  };
  a_unit_less_ahead = a_unit_less_ahead;
  soon_by_tau = inr (record { nearing = lt_z_yes tt; soon = le_z_yes tt; near = le_z_yes tt });
  not_soon_by_tau = not_soon_by_tau;
  soon_by_modified_tau = inr (record { nearing = lt_z_yes tt; soon = le_z_yes tt; near = le_z_yes tt });
  not_soon_by_modified_tau = not_soon_by_modified_tau;
  not_soon_by_closest = not_soon_by_closest;
  soon_by_closest = inr (record { nearing = lt_z_yes tt; soon = le_z_yes tt; near = le_z_yes tt });
  soon_by_entry = inr (record { nearing = lt_z_yes tt; soon = inr (le_z_yes tt); near = le_z_yes tt });
  not_soon_by_entry = not_soon_by_entry;
  co_altitude_in_thirty = inr (record { nearing = lt_z_yes tt; soon = le_z_yes tt });
  co_altitude_too_late = co_altitude_too_late;
}
