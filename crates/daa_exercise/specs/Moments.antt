-- The moments that the outputs of a generator make. Each draw takes the next output, and a moment's draws begin where
-- those of the moment before end.
use Rattle.std.specs.Prelude.{ℕ, zero, suc, ℤ, pos, neg_ℤ, nat_abs, ◌+◌, ◌*◌, ◌+ℤ◌, ◌++◌, map, codes, decimal}
use Rattle.std.specs.List.{range_with_len}
use Rattle.daa_state.specs.Bounds.{exact}
use Rattle.daa_state.specs.declared.word.Own.{Own}
use Rattle.daa_state.specs.declared.word.Traffic.{Traffic}
use Rattle.daa_state.specs.declared.word.Picture.{Picture}
use Rattle.daa_exercise.specs.Outputs.{picked}

module _ (output : ℕ → ℕ) where
  -- the ownship is at 0 0; its altitude in feet, its track in degrees clockwise from north, its ground speed in tenths of a
  -- knot and its vertical speed in feet per minute are the draws from a place on
  unfoldable pub own_at : ℕ → Own
  own_at at = record {
    x = pos 0;
    y = pos 0;
    alt = picked (pos 0) (pos 20000) (output at);
    trk = picked (pos 0) (pos 359) (output (at + 1));
    gs = picked (pos 500) (pos 5000) (output (at + 2));
    vs = picked (neg_ℤ (pos 2000)) (pos 2000) (output (at + 3));
  }

  -- how many aircraft there are is the draw after these
  unfoldable pub count_at : ℕ → ℕ
  count_at at = nat_abs (picked (pos 0) (pos 8) (output (at + 4)))

  -- the aircraft of a number is named A1, A2, ..; its six numbers are the draws from a place on: its place east and north in
  -- thousandths of a nautical mile, its height above the ownship's altitude in feet, its speeds east and north in tenths of a
  -- knot and its vertical speed in feet per minute; its report is of this second, and
  -- taken as the truth
  unfoldable pub aircraft_at : ℤ → ℕ → ℕ → Traffic
  aircraft_at own_altitude number at = record {
    id = codes "A" ++ decimal number;
    x = picked (neg_ℤ (pos 8000)) (pos 8000) (output at);
    y = picked (neg_ℤ (pos 8000)) (pos 8000) (output (at + 1));
    alt = own_altitude +ℤ picked (neg_ℤ (pos 2000)) (pos 2000) (output (at + 2));
    vx = picked (neg_ℤ (pos 5000)) (pos 5000) (output (at + 3));
    vy = picked (neg_ℤ (pos 5000)) (pos 5000) (output (at + 4));
    vs = picked (neg_ℤ (pos 2000)) (pos 2000) (output (at + 5));
    age = 0;
    bounds = exact;
  }

  -- where the draws of the moment of a time begin; times are 0, 1, ..; a moment takes five draws, and six for each aircraft
  unfoldable pub begin_of : ℕ → ℕ
  begin_of zero = 0
  begin_of (suc time) = begin_of time + (5 + 6 * count_at (begin_of time))

  -- the moment of a time: the ownship, and then as many aircraft as were drawn, one after the other, numbered from 1
  unfoldable pub moment_of : ℕ → Picture
  moment_of time = let at = begin_of time in record {
    time = time;
    own = own_at at;
    traffic = record { items = map (λ i. aircraft_at (own_at at).alt (i + 1) (at + 5 + 6 * i)) (range_with_len 0 (count_at at)) };
  }
