-- A candidate's value while it changes by its rate each second.
use Rattle.std.specs.Prelude.{◌≡◌, ◌+◌, ⊤, ℕ, ℤ, pos, neg_ℤ, ◌+ℤ◌, ◌-ℤ◌, ◌*ℤ◌, ◌≤ℤ◌, Bool, true, false}
use Rattle.std.specs.Int.{int_rem_euclid}
use Rattle.daa_fixed.specs.Toward.{toward_of}
use Rattle.daa_config.specs.declared.config.Rates.{Rates}
use Rattle.daa_config.specs.declared.candidate.Candidate.{Candidate}
use Rattle.daa_config.specs.declared.candidate.Candidate.TheVariants.{Hold, Track, GroundSpeed, VerticalSpeed, Altitude}
use Rattle.daa_state.specs.declared.word.Own.{Own}
use Rattle.daa_legs.specs.Turn.{turned}
use Rattle.daa_legs.specs.Motion.{height_after}

-- what a second changes: the rate to the right or up, and to the left or down with the other sign
abbrev pub step_of : (upper : Bool) → ℤ → ℤ
step_of true rate = rate
step_of false rate = neg_ℤ rate

-- leg k is on the way: k seconds have changed the value by the rate each; to an altitude that second rises by it. The present flight
-- changes nothing.
abbrev pub IsOnWay : Own → Rates → Candidate → (upper : Bool) → ℕ → Type 0
IsOnWay own rates Hold upper k = ⊤
IsOnWay own rates (Track c) upper k = (turned own.trk c (pos k *ℤ rates.turn) ≡ int_rem_euclid (own.trk +ℤ pos k *ℤ step_of upper rates.turn) (pos 360)) × ((pos k *ℤ rates.turn) ≤ℤ pos 180)
IsOnWay own rates (GroundSpeed g) upper k = toward_of own.gs g (pos k *ℤ rates.gs) ≡ own.gs +ℤ pos k *ℤ step_of upper rates.gs
IsOnWay own rates (VerticalSpeed w) upper k = toward_of own.vs w (pos k *ℤ rates.vs) ≡ own.vs +ℤ pos k *ℤ step_of upper rates.vs
IsOnWay own rates (Altitude a) upper k = height_after own rates a (k + 1) -ℤ height_after own rates a k ≡ step_of upper rates.alt
