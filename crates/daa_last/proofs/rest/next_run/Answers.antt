use Rattle.std.proofs.Common.{rules, ◌≡◌, ◌∙◌, ◌+◌, sym, pos, ◌+ℤ◌, ◌-ℤ◌, ◌*ℤ◌, FitsSigned, w32, to_z-of_z}
use Rattle.daa_fixed.specs.Leg.{plus, times}
use Rattle.daa_fixed.specs.Toward.{toward_of}
use Rattle.daa_last.specs.Inside.Rests.{flown_at}
use Rattle.daa_last.proofs.Rests.{altitude_velocity, other_velocity, flown_flat}
use Rattle.daa_last.proofs.rest.next_run.Goals as goal

pub returns-in-Altitude-clause-keeps : goal.returns-in-Altitude-clause-keeps
returns-in-Altitude-clause-keeps c j lt =
    let f1 : FitsSigned w32 c.in-Altitude.a = search rules in
    let f2 : FitsSigned w32 c.args.rates.now.alt = search rules in
    let k0 = c.climb_run.ensures.keeps j lt in
    let k : toward_of (c.args.place.now.up +ℤ pos j *ℤ c.climb_run.result.velocity.up) (pos 60 *ℤ c.in-Altitude.a) c.args.rates.now.alt
    -ℤ (c.args.place.now.up +ℤ pos j *ℤ c.climb_run.result.velocity.up) ≡ c.climb_run.result.velocity.up = simp to_z-of_z at k0 in
    let flat = flown_flat c.args.rest.now (c.args.k + j) ∙ sym c.climb_run.ensures.flat in
    sym
    (altitude_velocity c.args.rates.now c.args.rest.now.candidate (plus c.args.place.now (times (pos j) c.climb_run.result.velocity)) (flown_at c.args.rest.now (c.args.k + j)) c.in-Altitude.a
    c.in-Altitude.is)
    ∙ (λ i. record { flat = flat i; up = k i })

pub returns-in_default : goal.returns-in_default
returns-in_default c = record {
  place = c.straight_run.ensures.place;
  some = c.straight_run.ensures.some;
  within = c.straight_run.ensures.within;
  keeps = λ j lt. sym
      (other_velocity c.args.rates.now c.args.rest.now.candidate (plus c.args.place.now (times (pos j) c.straight_run.result.velocity))
      (flown_at c.args.rest.now (c.args.k + j)) c.in_default.not-Altitude)
      ∙ c.straight_run.ensures.keeps j lt;
}
