use Rattle.std.proofs.Common.{◌≡◌, ◌∙◌, ap, refl, sym}
use Rattle.daa_fixed.specs.declared.Leg.{Leg}
use Rattle.daa_fixed.specs.declared.Solid.{Solid}
use Rattle.daa_fixed.specs.Leg.{minus}
use Rattle.daa_config.specs.declared.candidate.Candidate.TheVariants.{Hold}
use Rattle.daa_config.specs.Settings.{rates_of}
use Rattle.daa_legs.specs.declared.own_leg.OwnLeg.{OwnLeg}
use Rattle.daa_legs.specs.OwnLeg.{own_place}
use Rattle.daa_legs.specs.Relative.{traffic_place, relative_for}
use Rattle.daa_legs.proofs.Places.{place-start}
use Rattle.daa_scan.proofs.reach.place_at_present.Goals as goal

pub returns-clause-value : goal.returns-clause-value
unfolding relative_for
returns-clause-value c =
    let e = c.args.encounter.now in
    let own = e.own.now in
    let first : e.hold.now.place ≡ own_place own = ap (λ (l : OwnLeg). l.place) e.known.leg ∙ sym (place-start own (rates_of e.config.now) Hold (own_place own) refl refl refl) in
    ap (λ (l : Leg). l.place) c.relative_from.ensures.value ∙ ap (λ (p : Solid). minus p (traffic_place e.aircraft.now 0)) first
