use Rattle.std.proofs.Common.{rules, ◌≡◌, ◌↔◌, subst, sym, Bool, ℤ}
use Rattle.std.specs.Prelude.{IsTrue}
use Rattle.daa_fixed.specs.declared.Leg.{Leg}
use Rattle.daa_taumod.specs.declared.Model.{Model}
use Rattle.daa_taumod.specs.declared.Volume.{Volume}
use Rattle.daa_taumod.specs.Volume.{IsSoon}
use Rattle.daa_taumod.proofs.horizontal.is_soon.Goals as goal

-- the test of the volume's own model
own_model : (model asked : Model) (leg : Leg) (volume : Volume) (n d : ℤ) (answer : Bool) → model ≡ asked → (IsTrue answer ↔ IsSoon asked leg volume n d) → IsTrue answer ↔ IsSoon model leg volume n d
own_model model asked leg volume n d answer e h = subst (λ (w : Model). IsTrue answer ↔ IsSoon w leg volume n d) (sym e) h

pub returns-in-Tau : goal.returns-in-Tau
returns-in-Tau c = own_model _ _ c.args.leg.now c.args.volume.now c.args.point.now.num c.args.point.now.den _ c.in-Tau.is (search rules)

pub returns-in-Tcpa : goal.returns-in-Tcpa
returns-in-Tcpa c = own_model _ _ c.args.leg.now c.args.volume.now c.args.point.now.num c.args.point.now.den _ c.in-Tcpa.is (search rules)

pub returns-in-Taumod : goal.returns-in-Taumod
returns-in-Taumod c = own_model _ _ c.args.leg.now c.args.volume.now c.args.point.now.num c.args.point.now.den _ c.in-Taumod.is (search rules)

pub returns-in-Tep : goal.returns-in-Tep
returns-in-Tep c = own_model _ _ c.args.leg.now c.args.volume.now c.args.point.now.num c.args.point.now.den _ c.in-Tep.is (search rules)
