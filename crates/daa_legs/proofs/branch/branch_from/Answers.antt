use Rattle.std.proofs.Common.{rules, ◌≡◌, ℤ, sym, subst, FitsSigned, w64, to_z-of_z}
use Rattle.daa_legs.specs.Motion.{velocity_on}
use Rattle.daa_legs.proofs.Branching.{rises}
use Rattle.daa_legs.proofs.branch.branch_from.Goals as goal

pub returns : goal.returns
returns c =
    let f : FitsSigned w64 c.parting_of-parting.result.rise = search rules in
    record {
      before = c.parting_of-parting.ensures.before;
      after = c.parting_of-parting.ensures.after;
      near = c.parting_of-parting.ensures.near;
      velocity = c.velocity_at_end.ensures;
      rise = λ later _. let o = c.parting_of-parting.ensures.level later in
          subst (λ (up : ℤ). velocity_on c.args.own.now c.args.rates.now c.args.candidate c.parting_of-parting.result.leaves
          ≡ record { flat = c.velocity_at_end.result.flat; up = up }) (sym (to_z-of_z f))
          (rises c.args.own.now c.args.rates.now c.args.candidate o.0 c.parting_of-parting.result.leaves c.velocity_at_end.result
          c.parting_of-parting.result.rise o.1 c.velocity_at_end.ensures (c.parting_of-parting.ensures.rise later));
    }
