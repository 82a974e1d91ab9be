-- The branch of a candidate.
use Rattle.std.specs.Prelude.{◌≡◌, ◌+◌, ◌<◌, ◌≤◌}
use Rattle.daa_config.specs.declared.config.Rates.{Rates}
use Rattle.daa_config.specs.declared.candidate.Candidate.{Candidate}
use Rattle.daa_state.specs.declared.word.Own.{Own}
use Rattle.daa_legs.specs.declared.branch.Branch.{Branch}
use Rattle.daa_legs.specs.Motion.{velocity_on}
use Rattle.daa_legs.specs.Branch.{lead_of, velocity_there, FliesAs, FliesOn}

-- the candidate leaves the flight that leads on its side where the branch says, and flies straight on at its velocity; a leg of its
-- own has the same way over ground, and rises as the branch says
pub record IsBranchOf (own : Own) (rates : Rates) (candidate : Candidate) (branch : Branch) : Type 0 where
  pub before : FliesAs own rates candidate (lead_of own candidate branch.upper) branch.leaves
  pub after : FliesOn own rates candidate branch.settles
  pub near : (branch.leaves ≤ branch.settles) × (branch.settles ≤ branch.leaves + 1)
  pub velocity : branch.velocity ≡ velocity_there own candidate
  pub rise : branch.leaves < branch.settles → branch.leaves < 180
      → velocity_on own rates candidate branch.leaves ≡ record { flat = branch.velocity.flat; up = branch.rise }
