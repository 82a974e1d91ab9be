use Rattle.std.proofs.Common.{arith, ap}
use Rattle.daa_config.specs.declared.kind.Kind.{Kind}
use Rattle.daa_config.specs.Candidates.{start_of}
use Rattle.daa_config.proofs.CandidateLemmas.{kind_within, kind_few}
use Rattle.daa_config.proofs.config.Config.start.Goals as goal

pub returns-in-Track-clause-within : goal.returns-in-Track-clause-within
unfolding start_of
returns-in-Track-clause-within c =
    omega (arith, kind_within c.args.kind c.args.self.now, ap (λ (k : Kind). start_of k c.args.self.now) c.in-Track.is)

pub returns-in-Track-clause-few : goal.returns-in-Track-clause-few
unfolding start_of
returns-in-Track-clause-few c =
    omega (arith, kind_few c.args.kind c.args.self.now c.count-tracks.ensures.accepted, ap (λ (k : Kind). start_of k c.args.self.now) c.in-Track.is)

pub returns-in-GroundSpeed-clause-within : goal.returns-in-GroundSpeed-clause-within
unfolding start_of
returns-in-GroundSpeed-clause-within c =
    omega (arith, kind_within c.args.kind c.args.self.now, ap (λ (k : Kind). start_of k c.args.self.now) c.in-GroundSpeed.is)

pub returns-in-GroundSpeed-clause-few : goal.returns-in-GroundSpeed-clause-few
unfolding start_of
returns-in-GroundSpeed-clause-few c =
    omega (arith, kind_few c.args.kind c.args.self.now c.count-tracks.ensures.accepted, ap (λ (k : Kind). start_of k c.args.self.now) c.in-GroundSpeed.is)

pub returns-in-VerticalSpeed-clause-within : goal.returns-in-VerticalSpeed-clause-within
unfolding start_of
returns-in-VerticalSpeed-clause-within c =
    omega (arith, kind_within c.args.kind c.args.self.now, ap (λ (k : Kind). start_of k c.args.self.now) c.in-VerticalSpeed.is)

pub returns-in-VerticalSpeed-clause-few : goal.returns-in-VerticalSpeed-clause-few
unfolding start_of
returns-in-VerticalSpeed-clause-few c =
    omega (arith, kind_few c.args.kind c.args.self.now c.count-tracks.ensures.accepted, ap (λ (k : Kind). start_of k c.args.self.now) c.in-VerticalSpeed.is)

pub returns-in-Altitude-clause-within : goal.returns-in-Altitude-clause-within
unfolding start_of
returns-in-Altitude-clause-within c =
    omega (arith, kind_within c.args.kind c.args.self.now, ap (λ (k : Kind). start_of k c.args.self.now) c.in-Altitude.is)

pub returns-in-Altitude-clause-few : goal.returns-in-Altitude-clause-few
unfolding start_of
returns-in-Altitude-clause-few c =
    omega (arith, kind_few c.args.kind c.args.self.now c.count-tracks.ensures.accepted, ap (λ (k : Kind). start_of k c.args.self.now) c.in-Altitude.is)
