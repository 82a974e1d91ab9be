use Rattle.daa_replay.proofs.CheckpointLemmas.{moments-none, moments-some}
use Rattle.daa_replay.proofs.checkpoint.Checkpoint.moments.Goals as goal

pub returns-in-None : goal.returns-in-None
returns-in-None c = moments-none c.args.self.now c.new-moments.result c.take_in.new.moments c.new-moments.ensures c.take_in.ensures c.in-None.is

pub returns-in-Some : goal.returns-in-Some
returns-in-Some c =
    moments-some c.args.self.now c.in-Some.time _ c.new-moments.result c.take_in.new.moments c.take_in-in-Some.new.moments c.take_in-in-Some-2.new.moments c.take_in-in-Some-3.new.moments
    c.new-moments.ensures c.take_in.ensures c.take_in-in-Some.ensures c.take_in-in-Some-2.ensures c.take_in-in-Some-3.ensures c.in-Some.is
