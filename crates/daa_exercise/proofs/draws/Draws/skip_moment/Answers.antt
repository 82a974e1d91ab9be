use Rattle.daa_exercise.proofs.MoveLemmas.{draws_drawn}
use Rattle.daa_exercise.proofs.draws.Draws.skip_moment.Goals as goal

pub returns : goal.returns
returns c = draws_drawn c.args.self.now c.skip.new.self c.next_count-count.new.self c.skip-2.new.self c.next_count-count.result
    c.skip.ensures c.next_count-count.ensures.rest c.skip-2.ensures c.next_count-count.ensures.value
