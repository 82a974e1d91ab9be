-- That a core's lists are of one length.
use Rattle.std.specs.Prelude.{◌≡◌, length}
use Rattle.daa_schedule.specs.Answers.{AreAnswers}
use Rattle.daa_schedule.specs.CoreState.{CoreState, worker_count, unit_count}

-- the lists have an entry for each worker and for each unit
pub record IsShaped (core : CoreState) : Type 0 where
  pub hands : length core.hands ≡ worker_count core
  pub ended : length core.ended ≡ worker_count core
  pub board : length core.board ≡ unit_count core
  pub answers : AreAnswers core.answers
