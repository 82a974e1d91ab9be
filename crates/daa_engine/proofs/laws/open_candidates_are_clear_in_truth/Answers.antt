use Rattle.daa_engine.proofs.ClearLemmas.{candidate_clear, above_clear, answer_clear}
use Rattle.daa_engine.proofs.ClearTextLemmas.{bands_clear}
use Rattle.daa_engine.proofs.laws.open_candidates_are_clear_in_truth.Goals as goal

pub returns : goal.returns
returns c = record {
  candidates = λ s p index l candidate listed uncovered. candidate_clear s p index l candidate listed uncovered;
  levels = λ s p index shown l candidate listed greatest above. above_clear s p index shown l candidate listed greatest above;
  bands = λ s p kind bands ok are. bands_clear s p ok kind bands are;
  resolutions = λ s p kind side resolution candidate is named. answer_clear s p kind side resolution candidate is named;
}
