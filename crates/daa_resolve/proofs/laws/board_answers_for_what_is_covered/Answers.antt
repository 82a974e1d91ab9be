use Rattle.std.proofs.Common.{IsTrue}
use Rattle.daa_resolve.proofs.BoardLemmas.{resolved}
use Rattle.daa_resolve.proofs.laws.board_answers_for_what_is_covered.Goals as goal

pub returns : goal.returns
returns c covered board s own kind side resolution ok is h = resolved (λ index l. IsTrue (covered index l)) s board ok is own kind side resolution h
