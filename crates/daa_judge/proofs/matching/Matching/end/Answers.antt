use Rattle.std.proofs.Common.{arith}
use Rattle.daa_judge.proofs.MatchingLemmas.{beyond}
use Rattle.daa_judge.proofs.matching.Matching.end.Goals as goal

pub returns-in-Piece-clause-finds : goal.returns-in-Piece-clause-finds
returns-in-Piece-clause-finds g c most first report h = beyond most first _ _ report c.args.self.now h
    c.in-Piece.field-0 c.read_next.new.buf c.in-Piece.ensures.is.within (omega (arith, c.read_next.auto.buf))
    c.in-Piece.ensures.is
