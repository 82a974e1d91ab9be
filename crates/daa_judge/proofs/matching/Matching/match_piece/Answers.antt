use Rattle.std.proofs.Common.{arith, take, length-take}
use Rattle.daa_judge.proofs.JudgedLemmas.{feeds-few}
use Rattle.daa_judge.proofs.MatchingLemmas.{all_matched, no_match, parted_there}
use Rattle.daa_judge.proofs.matching.Matching.match_piece.Goals as goal

pub overflow_add-line : goal.overflow_add-line
overflow_add-line c =
    omega (
      arith,
      c.requires.room,
      c.requires.bound,
      c.common-same.ensures.within,
      c.line_feeds.ensures,
      feeds-few (take c.common-same.result c.args.piece.now),
      length-take c.common-same.result c.args.piece.now,
    )

pub returns-then-same-piece-clause-steps : goal.returns-then-same-piece-clause-steps
returns-then-same-piece-clause-steps c s t buf r = (
  no_match _ tt,
  λ most first before rest h. parted_there most first s t before c.args.self.now h c.args.piece.now c.args.text.now rest c.common-same.result c.line_feeds.result c.requires.one_read r
      c.if-same-piece.true c.requires.within c.common-same.ensures.same c.common-same.ensures.apart c.line_feeds.ensures,
)

pub returns-clause-steps : goal.returns-clause-steps
returns-clause-steps c s t buf r =
    all_matched c.args.piece.now c.args.text.now c.common-same.result c.line_feeds.result c.args.self.now s t c.common-same.ensures.within c.common-same.ensures.other
    c.if-same-piece.false c.requires.some c.common-same.ensures.same c.line_feeds.ensures r

pub returns-clause-room : goal.returns-clause-room
returns-clause-room c =
    omega (
      arith,
      c.requires.room,
      c.requires.bound,
      c.common-same.ensures.within,
      c.line_feeds.ensures,
      feeds-few (take c.common-same.result c.args.piece.now),
      length-take c.common-same.result c.args.piece.now,
    )
