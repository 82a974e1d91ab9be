use Rattle.std.proofs.Common.{◌≡◌, ℕ, length, subst, arith}
use Rattle.daa_config.specs.Candidates.{values_of}
use Rattle.daa_bands.specs.Board.{HasLevelOn}
use Rattle.daa_resolve.specs.Inside.Best.{IsBest}
use Rattle.daa_resolve.proofs.resolution.best_index.Goals as goal

pub returns : goal.returns
returns c =
    let n = c.count-index-end.ensures.value in
    let all : c.loop-index.index ≡ length (values_of c.args.kind c.args.config.now) = omega arith in
    subst (λ (count : ℕ). IsBest (HasLevelOn c.args.board.now) c.args.config.now c.args.own.now c.args.kind c.args.side count c.loop-index.best) all
    c.loop-index.invariant
