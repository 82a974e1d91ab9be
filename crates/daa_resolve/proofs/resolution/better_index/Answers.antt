use Rattle.std.proofs.Common.{Some, subst, rules, IsTrue, refl, false, w64, FitsSigned}
use Rattle.daa_bands.specs.Board.{HasLevelOn}
use Rattle.daa_resolve.specs.Inside.Best.{IsBest}
use Rattle.daa_resolve.proofs.BestLemmas.{skip, first, keep, change, nearer, farther}
use Rattle.daa_resolve.proofs.resolution.better_index.Goals as goal

pub returns-then-not-is_open_on_side : goal.returns-then-not-is_open_on_side
returns-then-not-is_open_on_side c =
    let e = c.if-not-is_open_on_side.ensures in
    skip (HasLevelOn c.args.board.now) c.args.config.now c.args.own.now c.args.kind c.args.side c.args.index c.args.best c.requires.best
    (λ v x. let f : IsTrue false = e.1 (v, x) in cc)

pub returns-in-None : goal.returns-in-None
returns-in-None c =
    let b = c.args.board.now in
    let x = c.if-not-is_open_on_side.ensures.0 refl in
    first (HasLevelOn b) c.args.config.now c.args.own.now c.args.kind c.args.side c.args.index x.0
    (subst (IsBest (HasLevelOn b) c.args.config.now c.args.own.now c.args.kind c.args.side c.args.index) c.in-None.is c.requires.best) x.1

pub returns-then-distance_at : goal.returns-then-distance_at
returns-then-distance_at c =
    let b = c.args.board.now in
    let x = c.if-not-is_open_on_side.ensures.0 refl in
    let old : IsBest (HasLevelOn b) c.args.config.now c.args.own.now c.args.kind c.args.side c.args.index (Some c.in-Some.other) =
    subst (IsBest (HasLevelOn b) c.args.config.now c.args.own.now c.args.kind c.args.side c.args.index) c.in-Some.is c.requires.best in
    let f : FitsSigned w64 c.distance_at.result = search rules in let g : FitsSigned w64 c.distance_at-in-Some.result = search rules in
    keep (HasLevelOn b) c.args.config.now c.args.own.now c.args.kind c.args.side c.args.index c.in-Some.other x.0 old x.1
    (nearer _ _ _ _ f g (c.distance_at.ensures old.0 old.2.value_is) (c.distance_at-in-Some.ensures x.0 x.1.value_is) c.if-distance_at.true)

pub returns-else-distance_at : goal.returns-else-distance_at
returns-else-distance_at c =
    let b = c.args.board.now in
    let x = c.if-not-is_open_on_side.ensures.0 refl in
    let old : IsBest (HasLevelOn b) c.args.config.now c.args.own.now c.args.kind c.args.side c.args.index (Some c.in-Some.other) =
    subst (IsBest (HasLevelOn b) c.args.config.now c.args.own.now c.args.kind c.args.side c.args.index) c.in-Some.is c.requires.best in
    let f : FitsSigned w64 c.distance_at.result = search rules in let g : FitsSigned w64 c.distance_at-in-Some.result = search rules in
    change (HasLevelOn b) c.args.config.now c.args.own.now c.args.kind c.args.side c.args.index c.in-Some.other x.0 old x.1
    (farther _ _ _ _ f g (c.distance_at.ensures old.0 old.2.value_is) (c.distance_at-in-Some.ensures x.0 x.1.value_is) c.if-distance_at.false)
