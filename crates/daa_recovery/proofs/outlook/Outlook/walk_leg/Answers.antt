use Rattle.std.proofs.Common.{arith}
use Rattle.daa_recovery.proofs.WalkedSides.{side_short, side_leg, side_leg-in_range, side_walked}
use Rattle.daa_recovery.proofs.outlook.Outlook.walk_leg.Goals as goal

pub is_near-requires-clause-leg : goal.is_near-requires-clause-leg
is_near-requires-clause-leg c = side_leg c.args.self.now c.args.side.now c.leg-leg.result.now c.requires.side c.requires.left c.leg-leg.ensures

pub is_near-requires-clause-in_range : goal.is_near-requires-clause-in_range
is_near-requires-clause-in_range c = side_leg-in_range c.args.self.now c.args.side.now c.leg-leg.result.now c.requires.side c.requires.left c.leg-leg.ensures

pub last_with-next-requires-clause-leg : goal.last_with-next-requires-clause-leg
last_with-next-requires-clause-leg c = side_leg c.args.self.now c.args.side.now c.leg-leg.result.now c.requires.side c.requires.left c.leg-leg.ensures

pub last_with-next-requires-clause-in_range : goal.last_with-next-requires-clause-in_range
last_with-next-requires-clause-in_range c = side_leg-in_range c.args.self.now c.args.side.now c.leg-leg.result.now c.requires.side c.requires.left c.leg-leg.ensures

pub leg-leg-requires-clause-k : goal.leg-leg-requires-clause-k
leg-leg-requires-clause-k c = let short = side_short c.args.self.now c.args.side.now c.requires.side in omega (arith, c.requires.left, short)

pub is_near-requires-clause-k : goal.is_near-requires-clause-k
is_near-requires-clause-k c = let short = side_short c.args.self.now c.args.side.now c.requires.side in omega (arith, c.requires.left, short)

pub bounds-side-k : goal.bounds-side-k
bounds-side-k c = let short = side_short c.args.self.now c.args.side.now c.requires.side in omega (arith, c.requires.left, short)

pub last_with-next-requires-clause-k : goal.last_with-next-requires-clause-k
last_with-next-requires-clause-k c = let short = side_short c.args.self.now c.args.side.now c.requires.side in omega (arith, c.requires.left, short)

pub bounds-side-k-2 : goal.bounds-side-k-2
bounds-side-k-2 c = let short = side_short c.args.self.now c.args.side.now c.requires.side in omega (arith, c.requires.left, short)

pub overflow_add-side-2 : goal.overflow_add-side-2
overflow_add-side-2 c = let short = side_short c.args.self.now c.args.side.now c.requires.side in omega (arith, c.requires.left, short)

pub returns-clause-side : goal.returns-clause-side
returns-clause-side c = side_walked c.args.self.now c.args.side.now c.last_with-next.result c.requires.side c.requires.clear c.requires.left c.last_with-next.ensures
