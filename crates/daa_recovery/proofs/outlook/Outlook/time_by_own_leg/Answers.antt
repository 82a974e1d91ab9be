use Rattle.std.proofs.Common.{◌<◌, arith}
use Rattle.daa_recovery.proofs.LastLegs.{near_never}
use Rattle.daa_recovery.proofs.StraightRests.{own_short, own_is, own_small, own_end, rest_after_own}
use Rattle.daa_recovery.proofs.outlook.Outlook.time_by_own_leg.Goals as goal

pub is_near-requires-clause-k : goal.is_near-requires-clause-k
is_near-requires-clause-k c = own_short c.args.self.now c.requires.known c.args.candidate c.requires.candidate c.args.branch.now c.requires.branch
    c.args.place.now c.own_leg_of-leg.result c.requires.leaves c.requires.later c.requires.place c.own_leg_of-leg.ensures

pub is_near-requires-clause-leg : goal.is_near-requires-clause-leg
is_near-requires-clause-leg c = own_is c.args.self.now c.requires.known c.args.candidate c.requires.candidate c.args.branch.now c.requires.branch
    c.args.place.now c.own_leg_of-leg.result c.requires.leaves c.requires.later c.requires.place c.own_leg_of-leg.ensures

pub is_near-requires-clause-in_range : goal.is_near-requires-clause-in_range
is_near-requires-clause-in_range c = own_small c.args.self.now c.requires.known c.args.candidate c.requires.candidate c.args.branch.now c.requires.branch
    c.args.place.now c.own_leg_of-leg.result c.requires.leaves c.requires.later c.requires.place c.own_leg_of-leg.ensures

pub returns-then-is_near : goal.returns-then-is_near
returns-then-is_near c = near_never c.args.self.now c.args.candidate c.args.branch.now.leaves c.args.bound c.requires.leaves (c.is_near.ensures.0 c.if-is_near.true)

pub last_with-next-requires-clause-k : goal.last_with-next-requires-clause-k
last_with-next-requires-clause-k c = own_short c.args.self.now c.requires.known c.args.candidate c.requires.candidate c.args.branch.now c.requires.branch
    c.args.place.now c.own_leg_of-leg.result c.requires.leaves c.requires.later c.requires.place c.own_leg_of-leg.ensures

pub last_with-next-requires-clause-leg : goal.last_with-next-requires-clause-leg
last_with-next-requires-clause-leg c = own_is c.args.self.now c.requires.known c.args.candidate c.requires.candidate c.args.branch.now c.requires.branch
    c.args.place.now c.own_leg_of-leg.result c.requires.leaves c.requires.later c.requires.place c.own_leg_of-leg.ensures

pub last_with-next-requires-clause-in_range : goal.last_with-next-requires-clause-in_range
last_with-next-requires-clause-in_range c = own_small c.args.self.now c.requires.known c.args.candidate c.requires.candidate c.args.branch.now c.requires.branch
    c.args.place.now c.own_leg_of-leg.result c.requires.leaves c.requires.later c.requires.place c.own_leg_of-leg.ensures

pub last_with-next-requires-clause-apart : goal.last_with-next-requires-clause-apart
last_with-next-requires-clause-apart c = λ near. let t = c.is_near.ensures.1 near in cc (t, c.if-is_near.false)

pub overflow_add-rest : goal.overflow_add-rest
overflow_add-rest c =
    let short : c.args.branch.now.leaves < 180 = own_short c.args.self.now c.requires.known c.args.candidate c.requires.candidate c.args.branch.now c.requires.branch
    c.args.place.now c.own_leg_of-leg.result c.requires.leaves c.requires.later c.requires.place c.own_leg_of-leg.ensures in omega (arith, short)

pub end_of-requires : goal.end_of-requires
end_of-requires c = own_small c.args.self.now c.requires.known c.args.candidate c.requires.candidate c.args.branch.now c.requires.branch
    c.args.place.now c.own_leg_of-leg.result c.requires.leaves c.requires.later c.requires.place c.own_leg_of-leg.ensures

pub time_on-requires-clause-rest : goal.time_on-requires-clause-rest
time_on-requires-clause-rest c = rest_after_own c.args.self.now c.requires.known c.args.candidate c.requires.candidate c.args.branch.now c.requires.branch
    c.end_of.result c.requires.leaves
    (own_end c.args.self.now c.requires.known c.args.candidate c.requires.candidate c.args.branch.now c.requires.branch
    c.args.place.now c.own_leg_of-leg.result c.requires.leaves c.requires.later c.requires.place c.own_leg_of-leg.ensures c.end_of.result c.end_of.ensures)
