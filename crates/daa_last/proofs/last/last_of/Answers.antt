use Rattle.std.proofs.Common.{◌-◌, ◌<◌, ◌≤◌, ℕ, arith}
use Rattle.daa_config.specs.declared.candidate.Candidate.TheVariants.{Hold}
use Rattle.daa_config.specs.Settings.{rates_of}
use Rattle.daa_meet.proofs.Keeping.{kept_is}
use Rattle.daa_recovery.proofs.Horizons.{horizon_short}
use Rattle.daa_last.proofs.Searching.{tried_first, tried_more, last_at, no_last}
use Rattle.daa_last.proofs.last.last_of.Goals as goal

-- the delay before m
before : (m n : ℕ) → 0 < m → m ≤ n → m - 1 < n
before m n some le = omega (arith, some, le)

short : (m n : ℕ) → 0 < m → m ≤ n → n ≤ 180 → m - 1 < 180
short m n some le h = omega (arith, some, le, h)

same : (m : ℕ) → m ≤ m
same m = omega arith

pub fill-requires-clause-most : goal.fill-requires-clause-most
fill-requires-clause-most c = horizon_short _ _ c.horizon_of-horizon.ensures.accepted c.horizon_of-horizon.ensures.value

pub starts_of-m-requires-clause-horizon : goal.starts_of-m-requires-clause-horizon
starts_of-m-requires-clause-horizon c = horizon_short _ _ c.horizon_of-horizon.ensures.accepted c.horizon_of-horizon.ensures.value

pub loop-m-init : goal.loop-m-init
loop-m-init c = tried_first c.args.config.now c.args.picture.now c.args.kind c.horizon_of-horizon.result c.starts_of-m.result c.starts_of-m.ensures

pub leg-requires-clause-k : goal.leg-requires-clause-k
leg-requires-clause-k c = short c.loop-m.m c.horizon_of-horizon.result c.loop-m-test.true c.loop-m.invariant.within
    (horizon_short _ _ c.horizon_of-horizon.ensures.accepted c.horizon_of-horizon.ensures.value)

pub is_some_open-requires-clause-start : goal.is_some_open-requires-clause-start
is_some_open-requires-clause-start c = kept_is c.args.picture.now.own (rates_of c.args.config.now) Hold c.horizon_of-horizon.result (c.loop-m.m - 1) c.fill.new.self c.leg.result.now c.fill.ensures
    (before c.loop-m.m c.horizon_of-horizon.result c.loop-m-test.true c.loop-m.invariant.within) c.leg.ensures

pub is_some_open-requires-clause-m : goal.is_some_open-requires-clause-m
is_some_open-requires-clause-m c = before c.loop-m.m c.horizon_of-horizon.result c.loop-m-test.true c.loop-m.invariant.within

pub is_some_open-requires-clause-short : goal.is_some_open-requires-clause-short
is_some_open-requires-clause-short c = horizon_short _ _ c.horizon_of-horizon.ensures.accepted c.horizon_of-horizon.ensures.value

pub sides_of-sides-requires-clause-horizon : goal.sides_of-sides-requires-clause-horizon
sides_of-sides-requires-clause-horizon c = horizon_short _ _ c.horizon_of-horizon.ensures.accepted c.horizon_of-horizon.ensures.value

pub is_some_open-requires-clause-held : goal.is_some_open-requires-clause-held
is_some_open-requires-clause-held c = c.loop-m.invariant.clear (c.loop-m.m - 1) (before c.loop-m.m c.loop-m.m c.loop-m-test.true (same c.loop-m.m))

pub returns-then-is_some_open : goal.returns-then-is_some_open
returns-then-is_some_open c = last_at c.args.config.now c.args.picture.now c.args.kind c.horizon_of-horizon.result c.horizon_of-horizon.ensures.value c.loop-m.m c.loop-m-test.true c.loop-m.invariant
    (c.is_some_open.ensures.0 c.if-is_some_open.true)

pub loop-m-preserved : goal.loop-m-preserved
loop-m-preserved c = tried_more c.args.config.now c.args.picture.now c.args.kind c.horizon_of-horizon.result c.loop-m.m c.loop-m-test.true c.loop-m.invariant
    (λ x. let t = c.is_some_open.ensures.1 x in cc (t, c.if-is_some_open.false))

pub returns : goal.returns
returns c = no_last c.args.config.now c.args.picture.now c.args.kind c.horizon_of-horizon.result c.horizon_of-horizon.ensures.value c.loop-m.m c.loop-m-test.false c.loop-m.invariant
