use Rattle.std.proofs.Common.{◌+◌, ◌-◌, ◌/◌, ◌<◌, ◌≤◌, ℕ, arith}
use Rattle.daa_recovery.proofs.Raising.{halved_on-first, halved_on-low, halved_on-high, halved_on-all}
use Rattle.daa_recovery.proofs.outlook.Outlook.after_last.Goals as goal

above : (low high : ℕ) → 1 < high - low → low < low + (high - low) / 2
above low high h = omega (arith, h)

below : (low high : ℕ) → 1 < high - low → low + (high - low) / 2 < high
below low high h = omega (arith, h)

pub loop-high-init : goal.loop-high-init
loop-high-init c = halved_on-first c.args.self.now c.args.candidate c.args.aircraft.now c.args.volume.now c.args.upto c.args.first c.requires.met

pub meets-requires-clause-first : goal.meets-requires-clause-first
meets-requires-clause-first c = let b = c.loop-high.invariant.begin in omega (arith, c.requires.first, b)

pub loop-high-preserved-then-meets : goal.loop-high-preserved-then-meets
loop-high-preserved-then-meets c =
    halved_on-low c.args.self.now c.args.candidate c.args.aircraft.now c.args.volume.now c.args.upto c.args.first c.loop-high.low _ c.loop-high.high
    (above _ _ c.loop-high-test.true) (below _ _ c.loop-high-test.true) (c.meets.ensures.0 c.if-meets.true) c.loop-high.invariant

pub loop-high-preserved : goal.loop-high-preserved
loop-high-preserved c =
    halved_on-high c.args.self.now c.args.candidate c.args.aircraft.now c.args.volume.now c.args.upto c.args.first c.loop-high.low _ c.loop-high.high
    (above _ _ c.loop-high-test.true) (below _ _ c.loop-high-test.true) (λ m. let t = c.meets.ensures.1 m in cc (t, c.if-meets.false)) c.loop-high.invariant

last : (low high : ℕ) → high - low ≤ 1 → high ≤ low + 1
last low high h = omega (arith, h)

pub returns : goal.returns
returns c =
    let i = c.loop-high.invariant in
    record {
      above = (let a = i.begin in let o = i.ordered in omega (arith, a, o));
      within = i.end;
      raised = halved_on-all c.args.self.now c.args.candidate c.args.aircraft.now c.args.volume.now c.args.upto c.args.first c.loop-high.low c.loop-high.high
          (last _ _ c.loop-high-test.false) i;
    }
