use Rattle.std.proofs.Common.{◌≡◌, ◌+◌, ◌-◌, ◌*◌, ℕ, ap, subst, ◌∙◌, arith}
use Rattle.daa_scan.specs.Units.{index_in}
use Rattle.daa_scan.specs.Packed.{entry_at, packed_word}
use Rattle.daa_scan.proofs.Packs.{IsPackedFrom, packed_start, packed_step}
use Rattle.daa_scan.proofs.scene.Scene.word_of_group.Goals as goal

pub loop-j-init : goal.loop-j-init
loop-j-init c = packed_start _

pub entry-requires-clause-mask : goal.entry-requires-clause-mask
entry-requires-clause-mask c h = c.levels_from.ensures.masks (c.loop-j.j - 1) (omega (arith, c.levels_from.ensures.length, c.loop-j.invariant.within, c.loop-j-test.true)) h

pub loop-j-preserved : goal.loop-j-preserved
loop-j-preserved c =
    let at : c.args.group * 12 + (c.loop-j.j - 1) ≡ index_in c.args.group (c.loop-j.j - 1) = omega arith in
    packed_step (λ i. entry_at c.args.self.now c.args.aircraft (index_in c.args.group i)) c.loop-j.j c.loop-j.word c.entry.result c.loop-j-test.true c.loop-j.invariant
    (c.entry.ensures.value ∙ ap (entry_at c.args.self.now c.args.aircraft) at) c.entry.ensures.small

pub returns : goal.returns
unfolding packed_word
returns c =
    let none : c.loop-j.j ≡ 0 = omega (arith, c.loop-j-test.false) in
    let i = subst (λ (j : ℕ). IsPackedFrom (λ i. entry_at c.args.self.now c.args.aircraft (index_in c.args.group i)) j c.loop-j.word) none c.loop-j.invariant in
    i.is
