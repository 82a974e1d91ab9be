use Rattle.std.proofs.Common.{rules, ℤ, pos, w64, FitsSigned, to_z, of_z}
use Rattle.std.proofs.lemmas.Int.{to_z-of_z}
use Rattle.daa_fixed.specs.Size.{IsFrom}
use Rattle.daa_config.proofs.RangeLemmas.{all_small}
use Rattle.daa_config.proofs.level.in_units.Goals as goal

passed : (z : ℤ) → FitsSigned w64 z → IsFrom (pos 0) (pos 10000) z → IsFrom (pos 0) (pos 10000) (to_z w64 (of_z w64 z))
passed z f h = rw (to_z-of_z w64 z f) h

pub horizontal-requires : goal.horizontal-requires
horizontal-requires c = passed _ (search rules) (all_small c.args.numbers.now c.requires).dthr

pub vertical-requires : goal.vertical-requires
vertical-requires c = passed _ (search rules) (all_small c.args.numbers.now c.requires).zthr

pub seconds-requires : goal.seconds-requires
seconds-requires c = passed _ (search rules) (all_small c.args.numbers.now c.requires).tthr

pub seconds-requires-2 : goal.seconds-requires-2
seconds-requires-2 c = passed _ (search rules) (all_small c.args.numbers.now c.requires).tcoa

pub seconds-requires-3 : goal.seconds-requires-3
seconds-requires-3 c = passed _ (search rules) (all_small c.args.numbers.now c.requires).lookahead

pub seconds-requires-4 : goal.seconds-requires-4
seconds-requires-4 c = passed _ (search rules) (all_small c.args.numbers.now c.requires).alert
