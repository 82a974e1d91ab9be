use Rattle.std.proofs.Common.{rules, ℤ, pos, w64, FitsSigned, to_z, of_z}
use Rattle.std.proofs.lemmas.Int.{to_z-of_z}
use Rattle.daa_fixed.specs.Size.{IsFrom}
use Rattle.daa_config.proofs.level.in_cylinder.Goals as goal

passed : (z : ℤ) → FitsSigned w64 z → IsFrom (pos 0) (pos 10000) z → IsFrom (pos 0) (pos 10000) (to_z w64 (of_z w64 z))
passed z f h = rw (to_z-of_z w64 z f) h

pub horizontal-requires : goal.horizontal-requires
horizontal-requires c = passed _ (search rules) c.requires.hdist

pub vertical-requires : goal.vertical-requires
vertical-requires c = passed _ (search rules) c.requires.vdist
