use Rattle.std.proofs.Common.{refl, arith}
use Rattle.std.proofs.lemmas.Int.{ints}
use Rattle.daa_vwindow.proofs.Heights.{up_kept}
use Rattle.daa_scan.proofs.Refusing.{last_z}
use Rattle.daa_scan.proofs.refusal.last_second.Goals as goal

pub returns-clause-last : goal.returns-clause-last
returns-clause-last c k h =
    let n = up_kept c.args.time.now.num (omega (arith, ints, c.args.time.now.not_negative, c.requires.num)) in
    let d = up_kept c.args.time.now.den (omega (arith, ints, c.args.time.now.positive, c.requires.den)) in
    simp (n, d) (last_z c.args.time.now.num c.args.time.now.den _ k c.args.time.now.not_negative c.args.time.now.positive refl h)
