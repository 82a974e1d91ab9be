use Rattle.std.proofs.Common.{◌≡◌, ◌-◌, ◌/◌, ℕ, nat_abs, ap, arith}
use Rattle.std.proofs.lemmas.Int.{ints}
use Rattle.daa_vwindow.proofs.Heights.{up_kept}
use Rattle.daa_scan.proofs.Refusing.{first_z}
use Rattle.daa_scan.proofs.refusal.first_second.Goals as goal

pub returns : goal.returns
returns c k h =
    let n = up_kept c.args.time.now.num (omega (arith, ints, c.args.time.now.not_negative, c.requires.num)) in
    let d = up_kept c.args.time.now.den (omega (arith, ints, c.args.time.now.positive, c.requires.den)) in
    let before : c.saturating_sub.result ≡ nat_abs c.args.time.now.num - 1 = simp n at c.saturating_sub.ensures in
    simp d (first_z c.args.time.now.num c.args.time.now.den _ k c.args.time.now.not_negative c.args.time.now.positive (ap (λ (x : ℕ). x / nat_abs c.args.time.now.den) before) h)
