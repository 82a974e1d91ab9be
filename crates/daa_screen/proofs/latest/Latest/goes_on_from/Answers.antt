use Rattle.std.proofs.Common.{◌≤◌, ap, sym, subst, arith, length, List}
use Rattle.std.proofs.lemmas.Bool.Decides.{nat_tests}
use mathlib.Core.List.{IsPrefix}
use Rattle.daa_state.specs.declared.word.Picture.{Picture}
use Rattle.daa_screen.proofs.KeptPictures.{goes_on}
use Rattle.daa_screen.proofs.latest.Latest.goes_on_from.Goals as goal

pub returns-clause-begins : goal.returns-clause-begins
returns-clause-begins c less =
    let both = c.learn.new.self.log in
    let this : IsPrefix c.self.inside.seen.log both = subst (λ (l : List Picture). IsPrefix l both) (ap (λ s. s.log) c.again-both.ensures) c.learn.ensures.2 in
    let fewer : c.other.inside.number ≤ c.self.inside.number = grind (arith, nat_tests) in
    let le : length c.other.inside.seen.log ≤ length c.self.inside.seen.log = omega (arith, fewer, c.self.invariant.count, c.other.invariant.count) in
    goes_on c.args.other.now c.args.self.now c.other.inside.seen.log c.self.inside.seen.log both (sym c.requires)
    (ap (λ s. s.pictures) c.other.view_is) (ap (λ s. s.pictures) c.self.view_is) c.learn.ensures.3 this le
