use Rattle.std.proofs.Common.{rules, ◌≡◌, ◌+◌, ◌++◌, ◌∙◌, ℕ, length, take, drop, sym, subst, arith}
use Rattle.std.proofs.lemmas.List.{length-take}
use Rattle.daa_lines.specs.LinesState.{LinesState}
use Rattle.daa_lines.specs.Feeding.{bytes_taken}
use Rattle.daa_lines.specs.ComesFrom.{ComesFrom}
use Rattle.daa_lines.specs.declared.lines.Stage.TheVariants.{Open}
use Rattle.daa_lines.proofs.GrowingLemmas.{grown, grows}
use Rattle.daa_lines.proofs.lines.Lines.grow.Goals as goal

pub returns-clause-taken : goal.returns-clause-taken
returns-clause-taken c =
    let is_open : c.args.self.now.stage ≡ Open = search rules in
    let n : ℕ = c.growth-count.result in
    let g = grows c.args.self.now c.args.piece.now is_open c.requires.going n c.growth-count.ensures.within
    (omega (arith, c.growth-count.ensures.few, c.line_length.ensures.length, c.line_length.ensures.short))
    c.growth-count.ensures.none in
    subst (λ (x : LinesState). bytes_taken c.args.self.now.stage c.args.self.now.line c.args.piece.now ≡ n + bytes_taken x.stage x.line (drop n c.args.piece.now)) (sym c.append.ensures) g.taken

pub returns-clause-kept : goal.returns-clause-kept
returns-clause-kept c bytes taken s =
    let is_open : c.args.self.now.stage ≡ Open = search rules in
    let n : ℕ = c.growth-count.result in
    let g = grows c.args.self.now c.args.piece.now is_open c.requires.going n c.growth-count.ensures.within
    (omega (arith, c.growth-count.ensures.few, c.line_length.ensures.length, c.line_length.ensures.short))
    c.growth-count.ensures.none in
    let size : length (take n c.args.piece.now) ≡ n = let t = length-take n c.args.piece.now in omega (arith, t, c.growth-count.ensures.within) in
    let same : c.append.new.self ≡ grown c.args.self.now c.args.piece.now n =
    c.append.ensures ∙ (λ i. record c.args.self.now
    { line = c.args.self.now.line ++ take n c.args.piece.now; fed = c.args.self.now.fed + size i }) in
    subst (λ (x : LinesState). ComesFrom (bytes ++ take n c.args.piece.now) taken x) (sym same) (g.kept bytes taken s)
