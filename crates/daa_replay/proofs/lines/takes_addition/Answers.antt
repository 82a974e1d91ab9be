use Rattle.std.proofs.Common.{rules, ◌≡◌, ◌∙◌, refl, sym, ap, None, Ok, ℕ}
use Rattle.daa_lines.specs.LinesState.{is_standing}
use Rattle.daa_state.specs.WordOf.{word_of}
use Rattle.daa_state.specs.MomentStep.{step, stepped}
use Rattle.daa_replay.specs.Lines.{line_event, next_state}
use Rattle.daa_replay.proofs.FollowsLemmas.{follows-event}
use Rattle.daa_replay.proofs.lines.takes_addition.Goals as goal

pub returns-clause-kept : goal.returns-clause-kept
returns-clause-kept c _ bytes given f =
    let number : ℕ = c.pass_line.new.lines.number in
    let stepped_is : step c.args.moments.now c.in-Some.word ≡ Ok (stepped c.adds.new.self None) = search rules in
    let format_is = ap (word_of c.args.lines.now.line) c.format.ensures.value in
    follows-event bytes given c.args.lines.now c.pass_line.new.lines c.args.moments.now c.adds.new.self (Ok c.in-Some.word) number None
    (ap is_standing c.in-Some.ensures.word.0) c.pass_line.ensures.after c.pass_line.ensures.kept
    (sym c.in-Some.ensures.word.1 ∙ format_is) refl
    (sym (ap (line_event number) stepped_is)) (sym (ap (next_state c.args.moments.now) stepped_is)) f
