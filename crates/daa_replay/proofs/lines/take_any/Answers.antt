use Rattle.std.proofs.Common.{◌≡◌, ◌∙◌, ap, true, rules}
use Rattle.daa_lines.specs.LinesState.{is_standing}
use Rattle.daa_state.specs.WordOf.{word_of}
use Rattle.daa_replay.proofs.FollowsLemmas.{follows-event}
use Rattle.daa_replay.proofs.lines.take_any.Goals as goal

pub returns-clause-kept : goal.returns-clause-kept
returns-clause-kept c bytes given f =
    let stood : is_standing c.args.lines.now.stage ≡ true = search rules in
    follows-event bytes given c.args.lines.now _ c.args.moments.now _ _ _ _
    stood c.in_ok-word.ensures.after c.in_ok-word.ensures.kept
    (c.in_ok-word.ensures.word ∙ ap (word_of c.args.lines.now.line) c.format.ensures.value)
    c.number.ensures.value c.step.ensures.given c.step.ensures.moments f
