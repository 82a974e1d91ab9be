use Rattle.std.proofs.Common.{◌∙◌, ap, sym, append-nil, ℕ, ◌+◌, ◌++◌, ◌∷◌, []}
use Rattle.daa_replay.specs.declared.lines.Event.TheVariants as event
use Rattle.daa_replay.proofs.FollowsLemmas.{given_whole}
use Rattle.daa_replay.proofs.lines.take_end.Goals as goal

pub returns-in-Err-clause-whole : goal.returns-in-Err-clause-whole
returns-in-Err-clause-whole c bytes given f =
    ap (λ (n : ℕ). given ++ event.Refused (n + 1) c.in-Err.fault ∷ []) c.number.ensures.value
    ∙ given_whole bytes given c.args.lines.now c.args.moments.now _ c.requires.ended c.requires.free c.in-Err.ensures f

pub returns-in-Ok-clause-whole : goal.returns-in-Ok-clause-whole
returns-in-Ok-clause-whole c bytes given f =
    sym (append-nil given)
    ∙ given_whole bytes given c.args.lines.now c.args.moments.now _ c.requires.ended c.requires.free c.in-Ok.ensures f
