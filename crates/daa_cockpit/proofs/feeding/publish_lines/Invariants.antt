use Rattle.std.proofs.Common.{◌≡◌, fold, Ok}
use Rattle.std.specs.Iterator.{Yields}
use Rattle.daa_state.specs.MomentStep.{start}
use Rattle.daa_cockpit.specs.Inside.Reads.{read, read_item}
use Rattle.daa_cockpit.proofs.feeding.publish_lines.Given as goal

-- these lines were read, and the pictures of their moments were published
abbrev pub invariant-loop : goal.invariant-loop
invariant-loop g l =
    (g.I.Iterator.can_next l.lines) × (l.feed.story.feed ≡ l.fn.feed.story.feed)
    × (lines : _) × Yields g.I.Iterator.next_gives l.fn.lines lines l.lines
    × (fold read_item (Ok (read start l.fn.feed.story.pictures)) lines ≡ Ok (read l.moments l.feed.story.pictures))
