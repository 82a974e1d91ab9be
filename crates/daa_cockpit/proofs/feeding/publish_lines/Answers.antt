use Rattle.std.proofs.Common.{rules, ◌∷◌, ◌++◌, [], ◌∙◌}
use Rattle.std.proofs.iter.Next.{Yields-more}
use Rattle.daa_cockpit.proofs.Published.{more_published}
use Rattle.daa_cockpit.proofs.feeding.publish_lines.Goals as goal

pub loop-preserved : goal.loop-preserved
loop-preserved g c =
    let (can, same, lines, yields, so_far) = c.loop.invariant in (
      search rules,
      c.publish_line.ensures.feed ∙ same,
      lines ++ c.in-Some.line ∷ [],
      Yields-more g.I.Iterator.next_gives c.args.lines.now lines c.loop.lines c.in-Some.line c.next.new.self yields c.in-Some.ensures.steps,
      more_published c.args.feed.now.story.pictures c.loop.feed.story.pictures c.publish_line.new.feed.story.pictures lines c.in-Some.line c.in_ok-line.line c.as_str.result.now
          c.loop.moments c.publish_line.new.moments so_far c.in_ok-line.was c.as_str.ensures.value c.in_ok-publish_line.ensures.read,
    )
