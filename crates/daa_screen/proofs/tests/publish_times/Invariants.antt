use Rattle.std.proofs.Common.{◌≡◌}
use Rattle.daa_screen.proofs.tests.publish_times.Given as goal

-- the feed is the same
abbrev pub invariant-loop-time : goal.invariant-loop-time
invariant-loop-time g l = l.feed.story.feed ≡ l.fn.feed.story.feed
