-- What each stretch is free of.
use Rattle.std.specs.Prelude.{◌≢◌, All}
use Rattle.daa_lines.specs.LinesOf.{Bytes, line_feed}

-- no line feed is in these bytes
abbrev pub HasNoFeed : Bytes → Type 0
HasNoFeed bytes = All (λ byte. byte ≢ line_feed) bytes
