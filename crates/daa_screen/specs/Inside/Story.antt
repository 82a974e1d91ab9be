-- The story of a feed that has published nothing.
use Rattle.std.specs.Prelude.{[]}
use Rattle.logbook.specs.Pages.{Book}
use Rattle.daa_screen.specs.Story.{Story}

-- nothing was published
abbrev pub opened : Book → Story
opened feed = record { feed = feed; pictures = [] }
