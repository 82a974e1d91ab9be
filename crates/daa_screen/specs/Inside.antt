-- What private functions, tests and proofs alone cite. No public clause rests on it. One claim of the documents does, that
-- what is shown to screens only grows: whoever relies on that has to read `IsGrowing` and what it cites.
pub mod Story
pub mod Latest
pub mod Log
pub mod Growing
pub mod Feed
