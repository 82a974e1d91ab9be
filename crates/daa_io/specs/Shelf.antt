-- The texts that a shelf holds by name.
use Rattle.std.specs.Prelude.{ℕ, List, Option}

-- the text under each name, if one is held
abbrev pub Texts : Type 0
Texts = List ℕ → Option (List ℕ)

-- a text of more bytes than this is too long to be fetched
abbrev pub longest_text : ℕ
longest_text = 65536
