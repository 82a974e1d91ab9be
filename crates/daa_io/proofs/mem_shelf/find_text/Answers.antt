-- The text under the name, by the names and texts as they are kept.
use Rattle.daa_io.proofs.ShelfLemmas.{text_of_place, got_text}
use Rattle.daa_io.proofs.mem_shelf.find_text.Goals as goal

pub returns-in-None : goal.returns-in-None
returns-in-None c = rw (text_of_place c.args.names.now c.args.texts.now c.args.name.now, ← c.in-None.ensures)

pub returns-in-Some : goal.returns-in-Some
returns-in-Some c =
    rw (text_of_place c.args.names.now c.args.texts.now c.args.name.now, ← c.in-Some.ensures)
    (got_text c.args.texts.now c.in-Some.place c.get.result c.get.ensures.lookup)
