-- A text that stopped before the limit is all that the reader had.
use Rattle.std.proofs.Common.{arith}
use Rattle.daa_io.proofs.ShelfLemmas.{whole_text}
use Rattle.daa_io.proofs.file_shelf.text_of.Goals as goal

pub returns-clause-held : goal.returns-clause-held
returns-clause-held g c =
    whole_text (g.R.Read.remaining c.args.reader) c.read_to_end-read.new.buf.items c.take.result.limit
    (rw (c.take.ensures.inner, c.new-text.ensures.items) at c.in_default.ensures.bytes)
    (omega (arith, c.take.ensures.limit))
