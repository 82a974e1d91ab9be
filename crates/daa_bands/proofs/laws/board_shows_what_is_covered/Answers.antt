use Rattle.std.proofs.Common.{IsTrue}
use Rattle.daa_bands.proofs.KindLemmas.{bands_covered}
use Rattle.daa_bands.proofs.laws.board_shows_what_is_covered.Goals as goal

pub returns : goal.returns
returns c covered board s kind bands ok is b = bands_covered (λ index l. IsTrue (covered index l)) s board ok is kind bands b
