use Rattle.daa_bands.proofs.KindLemmas.{bands_covered, greatest_covered}
use Rattle.daa_resolve.proofs.BoardLemmas.{resolved}
use Rattle.daa_engine.specs.Covered.{CoveredAt}
use Rattle.daa_engine.proofs.laws.boards_show_what_is_covered.Goals as goal

pub returns : goal.returns
returns c = record {
  bands = λ s p board kind bands ok is b. bands_covered (CoveredAt s p) s board ok is kind bands b;
  resolutions = λ s p board kind side resolution ok is a. resolved (CoveredAt s p) s board ok is p.own kind side resolution a;
  levels = λ s p board index level ok is listed l. greatest_covered (CoveredAt s p) s board ok is index level listed l;
}
