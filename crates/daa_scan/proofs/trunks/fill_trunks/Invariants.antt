use Rattle.daa_scan.proofs.TrunksWords.{AreLeadsBelow}
use Rattle.daa_scan.proofs.trunks.fill_trunks.Given as goal

-- the flights of the places so far are kept
abbrev pub invariant-loop-index : goal.invariant-loop-index
invariant-loop-index l = AreLeadsBelow l.config l.own l.needs l.index l.most l.trunks
