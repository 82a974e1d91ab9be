use Rattle.daa_scan.proofs.sharing.meets_from_own_leg.Given as goal

-- the same candidate
abbrev pub ghost-meets_on_rest : goal.ghost-meets_on_rest
ghost-meets_on_rest g a = g.candidate
