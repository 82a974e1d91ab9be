use Rattle.daa_scan.proofs.sharing.meets_after.Given as goal

-- the same candidate
abbrev pub ghost-meets_from_own_leg : goal.ghost-meets_from_own_leg
ghost-meets_from_own_leg g a = g.candidate

abbrev pub ghost-meets_on_rest : goal.ghost-meets_on_rest
ghost-meets_on_rest g a = g.candidate
