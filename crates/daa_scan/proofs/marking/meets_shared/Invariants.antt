use Rattle.daa_scan.proofs.marking.meets_shared.Given as goal

-- the same candidate
abbrev pub ghost-meets_along : goal.ghost-meets_along
ghost-meets_along g a = g.candidate
