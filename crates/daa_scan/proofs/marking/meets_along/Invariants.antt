use Rattle.daa_scan.proofs.marking.meets_along.Given as goal

-- the same candidate
abbrev pub ghost-meets_by_branch : goal.ghost-meets_by_branch
ghost-meets_by_branch g a = g.candidate
