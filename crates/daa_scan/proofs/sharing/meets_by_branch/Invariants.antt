use Rattle.daa_scan.proofs.sharing.meets_by_branch.Given as goal

-- the same candidate
abbrev pub ghost-meets_after : goal.ghost-meets_after
ghost-meets_after g a = g.candidate
