use Rattle.daa_pool.proofs.open.brief.Given as goal

abbrev pub ghosts-begin : goal.ghosts-begin
ghosts-begin g a = record { workers = a.workers; answers = g.A.Answers.answers a.answers.now }
