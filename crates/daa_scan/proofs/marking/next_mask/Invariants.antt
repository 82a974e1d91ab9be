use Rattle.std.specs.Prelude.{slice_index_or}
use Rattle.daa_config.specs.declared.candidate.Candidate.TheVariants.{Hold}
use Rattle.daa_config.specs.Candidates.{candidates_of}
use Rattle.daa_scan.specs.Inside.Rounds.{settings_in}
use Rattle.daa_scan.proofs.marking.next_mask.Given as goal

-- the candidate at the index
abbrev pub ghost-meets_shared : goal.ghost-meets_shared
ghost-meets_shared a = slice_index_or (candidates_of (settings_in a.round.now)) a.index Hold
