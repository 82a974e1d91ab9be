use Rattle.std.proofs.Common.{◌∙◌, ◌+◌, ℕ, List, ap₂, slice_index}
use Rattle.daa_exercise.proofs.JoinLemmas.{tally_joined}
use Rattle.daa_exercise.proofs.tally.Tally.add_all.Goals as goal

pub returns : goal.returns
returns c = tally_joined c.args.self.now c.args.other.now c.add_counts.new.counts c.add_counts.array_long
    (λ k lt. c.add_counts.ensures k lt ∙ ap₂ (λ (xs ys : List ℕ). slice_index xs k + slice_index ys k) c.self.view_is c.other.view_is)
