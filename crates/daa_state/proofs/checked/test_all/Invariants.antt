use Rattle.std.proofs.Common.{◌≡◌, drop}
use Rattle.daa_state.specs.Checked.{first_out_of_range}
use Rattle.daa_state.proofs.checked.test_all.Given as goal

-- what is left decides
abbrev pub invariant-loop-number : goal.invariant-loop-number
invariant-loop-number l = first_out_of_range (drop l.number-index l.numbers) ≡ first_out_of_range l.numbers
