use Rattle.std.proofs.Common.{◌≡◌, ◌≤◌, ◌+◌, ◌*◌, ◌++◌, take}
use Rattle.std.specs.Prelude.{codes, decimal}
use Rattle.std.specs.List.{flat_map}
use Rattle.arrayvec.specs.ArrayVec.{array_vec_len}
use Rattle.daa_report.proofs.adding.add_number_fields.Given as goal

-- the numbers so far stand at the end of the line
abbrev pub invariant-loop-number : goal.invariant-loop-number
invariant-loop-number l = record {
  items : l.line.items ≡ l.initial.line.items ++ flat_map (λ number. codes " " ++ decimal number) (take l.number-index l.numbers);
  len : array_vec_len l.line ≤ array_vec_len l.initial.line + 11 * l.number-index;
}
