use Rattle.std.proofs.Common.{◌≡◌, ◌==◌, length, not, take}
use Rattle.std.specs.Prelude.{filter}
use Rattle.daa_state.specs.Inside.Texts.{texts}
use Rattle.daa_state.proofs.fields.fields.Given as goal

abbrev pub invariant-loop-field : goal.invariant-loop-field
invariant-loop-field l = texts l.fields.items ≡ take 14 (filter (λ field. not (length field == 0)) (texts l.yielded))
