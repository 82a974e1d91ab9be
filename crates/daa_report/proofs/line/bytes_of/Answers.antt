use Rattle.std.proofs.Common.{◌≤◌, length, List, ℕ, sym, subst}
use Rattle.daa_state.proofs.IdLemmas.{short}
use Rattle.daa_report.proofs.line.bytes_of.Goals as goal

pub returns-clause-few : goal.returns-clause-few
returns-clause-few c = subst (λ (bytes : List ℕ). length bytes ≤ 8) (sym c.bytes.ensures.value) (short c.args.id.now c.bytes.ensures.identifier)
