use Rattle.std.proofs.Common.{◌∙◌, ap, sym, arith, Ok}
use Rattle.daa_state.specs.Fault.{Checked, ◌>>=◌}
use Rattle.daa_state.specs.declared.word.Word.TheVariants as says
use Rattle.daa_state.specs.declared.word.Traffic.{Traffic}
use Rattle.daa_state.proofs.WordLemmas.{traffic_of-seven}
use Rattle.daa_state.proofs.word_of.traffic.Goals as goal

pub returns-in_ok-aircraft-in-len7-clause-value : goal.returns-in_ok-aircraft-in-len7-clause-value
returns-in_ok-aircraft-in-len7-clause-value c =
    ap (λ (read : Checked Traffic). read >>= λ traffic. Ok (says.Traffic traffic)) c.in_ok-aircraft-in-len7.ensures.value
    ∙ sym (traffic_of-seven c.args.fields.now _ (omega arith))
