use Rattle.std.proofs.Common.{◌∙◌, ap, sym, take, arith}
use Rattle.daa_state.specs.WordOf.{word_of_fields}
use Rattle.daa_state.specs.Fields.{fields_of}
use Rattle.daa_state.specs.Inside.Texts.{Bytes, texts}
use Rattle.daa_state.proofs.WordLemmas.{fourteen_are_enough, short_line}
use Rattle.daa_state.proofs.word_of.read_line.Goals as goal

pub returns-clause-value : goal.returns-clause-value
returns-clause-value c =
    let read = ap (word_of_fields c.args.format) (ap texts c.as_slice.ensures.value ∙ c.fields.ensures ∙ ap (λ (l : Bytes). take 14 (fields_of l)) c.without_return.ensures) in
    c.word.ensures.value ∙ read ∙ fourteen_are_enough c.args.format _ ∙ sym (short_line c.args.format c.args.line.now (omega arith))
