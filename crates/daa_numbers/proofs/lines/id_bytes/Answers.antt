use Rattle.daa_numbers.proofs.LineLemmas.{text_padded}
use Rattle.std.proofs.Common.{◌≡◌, ◌∙◌, true, ap}
use Rattle.daa_state.specs.Id.{is_id}
use Rattle.daa_numbers.proofs.lines.id_bytes.Goals as goal

pub returns : goal.returns
returns c =
    let id : is_id c.bytes-text.result.now ≡ true = ap is_id c.bytes-text.ensures.value ∙ c.bytes-text.ensures.identifier in
    text_padded c.bytes-text.result.now _ c.copy_from_slice.ensures.after id ∙ c.bytes-text.ensures.value
