use Rattle.std.proofs.Common.{ℕ, List, ◌==◌, ◌||◌, length, not, take, ap, ◌∙◌, rules}
use Rattle.std.specs.Prelude.{filter}
use Rattle.std.proofs.lemmas.Iterator.Consumers.{YieldsList-end}
use Rattle.std.proofs.lemmas.Iterator.Splits.{YieldsList-from_slice_split}
use borrow.Author.Tests.{tests}
use Rattle.daa_state.specs.Inside.Texts.{Bytes}
use Rattle.daa_state.proofs.fields.fields.Goals as goal

pub returns : goal.returns
returns c =
    let all = YieldsList-end (YieldsList-from_slice_split _ (λ (byte : ℕ). byte == 32 || byte == 9) c.args.line.now (cc) (cc) (cc) (λ x r q k. search
    (rules, tests))) c.loop-field.yielded _ c.loop-field.yielded_by _ _ c.in-None.is c.next.ensures.steps in
    c.loop-field.invariant ∙ ap (λ (parts : List Bytes). take 14 (filter (λ (field : Bytes). not (length field == 0)) parts)) all.0
