use Rattle.std.proofs.Common.{◌≡◌, ◌∙◌, ap, ℕ, List, ◌∷◌, Option, None, Some, sym, arith}
use Rattle.std.specs.Option.{SomeIff}
use Rattle.std.proofs.lemmas.Fmt.{decimal_digit}
use Rattle.daa_exercise.proofs.draws.name.Goals as goal

named : (r : Option (List ℕ)) (P : Type 0) (bytes id : List ℕ) → SomeIff r P bytes → r ≡ Some id → id ≡ bytes
named None P bytes id h e = absurd (cc)
named (Some x) P bytes id h e = let same : x ≡ bytes = h.1 in cc

pub returns : goal.returns
returns c = named c.of.result _ _ c.unwrap.result c.of.ensures c.unwrap.ensures ∙ ap (λ (xs : List ℕ). 65 ∷ xs) (sym (decimal_digit c.args.number (let few = c.requires.few in omega arith)))
