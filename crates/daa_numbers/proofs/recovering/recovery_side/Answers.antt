use Rattle.std.proofs.Common.{◌∙◌, sym, w32, FitsSigned, rules}
use Rattle.std.proofs.lemmas.Int.{to_z-of_z}
use Rattle.daa_numbers.proofs.recovering.recovery_side.Goals as goal

pub returns-in_default-clause-no_side : goal.returns-in_default-clause-no_side
returns-in_default-clause-no_side c = λ _.
    let fits : FitsSigned w32 c.args.kind = search rules in
    let side_fits : FitsSigned w32 c.args.side = search rules in
    record {
      sound = c.in-Ok.ensures.asked.sound;
      kind = c.in-Ok.found.2;
      kind_is = c.in-Ok.ensures.kind ∙ to_z-of_z w32 _ fits;
      none = λ side is. c.in_default.ensures.none side (is ∙ sym (to_z-of_z w32 _ side_fits));
    }

pub returns-then-is_none-clause-not_asked : goal.returns-then-is_none-clause-not_asked
returns-then-is_none-clause-not_asked c = λ _.
    let fits : FitsSigned w32 c.args.kind = search rules in
    let side_fits : FitsSigned w32 c.args.side = search rules in
    record {
      sound = c.in-Ok.ensures.asked.sound;
      kind = c.in-Ok.found.2;
      kind_is = c.in-Ok.ensures.kind ∙ to_z-of_z w32 _ fits;
      side = c.in-Some.side;
      side_is = c.in-Some.ensures.some ∙ to_z-of_z w32 _ side_fits;
      wrong = record { settings = c.in-Ok.found.0; accepted = c.in-Ok.ensures.asked.accepted; none = search rules };
    }
