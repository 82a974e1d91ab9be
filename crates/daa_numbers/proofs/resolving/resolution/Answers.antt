use Rattle.std.proofs.Common.{◌≡◌, ◌∙◌, sym, pos, rules, w32, FitsSigned}
use Rattle.std.proofs.lemmas.Int.{to_z-of_z}
use Rattle.daa_numbers.proofs.resolving.resolution.Goals as goal

pub returns-clause-filled : goal.returns-clause-filled
returns-clause-filled c = λ (_ : pos 0 ≡ pos 0).
    let s = c.in-Ok.accepted in let k = c.in-Some.kind in let side = c.in-Some-side_in.side in let answer = c.nearest.result in
    let fits : FitsSigned w32 c.args.kind = search rules in let side_fits : FitsSigned w32 c.args.side = search rules in
    record {
      settings = s;
      accepted = c.in-Ok.ensures.asked.accepted;
      own_range = c.in-Ok.ensures.asked.range;
      kind = k;
      kind_is = c.in-Some.ensures.some ∙ to_z-of_z w32 _ fits;
      side = side;
      side_is = c.in-Some-side_in.ensures.some ∙ to_z-of_z w32 _ side_fits;
      whole = record { marked = search rules; sum = search rules };
      time_is = search rules;
      own_is = search rules;
      answer = answer;
      is = c.nearest.ensures;
      filled = c.resolution_numbers.ensures;
    }

pub returns-in_default-clause-no_kind : goal.returns-in_default-clause-no_kind
returns-in_default-clause-no_kind c = λ _.
    let fits : FitsSigned w32 c.args.kind = search rules in
    record {
      sound = c.in-Ok.ensures.asked.sound;
      none = λ kind is. c.in_default.ensures.none kind (is ∙ sym (to_z-of_z w32 _ fits));
    }

pub returns-in_default-side_in-clause-no_side : goal.returns-in_default-side_in-clause-no_side
returns-in_default-side_in-clause-no_side c = λ _.
    let fits : FitsSigned w32 c.args.kind = search rules in
    let side_fits : FitsSigned w32 c.args.side = search rules in
    record {
      sound = c.in-Ok.ensures.asked.sound;
      kind = c.in-Some.kind;
      kind_is = c.in-Some.ensures.some ∙ to_z-of_z w32 _ fits;
      none = λ side is. c.in_default-side_in.ensures.none side (is ∙ sym (to_z-of_z w32 _ side_fits));
    }

pub returns-then-not-is_decided-clause-bad_board : goal.returns-then-not-is_decided-clause-bad_board
returns-then-not-is_decided-clause-bad_board c = λ _.
    let fits : FitsSigned w32 c.args.kind = search rules in
    let side_fits : FitsSigned w32 c.args.side = search rules in
    record {
      sound = c.in-Ok.ensures.asked.sound;
      kind = c.in-Some.kind;
      kind_is = c.in-Some.ensures.some ∙ to_z-of_z w32 _ fits;
      side = c.in-Some-side_in.side;
      side_is = c.in-Some-side_in.ensures.some ∙ to_z-of_z w32 _ side_fits;
      wrong = record { settings = c.in-Ok.accepted; accepted = c.in-Ok.ensures.asked.accepted; other = search rules };
    }

pub returns-then-not-has_its_sum-clause-damaged : goal.returns-then-not-has_its_sum-clause-damaged
returns-then-not-has_its_sum-clause-damaged c = λ _.
    let fits : FitsSigned w32 c.args.kind = search rules in
    let side_fits : FitsSigned w32 c.args.side = search rules in
    record {
      sound = c.in-Ok.ensures.asked.sound;
      kind = c.in-Some.kind;
      kind_is = c.in-Some.ensures.some ∙ to_z-of_z w32 _ fits;
      side = c.in-Some-side_in.side;
      side_is = c.in-Some-side_in.ensures.some ∙ to_z-of_z w32 _ side_fits;
      wrong = record { settings = c.in-Ok.accepted; accepted = c.in-Ok.ensures.asked.accepted; marked = search rules; other = search rules };
    }

pub returns-then-board-time-clause-other_time : goal.returns-then-board-time-clause-other_time
returns-then-board-time-clause-other_time c = λ _.
    let fits : FitsSigned w32 c.args.kind = search rules in
    let side_fits : FitsSigned w32 c.args.side = search rules in
    record {
      sound = c.in-Ok.ensures.asked.sound;
      kind = c.in-Some.kind;
      kind_is = c.in-Some.ensures.some ∙ to_z-of_z w32 _ fits;
      side = c.in-Some-side_in.side;
      side_is = c.in-Some-side_in.ensures.some ∙ to_z-of_z w32 _ side_fits;
      wrong = record {
        settings = c.in-Ok.accepted;
        accepted = c.in-Ok.ensures.asked.accepted;
        whole = record { marked = search rules; sum = search rules };
        other = search rules;
      };
    }

pub returns-then-not-is_of_own-clause-other_own : goal.returns-then-not-is_of_own-clause-other_own
returns-then-not-is_of_own-clause-other_own c = λ _.
    let fits : FitsSigned w32 c.args.kind = search rules in
    let side_fits : FitsSigned w32 c.args.side = search rules in
    record {
      sound = c.in-Ok.ensures.asked.sound;
      kind = c.in-Some.kind;
      kind_is = c.in-Some.ensures.some ∙ to_z-of_z w32 _ fits;
      side = c.in-Some-side_in.side;
      side_is = c.in-Some-side_in.ensures.some ∙ to_z-of_z w32 _ side_fits;
      wrong = record {
        settings = c.in-Ok.accepted;
        accepted = c.in-Ok.ensures.asked.accepted;
        whole = record { marked = search rules; sum = search rules };
        time_is = search rules;
        other = search rules;
      };
    }
