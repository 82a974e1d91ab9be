use Rattle.std.proofs.Common.{◌≡◌, ◌∙◌, pos, sym, arith, rules, w32, FitsSigned}
use Rattle.std.proofs.lemmas.Int.{to_z-of_z}
use Rattle.daa_bands.specs.Board.{HasLevelOn, IsBoardOf}
use Rattle.daa_bands.proofs.KindLemmas.{bands_covered}
use Rattle.daa_numbers.specs.Boards.{IsMarked}
use Rattle.daa_numbers.specs.Numbers.{settings_by}
use Rattle.daa_numbers.proofs.BoardLemmas.{board_of_masks}
use Rattle.daa_numbers.proofs.RefusalLemmas.{accepted_alone}
use Rattle.daa_numbers.proofs.banding.bands.Goals as goal

pub returns-clause-filled : goal.returns-clause-filled
returns-clause-filled c = λ (_ : pos 0 ≡ pos 0).
    let masks = c.args.board.now.masks in let s = c.in-Ok.accepted in
    let fits : FitsSigned w32 c.args.kind = search rules in
    let marked : IsMarked c.args.config.now s c.args.board.now = search rules in
    let board : IsBoardOf (HasLevelOn masks) s masks = board_of_masks masks s marked.masks in
    record {
      settings = s;
      accepted = c.in-Ok.ensures.accepted;
      kind = c.in-Some.kind;
      kind_is = c.in-Some.ensures.some ∙ to_z-of_z w32 _ fits;
      fits = omega (arith, c.if-bands-count.false, c.count.ensures.value, c.fill.auto.bands);
      within = c.fill.ensures.fits;
      whole = record { marked = marked; sum = search rules };
      time_is = search rules;
      are = bands_covered (HasLevelOn masks) s masks c.count.ensures.accepted board c.in-Some.kind _ c.fill.ensures.are;
    }

pub returns-in_default-clause-no_kind : goal.returns-in_default-clause-no_kind
returns-in_default-clause-no_kind c = λ _.
    let fits : FitsSigned w32 c.args.kind = search rules in
    record {
      sound = accepted_alone (settings_by c.args.config.now) c.in-Ok.accepted c.in-Ok.ensures.accepted;
      none = λ kind is. c.in_default.ensures.none kind (is ∙ sym (to_z-of_z w32 _ fits));
    }

pub returns-then-not-has_its_sum-clause-damaged : goal.returns-then-not-has_its_sum-clause-damaged
returns-then-not-has_its_sum-clause-damaged c = λ _.
    let fits : FitsSigned w32 c.args.kind = search rules in
    record {
      sound = accepted_alone (settings_by c.args.config.now) c.in-Ok.accepted c.in-Ok.ensures.accepted;
      kind = c.in-Some.kind;
      kind_is = c.in-Some.ensures.some ∙ to_z-of_z w32 _ fits;
      wrong = record { settings = c.in-Ok.accepted; accepted = c.in-Ok.ensures.accepted; marked = search rules; other = search rules };
    }

pub returns-then-board-time-clause-other_time : goal.returns-then-board-time-clause-other_time
returns-then-board-time-clause-other_time c = λ _.
    let fits : FitsSigned w32 c.args.kind = search rules in
    record {
      sound = accepted_alone (settings_by c.args.config.now) c.in-Ok.accepted c.in-Ok.ensures.accepted;
      kind = c.in-Some.kind;
      kind_is = c.in-Some.ensures.some ∙ to_z-of_z w32 _ fits;
      wrong = record {
        settings = c.in-Ok.accepted;
        accepted = c.in-Ok.ensures.accepted;
        whole = record { marked = search rules; sum = search rules };
        other = search rules;
      };
    }

pub returns-then-bands-count-clause-short : goal.returns-then-bands-count-clause-short
returns-then-bands-count-clause-short c = λ _.
    let fits : FitsSigned w32 c.args.kind = search rules in
    record {
      settings = c.in-Ok.accepted;
      accepted = c.in-Ok.ensures.accepted;
      whole = record { marked = search rules; sum = search rules };
      time_is = search rules;
      kind = c.in-Some.kind;
      kind_is = c.in-Some.ensures.some ∙ to_z-of_z w32 _ fits;
      more = omega (arith, c.if-bands-count.true, c.count.ensures.value);
    }
