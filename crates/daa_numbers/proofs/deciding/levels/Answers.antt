use Rattle.std.proofs.Common.{◌≡◌, ◌<◌, length, pos, arith, rules}
use Rattle.daa_bands.specs.Board.{HasLevelOn, IsBoardOf}
use Rattle.daa_bands.proofs.KindLemmas.{greatest_covered}
use Rattle.daa_config.specs.Candidates.{candidates_of}
use Rattle.daa_numbers.specs.Boards.{IsMarked}
use Rattle.daa_numbers.proofs.BoardLemmas.{board_of_masks}
use Rattle.daa_numbers.proofs.deciding.levels.Goals as goal

pub returns-clause-shown : goal.returns-clause-shown
returns-clause-shown c = λ (_ : pos 0 ≡ pos 0).
    let masks = c.args.board.now.masks in let s = c.in-Ok.accepted in let total = c.total-total.ensures.value in
    let marked : IsMarked c.args.config.now s c.args.board.now = search rules in
    let board : IsBoardOf (HasLevelOn masks) s masks = board_of_masks masks s marked.masks in
    record {
      settings = s;
      accepted = c.in-Ok.ensures.accepted;
      whole = record { marked = marked; sum = search rules };
      time_is = search rules;
      all = total;
      fits = omega (arith, c.show.ensures.fits, total);
      shown = λ index less.
          let listed : index < length (candidates_of s) = omega (arith, less, total) in
          greatest_covered (HasLevelOn masks) s masks c.total-total.ensures.accepted board index _ listed (c.show.ensures.shown index listed);
    }
