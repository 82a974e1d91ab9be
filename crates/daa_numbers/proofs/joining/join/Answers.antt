use Rattle.std.proofs.Common.{◌≡◌, refl, subst, List, ℕ, pos, length, rules}
use Rattle.std.proofs.lemmas.Nat.{pow_pos}
use Rattle.daa_config.specs.Candidates.{candidates_of}
use Rattle.daa_numbers.specs.Boards.{AreJoined, IsMarked}
use Rattle.daa_numbers.proofs.JoinLemmas.{joined_within}
use Rattle.daa_numbers.proofs.joining.join.Goals as goal

pub returns-clause-joined : goal.returns-clause-joined
returns-clause-joined c = λ (_ : pos 0 ≡ pos 0).
    let s = c.in-Ok.accepted in
    let more = c.args.more.now in
    let board = c.args.board.now in
    let marked_more : IsMarked c.args.config.now s more = c.is_decided.ensures.yes (search rules) in
    let marked_old : IsMarked c.args.config.now s board = c.is_decided-2.ensures.yes (search rules) in
    let joined : AreJoined board.masks more.masks c.add.new.masks =
    subst (λ (m : List ℕ). AreJoined board.masks m c.add.new.masks) c.masks.ensures c.add.ensures in
    record {
      settings = s;
      accepted = c.in-Ok.ensures.accepted;
      whole_more = record { marked = marked_more; sum = c.has_its_sum.ensures.yes (search rules) };
      whole_old = record { marked = marked_old; sum = c.has_its_sum-2.ensures.yes (search rules) };
      whole = record {
        marked = record {
          mark = marked_old.mark;
          masks = joined_within (length (candidates_of s)) (length s.levels) board.masks more.masks c.add.new.masks (pow_pos (length s.levels)) joined
              marked_old.masks marked_more.masks;
        };
        sum = c.board_sum-board.ensures;
      };
      one_time = search rules;
      one_own = c.is_of_own.ensures.yes (search rules);
      joined = joined;
      rest = refl;
    }
