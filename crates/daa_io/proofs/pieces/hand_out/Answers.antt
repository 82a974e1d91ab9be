-- The rest of the bytes is the piece that was copied, and then what follows.
use Rattle.std.proofs.Common.{◌≤◌, length, rules}
use Rattle.std.proofs.lemmas.List.{length-take-le}
use Rattle.daa_io.proofs.PiecesLemmas.{handed_out}
use Rattle.daa_io.proofs.pieces.hand_out.Goals as goal

pub returns-clause-next : goal.returns-clause-next
returns-clause-next c =
    let within : c.moved_count-n.result ≤ length c.split_at.result.1.now = search rules in
    let copied = rw (length-take-le c.moved_count-n.result c.split_at.result.1.now within, c.split_at.ensures.back) at c.copy_front.ensures.front in
    rw copied (handed_out c.args.bytes.now c.args.at c.moved_count-n.result)
