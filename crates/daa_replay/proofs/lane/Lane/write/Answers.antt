use Rattle.std.proofs.Common.{All, List, ap, length, subst, sym}
use Rattle.daa_replay.specs.declared.lane.Chunk.{Chunk}
use Rattle.daa_replay.specs.Inside.Batch.{IsChunk}
use Rattle.daa_replay.specs.Inside.Checkpoint.{reading_at}
use Rattle.daa_replay.proofs.BatchLemmas.{part-added, parts-stay}
use Rattle.daa_replay.proofs.lane.Lane.write.Goals as goal

pub returns : goal.returns
returns g c =
    let settings = c.args.config.now in
    let piece = c.args.piece.now in
    let old = c.args.self.now.sheet.text in
    let reach = c.add_moments-reach.result in
    let new = c.add_moments-reach.new.self.sheet.text in
    let added = c.add_moments-reach.ensures.added in
    c.note.ensures settings piece
    (subst (λ (l : List Chunk). All (IsChunk settings piece new) l) (sym c.add_moments-reach.ensures.parts)
    (parts-stay settings piece (reading_at c.args.from) (reading_at reach.upto) reach.refused old new c.args.self.now.parts.items added c.requires.filled))
    (part-added settings piece old new _ added c.add_moments-reach.ensures.there (ap length c.text-start.ensures.value) (ap length c.text-end.ensures.value))
