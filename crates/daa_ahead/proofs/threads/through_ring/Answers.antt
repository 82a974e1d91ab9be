use Rattle.std.proofs.Common.{arith, refl}
use Rattle.daa_ahead.proofs.Moving.{moved_with}
use Rattle.daa_ahead.proofs.threads.through_ring.Goals as goal

pub returns-in-Ok : goal.returns-in-Ok
returns-in-Ok g c = record { moves = moved_with c.rounds.result 1 c.args.places c.args.most _ _ _ (λ none. absurd (omega (arith, none, c.requires.places.0))) c.rounds.ensures.moves }

pub returns-in-Err : goal.returns-in-Err
returns-in-Err g c = record { moves = moved_with c.in_turn.result 0 c.args.places c.args.most _ _ _ (λ none. refl) c.in_turn.ensures.moves }
