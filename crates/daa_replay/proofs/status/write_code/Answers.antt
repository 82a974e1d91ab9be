use Rattle.std.proofs.Common.{ℕ, Option, refl, sym, subst, ◌∙◌}
use Rattle.daa_ahead.specs.Bytes.{StreamState, stream_state}
use Rattle.daa_replay.specs.declared.status.Status.TheVariants as status
use Rattle.daa_replay.specs.Inside.Status.{WritesCode}
use Rattle.daa_replay.proofs.OpeningLemmas.{writes}
use Rattle.daa_replay.proofs.status.write_code.Goals as goal

pub returns-in-Some : goal.returns-in-Some
returns-in-Some g c =
    let old : StreamState = stream_state (g.K.Sink.taken c.args.sink.now) (g.K.Sink.faults c.args.sink.now) in
    let new : StreamState = stream_state (g.K.Sink.taken c.write_config.new.sink) (g.K.Sink.faults c.write_config.new.sink) in
    subst (λ (code : Option ℕ). WritesCode code old new c.status_of.result) (sym (sym c.code.ensures ∙ c.in-Some.is))
    (writes old new _ c.write_config.result _ _ c.write_config.ensures c.status_of.ensures.whole c.status_of.ensures.broken)

pub returns-in-None : goal.returns-in-None
returns-in-None g c =
    let old : StreamState = stream_state (g.K.Sink.taken c.args.sink.now) (g.K.Sink.faults c.args.sink.now) in
    subst (λ (code : Option ℕ). WritesCode code old old status.NoMemory) (sym (sym c.code.ensures ∙ c.in-None.is)) (refl, refl)
