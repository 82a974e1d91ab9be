use Rattle.std.proofs.Common.{sym, subst}
use Rattle.daa_replay.specs.declared.opening.Unready.{Unready}
use Rattle.daa_ahead.specs.Bytes.{StreamState, stream_state}
use Rattle.daa_replay.specs.Inside.Status.{WritesReason}
use Rattle.daa_replay.proofs.OpeningLemmas.{writes}
use Rattle.daa_replay.proofs.status.write_reason.Goals as goal

pub returns-in-NotTaken : goal.returns-in-NotTaken
returns-in-NotTaken g c =
    let old : StreamState = stream_state (g.K.Sink.taken c.args.sink.now) (g.K.Sink.faults c.args.sink.now) in
    let new : StreamState = stream_state (g.K.Sink.taken c.put.new.sink) (g.K.Sink.faults c.put.new.sink) in
    subst (λ (why : Unready). WritesReason why old new c.status_of.result) (sym c.in-NotTaken.is)
    (writes old new _ c.put.result _ _ c.put.ensures c.status_of.ensures.whole c.status_of.ensures.broken)

pub returns-in-StatesLong : goal.returns-in-StatesLong
returns-in-StatesLong g c =
    let old : StreamState = stream_state (g.K.Sink.taken c.args.sink.now) (g.K.Sink.faults c.args.sink.now) in
    let new : StreamState = stream_state (g.K.Sink.taken c.put-in-StatesLong.new.sink) (g.K.Sink.faults c.put-in-StatesLong.new.sink) in
    subst (λ (why : Unready). WritesReason why old new c.status_of-in-StatesLong.result) (sym c.in-StatesLong.is)
    (writes old new _ c.put-in-StatesLong.result _ _ c.put-in-StatesLong.ensures c.status_of-in-StatesLong.ensures.whole c.status_of-in-StatesLong.ensures.broken)

pub returns-in-Refused : goal.returns-in-Refused
returns-in-Refused g c =
    let old : StreamState = stream_state (g.K.Sink.taken c.args.sink.now) (g.K.Sink.faults c.args.sink.now) in
    let new : StreamState = stream_state (g.K.Sink.taken c.write_code.new.sink) (g.K.Sink.faults c.write_code.new.sink) in
    subst (λ (why : Unready). WritesReason why old new c.write_code.result) (sym c.in-Refused.is) c.write_code.ensures
