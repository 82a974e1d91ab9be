use Rattle.std.proofs.Common.{append_assoc, [], ◌∷◌, ◌++◌, ◌∙◌, ◌≡◌, ℕ, List, arith, subst, take}
use Rattle.std.proofs.lemmas.List.{take_all}
use Rattle.daa_config.specs.Settings.{Settings}
use Rattle.daa_lines.specs.LinesOf.{Bytes}
use Rattle.daa_io.specs.Faults.{HasRisen}
use Rattle.daa_replay.specs.declared.events.Progress.{Progress}
use Rattle.daa_replay.specs.declared.lines.Event.{Event}
use Rattle.daa_replay.specs.Moment.{IsEventText}
use Rattle.daa_replay.specs.Inside.Events.{IsGiven}
use Rattle.daa_replay.specs.Inside.Replay.{Breaks, Course, course}
use Rattle.daa_replay.proofs.BatchLemmas.{stops-after, stops-one, takes-event}
use Rattle.daa_replay.proofs.GivenLemmas.{first_of, refused_more}
use Rattle.daa_replay.proofs.replay.write_piece.Goals as goal

pub loop-progress-init : goal.loop-progress-init
loop-progress-init g c = c.in_ok-done.ensures.ok c.args.last

pub loop-progress-preserved : goal.loop-progress-preserved
loop-progress-preserved g c =
    let i = c.loop-progress.invariant in
    record {
      same = i.same;
      at = c.next_event.ensures.at;
      calm = i.calm;
      events = i.events;
      gives = λ bytes given is. c.in_default.ensures.kept bytes (given ++ i.events) (i.gives bytes given is);
      refusals = c.next_event.ensures.same ∙ i.refusals;
      taken = i.taken;
    }

pub loop-progress-preserved-in-Ok : goal.loop-progress-preserved-in-Ok
loop-progress-preserved-in-Ok g c =
    let i = c.loop-progress.invariant in
    let event = c.in-Some.event in
    let said = c.in-Ok.ensures.says in
    record {
      same = c.write_event.ensures.kept ∙ i.same;
      at = record { within = c.next_event.ensures.at.within; can = c.next_event.ensures.at.can };
      calm = said.2.cause.steady ∙ i.calm;
      events = i.events ++ event ∷ [];
      gives = λ bytes given is. subst (λ (l : List Event). IsGiven (bytes ++ take c.next_event.new.done c.args.piece.now) l c.next_event.new.progress)
          (append_assoc given i.events (event ∷ [])) (c.in-Some.ensures.kept bytes (given ++ i.events) (i.gives bytes given is));
      refusals = refused_more c.args.progress.now.any_refused c.next_event.new.progress.any_refused _ i.events event (c.next_event.ensures.same ∙ i.refusals) c.any_refusal-progress.ensures;
      taken = takes-event c.args.engine.now.settings i.events event _ _ _ said.0 i.taken (subst (λ (s : Settings). IsEventText s event said.0) i.same said.1) said.2.whole;
    }

pub returns-in-Err-clause-err : goal.returns-in-Err-clause-err
returns-in-Err-clause-err g c =
    let i = c.loop-progress.invariant in
    let event = c.in-Some.event in
    let settings = c.args.engine.now.settings in
    let said = c.in-Err.ensures.says in
    let progress : Progress = record {
      lines = c.next_event.new.progress.lines;
      moments = c.next_event.new.progress.moments;
      left = c.next_event.new.progress.left;
      any_refused = c.any_refusal-progress.result;
    } in
    let old : Course = course settings c.args.progress.now (g.K.Sink.taken c.args.sink.now) (g.K.Sink.faults c.args.sink.now) in
    let new : Course = course c.write_event.new.engine.settings progress (g.K.Sink.taken c.write_event.new.sink) (g.K.Sink.faults c.write_event.new.sink) in
    let breaks : Breaks old c.args.piece.now c.args.last new = record {
      risen = subst (λ (n : ℕ). HasRisen n (g.K.Sink.faults c.write_event.new.sink)) i.calm said.2.cause.risen;
      later = omega (arith, i.calm, said.2.cause.later);
      events = i.events ++ event ∷ [];
      begins = λ bytes given is. first_of bytes c.args.piece.now c.next_event.new.done c.args.last (given ++ (i.events ++ event ∷ [])) c.next_event.new.progress c.next_event.ensures.at
          (subst (λ (l : List Event). IsGiven (bytes ++ take c.next_event.new.done c.args.piece.now) l c.next_event.new.progress)
          (append_assoc given i.events (event ∷ [])) (c.in-Some.ensures.kept bytes (given ++ i.events) (i.gives bytes given is)));
      stops = stops-after settings i.events (event ∷ []) _ _ _ i.taken
          (stops-one settings event said.0 _ _ (subst (λ (s : Settings). IsEventText s event said.0) i.same said.1) said.2.front);
    } in
    breaks

pub returns-clause-ok : goal.returns-clause-ok
returns-clause-ok g c =
    let i = c.loop-progress.invariant in
    let over = c.has_more.ensures.all c.loop-progress-test.false in
    let all : take c.loop-progress.done c.args.piece.now ≡ c.args.piece.now = take_all c.loop-progress.done c.args.piece.now (omega (arith, over.0)) in
    record {
      same = i.same;
      after = over.1;
      calm = i.calm;
      events = i.events;
      gives = λ bytes given is. subst (λ (b : Bytes). IsGiven (bytes ++ b) (given ++ i.events) c.loop-progress.progress) all (i.gives bytes given is);
      refusals = i.refusals;
      taken = i.taken;
    }
