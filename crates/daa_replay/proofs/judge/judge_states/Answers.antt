use Rattle.std.proofs.Common.{◌≡◌, ◌∙◌, ◌++◌, ◌∷◌, [], arith, append-nil, refl, subst, sym, take, true}
use Rattle.std.proofs.lemmas.List.{take_all}
use Rattle.daa_lines.specs.LinesOf.{Bytes}
use Rattle.daa_replay.specs.Inside.Events.{IsGiven}
use Rattle.daa_replay.proofs.GivenLemmas.{all_of, first_of}
use Rattle.daa_replay.proofs.JudgeLemmas.{compares-event}
use Rattle.daa_replay.proofs.judge.judge_states.Goals as goal

pub loop-progress-init : goal.loop-progress-init
loop-progress-init g c = record {
  same = c.judge_front-front.ensures.same;
  room = c.judge_front-front.ensures.room;
  never_falls = c.judge_front-front.ensures.never_falls;
  matched = c.in-Ok.ensures.ok;
}

pub returns-in-Err-clause-compares : goal.returns-in-Err-clause-compares
returns-in-Err-clause-compares g c = c.in-Err.ensures.err

pub loop-progress-preserved : goal.loop-progress-preserved
loop-progress-preserved g c =
    let i = c.loop-progress.invariant in
    let x = i.matched in
    record {
      same = i.same;
      room = i.room;
      never_falls = i.never_falls;
      matched = record { at = c.next_event.ensures.at; events = x.events; given = c.in_default.ensures.kept [] x.events x.given; compares = x.compares };
    }

pub loop-progress-preserved-in-Ok-judge_event : goal.loop-progress-preserved-in-Ok-judge_event
loop-progress-preserved-in-Ok-judge_event g c =
    let i = c.loop-progress.invariant in
    let x = i.matched in
    record {
      same = c.judge_event.ensures.same ∙ i.same;
      room = c.judge_event.ensures.room;
      never_falls = omega (arith, i.never_falls, c.judge_event.ensures.never_falls);
      matched = record {
        at = c.next_event.ensures.at;
        events = x.events ++ c.in-Some.event ∷ [];
        given = c.in-Some.ensures.kept [] x.events x.given;
        compares = compares-event c.args.engine.now.settings c.loop-progress.engine.settings i.same x.events c.in-Some.event _ _ _ _ _ _ _ x.compares c.in-Ok-judge_event.ensures.compares;
      };
    }

pub returns-in-Err-judge_event-clause-compares : goal.returns-in-Err-judge_event-clause-compares
returns-in-Err-judge_event-clause-compares g c =
    let i = c.loop-progress.invariant in
    let x = i.matched in
    let events = x.events ++ c.in-Some.event ∷ [] in
    let front = first_of [] c.args.states.now c.next_event.new.done true events c.next_event.new.progress c.next_event.ensures.at (c.in-Some.ensures.kept [] x.events x.given) in
    record {
      events = events;
      later = front.0;
      all = front.1;
      none = λ e. absurd (c.in-Err-judge_event.ensures.stops e);
      compares = compares-event c.args.engine.now.settings c.loop-progress.engine.settings i.same x.events c.in-Some.event _ _ _ _ _ _ _ x.compares c.in-Err-judge_event.ensures.compares;
    }

pub returns-clause-compares : goal.returns-clause-compares
returns-clause-compares g c =
    let x = c.loop-progress.invariant.matched in
    let over = c.has_more.ensures.all c.loop-progress-test.false in
    let fed : take c.loop-progress.done c.args.states.now ≡ c.args.states.now = take_all c.loop-progress.done c.args.states.now (omega (arith, over.0)) in
    let given = subst (λ (b : Bytes). IsGiven b x.events c.loop-progress.progress) fed x.given in
    record {
      events = x.events;
      later = [];
      all = sym (all_of true c.args.states.now x.events c.loop-progress.progress over.1 given) ∙ sym (append-nil x.events);
      none = λ e. refl;
      compares = x.compares;
    }
