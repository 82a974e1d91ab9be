use Rattle.std.proofs.Common.{refl, subst, sym}
use Rattle.daa_ahead.specs.Bytes.{StreamState, stream_state}
use Rattle.daa_judge.specs.Matching.{Compares}
use Rattle.daa_judge.specs.declared.found.Found.{Found}
use Rattle.daa_replay.proofs.judge.judge_text.Goals as goal

pub returns-clause-compares : goal.returns-clause-compares
returns-clause-compares g c =
    let now : StreamState = stream_state (g.S.Source.left c.compare.new.source) (g.S.Source.faults c.compare.new.source) in
    record {
      text = c.args.text.now;
      is = refl;
      compares = λ most first before h. subst (λ (f : Found). Compares f most first before c.args.text.now c.compare.new.self now) (sym c.stop_of.ensures.same)
          (c.compare.ensures.compares most first before h);
    }
