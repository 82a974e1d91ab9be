use Rattle.std.proofs.Common.{arith, length-drop, length, ◌≡◌, ◌∙◌, ◌-◌}
use Rattle.daa_report.proofs.Appending.{appends_more, appends_front, risen_after}
use Rattle.daa_report.proofs.writers.put.Goals as goal

pub loop-at-preserved : goal.loop-at-preserved
loop-at-preserved g c =
    let same : length c.rest_from.result.now ≡ length c.args.piece.now - c.loop-at.at =
    rw c.rest_from.ensures (length-drop c.loop-at.at c.args.piece.now) in
    record {
      within = omega (arith, c.in-Ok.ensures.within);
      written = appends_more _ _ _ _ _ _ _ c.rest_from.ensures c.loop-at.invariant.written c.in-Ok.ensures.appended;
      steady = c.in-Ok.ensures.no_fault ∙ c.loop-at.invariant.steady;
    }

pub returns-in-Err : goal.returns-in-Err
returns-in-Err g c = record {
  whole = tt;
  front = appends_front _ _ _ _ _ c.loop-at.invariant.written c.in-Err.ensures.kept;
  cause = record {
    later = omega (arith, c.loop-at.invariant.steady, c.in-Err.ensures.never_falls);
    risen = risen_after _ _ _ (omega (arith, c.loop-at.invariant.steady)) c.in-Err.ensures.risen;
    steady = tt;
  };
}
