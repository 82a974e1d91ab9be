use Rattle.std.proofs.Common.{below_more, refl, ◌∙◌, sym, arith, true≢false}
use Rattle.daa_scan.specs.Inside.Rounds.{settings_in, own_in, aircraft_in}
use Rattle.daa_scan.proofs.Trails.{walked_upto}
use Rattle.daa_scan.proofs.sharing.walk_on.Goals as goal

pub loop-walked-init : goal.loop-walked-init
loop-walked-init c = record { none = c.requires.trail.none; trail = c.requires.trail; clear = c.if-trail.false; last = c.min-last.ensures; end = refl }

pub returns-then-violates_on_trunk-clause-trail : goal.returns-then-violates_on_trunk-clause-trail
returns-then-violates_on_trunk-clause-trail c = record {
  none = c.loop-walked.invariant.none;
  hit = λ _. c.violates_on_trunk.ensures.0 c.if-violates_on_trunk.true;
  later = c.loop-walked.invariant.trail.later;
}

pub loop-walked-preserved : goal.loop-walked-preserved
loop-walked-preserved c = record {
  none = below_more _ _ c.loop-walked.invariant.none (λ v. let t = c.violates_on_trunk.ensures.1 v in cc (t, c.if-violates_on_trunk.false));
  trail = c.loop-walked.invariant.trail;
  clear = c.loop-walked.invariant.clear;
  last = c.loop-walked.invariant.last;
  end = c.loop-walked.invariant.end;
}

pub returns-clause-trail : goal.returns-clause-trail
returns-clause-trail c =
    let r = c.args.round.now in
    record {
      none = walked_upto (settings_in r) (own_in r) c.args.lead (aircraft_in r) r.level.volume c.loop-walked.trail c.min-last.result c.loop-walked.walked c.args.upto c.loop-walked.invariant.trail
          (omega (arith, c.requires.upto, r.known.in_range.lookahead_most)) c.loop-walked.invariant.last (omega (arith, c.loop-walked-test.false)) c.loop-walked.invariant.none;
      hit = λ t. absurd (true≢false (sym t ∙ c.loop-walked.invariant.clear));
      later = c.loop-walked.invariant.trail.later;
    }
