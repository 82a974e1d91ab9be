use Rattle.std.proofs.Common.{◌∙◌, ap, arith}
use Rattle.std.specs.Prelude.{slice_index_or}
use Rattle.std.specs.Int.Bits.{bit_or, or_zero_r}
use Rattle.daa_config.specs.declared.candidate.Candidate.{Candidate}
use Rattle.daa_config.specs.declared.candidate.Candidate.TheVariants.{Hold}
use Rattle.daa_config.specs.Candidates.{candidates_of}
use Rattle.daa_scan.specs.Inside.Rounds.{settings_in, own_in, aircraft_in}
use Rattle.daa_scan.proofs.Marks.{meets_before, none_nested, there_already, one_more, number_there, adds_by}
use Rattle.daa_scan.proofs.Sides.{branch_in, side_sure, side_answers}
use Rattle.daa_scan.proofs.marking.next_mask.Goals as goal

pub returns-then-is_after-clause-mask : goal.returns-then-is_after-clause-mask
returns-then-is_after-clause-mask c old is =
    let r = c.args.round.now in
    let candidate : Candidate = slice_index_or (candidates_of (settings_in r)) c.args.index Hold in
    let branch = branch_in r c.args.kind c.args.index c.args.branch.now c.requires.index c.requires.needed c.requires.branch in
    let after = c.is_after.ensures c.if-is_after.true in
    let trail = c.trail_on-trail.result.now in
    let tested = side_sure r c.args.kind c.args.trails.now c.requires.trails r.known.in_range.lookahead_most candidate c.args.branch.now branch after.1
    trail c.trail_on-trail.ensures.upper c.trail_on-trail.ensures.lower after.0 in
    let answers = side_answers r c.args.kind c.args.trails.now c.requires.trails r.known.in_range.lookahead_most candidate c.args.branch.now branch after.1
    trail c.trail_on-trail.ensures.upper c.trail_on-trail.ensures.lower in
    adds_by (settings_in r) (own_in r) (aircraft_in r) c.args.index candidate (number_there c.args.kind (settings_in r) c.args.index c.requires.index) r.l old c.args.mask
    (bit_or c.args.mask trail.answer)
    (λ h. one_more (settings_in r) (own_in r) candidate (aircraft_in r) r.l old c.args.mask h r.level r.known.there trail.hit (bit_or c.args.mask trail.answer) tested
    (λ met. ap (bit_or c.args.mask) (answers.hit met))
    (λ none. ap (bit_or c.args.mask) (answers.clear none) ∙ or_zero_r c.args.mask))
    is

pub returns-then-not-has_level-clause-mask : goal.returns-then-not-has_level-clause-mask
returns-then-not-has_level-clause-mask c old is =
    let r = c.args.round.now in
    let candidate : Candidate = slice_index_or (candidates_of (settings_in r)) c.args.index Hold in
    let nested = r.known.within c.if-round.true in
    adds_by (settings_in r) (own_in r) (aircraft_in r) c.args.index candidate (number_there c.args.kind (settings_in r) c.args.index c.requires.index) r.l old c.args.mask c.args.mask
    (λ h. none_nested (settings_in r) (own_in r) candidate (aircraft_in r) r.l old c.args.mask h (omega (arith, nested.some))
    (meets_before (settings_in r) (own_in r) candidate (aircraft_in r) r.l r.level r.known.there nested)
    (λ b. let t = c.has_level.ensures.1 b in cc (t, c.if-not-has_level.true)))
    is

pub returns-then-has_level-clause-mask : goal.returns-then-has_level-clause-mask
returns-then-has_level-clause-mask c old is =
    let r = c.args.round.now in
    let candidate : Candidate = slice_index_or (candidates_of (settings_in r)) c.args.index Hold in
    adds_by (settings_in r) (own_in r) (aircraft_in r) c.args.index candidate (number_there c.args.kind (settings_in r) c.args.index c.requires.index) r.l old c.args.mask c.args.mask
    (λ h. there_already (settings_in r) (own_in r) candidate (aircraft_in r) r.l old c.args.mask h (c.has_level-2.ensures.0 c.if-has_level.true))
    is

pub meets_shared-met-requires : goal.meets_shared-met-requires
meets_shared-met-requires c = (
  branch_in c.args.round.now c.args.kind c.args.index c.args.branch.now c.requires.index c.requires.needed c.requires.branch,
  (c.requires.needed, (c.requires.leads, c.requires.trails)),
)

pub returns-clause-mask : goal.returns-clause-mask
returns-clause-mask c old is =
    let r = c.args.round.now in
    let candidate : Candidate = slice_index_or (candidates_of (settings_in r)) c.args.index Hold in
    adds_by (settings_in r) (own_in r) (aircraft_in r) c.args.index candidate (number_there c.args.kind (settings_in r) c.args.index c.requires.index) r.l old c.args.mask c.with_level.result
    (λ h. one_more (settings_in r) (own_in r) candidate (aircraft_in r) r.l old c.args.mask h r.level r.known.there c.meets_shared-met.result c.with_level.result
    c.meets_shared-met.ensures.met c.with_level.ensures.met c.with_level.ensures.not_met)
    is
