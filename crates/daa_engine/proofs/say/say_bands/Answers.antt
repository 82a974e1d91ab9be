use Rattle.std.proofs.Common.{◌++◌, ◌∙◌, List, sym, ap}
use Rattle.std.specs.List.{flat_map}
use Rattle.std.proofs.lemmas.List.{append-nil}
use Rattle.daa_bands.specs.declared.band.Band.{Band}
use Rattle.daa_bands.specs.Walk.{bands_left}
use Rattle.daa_engine.specs.Inside.Written.{line_of, bands_text}
use Rattle.daa_engine.proofs.LoopLemmas.{bands_split, next_split}
use Rattle.daa_report.proofs.HeldLemmas.{said_front, said_as, said_more}
use Rattle.daa_engine.proofs.say.say_bands.Goals as goal

pub returns-in_err-say_band : goal.returns-in_err-say_band
unfolding bands_text
returns-in_err-say_band g c =
    let all = bands_split c.args.board.now c.args.config.now c.args.kind _ _ c.loop-band.yielded
    c.loop-band.band-iterator c.runs-band-items.ensures c.into_iter-band-iterator.ensures.into_iter_gives
    c.loop-band.invariant.split in
    said_front (line_of c.args.kind) (bands_left c.args.board.now c.args.config.now c.args.kind 0) c.loop-band.yielded c.next.new.self c.in-Some.band _ _ c.from_residual.ensures.1
    (all ∙ ap (λ (bs : List Band). c.loop-band.yielded ++ bs) c.in-Some.ensures.steps) c.loop-band.invariant.said c.in_err-say_band.ensures

pub loop-band-preserved : goal.loop-band-preserved
loop-band-preserved g c = record {
  split = next_split _ c.loop-band.yielded c.loop-band.band-iterator c.next.new.self c.in-Some.band c.loop-band.invariant.split c.in-Some.ensures.steps;
  said = said_more (line_of c.args.kind) c.loop-band.yielded c.in-Some.band c.loop-band.invariant.said c.in_ok-say_band.ensures;
}

pub returns : goal.returns
unfolding bands_text
returns g c =
    let all = bands_split c.args.board.now c.args.config.now c.args.kind _ _ c.loop-band.yielded
    c.loop-band.band-iterator c.runs-band-items.ensures c.into_iter-band-iterator.ensures.into_iter_gives
    c.loop-band.invariant.split in
    let none = ap (λ (bs : List Band). c.loop-band.yielded ++ bs) c.in-None.ensures.steps.0 ∙ append-nil c.loop-band.yielded in
    said_as (ap (flat_map (line_of c.args.kind)) (sym (all ∙ none))) c.loop-band.invariant.said
