use Rattle.std.proofs.Common.{◌<◌, ◌∙◌, ◌∷◌, [], arith, length}
use Rattle.std.proofs.lemmas.List.{length-set, length-append}
use Rattle.daa_numbers.proofs.BandLemmas.{fits, next_filled}
use Rattle.daa_numbers.proofs.PlaceLemmas.{set_past}
use Rattle.daa_engine.proofs.LoopLemmas.{next_split}
use Rattle.daa_numbers.proofs.banding.fill.Goals as goal

pub bounds-bands-count : goal.bounds-bands-count
bounds-bands-count c =
    let room : length c.loop-band.yielded < length c.args.bands.now =
    fits c.args.board.now c.args.config.now c.args.kind c.runs-band-items.result c.into_iter-band-iterator.result c.loop-band.yielded c.loop-band.band-iterator
    c.next.new.self c.in-Some.band (length c.args.bands.now) c.runs-band-items.ensures c.into_iter-band-iterator.ensures.into_iter_gives c.loop-band.invariant.split
    c.in-Some.ensures.steps c.requires in
    omega (arith, c.loop-band.invariant.counted, c.loop-band.invariant.same_size, room)

pub loop-band-preserved : goal.loop-band-preserved
loop-band-preserved c =
    let room : length c.loop-band.yielded < length c.args.bands.now =
    fits c.args.board.now c.args.config.now c.args.kind c.runs-band-items.result c.into_iter-band-iterator.result c.loop-band.yielded c.loop-band.band-iterator
    c.next.new.self c.in-Some.band (length c.args.bands.now) c.runs-band-items.ensures c.into_iter-band-iterator.ensures.into_iter_gives c.loop-band.invariant.split
    c.in-Some.ensures.steps c.requires in
    let within : c.loop-band.count < length c.loop-band.bands = omega (arith, c.loop-band.invariant.counted, c.loop-band.invariant.same_size, room) in
    record {
      split = next_split _ c.loop-band.yielded c.loop-band.band-iterator c.next.new.self c.in-Some.band c.loop-band.invariant.split c.in-Some.ensures.steps;
      same_size = length-set c.loop-band.bands c.loop-band.count c.band_numbers.result ∙ c.loop-band.invariant.same_size;
      within = omega (arith, within, length-set c.loop-band.bands c.loop-band.count c.band_numbers.result);
      counted = omega (arith, c.loop-band.invariant.counted, length-append c.loop-band.yielded (c.in-Some.band ∷ []));
      past = set_past c.loop-band.bands c.args.bands.now c.loop-band.count c.band_numbers.result c.loop-band.invariant.past;
      filled = next_filled c.loop-band.bands c.loop-band.count c.band_numbers.result c.loop-band.yielded c.in-Some.band within c.loop-band.invariant.filled c.band_numbers.ensures;
    }
