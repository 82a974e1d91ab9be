use Rattle.std.proofs.Common.{◌<◌, ◌∙◌, ℕ, List, length, sym, subst, arith}
use Rattle.std.specs.Prelude.{slice_index}
use Rattle.std.proofs.lemmas.List.{length-replicate}
use Rattle.daa_bands.specs.Board.{IsBoardOf}
use Rattle.daa_scan.specs.Adding.{AddsLevels}
use Rattle.daa_scan.specs.SceneState.{SceneState, MeetsAt}
use Rattle.daa_engine.specs.Covered.{CoveredAt}
use Rattle.daa_engine.proofs.Covered.{scene_of}
use Rattle.daa_engine.proofs.FillingLemmas.{aircraft_none, aircraft_more, aircraft_all}
use Rattle.daa_engine.proofs.filling.fill.Goals as goal

pub loop-place-init : goal.loop-place-init
loop-place-init c = record {
  board = aircraft_none (scene_of c.args.config.now c.args.picture.now) 2048;
  room = let n : ℕ = 2048 in let z : ℕ = 0 in length-replicate n z;
}

pub loop-place-preserved : goal.loop-place-preserved
loop-place-preserved c =
    let place : ℕ = c.loop-place.place in
    let old : List ℕ = c.loop-place.masks in
    let new : List ℕ = c.add_levels.new.masks in
    let adds = subst
    (λ (x : SceneState). (j : ℕ) → j < length new
    → AddsLevels (MeetsAt x j place) (length x.settings.levels) (slice_index old j) (slice_index new j))
    c.of-scene.ensures c.add_levels.ensures.masks in
    record {
      board = aircraft_more (scene_of c.args.config.now c.args.picture.now) place old new
          (omega (
            arith,
            c.add_levels.ensures.length,
            c.loop-place.invariant.room,
            c.total-total.ensures.value,
            c.total-total.ensures.few,
          ))
          c.loop-place.invariant.board adds;
      room = c.add_levels.ensures.length ∙ c.loop-place.invariant.room;
    }

pub returns : goal.returns
returns c =
    let b = c.loop-place.auto in let t = c.loop-place-test.false in
    subst (λ (board : List ℕ). IsBoardOf (CoveredAt c.args.config.now c.args.picture.now) c.args.config.now board) (sym c.of.ensures)
    (aircraft_all c.args.config.now c.args.picture.now c.loop-place.masks c.loop-place.place (omega arith) c.loop-place.invariant.board)
