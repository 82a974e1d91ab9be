use Rattle.std.proofs.Common.{subst}
use Rattle.daa_bands.specs.Board.{HasLevelOn}
use Rattle.daa_resolve.specs.Resolution.{IsResolution}
use Rattle.daa_engine.specs.EngineState.{EngineState}
use Rattle.daa_engine.proofs.engine.Engine.resolution.Goals as goal

-- the board and the settings are those that contracts see
pub returns : goal.returns
returns c =
    subst (λ (e : EngineState). IsResolution (HasLevelOn e.board) e.settings c.args.own.now c.args.kind c.args.side c.nearest.result) c.self.view_is c.nearest.ensures
