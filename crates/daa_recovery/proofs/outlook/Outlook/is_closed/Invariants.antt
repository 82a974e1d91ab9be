use Rattle.daa_state.specs.declared.word.Traffic.{Traffic}
use Rattle.daa_recovery.specs.Inside.Legs.{IsClosedOn}
use Rattle.daa_recovery.proofs.ClosingLevels.{IsNoAircraft}
use Rattle.daa_recovery.proofs.outlook.Outlook.is_closed.Given as goal

-- none of the aircraft so far closes on the leg
abbrev pub invariant-loop-place : goal.invariant-loop-place
invariant-loop-place l = IsNoAircraft l.self (λ (aircraft : Traffic). IsClosedOn l.self l.fn.candidate aircraft l.fn.k) l.place
