use Rattle.daa_state.specs.declared.word.Traffic.{Traffic}
use Rattle.daa_legs.specs.Meeting.{ViolatesOn}
use Rattle.daa_recovery.proofs.ClosingLevels.{IsNoAircraft}
use Rattle.daa_recovery.proofs.outlook.Outlook.is_near.Given as goal

-- the leg comes into the cylinder round none of the aircraft so far
abbrev pub invariant-loop-place : goal.invariant-loop-place
invariant-loop-place l = IsNoAircraft l.self (λ (aircraft : Traffic). ViolatesOn l.self.settings l.self.picture.own l.fn.candidate aircraft l.self.cylinder l.fn.k) l.place
