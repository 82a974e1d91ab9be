use Rattle.std.proofs.Common.{◌<◌, pos, ◌≤ℤ◌}
use Rattle.daa_config.specs.declared.level.Level.{Level}
use Rattle.daa_legs.specs.Meeting.{ViolatesOn}
use Rattle.daa_recovery.proofs.ClosingLevels.{IsNoLevel}
use Rattle.daa_recovery.proofs.outlook.Outlook.is_closed_by.Given as goal

-- none of the levels so far that close is violated on the leg
abbrev pub invariant-loop-l : goal.invariant-loop-l
invariant-loop-l l = record {
  none : IsNoLevel l.self
      (λ (level : Level). (l.fn.k < level.lookahead) × ViolatesOn l.self.settings l.self.picture.own l.fn.candidate l.aircraft level.volume l.fn.k) l.l;
  begun : l.self.settings.numbers.resolve ≤ℤ pos l.l;
}
