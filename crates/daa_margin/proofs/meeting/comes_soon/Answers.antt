use Rattle.daa_margin.proofs.meeting.comes_soon.Goals as goal

pub returns-then-comes_near : goal.returns-then-comes_near
returns-then-comes_near c = (
  (λ t. (c.comes_near.ensures.0 c.if-comes_near.true, c.is_soon_enough.ensures.0 t)),
  (λ h. c.is_soon_enough.ensures.1 h.1),
)
