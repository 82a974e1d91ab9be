-- The text that an empty sheet takes.
use Rattle.std.proofs.Common.{◌≡◌, ◌<◌, ◌≤◌, ◌++◌, ◌∙◌, ℕ, List, [], length, Some, Result, Ok, Err, sym, ap, subst, arith, inl, inr, length-append}
use Rattle.daa_config.specs.Settings.{Settings}
use Rattle.daa_engine.specs.Longest.{longest_moment}
use Rattle.daa_engine.specs.MomentText.{IsMomentText}
use Rattle.daa_io.specs.Faults.{HasRisen}
use Rattle.daa_report.specs.Says.{SaysSome}
use Rattle.daa_report.specs.declared.writers.SinkFault.{SinkFault}
use Rattle.daa_state.specs.declared.word.Picture.{Picture}

-- a count that has risen is past 0
risen_past : (f g : ℕ) → HasRisen f g → 0 < g
risen_past f g (inl risen) = omega (arith, risen)
risen_past f g (inr stuck) = omega (arith, stuck)

-- a full sheet has no front of a text
too_long : (new front unwritten text : List ℕ) → text ≡ front ++ unwritten → new ≡ [] ++ front → length new ≡ 130177 → length text ≤ 130176 → ⊥
too_long new front unwritten text split grown full short =
    omega (arith, ap length split, length-append front unwritten, ap length grown, full, short)

-- a write to it fails only where it is full, and no text is as long
pub said : (s : Settings) (picture : Picture) (old new : List ℕ) (f g : ℕ) (r : Result (Unit {0}) SinkFault) → old ≡ []
    → (0 < g → length new ≡ 130177) → ((text : List ℕ) → IsMomentText s picture text → length text ≤ longest_moment)
    → SaysSome {E = SinkFault} (IsMomentText s picture) (Some old) (Some new) f g r → IsMomentText s picture new
said s picture old new f g (Ok tt) empty full short (text, is, says) =
    let grown : new ≡ old ++ text = says.whole in
    let all : text ≡ new = sym (grown ∙ ap (λ (front : List ℕ). front ++ text) empty) in
    subst (IsMomentText s picture) all is
said s picture old new f g (Err e) empty full short (text, is, says) =
    let (front, unwritten, split, grown) = says.front in
    let from_empty : new ≡ [] ++ front = grown ∙ ap (λ (begun : List ℕ). begun ++ front) empty in
    absurd (too_long new front unwritten text split from_empty (full (risen_past f g says.cause.risen)) (short text is))
