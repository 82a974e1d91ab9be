use Rattle.std.proofs.Common.{◌≡◌, ◌∙◌, ℕ, pos, ◌+ℤ◌, ◌*ℤ◌}
use Rattle.daa_fixed.specs.Toward.{toward_of}
use Rattle.daa_config.specs.declared.config.Rates.{Rates}
use Rattle.daa_state.specs.declared.word.Own.{Own}
use Rattle.daa_last.specs.Delayed.{height_since}
use Rattle.daa_last.proofs.Delays.{held_height}
use Rattle.daa_last.proofs.laws.worked_examples.Goals as goal

-- from 66000 units toward 60000, by 1000 a second
known : (own : Own) (rates : Rates) → own.alt ≡ pos 1000 → own.vs ≡ pos 3000 → rates.alt ≡ pos 1000 → (j : ℕ)
    → height_since own rates 2 (pos 1000) j ≡ toward_of (pos 66000) (pos 60000) (pos j *ℤ pos 1000)
known own rates a v r j =
    let h = held_height own rates 2 in
    (λ i. toward_of (h i) (pos 60000) (pos j *ℤ r i)) ∙ (λ i. toward_of (pos 60 *ℤ a i +ℤ pos 2 *ℤ v i) (pos 60000) (pos j *ℤ pos 1000))

pub returns-clause-begins : goal.returns-clause-begins
returns-clause-begins c own rates a v r = known own rates a v r 0

pub returns-clause-sinks : goal.returns-clause-sinks
returns-clause-sinks c own rates a v r = known own rates a v r 3

pub returns-clause-arrives : goal.returns-clause-arrives
returns-clause-arrives c own rates a v r = known own rates a v r 6

pub returns-clause-stays : goal.returns-clause-stays
returns-clause-stays c own rates a v r = known own rates a v r 9
