-- Lines of formats 1 and 2, and steps by words whose reports are taken as the truth.
use Rattle.std.proofs.Common.{ℕ, ◌≡◌, ◌≤◌, ◌==◌, ◌∷◌, [], List, false, refl, ap, arith}
use Rattle.std.proofs.lemmas.Bool.Decides.{nat_tests}
use Rattle.std.specs.Prelude.{IfOk, Ok, Err, if◌then◌else◌}
use Rattle.daa_state.specs.Bounds.{no_error}
use Rattle.daa_state.specs.Sure.{IsSureReport, IsSure, IsSureWord}
use Rattle.daa_state.specs.Inside.Texts.{Bytes}
use Rattle.daa_state.specs.Id.{is_id}
use Rattle.daa_state.specs.Laws.{Formats1And2SayNoBounds, NoBoundsLeaveNoBounds}
use Rattle.daa_state.specs.MomentStep.{beside}
use Rattle.daa_state.specs.Number.{number_in, count_in}
use Rattle.daa_state.specs.Ranges.{positions, altitudes, speeds, vertical_speeds, ages}
use Rattle.daa_state.specs.WordOf.{aircraft, aged_traffic_of}
use Rattle.daa_state.specs.declared.fault.LineFault.TheVariants.{BadId}
use Rattle.daa_state.specs.declared.word.PairBounds.{PairBounds}
use Rattle.daa_state.specs.declared.word.ReportBounds.{ReportBounds}
use Rattle.daa_state.specs.declared.word.Traffic.{Traffic}
use Rattle.daa_state.proofs.AlikeSteps.{step-alike}
use Rattle.daa_state.proofs.AlikeWords.{traffic_of-alike, word_of-alike}
use Rattle.daa_state.proofs.CheckedLemmas.{IfOk-with, IfOk-if, IfOk-any}

aircraft-sure : (id x y alt vx vy vs : Bytes) → IfOk (aircraft id x y alt vx vy vs) IsSure
unfolding aircraft
aircraft-sure id x y alt vx vy vs =
    IfOk-any _ (if is_id id then Ok id else Err BadId) _ (λ id. IfOk-any _ (number_in positions x) _ (λ x. IfOk-any _ (number_in positions y) _ (λ y. IfOk-any _ (number_in altitudes alt) _ (λ alt.
    IfOk-any _ (number_in speeds vx) _ (λ vx. IfOk-any _ (number_in speeds vy) _ (λ vy. IfOk-any _ (number_in vertical_speeds vs) _ (λ vs. refl)))))))

aged_traffic_of-sure : (fields : List Bytes) → IfOk (aged_traffic_of fields) IsSureWord
unfolding aged_traffic_of
aged_traffic_of-sure (a ∷ b ∷ c ∷ d ∷ e ∷ f ∷ g ∷ s ∷ []) =
    IfOk-with IsSure _ (aircraft a b c d e f g) _ (aircraft-sure a b c d e f g) (λ traffic h. IfOk-any _ (count_in ages s) _ (λ seconds. h))
aged_traffic_of-sure _ = tt

other_format : (format : ℕ) → format ≤ 2 → (format == 3) ≡ false
other_format format h = grind (arith, nat_tests)

pub word_of-sure : Formats1And2SayNoBounds
word_of-sure line format few =
    word_of-alike IsSureReport IsSure refl aircraft-sure format line (other_format format few)
    (λ parts. IfOk-if _ (format == 2) _ _ (aged_traffic_of-sure parts) (traffic_of-alike IsSureReport IsSure refl aircraft-sure parts))

-- bounds without an error beside an aircraft without an error
put-sure : (own : ReportBounds) (aircraft : Traffic) → IsSureReport own → IsSure aircraft → IsSure (beside own aircraft)
put-sure own aircraft h k = rw h (ap (λ (bounds : PairBounds). record { own = no_error; aircraft = bounds.aircraft }) k)

pub step-sure : NoBoundsLeaveNoBounds
step-sure = step-alike IsSureReport IsSure refl put-sure
