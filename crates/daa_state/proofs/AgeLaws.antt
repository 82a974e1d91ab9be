-- Lines of format 1, and steps by words of age 0.
use Rattle.std.proofs.Common.{refl}
use Rattle.std.specs.Prelude.{IfOk, Ok, Err, if◌then◌else◌}
use Rattle.daa_state.specs.Current.{IsAny, IsCurrent}
use Rattle.daa_state.specs.Inside.Texts.{Bytes}
use Rattle.daa_state.specs.Id.{is_id}
use Rattle.daa_state.specs.Laws.{Format1SaysNoAges, NoAgesLeaveNoAges}
use Rattle.daa_state.specs.Number.{number_in}
use Rattle.daa_state.specs.Ranges.{positions, altitudes, speeds, vertical_speeds}
use Rattle.daa_state.specs.WordOf.{aircraft}
use Rattle.daa_state.specs.declared.fault.LineFault.TheVariants.{BadId}
use Rattle.daa_state.proofs.AlikeSteps.{step-alike}
use Rattle.daa_state.proofs.AlikeWords.{traffic_of-alike, word_of-alike}
use Rattle.daa_state.proofs.CheckedLemmas.{IfOk-any}

aircraft-current : (id x y alt vx vy vs : Bytes) → IfOk (aircraft id x y alt vx vy vs) IsCurrent
unfolding aircraft
aircraft-current id x y alt vx vy vs =
    IfOk-any _ (if is_id id then Ok id else Err BadId) _ (λ id. IfOk-any _ (number_in positions x) _ (λ x. IfOk-any _ (number_in positions y) _ (λ y. IfOk-any _ (number_in altitudes alt) _ (λ alt.
    IfOk-any _ (number_in speeds vx) _ (λ vx. IfOk-any _ (number_in speeds vy) _ (λ vy. IfOk-any _ (number_in vertical_speeds vs) _ (λ vs. refl)))))))

pub word_of-current : Format1SaysNoAges
word_of-current line = word_of-alike IsAny IsCurrent tt aircraft-current 1 line refl (traffic_of-alike IsAny IsCurrent tt aircraft-current)

pub step-current : NoAgesLeaveNoAges
step-current = step-alike IsAny IsCurrent tt (λ bounds aircraft own age. age)
