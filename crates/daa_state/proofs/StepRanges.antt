-- A word in range leaves the open moment in range, and the picture that it ends is.
use Rattle.std.proofs.Common.{ℕ, ◌+◌, ◌≡◌, ◌≤◌, ◌≢◌, ◌∷◌, [], ◌++◌, ◌==◌, Bool, true, false, List, length, Option, Some, None, Ok, Err, refl, arith, length-append}
use Rattle.std.proofs.lemmas.Bool.Decides.{nat_tests}
use Rattle.std.proofs.lemmas.List.Elements.{All-push, All-from_recursion, All-map}
use Rattle.std.proofs.lemmas.List.{length-map}
use Rattle.std.specs.Prelude.{All, IfOk, IfSome, is_some, map, ok_or, nat_le, if◌then◌else◌}
use Rattle.daa_state.specs.InRange.{AreReportBoundsInRange, IsOwnInRange, IsTrafficInRange, IsWordInRange, IsPictureInRange}
use Rattle.daa_state.specs.Inside.InRange.{IsMomentInRange}
use Rattle.daa_state.specs.MomentStep.{MomentsState, Stepped, step, empty_moment, begun_moment, beside, with_own, with_traffic, has_id, ended_picture}
use Rattle.daa_state.specs.declared.moments.Moment.{Moment}
use Rattle.daa_state.specs.declared.word.Own.{Own}
use Rattle.daa_state.specs.declared.word.ReportBounds.{ReportBounds}
use Rattle.daa_state.specs.declared.word.Traffic.{Traffic}
use Rattle.daa_state.specs.declared.word.Word.{Word}
use Rattle.daa_state.specs.declared.word.Word.TheVariants as says
use Rattle.daa_state.specs.declared.fault.LineFault.TheVariants.{Full, NoOwn}
use Rattle.daa_state.proofs.CheckedLemmas.{IfOk-with, IfOk-if}
use Rattle.daa_state.proofs.WordRanges.{no_error-range}

-- its numbers are in range, and it has room for no more than 64 aircraft
pub record IsOpenInRange (moment : Moment) : Type 0 where
  pub numbers : IsMomentInRange moment
  pub few : length moment.traffic.items ≤ 64

-- the open moment is in range, if there is one
abbrev pub IsStateInRange : MomentsState → Type 0
IsStateInRange state = IfSome state.moment IsOpenInRange

-- what a step leaves
pub record IsSteppedInRange (next : Stepped) : Type 0 where
  pub state : IsStateInRange next.state
  pub picture : IfSome next.picture IsPictureInRange

empty-range : (time : ℕ) → IsOpenInRange (empty_moment time)
empty-range time = record { numbers = record { own = tt; bounds = no_error-range; traffic = All-from_recursion IsTrafficInRange [] tt }; few = omega arith }

begun_moment-range : (moment : Option Moment) (last : Option ℕ) (time : ℕ) → IfOk (begun_moment moment last time) IsOpenInRange
unfolding begun_moment
begun_moment-range (Some moment) last time = tt
begun_moment-range None None time = empty-range time
begun_moment-range None (Some last) time = IfOk-if IsOpenInRange (nat_le time last) _ _ tt (empty-range time)

with_own-range : (moment : Option Moment) (own : Own) (bounds : ReportBounds) → IfSome moment IsOpenInRange → IsOwnInRange own → AreReportBoundsInRange bounds
    → IfOk (with_own moment own bounds) IsOpenInRange
unfolding with_own
with_own-range None own bounds h k m = tt
with_own-range (Some moment) own bounds h k m =
    IfOk-if IsOpenInRange (is_some moment.own) _ _ tt (record { numbers = record { own = k; bounds = m; traffic = h.numbers.traffic }; few = h.few })

with_traffic-range : (moment : Option Moment) (traffic : Traffic) → IfSome moment IsOpenInRange → IsTrafficInRange traffic → IfOk (with_traffic moment traffic) IsOpenInRange
unfolding with_traffic
with_traffic-range None traffic h k = tt
with_traffic-range (Some moment) traffic h k = IfOk-if IsOpenInRange (has_id traffic.id moment.traffic.items) _ _ tt (go (length moment.traffic.items == 64) refl)
  where
    room : (n : ℕ) → (n == 64) ≡ false → n ≢ 64
    room n e = grind (arith, nat_tests)

    go : (b : Bool) → (length moment.traffic.items == 64) ≡ b
        → IfOk (if b then Err Full else Ok (record moment { traffic = record { items = moment.traffic.items ++ traffic ∷ [] } })) IsOpenInRange
    go true e = tt
    go false e =
        let l = length-append moment.traffic.items (traffic ∷ []) in
        let n = room (length moment.traffic.items) e in
        record {
          numbers = record { own = h.numbers.own; bounds = h.numbers.bounds; traffic = All-push IsTrafficInRange moment.traffic.items traffic h.numbers.traffic k };
          few = one_more (length moment.traffic.items) _ h.few n l;
        }
      where
        one_more : (n m : ℕ) → n ≤ 64 → n ≢ 64 → m ≡ n + 1 → m ≤ 64
        one_more n m h k e = grind arith

-- aircraft in range stay so beside bounds in range
pub beside-range : (own : ReportBounds) (traffic : List Traffic) → AreReportBoundsInRange own → All IsTrafficInRange traffic
    → All IsTrafficInRange (map (beside own) traffic)
beside-range own traffic bounds range =
    All-map IsTrafficInRange (beside own) traffic (λ k d lt. one _ (range k d lt))
  where
    one : (aircraft : Traffic) → IsTrafficInRange aircraft → IsTrafficInRange (beside own aircraft)
    one aircraft h = record {
      id = h.id;
      x = h.x;
      y = h.y;
      alt = h.alt;
      vx = h.vx;
      vy = h.vy;
      vs = h.vs;
      age = h.age;
      bounds = record { own = bounds; aircraft = h.bounds.aircraft };
    }

own-range : (own : Option Own) → IfSome own IsOwnInRange → IfOk (ok_or own NoOwn) IsOwnInRange
own-range None h = tt
own-range (Some own) h = h

ended_picture-range : (moment : Option Moment) → IfSome moment IsOpenInRange → IfOk (ended_picture moment) IsPictureInRange
unfolding ended_picture
ended_picture-range None h = tt
ended_picture-range (Some moment) h =
    IfOk-with IsOwnInRange IsPictureInRange (ok_or moment.own NoOwn) _ (own-range moment.own h.numbers.own) (λ own k.
    record {
      own = k;
      traffic = beside-range moment.bounds moment.traffic.items h.numbers.bounds h.numbers.traffic;
      count = rw (length-map moment.traffic.items (beside moment.bounds)) h.few;
    })

pub step-range : (state : MomentsState) (word : Word) → IsStateInRange state → IsWordInRange word → IfOk (step state word) IsSteppedInRange
unfolding step
step-range state (says.Moment time) h k =
    IfOk-with IsOpenInRange IsSteppedInRange (begun_moment state.moment state.last time) _ (begun_moment-range state.moment state.last time) (λ moment m. record { state = m; picture = tt })
step-range state (says.Own own bounds) h k =
    IfOk-with IsOpenInRange IsSteppedInRange (with_own state.moment own bounds) _ (with_own-range state.moment own bounds h k.0 k.1) (λ moment m. record { state = m; picture = tt })
step-range state (says.Traffic traffic) h k =
    IfOk-with IsOpenInRange IsSteppedInRange (with_traffic state.moment traffic) _ (with_traffic-range state.moment traffic h k) (λ moment m. record { state = m; picture = tt })
step-range state (says.Format format) h k = IfOk-if IsSteppedInRange (is_some state.moment) _ _ tt (record { state = h; picture = tt })
step-range state says.End h k =
    IfOk-with IsPictureInRange IsSteppedInRange (ended_picture state.moment) _ (ended_picture-range state.moment h) (λ picture p. record { state = tt; picture = p })
step-range state says.Skip h k = record { state = h; picture = tt }
