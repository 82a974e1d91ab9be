-- What holds of the reports of the words of a moment holds of those of the moment and of its picture.
use Rattle.std.proofs.Common.{ℕ, [], ◌==◌, Option, Some, None, length}
use Rattle.std.proofs.lemmas.List.Elements.{All-push, All-from_recursion, All-map}
use Rattle.std.specs.Prelude.{IfOk, IfSome, is_some, nat_le, ok_or}
use Rattle.daa_state.specs.Alike.{OfWord, OfMoment, OfPicture, OfState, OfStep}
use Rattle.daa_state.specs.Bounds.{no_error}
use Rattle.daa_state.specs.MomentStep.{MomentsState, step, empty_moment, begun_moment, beside, with_own, with_traffic, has_id, ended_picture}
use Rattle.daa_state.specs.declared.moments.Moment.{Moment}
use Rattle.daa_state.specs.declared.word.Own as ownship
use Rattle.daa_state.specs.declared.word.ReportBounds.{ReportBounds}
use Rattle.daa_state.specs.declared.word.Traffic.{Traffic}
use Rattle.daa_state.specs.declared.word.Word.{Word}
use Rattle.daa_state.specs.declared.word.Word.TheVariants as says
use Rattle.daa_state.specs.declared.fault.LineFault.TheVariants.{NoOwn}
use Rattle.daa_state.proofs.CheckedLemmas.{IfOk-with, IfOk-if, IfOk-any}

module _ (Own : ReportBounds → Type 0) (Of : Traffic → Type 0) (none : Own no_error)
    (put : (bounds : ReportBounds) (aircraft : Traffic) → Own bounds → Of aircraft → Of (beside bounds aircraft)) where
  empty-alike : (time : ℕ) → OfMoment Own Of (empty_moment time)
  empty-alike time = record { own = none; traffic = All-from_recursion Of [] tt }

  begun_moment-alike : (moment : Option Moment) (last : Option ℕ) (time : ℕ) → IfOk (begun_moment moment last time) (OfMoment Own Of)
  unfolding begun_moment
  begun_moment-alike (Some moment) last time = tt
  begun_moment-alike None None time = empty-alike time
  begun_moment-alike None (Some last) time = IfOk-if (OfMoment Own Of) (nat_le time last) _ _ tt (empty-alike time)

  with_own-alike : (moment : Option Moment) (own : ownship.Own) (bounds : ReportBounds) → IfSome moment (OfMoment Own Of) → Own bounds
      → IfOk (with_own moment own bounds) (OfMoment Own Of)
  unfolding with_own
  with_own-alike None own bounds h k = tt
  with_own-alike (Some moment) own bounds h k = IfOk-if (OfMoment Own Of) (is_some moment.own) _ _ tt (record { own = k; traffic = h.traffic })

  with_traffic-alike : (moment : Option Moment) (traffic : Traffic) → IfSome moment (OfMoment Own Of) → Of traffic
      → IfOk (with_traffic moment traffic) (OfMoment Own Of)
  unfolding with_traffic
  with_traffic-alike None traffic h k = tt
  with_traffic-alike (Some moment) traffic h k =
      IfOk-if (OfMoment Own Of) (has_id traffic.id moment.traffic.items) _ _ tt (
      IfOk-if (OfMoment Own Of) (length moment.traffic.items == 64) _ _ tt
      (record { own = h.own; traffic = All-push Of moment.traffic.items traffic h.traffic k }))

  ended_picture-alike : (moment : Option Moment) → IfSome moment (OfMoment Own Of) → IfOk (ended_picture moment) (OfPicture Own Of)
  unfolding ended_picture
  ended_picture-alike None h = tt
  ended_picture-alike (Some moment) h =
      IfOk-any (OfPicture Own Of) (ok_or moment.own NoOwn) _ (λ own. All-map Of (beside moment.bounds) moment.traffic.items
      (λ k d lt. put moment.bounds _ h.own (h.traffic k d lt)))

  pub step-alike : (state : MomentsState) (word : Word) → OfState Own Of state → OfWord Own Of word → IfOk (step state word) (OfStep Own Of)
  unfolding step
  step-alike state (says.Moment time) h k =
      IfOk-with (OfMoment Own Of) (OfStep Own Of) (begun_moment state.moment state.last time) _ (begun_moment-alike state.moment state.last time)
      (λ moment m. record { state = m; picture = tt })
  step-alike state (says.Own own bounds) h k =
      IfOk-with (OfMoment Own Of) (OfStep Own Of) (with_own state.moment own bounds) _ (with_own-alike state.moment own bounds h k)
      (λ moment m. record { state = m; picture = tt })
  step-alike state (says.Traffic traffic) h k =
      IfOk-with (OfMoment Own Of) (OfStep Own Of) (with_traffic state.moment traffic) _ (with_traffic-alike state.moment traffic h k)
      (λ moment m. record { state = m; picture = tt })
  step-alike state (says.Format format) h k = IfOk-if (OfStep Own Of) (is_some state.moment) _ _ tt (record { state = h; picture = tt })
  step-alike state says.End h k =
      IfOk-with (OfPicture Own Of) (OfStep Own Of) (ended_picture state.moment) _ (ended_picture-alike state.moment h)
      (λ picture p. record { state = tt; picture = p })
  step-alike state says.Skip h k = record { state = h; picture = tt }
