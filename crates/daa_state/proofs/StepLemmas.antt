-- What adding to the open moment makes of the moments.
use Rattle.std.proofs.Common.{◌≡◌, ℕ, Option, Some, None, Ok, refl}
use Rattle.std.specs.Prelude.{IsSomeAnd}
use Rattle.daa_state.specs.MomentStep.{step, stepped, with_own, with_traffic}
use Rattle.daa_state.specs.declared.moments.Moment.{Moment}
use Rattle.daa_state.specs.declared.word.Own.{Own}
use Rattle.daa_state.specs.declared.word.ReportBounds.{ReportBounds}
use Rattle.daa_state.specs.declared.word.Traffic.{Traffic}
use Rattle.daa_state.specs.declared.word.Word.TheVariants as says

pub step-Own : (moment : Option Moment) (last : Option ℕ) (format : ℕ) (own : Own) (bounds : ReportBounds) (new : Option Moment) → IsSomeAnd new (λ m. with_own moment own bounds ≡ Ok m)
    → step (record { moment = moment; last = last; format = format }) (says.Own own bounds) ≡ Ok (stepped (record { moment = new; last = last; format = format }) None)
unfolding step
step-Own moment last format own bounds None h = absurd h
step-Own moment last format own bounds (Some m) h = rw h refl

pub step-Traffic : (moment : Option Moment) (last : Option ℕ) (format : ℕ) (traffic : Traffic) (new : Option Moment) → IsSomeAnd new (λ m. with_traffic moment traffic ≡ Ok m)
    → step (record { moment = moment; last = last; format = format }) (says.Traffic traffic) ≡ Ok (stepped (record { moment = new; last = last; format = format }) None)
unfolding step
step-Traffic moment last format traffic None h = absurd h
step-Traffic moment last format traffic (Some m) h = rw h refl
