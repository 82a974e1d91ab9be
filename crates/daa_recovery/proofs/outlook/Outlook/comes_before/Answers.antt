use Rattle.std.proofs.Common.{rules, ◌∙◌, Bool, ℤ, ap, w32, w64, FitsSigned}
use Rattle.std.specs.Prelude.{int_lt, if◌then◌else◌}
use Rattle.std.proofs.lemmas.Int.{to_z-of_z}
use Rattle.daa_recovery.specs.OutlookState.{OutlookState}
use Rattle.daa_config.specs.declared.kind.Kind.{Kind}
use Rattle.daa_recovery.specs.Order.{way_of, place_of_way}
use Rattle.daa_recovery.specs.Inside.Search.{placed}
use Rattle.daa_recovery.proofs.outlook.Outlook.comes_before.Goals as goal

-- the place of a value from this present one, with or without `nearest`
abbrev place_by : Bool → Kind → ℤ → ℤ → ℤ
place_by nearest kind now value = if nearest then place_of_way (way_of kind now value) else value

pub returns : goal.returns
returns c =
    let kind = c.args.kind in
    let f0 : FitsSigned w32 c.present-now.result = search rules in
    let f1 : FitsSigned w64 c.place.result = search rules in
    let f2 : FitsSigned w64 c.place-2.result = search rules in
    let now = to_z-of_z w32 c.present-now.result f0 ∙ c.present-now.ensures in
    let one = c.place.ensures ∙ (λ i. place_by (c.nearest-nearest.ensures.value i) kind (now i) c.args.value.now) ∙ ap (λ (p : OutlookState). placed p kind c.args.value.now) c.self.view_is in
    let two = c.place-2.ensures ∙ (λ i. place_by (c.nearest-nearest.ensures.value i) kind (now i) c.args.other.now) ∙ ap (λ (p : OutlookState). placed p kind c.args.other.now) c.self.view_is in
    λ i. int_lt ((to_z-of_z w64 c.place.result f1 ∙ one) i) ((to_z-of_z w64 c.place-2.result f2 ∙ two) i)
