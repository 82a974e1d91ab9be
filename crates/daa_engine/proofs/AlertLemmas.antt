-- What is found of one aircraft more.
use Rattle.std.proofs.Common.{◌≡◌, ◌<◌, ◌+◌, ◌++◌, ◌∙◌, ℕ, List, [], ◌∷◌, length, sym, ap, subst, arith, below_more}
use Rattle.std.specs.Prelude.{slice_index_or}
use Rattle.std.proofs.lemmas.List.{length_push, get_or_push, get_or_append_left, get_or_default}
use Rattle.daa_config.specs.Settings.{Settings}
use Rattle.daa_state.specs.declared.word.Own.{Own}
use Rattle.daa_state.specs.declared.word.Traffic.{Traffic}
use Rattle.daa_engine.specs.declared.alerts.AircraftAlert.{AircraftAlert}
use Rattle.daa_engine.specs.Inside.Findings.{IsAircraftAlert, AreAircraftAlerts}

module _ (s : Settings) (own : Own) (traffic : List Traffic) (n : ℕ) (alerts : List AircraftAlert) where
  pub alerts_more : (t : Traffic) (f : AircraftAlert) → AreAircraftAlerts s own traffic n alerts → n < length traffic → t ≡ slice_index_or traffic n t → IsAircraftAlert s own t f
      → AreAircraftAlerts s own traffic (n + 1) (alerts ++ f ∷ [])
  alerts_more t f h lt at k = record {
    many = length_push alerts f ∙ ap (λ (x : ℕ). x + 1) h.many;
    each = λ i d e le.
        below_more (λ (j : ℕ). IsAircraftAlert s own (slice_index_or traffic j d) (slice_index_or (alerts ++ f ∷ []) j e)) n
        (λ j below. let m = h.many in
        subst (IsAircraftAlert s own (slice_index_or traffic j d)) (sym (get_or_append_left alerts (f ∷ []) e j (omega arith))) (h.each j d e below))
        (here d e) i le;
  }
    where
      here : (d : Traffic) (e : AircraftAlert) → IsAircraftAlert s own (slice_index_or traffic n d) (slice_index_or (alerts ++ f ∷ []) n e)
      here d e =
          let a : slice_index_or traffic n d ≡ t = get_or_default traffic n d t lt ∙ sym at in
          let b : slice_index_or (alerts ++ f ∷ []) n e ≡ f = get_or_push alerts f e n h.many in
          subst (λ (x : Traffic). IsAircraftAlert s own x (slice_index_or (alerts ++ f ∷ []) n e)) (sym a) (subst (IsAircraftAlert s own t) (sym b) k)
