use Rattle.std.proofs.Common.{◌≡◌, ◌+◌, ◌<◌, ◌≤◌, ◌∙◌, ℕ, List, refl, sym, subst, ap, arith, length, Some, ⊎_elim}
use Rattle.std.specs.Prelude.{slice_get, slice_index_or}
use Rattle.std.proofs.lemmas.Bool.{cases_lt}
use Rattle.std.proofs.lemmas.Option.{same_Some, slice_get_read, slice_get_within}
use Rattle.daa_state.specs.declared.word.Traffic.{Traffic}
use Rattle.daa_state.specs.Picture.{aircraft_of}
use Rattle.daa_scan.specs.Reach.{IsInReach}
use Rattle.daa_scan.specs.Trunks.{AreIdle}
use Rattle.daa_scan.proofs.needs.needs_of.Goals as goal

pub loop-place-init : goal.loop-place-init
loop-place-init c at aircraft b there reached = absurd (omega (arith, b))

equal : (a n : ℕ) → a < n + 1 → n ≤ a → a ≡ n
equal a n b g = omega (arith, b, g)

pub loop-place-preserved : goal.loop-place-preserved
loop-place-preserved c at aircraft b there reached =
    let n : ℕ = c.loop-place.place in
    let in_list : n < length (aircraft_of c.args.picture.now) = omega (arith, c.loop-place-test.true, c.len-place-end.ensures.value) in
    let is : c.index-deref-place.result ≡ slice_index_or (aircraft_of c.args.picture.now) n c.index-deref-place.result = c.index-deref-place.is ∙ ap
    (λ (ts : List Traffic). slice_index_or ts n c.index-deref-place.result) c.deref.ensures.0 in
    let here : slice_get (aircraft_of c.args.picture.now) n ≡ Some c.index-deref-place.result = slice_get_read (aircraft_of c.args.picture.now)
    (length (aircraft_of c.args.picture.now)) n _ refl in_list is in
    ⊎_elim
    (λ before kind e. c.loop-place.invariant at aircraft before there reached kind (c.with_aircraft-needs.ensures.more kind e))
    (λ g. let same : c.index-deref-place.result ≡ aircraft = same_Some c.index-deref-place.result aircraft
    (sym here ∙ ap (slice_get (aircraft_of c.args.picture.now)) (sym (equal at n b g)) ∙ there) in
    subst (λ (t : Traffic). IsInReach c.args.config.now c.args.picture.now.own t
    → AreIdle c.args.config.now c.args.picture.now.own t c.with_aircraft-needs.result) same c.with_aircraft-needs.ensures.idle reached)
    (cases_lt at n)

pub returns : goal.returns
returns c at aircraft there =
    let w = slice_get_within (aircraft_of c.args.picture.now) at aircraft there in
    c.loop-place.invariant at aircraft (omega (arith, w, c.loop-place-test.false, c.loop-place.auto.place-end, c.len-place-end.ensures.value)) there
