use Rattle.std.proofs.Common.{◌≡◌, ◌∙◌, ◌<◌, ◌++◌, ◌∷◌, [], ℕ, List, sym, refl, ap, arith, length, Some}
use Rattle.std.specs.Prelude.{slice_get, slice_index_or}
use Rattle.std.proofs.lemmas.Option.{slice_get_read}
use Rattle.daa_state.specs.declared.word.Traffic.{Traffic}
use Rattle.daa_state.specs.Picture.{aircraft_of}
use Rattle.daa_scan.specs.Packed.{is_reached_at, numbers_below}
use Rattle.daa_scan.specs.SceneState.{SceneState}
use Rattle.daa_scan.proofs.Numbers.{none_below, count_small, tested_here, listed_here, passed_here}
use Rattle.daa_scan.proofs.scene.places_near.Goals as goal
use Rattle.daa_scan.proofs.scene.places_near.Goals.{then-is_near, else-is_near}

pub push-requires : goal.push-requires
push-requires c =
    let e = ap length c.loop-place.invariant in
    let few = count_small (is_reached_at (record { settings = c.args.config.now; picture = c.args.picture.now })) c.loop-place.place in
    (omega arith, omega (arith, e, few, c.loop-place-test.true, c.len-place-end.ensures.value, c.requires.picture.count))

pub loop-place-init : goal.loop-place-init
loop-place-init c = c.new-places.ensures ∙ sym (none_below _)

pub loop-place-preserved : goal.loop-place-preserved
loop-place-preserved c =
    let s : SceneState = record { settings = c.args.config.now; picture = c.args.picture.now } in
    let n : ℕ = c.loop-place.place in
    let in_list : n < length (aircraft_of s.picture) = omega (arith, c.loop-place-test.true, c.len-place-end.ensures.value) in
    let at : c.index-deref-place.result ≡ slice_index_or (aircraft_of s.picture) n c.index-deref-place.result = c.index-deref-place.is ∙ ap
    (λ (ts : List Traffic). slice_index_or ts n c.index-deref-place.result) c.deref.ensures.0 in
    let there : slice_get (aircraft_of s.picture) n ≡ Some c.index-deref-place.result = slice_get_read (aircraft_of s.picture) (length (aircraft_of s.picture)) n _ refl in_list at in
    let tested = tested_here s n c.index-deref-place.result there c.is_near.result c.is_near.ensures in
    elim c.if-is_near.branch [
      | then-is_near w ↦ (λ i. (w.places-is i).items) ∙ w.push.ensures.items ∙ ap (λ (xs : List ℕ). xs ++ (n ∷ [])) c.loop-place.invariant ∙ listed_here s n c.is_near.result tested w.if-is_near.true
      | else-is_near w ↦ (λ i. (w.places-is i).items) ∙ c.loop-place.invariant ∙ passed_here s n c.is_near.result tested w.if-is_near.false
    ]

pub returns : goal.returns
returns c =
    let all : c.loop-place.place ≡ length (aircraft_of c.args.picture.now) = omega (arith, c.loop-place-test.false, c.loop-place.auto.place-end, c.len-place-end.ensures.value) in
    c.loop-place.invariant ∙ ap (numbers_below (is_reached_at (record { settings = c.args.config.now; picture = c.args.picture.now }))) all
