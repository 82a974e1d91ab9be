use Rattle.std.proofs.Common.{ℕ, List, ◌<◌, sym, ap, subst, ◌∙◌, length}
use Rattle.std.specs.Prelude.{slice_index}
use Rattle.daa_state.specs.Picture.{aircraft_of}
use Rattle.daa_scan.specs.Packed.{places_in_reach}
use Rattle.daa_scan.proofs.Numbers.{place_within}
use Rattle.daa_scan.proofs.scene.Scene.place_in_list.Goals as goal

pub returns-clause-there : goal.returns-clause-there
returns-clause-there c = subst (λ (xs : List ℕ). slice_index xs c.args.index < length (aircraft_of c.args.self.now.picture))
    (sym (c.as_slice.ensures.value ∙ c.self.invariant.found ∙ ap places_in_reach c.self.view_is)) (place_within c.args.self.now c.args.index c.requires)
