-- What the ends of the shared value do keeps its rule.
use Rattle.std.proofs.Common.{◌≡◌, ℕ, ◌≢◌, List, [], ◌∷◌, ◌++◌, set, refl, subst, ⊎_elim, Option, Some, None}
use mathlib.Core.Option.{some}
use lib.ListN.{get_elem?}
use Rattle.left_right.specs.Register.{Admits, TurnsAt, Turns, Forks, Merges}
use Rattle.atomic_table.proofs.Lists.{at_set, at_snoc}
use Rattle.daa_screen.specs.Story.{Story, GoesOn}
use Rattle.daa_screen.specs.Inside.Growing.{IsBehind, IsGrowing, Looks}
use Rattle.daa_screen.proofs.KeptPictures.{goes_on_itself, goes_on_and_on}

abbrev pub End : Type 0
End = Option Story

-- what is shown next goes on from what is shown
pub still_behind : (shown next : Story) → GoesOn shown next → (seen : End) → IsBehind shown seen → IsBehind next seen
still_behind shown next on None behind = tt
still_behind shown next on (Some s) behind = goes_on_and_on s shown next behind on

set_behind : (shown : Story) (ends : List End) (seat : ℕ) (seen : End) → IsGrowing shown ends → IsBehind shown seen → IsGrowing shown (set ends seat seen)
set_behind shown ends seat seen all behind j other at =
    ⊎_elim (λ (t : (j ≡ seat) × (seen ≡ other)). subst (IsBehind shown) t.1 behind)
    (λ (t : (j ≢ seat) × (get_elem? ends j ≡ some other)). all j other t.1)
    (at_set ends seat j seen other at)

more_behind : (shown : Story) (ends : List End) (seen : End) → IsGrowing shown ends → IsBehind shown seen → IsGrowing shown (ends ++ seen ∷ [])
more_behind shown ends seen all behind j other at =
    ⊎_elim (λ (e : get_elem? ends j ≡ some other). all j other e) (λ (e : seen ≡ other). subst (IsBehind shown) e behind) (at_snoc ends seen other j at)

next_behind : (shown next : Story) (ends : List End) → GoesOn shown next → IsGrowing shown ends → IsGrowing next ends
next_behind shown next ends on all j other at = still_behind shown next on other (all j other at)

-- an end that has seen nothing may come at any time
pub admits : Admits IsGrowing None
admits shown ends all = more_behind shown ends None all tt

pub looks : (seat : ℕ) (seen : End) → Turns IsGrowing seat seen (λ shown. shown) (λ before old shown after. Looks before shown after)
looks seat seen shown ends all at = (
  Some shown,
  set_behind shown ends seat (Some shown) all (goes_on_itself shown),
  record { seen = refl; behind = all seat seen at },
)

pub publishes : (seat : ℕ) (seen : End) (shown next : Story) → GoesOn shown next → TurnsAt IsGrowing seat seen shown next (λ before old new after. after ≡ Some new)
publishes seat seen shown next on ends all at = (
  Some next,
  set_behind next ends seat (Some next) (next_behind shown next ends on all) (goes_on_itself next),
  refl,
)

pub forks : (seat : ℕ) (seen : End) → Forks IsGrowing seat seen seen seen
forks seat seen shown ends all at =
    let behind = all seat seen at in
    more_behind shown (set ends seat seen) seen (set_behind shown ends seat seen all behind) behind

pub merges : (seat : ℕ) (seen : End) (other : ℕ) (given : End) → Merges IsGrowing seat seen other given given None
merges seat seen other given shown ends all at apart there =
    let behind : IsBehind shown given =
    ⊎_elim (λ (t : (other ≡ seat) × (given ≡ given)). absurd (apart t.0)) (λ (t : (other ≢ seat) × (get_elem? ends other ≡ some given)). all other given t.1)
    (at_set ends seat other given given there) in
    set_behind shown (set ends seat given) other None (set_behind shown ends seat given all behind) tt
