use Rattle.std.proofs.Common.{◌↔◌, ◌∙◌, ℕ, List, subst, Contains}
use Rattle.std.specs.Prelude.{IsTrue}
use Rattle.daa_scan.specs.SceneState.{SceneState, MeetsAt}
use Rattle.daa_scan.specs.Reach.{IsInReachAt}
use Rattle.daa_scan.proofs.Numbers.{listed_is}
use Rattle.daa_scan.proofs.Reaching.{none_is_met_out_of_reach}
use Rattle.daa_scan.proofs.scene.Scene.in_reach.Goals as goal
use Rattle.daa_scan.proofs.scene.Scene.in_reach.Goals.{After-is_among}

abbrev shown : After-is_among → SceneState
shown c = record { settings = c.self.inside.config.now; picture = c.self.inside.picture.now }

exact : (c : After-is_among) → IsTrue c.is_among.result ↔ IsInReachAt (shown c) c.args.aircraft
exact c =
    let among = subst (λ (places : List ℕ). IsTrue c.is_among.result ↔ Contains places c.args.aircraft) (c.as_slice.ensures.value ∙ c.self.invariant.found) c.is_among.ensures in
    let listed = listed_is (shown c) c.args.aircraft in (
      (λ t. listed.0 (among.0 t)),
      (λ r. among.1 (listed.1 r)),
    )

meets : (c : After-is_among) (index l : ℕ) → MeetsAt (shown c) index c.args.aircraft l → IsTrue c.is_among.result
meets c index l m = (exact c).1 (none_is_met_out_of_reach (shown c) c.self.invariant.accepted c.self.invariant.picture index c.args.aircraft l m)

pub returns-clause-exact : goal.returns-clause-exact
returns-clause-exact c = subst (λ (s : SceneState). IsTrue c.is_among.result ↔ IsInReachAt s c.args.aircraft) c.self.view_is (exact c)

pub returns-clause-meets_in_reach : goal.returns-clause-meets_in_reach
returns-clause-meets_in_reach c = subst (λ (s : SceneState). (index l : ℕ) → MeetsAt s index c.args.aircraft l → IsTrue c.is_among.result) c.self.view_is (meets c)
