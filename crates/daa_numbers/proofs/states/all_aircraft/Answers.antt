use Rattle.std.proofs.Common.{◌≡◌, Bool, true, false, IsTrue, refl}
use Rattle.daa_numbers.specs.Refusal.{bad_id_from}
use Rattle.daa_numbers.proofs.RefusalLemmas.{bad_found, bad_passed, bad_past}
use Rattle.daa_numbers.proofs.TrafficLemmas.{next_all}
use Rattle.daa_numbers.proofs.states.all_aircraft.Goals as goal

is-false : (b : Bool) → (IsTrue b → ⊥) → b ≡ false
is-false true h = absurd (h refl)
is-false false h = refl

pub loop-place-preserved : goal.loop-place-preserved
loop-place-preserved c = record {
  so_far = next_all c.args.traffic.now c.loop-place.all.items c.push.new.self.items c.loop-place.place _ c.in-Some.one c.loop-place-test.true c.loop-place.invariant.so_far
      c.in-Some.ensures.1 c.push.ensures.items;
  left = bad_passed c.args.traffic.now c.loop-place.place _ (bad_id_from 0 c.args.traffic.now) c.loop-place-test.true c.in-Some.ensures.0
      c.loop-place.invariant.left;
}

pub returns-in_default-clause-refused : goal.returns-in_default-clause-refused
returns-in_default-clause-refused c =
    bad_found c.args.traffic.now c.loop-place.place _ (bad_id_from 0 c.args.traffic.now) c.loop-place-test.true (is-false _ c.in_default.ensures)
    c.loop-place.invariant.left

pub returns-clause-sound : goal.returns-clause-sound
returns-clause-sound c =
    bad_past c.args.traffic.now c.loop-place.place (bad_id_from 0 c.args.traffic.now) c.loop-place-test.false c.loop-place.invariant.left
