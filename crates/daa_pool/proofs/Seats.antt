-- A seat is cut in two, and a seat is joined to another.
use Rattle.std.proofs.Common.{◌≡◌, ℕ, ◌+◌, ◌<◌, ◌≤◌, inl, inr, ⊎_elim, Bool, true, false}
use Rattle.std.proofs.Common.{eqb, cond, List, [], ◌∷◌, ◌++◌, length, set, sym, refl, ap, ◌∙◌, subst, arith}
use mathlib.Core.Option.{Option, some, some-injective}
use mathlib.Core.Logic.{dite}
use native.Mathlib.Decide.{ℕ_discrete}
use lib.ListN.{get_elem?}
use Rattle.std.proofs.lemmas.Bool.{true≢false}
use Rattle.std.proofs.lemmas.List.Sums.{sum_by_push}
use Rattle.atomic_table.specs.Table.{Splits}
use Rattle.atomic_table.proofs.Lists.{at_set, set_here, set_else, at_longer, at_last}
use Rattle.daa_range.specs.Range.{RangeState}
use Rattle.daa_range.specs.Word.{unpacked}
use Rattle.daa_schedule.specs.CoreState.{range_at, hand_at, has_ended, opened}
use Rattle.daa_schedule.specs.Runs.{steps_of}
use Rattle.daa_pool.specs.declared.view.View.{View}
use Rattle.daa_pool.specs.declared.pool.Size.{Size}
use Rattle.daa_pool.specs.View.{times}
use Rattle.daa_pool.specs.Inside.View.{left_behind, next_seat, HasNumber}
use Rattle.daa_pool.specs.Inside.Rule.{Pools, IsSeated, IsHeld, Ruled, Holds}
use Rattle.daa_pool.proofs.Lists.{Contains-nil, at_end, found_at, total_set}
use Rattle.daa_pool.proofs.Views.{not_blank}
use Rattle.daa_pool.proofs.StepDuties.{seated_anew}
use Rattle.daa_pool.proofs.History.{never_looked}

module _ (workers : ℕ) (s : Pools) (r : Ruled workers s) (id : ℕ) (v : View) (at : get_elem? s.views id ≡ some v) (alive : v.live ≡ true)
    (carries : v.carries ≡ true) (room : v.made < workers) where
  own : IsSeated r.core r.log workers r.made r.carrier r.holder id v
  own = r.seats id v at alive

  made_is : v.made ≡ r.made
  made_is = let o = own in (o.carries carries).1

  carrier_is : id ≡ r.carrier
  carrier_is = let o = own in (o.carries carries).0

  abbrev vs : List View
  vs = set s.views id (left_behind v)

  abbrev last : ℕ
  last = length vs

  inside : id < length s.views
  inside = (found_at s.views id v v at).0

  same_length : last ≡ length s.views
  same_length = Rattle.std.proofs.Common.length-set s.views id (left_behind v)

  holder' : ℕ → ℕ
  holder' n = cond (eqb n r.made) last (r.holder n)

  holder-old : (n : ℕ) → n < r.made → holder' n ≡ r.holder n
  unfolding holder'
  holder-old n h = ap (λ (b : Bool). cond b last (r.holder n)) (Rattle.std.proofs.Common.ne_eqb n r.made (λ e. absurd (omega arith)))

  holder-new : holder' r.made ≡ last
  unfolding holder'
  holder-new = ap (λ (b : Bool). cond b last (r.holder r.made)) (Rattle.std.proofs.Common.eq-eqb r.made r.made refl)

  room' : r.made < workers
  room' = let e = made_is in omega arith

  fresh : IsSeated r.core r.log workers (r.made + 1) last holder' last (next_seat v)
  fresh = let o = own in let u = r.unmade r.made (omega arith) room' in let sh = r.shows in let e = made_is in
      let range : range_at r.core r.made ≡ unpacked 0 = sh.ranges r.made room' ∙ ap unpacked u.word in
      record {
        number = λ n h. ⊎_elim (λ t. let t' : v.made ≡ n = t in (omega arith, ap holder' (sym t ∙ made_is) ∙ holder-new)) (λ h. absurd (Contains-nil h.0 h.1)) h;
        carries = λ _. (refl, ap (λ (n : ℕ). n + 1) made_is);
        crew = o.crew;
        answers = o.answers;
        hand = ap (λ (n : ℕ). hand_at r.core n) made_is ∙ u.hand;
        over = ap (λ (n : ℕ). has_ended r.core n) made_is ∙ u.going;
        part = record { moves = ap (λ (n : ℕ). steps_of n r.log) made_is ∙ u.moves; looks = never_looked (opened r.core.answers workers) r.log v.made };
        joined = λ part h. absurd (Contains-nil part h);
        first = ap (λ (n : ℕ). (range_at r.core n).first) made_is ∙ ap (λ (x : RangeState). x.first) range;
        upto = subst (λ (n : ℕ). (range_at r.core n).upto ≤ 0) (sym made_is) (let a = ap (λ (x : RangeState). x.upto) range in omega arith);
      }

  old : (j : ℕ) (x : View) (b : Bool) → (b ≡ true → ⊥) → IsSeated r.core r.log workers r.made r.carrier r.holder j x
      → IsSeated r.core r.log workers (r.made + 1) last holder' j (record x { carries = b })
  old j x b bare o = seated_anew r.core r.log workers r.made (r.made + 1) r.carrier last r.holder holder' j x b
      (λ n h. let p = o.number n h in let a = p.0 in (omega arith, holder-old n a ∙ p.1))
      (λ c. absurd (bare c))
      o

  held_in : (i n : ℕ) → IsHeld s.views i n → IsHeld (vs ++ next_seat v ∷ []) i n
  held_in i n h = dite (ℕ_discrete i id)
      (λ e. let is : h.0 ≡ v = some-injective h.0 v (sym h.1 ∙ (ap (λ (k : ℕ). get_elem? s.views k) e ∙ at)) in (
        left_behind v,
        at_longer vs (next_seat v ∷ []) i (left_behind v) (ap (λ (k : ℕ). get_elem? vs k) e
            ∙ set_here s.views id (left_behind v) inside),
        alive,
        subst (λ (y : View). HasNumber y n) is h.3,
      ))
      (λ ne. (h.0, at_longer vs (next_seat v ∷ []) i h.0 (set_else s.views id i (left_behind v) ne ∙ h.1), h.2, h.3))

  pub splits_ruled : (homes : List (Option (Unit {0}))) → Ruled workers (record { words = s.words; homes = homes; views = vs ++ next_seat v ∷ [] })
  splits_ruled homes = record {
    core = r.core;
    made = r.made + 1;
    carrier = last;
    holder = holder';
    shaped = r.shaped;
    whole = r.whole;
    shows = r.shows;
    log = r.log;
    history = r.history;
    fits = let a = room' in omega arith;
    held = λ n h. dite (ℕ_discrete n r.made)
        (λ e. (next_seat v, ap (λ (k : ℕ). get_elem? (vs ++ next_seat v ∷ []) k) (ap holder' e ∙ holder-new) ∙ at_last vs (next_seat v) last refl, refl, inl (made_is ∙ sym e)))
        (λ ne. let low : n < r.made = omega arith in subst (λ (i : ℕ). IsHeld (vs ++ next_seat v ∷ []) i n) (sym (holder-old n low)) (held_in (r.holder n) n (r.held n low)));
    carried = (next_seat v, at_last vs (next_seat v) last refl, refl, refl);
    unmade = λ n a b. r.unmade n (omega arith) b;
    seats = λ j x e l. ⊎_elim
        (λ t. ⊎_elim
        (λ q. subst (λ (p : ℕ × View). IsSeated r.core r.log workers (r.made + 1) last holder' p.0 p.1) (λ i. (sym q.0 i, q.1 i)) (old id v false (λ c. true≢false (sym c)) own))
        (λ q. let o = r.seats j x q.1 l in old j x x.carries (λ c. q.0 ((o.carries c).0 ∙ sym carrier_is)) o)
        (at_set s.views id j (left_behind v) x t.1))
        (λ t. subst (λ (p : ℕ × View). IsSeated r.core r.log workers (r.made + 1) last holder' p.0 p.1) (λ i. (sym t.0 i, t.1 i)) fresh)
        (at_end vs (next_seat v) x j e);
    others = λ j x e l. ⊎_elim
        (λ t. ⊎_elim
        (λ q. absurd (true≢false (sym alive ∙ (ap (λ (y : View). y.live) q.1 ∙ l))))
        (λ q. r.others j x q.1 l)
        (at_set s.views id j (left_behind v) x t.1))
        (λ t. absurd (true≢false (ap (λ (y : View). y.live) t.1 ∙ l)))
        (at_end vs (next_seat v) x j e);
    settled = λ u. let a = r.settled u in let b = total_set (λ (x : View). times u x.settled) s.views id v (left_behind v) at in
        let d = sum_by_push (λ (x : View). times u x.settled) vs (next_seat v) in omega arith;
  }

pub splits : (k : Size) (id : ℕ) (v : View) → v.live ≡ true → v.carries ≡ true → v.made < k.workers → Splits (Holds k) id v (left_behind v) (next_seat v)
splits k id v alive carries room s (inl b) at = absurd (not_blank k.workers k.units s id v b at alive)
splits k id v alive carries room s (inr r) at = inr (splits_ruled k.workers s r id v at alive carries room s.homes)
