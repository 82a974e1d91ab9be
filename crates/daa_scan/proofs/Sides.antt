-- The sides of a kind: their leading flights, and how far they were walked.
use Rattle.std.proofs.Common.{◌≡◌, ◌↔◌, ◌^◌, ℕ, ℤ, pos, ◌+◌, ◌-◌, ◌<◌, ◌≤◌, max, Bool, [], true, false, List, length, refl, sym, subst, ap, ◌∙◌, arith, ⊎_elim}
use Rattle.std.specs.Prelude.{IsTrue, slice_index_or}
use Rattle.std.proofs.Math.ListN.{set}
use Rattle.std.proofs.lemmas.Bool.{cases_eq, cases_lt}
use Rattle.std.proofs.lemmas.List.{get_or-set_same, get_or-set_other, length-set}
use Rattle.std.proofs.lemmas.Option.{slice_get_within}
use Rattle.daa_config.specs.declared.candidate.Candidate.{Candidate}
use Rattle.daa_config.specs.declared.candidate.Candidate.TheVariants.{Hold}
use Rattle.daa_config.specs.declared.config.Rates.{Rates}
use Rattle.daa_config.specs.declared.kind.Kind.{Kind}
use Rattle.daa_config.specs.declared.kind.Kind.TheVariants.{Track, GroundSpeed, VerticalSpeed, Altitude}
use Rattle.daa_config.specs.declared.level.Level.{Level}
use Rattle.daa_config.specs.Candidates.{candidate_to, candidates_of}
use Rattle.daa_config.specs.Settings.{Settings, IsLevelAt, rates_of}
use Rattle.daa_state.specs.declared.word.Own.{Own}
use Rattle.daa_legs.specs.declared.own_leg.OwnLeg.{OwnLeg}
use Rattle.daa_legs.specs.Branch.{lead_of, FliesAs}
use Rattle.daa_legs.specs.declared.branch.Branch.{Branch}
use Rattle.daa_legs.specs.Meeting.{ViolatesOn}
use Rattle.daa_legs.specs.Table.{IsBranchOf}
use Rattle.daa_legs.specs.Trunk.{AreLegsOf}
use Rattle.daa_legs.proofs.AtLevel.{one_level}
use Rattle.daa_scan.specs.declared.refusal.Seconds.{Seconds}
use Rattle.daa_scan.specs.declared.trail.Trail.{Trail}
use Rattle.daa_scan.specs.declared.marking.Trails.{Trails}
use Rattle.daa_scan.specs.declared.encounter.Round.{Round}
use Rattle.daa_scan.specs.Inside.Marking.{AreClear, AreTrailsOf, IsBranchIn, IsNumberOf}
use Rattle.daa_scan.specs.Inside.Rounds.{settings_in, own_in, aircraft_in, IsHitOn, IsMet, IsClearFrom}
use Rattle.daa_scan.specs.Inside.Refusal.{AreSecondsOf}
use Rattle.daa_scan.specs.Inside.Sharing.{IsSure, IsTrailAt, AnswersBy}
use Rattle.daa_scan.specs.Trunks.{trunk_index, trunk_in, is_needed, AreLeads}
use Rattle.daa_scan.specs.declared.needs.Needs.{Needs}
use Rattle.daa_scan.proofs.TrunksWords.{AreLeadsBelow}
use Rattle.daa_scan.specs.Inside.Trunks.{IsAhead}
use Rattle.daa_scan.specs.Inside.Encounter.{IsNestedAt}
use Rattle.daa_scan.proofs.Marks.{level_before, number_there, of_kind, of_kind_in_range}
use Rattle.daa_scan.proofs.NestedLevels.{hit_outer}
use Rattle.daa_scan.proofs.Trails.{fewer_legs, sure_met}

pub ahead_more : (settings : Settings) (l most new : ℕ) (next : Level) → IsAhead settings l most → IsLevelAt settings (l + 1) next → next.lookahead ≤ new → most ≤ new → IsAhead settings (l + 1) new
ahead_more settings l most new next h at a b k level le there = ⊎_elim
    (λ e. subst (λ (x : Level). x.lookahead ≤ new) (sym (one_level settings (l + 1) level next (subst (λ (i : ℕ). IsLevelAt settings i level) e there) at)) a)
    (λ n. let i = h k level (below l k le n) there in omega (arith, i, b))
    (cases_eq k (l + 1))
  where
    below : (l j : ℕ) → j ≤ l + 1 → (j ≡ l + 1 → ⊥) → j ≤ l
    below l j h n = ⊎_elim (λ k. omega (arith, k)) (λ k. absurd (n (omega (arith, h, k)))) (cases_lt j (l + 1))

-- none is kept
pub none_led : (settings : Settings) (own : Own) (needs : Needs) (most : ℕ) (trunks : List (List OwnLeg)) → length trunks ≡ 8 → AreLeadsBelow settings own needs 0 most trunks
none_led settings own needs most trunks room = record { room = room; each = λ kind upper z b n. absurd (omega (arith, b)) }

-- the next
pub next_led : (settings : Settings) (own : Own) (needs : Needs) (most index : ℕ) (trunks : List (List OwnLeg)) (legs : List OwnLeg) → index < 8 → AreLeadsBelow settings own needs index most trunks
    → ((kind : Kind) (upper : Bool) (z : ℤ) → index ≡ trunk_index kind upper → IsTrue (is_needed needs kind) → AreLegsOf own (rates_of settings) (lead_of own (candidate_to kind z) upper) most legs)
    → AreLeadsBelow settings own needs (index + 1) most (set trunks index legs)
next_led settings own needs most index trunks legs inside h is = record {
  room = length-set trunks index legs ∙ h.room;
  each = λ kind upper z b needed. ⊎_elim
      (λ e. subst (λ (ls : List OwnLeg). AreLegsOf own (rates_of settings) (lead_of own (candidate_to kind z) upper) most ls)
      (sym (ap (λ (i : ℕ). slice_index_or (set trunks index legs) i []) e ∙ get_or-set_same trunks index legs [] (omega (arith, inside, h.room))))
      (is kind upper z (sym e) needed))
      (λ n. subst (λ (ls : List OwnLeg). AreLegsOf own (rates_of settings) (lead_of own (candidate_to kind z) upper) most ls)
      (sym (get_or-set_other trunks index (trunk_index kind upper) legs [] n)) (h.each kind upper z (below (trunk_index kind upper) b n) needed))
      (cases_eq (trunk_index kind upper) index);
}
  where
    below : (i : ℕ) → i < index + 1 → (i ≡ index → ⊥) → i < index
    below i b n = ⊎_elim (λ k. k) (λ k. absurd (n (omega (arith, b, k)))) (cases_lt i index)

trunk_index_small : (kind : Kind) (upper : Bool) → trunk_index kind upper < 8
trunk_index_small Track true = omega arith
trunk_index_small Track false = omega arith
trunk_index_small GroundSpeed true = omega arith
trunk_index_small GroundSpeed false = omega arith
trunk_index_small VerticalSpeed true = omega arith
trunk_index_small VerticalSpeed false = omega arith
trunk_index_small Altitude true = omega arith
trunk_index_small Altitude false = omega arith

-- all of them lead
pub all_led : (settings : Settings) (own : Own) (needs : Needs) (most index : ℕ) (trunks : List (List OwnLeg)) → 8 ≤ index
    → IsAhead settings (length settings.levels) most → AreLeadsBelow settings own needs index most trunks → AreLeads settings own needs trunks
all_led settings own needs most index trunks all ahead h l level at kind upper z needed =
    let w = slice_get_within settings.levels (l - 1) level at.there in
    let s = trunk_index_small kind upper in
    fewer_legs own (rates_of settings) (lead_of own (candidate_to kind z) upper) most level.lookahead (trunk_in trunks kind upper)
    (ahead l level (omega (arith, w)) at) (h.each kind upper z (omega (arith, s, all)) needed)

module _ (own : Own) (kind : Kind) (upper : Bool) (lead : Candidate) (is : (z : ℤ) → lead ≡ lead_of own (candidate_to kind z) upper) where
  pub trunk_led : (rates : Rates) (n : ℕ) (t : List (List OwnLeg)) (legs : List OwnLeg)
      → ((u : Bool) (z : ℤ) → AreLegsOf own rates (lead_of own (candidate_to kind z) u) n (trunk_in t kind u)) → legs ≡ trunk_in t kind upper → AreLegsOf own rates lead n legs
  trunk_led rates n t legs h e = subst (λ (c : Candidate). AreLegsOf own rates c n legs) (sym (is (pos 0)))
      (subst (λ (ls : List OwnLeg). AreLegsOf own rates (lead_of own (candidate_to kind (pos 0)) upper) n ls) (sym e) (h upper (pos 0)))

  pub leads_of : (candidate : Candidate) (value : ℤ) → candidate ≡ candidate_to kind value → lead ≡ lead_of own candidate upper
  leads_of candidate value c = is value ∙ ap (λ (x : Candidate). lead_of own x upper) (sym c)

-- one side of a kind
module _ (round : Round) (kind : Kind) (upper : Bool) (lead : Candidate) (is : (z : ℤ) → lead ≡ lead_of (own_in round) (candidate_to kind z) upper) (trails : Trails)
    (h : AreTrailsOf round kind trails) where
  along : (u : Bool) → upper ≡ u → (z : ℤ) → lead ≡ lead_of (own_in round) (candidate_to kind z) u
  along u e z = is z ∙ ap (λ (x : Bool). lead_of (own_in round) (candidate_to kind z) x) e

  pub upper_trail : upper ≡ true → IsTrailAt round lead trails.upper
  upper_trail e = subst (λ (c : Candidate). IsTrailAt round c trails.upper) (sym (along true e (pos 0))) (h.upper (pos 0))

  pub lower_trail : upper ≡ false → IsTrailAt round lead trails.lower
  lower_trail e = subst (λ (c : Candidate). IsTrailAt round c trails.lower) (sym (along false e (pos 0))) (h.lower (pos 0))

  pub upper_kept : (new : Trail) → upper ≡ true → new.end ≡ trails.upper.end → IsTrailAt round lead new → AreTrailsOf round kind (record { upper = new; lower = trails.lower })
  upper_kept new e end t = record {
    upper = λ z. subst (λ (c : Candidate). IsTrailAt round c new) (along true e z) t;
    lower = h.lower;
    past_upper = λ z k b past. h.past_upper z k b (omega (arith, past, end));
    past_lower = h.past_lower;
  }

  pub lower_kept : (new : Trail) → upper ≡ false → new.end ≡ trails.lower.end → IsTrailAt round lead new → AreTrailsOf round kind (record { upper = trails.upper; lower = new })
  lower_kept new e end t = record {
    upper = h.upper;
    lower = λ z. subst (λ (c : Candidate). IsTrailAt round c new) (along false e z) t;
    past_upper = h.past_upper;
    past_lower = λ z k b past. h.past_lower z k b (omega (arith, past, end));
  }

-- a candidate of the kind violates nothing from a trail's end on
pub past_of : (round : Round) (kind : Kind) (candidate : Candidate) (value : ℤ) (end : ℕ) → candidate ≡ candidate_to kind value
    → ((z : ℤ) → IsClearFrom round (candidate_to kind z) end) → IsClearFrom round candidate end
past_of round kind candidate value end e past k b over v = past value k b over (subst (λ (x : Candidate). IsHitOn round x k) e v)

-- what leads on a side is a candidate of the kind
leads : (own : Own) (kind : Kind) (upper : Bool) (z : ℤ) → (w : ℤ) × (lead_of own (candidate_to kind z) upper ≡ candidate_to kind w)
unfolding lead_of
leads own Track upper z = (_, refl)
leads own GroundSpeed upper z = (_, refl)
leads own VerticalSpeed upper z = (_, refl)
leads own Altitude upper z = (_, refl)

-- where a trail begins: the seconds before the kind's are walked, and the legs that are clear
module _ (round : Round) (kind : Kind) (seconds : Seconds) (h : AreSecondsOf (settings_in round) (own_in round) (aircraft_in round) kind round.level.volume round.level.lookahead seconds)
    (some : seconds.begin < round.level.lookahead) where
  pub begun_trail : (upper : Bool) (clear : ℕ) (trail : Trail) → AreClear (settings_in round) (own_in round) (aircraft_in round) kind upper round.l clear
      → trail.walked ≡ max seconds.begin clear → trail.end ≡ seconds.end → trail.hit ≡ false → IsSure round.level.lookahead trail → trail.answer ≡ 0
      → (z : ℤ) → IsTrailAt round (lead_of (own_in round) (candidate_to kind z) upper) trail
  begun_trail upper clear trail below walked end none sure nothing z =
      let w = leads (own_in round) kind upper z in
      let of : (j : ℕ) → IsHitOn round (lead_of (own_in round) (candidate_to kind z) upper) j → IsHitOn round (candidate_to kind w.0) j = λ j v. subst (λ (c : Candidate). IsHitOn round c j) w.1 v in
      record {
        along = record {
          none = λ j k v. ⊎_elim
              (λ b. h.before w.0 j (omega (arith, b, some)) b (of j v))
              (λ g. below round.level round.known.there z j (omega (arith, k, walked, g)) v)
              (cases_lt j seconds.begin);
          hit = λ t. absurd (cc (t, none));
          later = λ j k past v. h.after w.0 j k (omega (arith, past, end)) (of j v);
        };
        sure = sure;
        answers = record { hit = λ t. absurd (cc (t, none)); clear = λ _. nothing };
      }

  pub begun_past : (trail : Trail) → trail.end ≡ seconds.end → (z : ℤ) → IsClearFrom round (candidate_to kind z) trail.end
  begun_past trail end z k b past v = h.after z k b (omega (arith, past, end)) v

-- what is clear at the round's level
module _ (round : Round) (kind : Kind) (upper : Bool) (n : ℕ) where
  pub clear_walked : ((z : ℤ) (j : ℕ) → j < n → ¬ IsHitOn round (lead_of (own_in round) (candidate_to kind z) upper) j)
      → AreClear (settings_in round) (own_in round) (aircraft_in round) kind upper round.l n
  clear_walked none level at z j b v = none z j b
      (subst (λ (x : Level). ViolatesOn (settings_in round) (own_in round) (lead_of (own_in round) (candidate_to kind z) upper) (aircraft_in round) x.volume j)
      (one_level (settings_in round) round.l level round.level at round.known.there) v)

  -- where it lies within the one before, what is clear at that one
  pub clear_within : IsNestedAt (settings_in round) (aircraft_in round) round.l round.level → AreClear (settings_in round) (own_in round) (aircraft_in round) kind upper (round.l - 1) n
      → AreClear (settings_in round) (own_in round) (aircraft_in round) kind upper round.l n
  clear_within nested below = clear_walked (λ z j b v.
      let outer = level_before (settings_in round) round.l round.level round.known.there nested.some in
      below outer.0 outer.1 z j b (hit_outer (settings_in round) (own_in round) (lead_of (own_in round) (candidate_to kind z) upper) (aircraft_in round) round.level outer.0 j
      nested.exact (nested.within outer.0 outer.1) v))

-- what a side's trail answers of a candidate that leaves past what it is sure of
module _ (round : Round) (kind : Kind) (trails : Trails) (h : AreTrailsOf round kind trails) (short : round.level.lookahead ≤ 180) (candidate : Candidate) (branch : Branch)
    (is : IsBranchIn round kind candidate branch) (b : branch.leaves < 2 ^ 32) where
  alike : (u : Bool) → branch.upper ≡ u → FliesAs (own_in round) (rates_of (settings_in round)) candidate (lead_of (own_in round) (candidate_to kind is.value) u) branch.leaves
  alike u e = subst (λ (x : Candidate). FliesAs (own_in round) (rates_of (settings_in round)) candidate (lead_of (own_in round) x u) branch.leaves) is.is
      (subst (λ (x : Bool). FliesAs (own_in round) (rates_of (settings_in round)) candidate (lead_of (own_in round) candidate x) branch.leaves) e is.branch_of.before)

  on_side : (trail : Trail) → (IsTrue branch.upper → trail ≡ trails.upper) → (branch.upper ≡ false → trail ≡ trails.lower) → trail.past < branch.leaves → (u : Bool)
      → branch.upper ≡ u → IsTrue trail.hit ↔ IsMet round candidate
  on_side trail up down p true e = subst (λ (x : Trail). IsTrue x.hit ↔ IsMet round candidate) (sym (up e))
      (sure_met (settings_in round) (own_in round) candidate (lead_of (own_in round) (candidate_to kind is.value) true)
      (aircraft_in round) round.level.volume branch.leaves round.level.lookahead (alike true e) trails.upper
      (h.upper is.value).along (h.upper is.value).sure (subst (λ (x : Trail). x.past < branch.leaves) (up e) p) b short (past_of round kind candidate is.value trails.upper.end is.is h.past_upper))
  on_side trail up down p false e = subst (λ (x : Trail). IsTrue x.hit ↔ IsMet round candidate) (sym (down e))
      (sure_met (settings_in round) (own_in round) candidate (lead_of (own_in round) (candidate_to kind is.value) false)
      (aircraft_in round) round.level.volume branch.leaves round.level.lookahead (alike false e) trails.lower
      (h.lower is.value).along (h.lower is.value).sure (subst (λ (x : Trail). x.past < branch.leaves) (down e) p) b short (past_of round kind candidate is.value trails.lower.end is.is h.past_lower))

  answers_on : (trail : Trail) → (IsTrue branch.upper → trail ≡ trails.upper) → (branch.upper ≡ false → trail ≡ trails.lower) → (u : Bool)
      → branch.upper ≡ u → AnswersBy round.l trail
  answers_on trail up down true e = subst (λ (x : Trail). AnswersBy round.l x) (sym (up e)) (h.upper is.value).answers
  answers_on trail up down false e = subst (λ (x : Trail). AnswersBy round.l x) (sym (down e)) (h.lower is.value).answers

  pub side_answers : (trail : Trail) → (IsTrue branch.upper → trail ≡ trails.upper) → (branch.upper ≡ false → trail ≡ trails.lower) → AnswersBy round.l trail
  side_answers trail up down = answers_on trail up down branch.upper refl

  pub side_sure : (trail : Trail) → (IsTrue branch.upper → trail ≡ trails.upper) → (branch.upper ≡ false → trail ≡ trails.lower) → trail.past < branch.leaves → IsTrue trail.hit ↔ IsMet round candidate
  side_sure trail up down p = on_side trail up down p branch.upper refl

-- the branch that is kept for a candidate of a kind that is needed
pub branch_in : (round : Round) (kind : Kind) (index : ℕ) (branch : Branch) → IsNumberOf (settings_in round) kind index → IsTrue (is_needed round.trunks.now.needs kind)
    → ((d : Branch) → slice_index_or round.trunks.now.branches index d ≡ branch)
    → IsBranchIn round kind (slice_index_or (candidates_of (settings_in round)) index Hold) branch
branch_in round kind index branch n needed found =
    let s = settings_in round in
    let candidate : Candidate = slice_index_or (candidates_of (settings_in round)) index Hold in
    let listed = number_there kind (settings_in round) index n in
    let of = of_kind kind s index candidate round.known.accepted n.from n.before listed in
    record {
      value = of.0;
      is = of.1;
      in_range = of_kind_in_range kind s index candidate round.known.accepted n.from n.before listed;
      branch_of = subst (λ (b : Branch). IsBranchOf (own_in round) (rates_of (settings_in round)) candidate b) (found branch)
          (round.known.kept.trunks.branches.each index candidate branch listed kind of.0 of.1 needed);
    }
