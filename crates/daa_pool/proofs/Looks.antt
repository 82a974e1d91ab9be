-- Looks that were made one after another, and what they show.
use Rattle.std.proofs.Common.{◌≡◌, ◌≢◌, ℕ, ◌+◌, ◌<◌, ◌≤◌, ◌⊎◌, inl, inr, ⊎_elim, eqb, cond, List, [], ◌∷◌, ◌++◌, length, sym, refl, ap, ◌∙◌, subst, arith, append_assoc, Option, Some, None}
use Rattle.std.specs.Option.{IfSome, IfNone, MatchOption}
use Rattle.std.proofs.lemmas.Bool.{cases_lt}
use Rattle.std.proofs.lemmas.Bool.Decides.{nat_tests}
use Rattle.std.proofs.lemmas.List.{append-nil}
use Rattle.std.proofs.lemmas.List.Sums.{sum_by-append, sum_by-cons}
use Rattle.std.proofs.lemmas.List.Elements.{Contains-append_left, Contains-append_right, Contains-append_cases, Contains-push, Contains-push_cases}
use Rattle.daa_range.specs.Range.{range_of, range_len, times_in}
use Rattle.daa_range.specs.Word.{unpacked}
use Rattle.daa_range.proofs.Ranges.{times_in_cut}
use Rattle.daa_schedule.specs.declared.step.Step.{Step}
use Rattle.daa_schedule.specs.declared.step.Step.TheVariants as by
use Rattle.daa_pool.specs.declared.view.View.{View}
use Rattle.daa_pool.specs.declared.view.Look.{Look}
use Rattle.daa_pool.specs.Inside.View.{look, looked, looked_home, claimed, ended}
use Rattle.daa_pool.specs.Seat.{IsFree, HasPiece}
use Rattle.daa_pool.specs.Claim.{IsLater, AreFresh, SawEmpty, IsBare, looks_at, IsBrief, GoesRound, IsTaking, EndsShort, GetsShorter, Claims, FindsNothing}
use Rattle.daa_pool.specs.Inside.Tour.{IsSeeking, TakesFrom, Toured, AreElsewhere, SeeksWell, SeeksInVain}
use Rattle.daa_pool.proofs.Lists.{Contains-nil}
use Rattle.daa_pool.proofs.ShorterLooks.{IsAtMost, at_most_one, at_most_more, shorter_one, shorter_more, shorter_after, shorter_away, both_away}
use Rattle.daa_pool.proofs.Rounds.{AtHome, turn_none, turn_one, turn_again, turn_more, home_one, home_more, round_up, round_both, round_home, round_after, round_before}

pub later_same : (v : View) → IsLater v v [] []
later_same v = record {
  same_seat = record { number = refl; workers = refl; answers = refl; joined = refl; carries = refl; made = refl };
  settled = refl;
  looks = sym (append-nil v.looks);
  moves = sym (append-nil v.moves);
}

pub later_trans : (u v w : View) (xs ys : List Look) (ms ns : List Step) → IsLater u v xs ms → IsLater v w ys ns → IsLater u w (xs ++ ys) (ms ++ ns)
later_trans u v w xs ys ms ns a b = let p = a.same_seat in let q = b.same_seat in record {
  same_seat = record {
    number = q.number ∙ p.number;
    workers = q.workers ∙ p.workers;
    answers = q.answers ∙ p.answers;
    joined = q.joined ∙ p.joined;
    carries = q.carries ∙ p.carries;
    made = q.made ∙ p.made;
  };
  settled = b.settled ∙ a.settled;
  looks = b.looks ∙ (ap (λ (ls : List Look). ls ++ ys) a.looks ∙ append_assoc u.looks xs ys);
  moves = b.moves ∙ (ap (λ (ls : List Step). ls ++ ns) a.moves ∙ append_assoc u.moves ms ns);
}

-- one look
pub looked_later : (v : View) (worker word : ℕ) → IsLater v (looked v worker word) (look v worker word ∷ []) []
looked_later v worker word = record {
  same_seat = record { number = refl; workers = refl; answers = refl; joined = refl; carries = refl; made = refl };
  settled = refl;
  looks = refl;
  moves = sym (append-nil v.moves);
}

pub looked_home_later : (v : View) (word : ℕ) → IsLater v (looked_home v word) (look v v.number word ∷ []) []
looked_home_later v word = record {
  same_seat = record { number = refl; workers = refl; answers = refl; joined = refl; carries = refl; made = refl };
  settled = refl;
  looks = refl;
  moves = sym (append-nil v.moves);
}

looks_at-append : (worker : ℕ) (xs ys : List Look) → looks_at worker (xs ++ ys) ≡ looks_at worker xs + looks_at worker ys
looks_at-append worker xs ys = sum_by-append (λ (l : Look). cond (eqb l.worker worker) 1 0) xs ys

looks_at-one : (v : View) (worker o word : ℕ) → looks_at worker (look v o word ∷ []) ≡ times_in worker (range_of o (o + 1))
looks_at-one v worker o word = sum_by-cons (λ (l : Look). cond (eqb l.worker worker) 1 0) (look v o word) [] ∙ same
  where
    same : cond (eqb o worker) 1 0 + 0 ≡ times_in worker (range_of o (o + 1))
    same = grind (arith, nat_tests)

looks_at-not : (v : View) (worker o word : ℕ) → worker ≢ o → looks_at worker (look v o word ∷ []) ≡ 0
looks_at-not v worker o word n = sum_by-cons (λ (l : Look). cond (eqb l.worker worker) 1 0) (look v o word) [] ∙ none
  where
    none : ◌≡◌ {A = ℕ} (cond (eqb o worker) 1 0 + 0) 0
    none = grind (arith, nat_tests)

-- looks after the same steps
fresh_none : (v : View) → AreFresh v []
fresh_none v = λ l h. absurd (Contains-nil l h)

fresh_one : (v : View) (worker word : ℕ) → AreFresh v (look v worker word ∷ [])
fresh_one v worker word = λ l h. ⊎_elim (λ t. absurd (Contains-nil l t)) (λ e. sym (ap (λ (x : Look). x.moves) e)) (Contains-push_cases [] (look v worker word) l h)

fresh_more : (u v : View) (xs ys : List Look) → IsLater u v xs [] → AreFresh u xs → AreFresh v ys → AreFresh u (xs ++ ys)
fresh_more u v xs ys later a b = λ l h. ⊎_elim (λ t. a l t) (λ t. b l t ∙ ap (λ (ms : List Step). length ms) (later.moves ∙ append-nil u.moves)) (Contains-append_cases xs ys l h)

-- what looks show, more looks show
bare_left : (xs ys : List Look) (o : ℕ) → IsBare xs o → IsBare (xs ++ ys) o
bare_left xs ys o (inl h) = inl (h.0, Contains-append_left xs ys h.0 h.1, h.2, h.3)
bare_left xs ys o (inr h) = inr (h.0, h.1, Contains-append_left xs ys h.0 h.2, Contains-append_left xs ys h.1 h.3, h.4, h.5, h.6)

bare_right : (xs ys : List Look) (o : ℕ) → IsBare ys o → IsBare (xs ++ ys) o
bare_right xs ys o (inl h) = inl (h.0, Contains-append_right xs ys h.0 h.1, h.2, h.3)
bare_right xs ys o (inr h) = inr (h.0, h.1, Contains-append_right xs ys h.0 h.2, Contains-append_right xs ys h.1 h.3, h.4, h.5, h.6)

empty_right : (xs ys : List Look) (o : ℕ) → SawEmpty ys o → SawEmpty (xs ++ ys) o
empty_right xs ys o h = (h.0, Contains-append_right xs ys h.0 h.1, h.2, h.3)

-- a round that goes on
pub toured_none : (v : View) (first : ℕ) → IsSeeking v → Toured v v first first
toured_none v first s = record { seen = []; later = later_same v; fresh = fresh_none v; seeking = s; bare = λ o a b. absurd (omega arith); brief = λ o. omega arith; turn = turn_none first first }

pub toured_more : (u v w : View) (first mid upto : ℕ) → first ≤ mid → mid ≤ upto → Toured u v first mid → Toured v w mid upto → Toured u w first upto
toured_more u v w first mid upto low high a b = record {
  seen = a.seen ++ b.seen;
  later = later_trans u v w a.seen b.seen [] [] a.later b.later;
  fresh = fresh_more u v a.seen b.seen a.later a.fresh b.fresh;
  seeking = b.seeking;
  bare = λ o lo hi. go o lo hi (cases_lt o mid);
  brief = λ o. let x = a.brief o in let y = b.brief o in let z = looks_at-append o a.seen b.seen in let t = times_in_cut o first mid upto low high in omega arith;
  turn = turn_more first mid upto upto a.seen b.seen low high (omega arith) a.turn b.turn;
}
  where
    go : (o : ℕ) → first ≤ o → o < upto → (o < mid) ⊎ (mid ≤ o) → IsBare (a.seen ++ b.seen) o
    go o lo hi (inl h) = bare_left a.seen b.seen o (a.bare o lo h)
    go o lo hi (inr h) = bare_right a.seen b.seen o (b.bare o h hi)

-- a round that takes something after it found nothing
pub takes_more : (u v w : View) (first mid last upto unit : ℕ) → first ≤ mid → mid ≤ last → last ≤ upto → Toured u v first mid → TakesFrom v w mid last unit → TakesFrom u w first upto unit
takes_more u v w first mid last upto unit low high end a b = let l = a.later in let p = l.same_seat in record {
  seen = a.seen ++ b.seen;
  steps = b.steps;
  later = later_trans u v w a.seen b.seen [] b.steps a.later b.later;
  taking = subst (λ (n : ℕ). IsTaking n b.steps) p.number b.taking;
  piece = b.piece;
  brief = λ o. let x = a.brief o in let y = b.brief o in let z = looks_at-append o a.seen b.seen in
      let s = times_in_cut o first mid last low high in let t = times_in_cut o first last upto (omega arith) end in omega arith;
  turn = turn_more first mid last upto a.seen b.seen low high end a.turn b.turn;
}

-- one other worker, whose range is short
pub short : (v : View) (other word : ℕ) → IsSeeking v → range_len (unpacked word) < 2 → Toured v (looked v other word) other (other + 1)
short v other word s few = let f = s.free in record {
  seen = look v other word ∷ [];
  later = looked_later v other word;
  fresh = fresh_one v other word;
  seeking = record { free = record { hand = f.hand; going = f.going }; bare = s.bare };
  bare = λ o lo hi. inl (look v other word, Contains-push [] (look v other word), (let e : other ≡ o = omega arith in e), few);
  brief = λ o. let e = looks_at-one v o other word in omega arith;
  turn = turn_one v other word;
}

-- one other worker, whose range changed
pub changed : (v : View) (other word again : ℕ) → IsSeeking v → word ≢ again → Toured v (looked (looked v other word) other again) other (other + 1)
changed v other word again s ne = let f = s.free in record {
  seen = (look v other word ∷ []) ++ look v other again ∷ [];
  later = later_trans v (looked v other word)
      (looked (looked v other word) other again) (look v other word ∷ []) (look v other again ∷ []) [] []
      (looked_later v other word) (looked_later (looked v other word) other again);
  fresh = fresh_more v (looked v other word) (look v other word ∷ []) (look v other again ∷ []) (looked_later v other word) (fresh_one v other word) (fresh_one (looked v other word) other again);
  seeking = record { free = record { hand = f.hand; going = f.going }; bare = s.bare };
  bare = λ o lo hi. let e : other ≡ o = omega arith in inr (
    look v other word,
    look v other again,
    Contains-append_left (look v other word ∷ []) (look v other again ∷ []) (look v other word) (Contains-push [] (look v other word)),
    Contains-append_right (look v other word ∷ []) (look v other again ∷ []) (look v other again) (Contains-push [] (look v other again)),
    e,
    e,
    ne,
  );
  brief = λ o. let x = looks_at-one v o other word in let y = looks_at-one v o other again in let z = looks_at-append o (look v other word ∷ []) (look v other again ∷ []) in omega arith;
  turn = turn_again other (look v other word ∷ []) (look v other again ∷ []) (turn_one v other word) (turn_one v other again);
}

-- a look at another worker, and then the steps that take from it
pub takes_from : (v w : View) (other word unit : ℕ) (steps : List Step) → IsLater (looked v other word) w [] steps → IsTaking v.number steps → HasPiece w unit → TakesFrom v w other (other + 1) unit
takes_from v w other word unit steps later taking piece = record {
  seen = (look v other word ∷ []) ++ [];
  steps = steps;
  later = later_trans v (looked v other word) w (look v other word ∷ []) [] [] steps (looked_later v other word) later;
  taking = taking;
  piece = piece;
  brief = λ o. let x = looks_at-one v o other word in let z = looks_at-append o (look v other word ∷ []) [] in omega arith;
  turn = turn_again other (look v other word ∷ []) [] (turn_one v other word) (turn_none other (other + 1));
}

-- the looks of a call at the own range
pub record LooksHome (before after : View) : Type 0 where
  pub seen : List Look
  pub later : IsLater before after seen []
  pub fresh : AreFresh before seen
  pub home : (other : ℕ) → other ≢ before.number → looks_at other seen ≡ 0
  pub own : AtHome before.number seen
  pub least : IsAtMost (range_len after.bound) seen
  pub shorter : GetsShorter before.number seen

pub looks_home_first : (v : View) (word : ℕ) → LooksHome v (looked_home v word)
looks_home_first v word = record {
  seen = look v v.number word ∷ [];
  later = looked_home_later v word;
  fresh = fresh_one v v.number word;
  home = λ o n. looks_at-not v o v.number word n;
  own = home_one v word;
  least = at_most_one v word;
  shorter = shorter_one v.number (look v v.number word);
}

pub looks_home_more : (u v : View) (word : ℕ) → LooksHome u v → range_len (unpacked word) < range_len v.bound → LooksHome u (looked_home v word)
looks_home_more u v word a fewer = let l = a.later in let p = l.same_seat in record {
  seen = a.seen ++ look v v.number word ∷ [];
  later = later_trans u v (looked_home v word) a.seen (look v v.number word ∷ []) [] [] a.later (looked_home_later v word);
  fresh = fresh_more u v a.seen (look v v.number word ∷ []) a.later a.fresh (fresh_one v v.number word);
  home = λ o n. let x = a.home o n in let y = looks_at-not v o v.number word (λ e. n (e ∙ p.number)) in let z = looks_at-append o a.seen (look v v.number word ∷ []) in omega arith;
  own = home_more u.number a.seen (look v v.number word ∷ []) a.own (subst (λ (n : ℕ). AtHome n (look v v.number word ∷ [])) p.number (home_one v word));
  least = at_most_more v word a.seen a.least fewer;
  shorter = shorter_more u.number v word a.seen a.shorter a.least fewer;
}

-- the own range's first unit is claimed
pub claims_home : (u v w : View) (unit : ℕ) (steps : List Step) → LooksHome u v → IsLater v w [] steps → IsTaking v.number steps → HasPiece w unit → Claims u w unit
claims_home u v w unit steps a later taking piece = let l = a.later in let p = l.same_seat in record {
  seen = a.seen ++ [];
  steps = steps;
  later = later_trans u v w a.seen [] [] steps a.later later;
  taking = subst (λ (n : ℕ). IsTaking n steps) p.number taking;
  piece = piece;
  brief = λ o n. let x = a.home o n in let z = looks_at-append o a.seen [] in omega arith;
  shorter = shorter_after u.number a.seen [] a.shorter (λ l h. absurd (Contains-nil l h));
  round = round_home u.number u.workers (a.seen ++ []) (home_more u.number a.seen [] a.own (λ l h. absurd (Contains-nil l h)));
}

pub claimed_home : (u v : View) → LooksHome u v → IsFree v → v.bound.first < length v.answers → Claims u (claimed v) v.bound.first
claimed_home u v a free below = claims_home u v (claimed v) v.bound.first (by.Claim v.number ∷ []) a
    (record {
      same_seat = record { number = refl; workers = refl; answers = refl; joined = refl; carries = refl; made = refl };
      settled = refl;
      looks = sym (append-nil v.looks);
      moves = refl;
    })
    (inl refl)
    (record { hand = refl; below = below; going = free.going })

after_home : (u v : View) → LooksHome u v → (ys : List Look) → IsBrief v.number ys → (xs : List Look) → ((o : ℕ) → o ≢ u.number → looks_at o xs ≡ 0) → v.number ≡ u.number → IsBrief u.number (xs ++ ys)
after_home u v a ys brief xs home same = λ o n. let x = home o n in let y = brief o (λ e. n (e ∙ same)) in let z = looks_at-append o xs ys in omega arith

-- what a call does after looks at the own range
pub claims_after : (u v w : View) (unit : ℕ) → LooksHome u v → SeeksWell v w unit → Claims u w unit
claims_after u v w unit a well = let b : Claims v w unit = well.claim in let l = a.later in let p = l.same_seat in record {
  seen = a.seen ++ b.seen;
  steps = b.steps;
  later = later_trans u v w a.seen b.seen [] b.steps a.later b.later;
  taking = subst (λ (n : ℕ). IsTaking n b.steps) p.number b.taking;
  piece = b.piece;
  shorter = shorter_after u.number a.seen b.seen a.shorter (λ l h e. well.away l h (e ∙ sym p.number));
  brief = after_home u v a b.seen b.brief a.seen a.home p.number;
  round = round_after u.number u.workers a.seen b.seen a.own (subst (λ (t : ℕ × ℕ). GoesRound t.0 t.1 b.seen) (λ i. (p.number i, p.workers i)) b.round);
}

pub nothing_after : (u v w : View) → LooksHome u v → SeeksInVain v w → FindsNothing u w
nothing_after u v w a vain = let b : FindsNothing v w = vain.claim in let s : EndsShort v.number b.seen = b.shorter in let l = a.later in let p = l.same_seat in record {
  seen = a.seen ++ b.seen;
  later = subst (λ (n : ℕ). IsLater u w (a.seen ++ b.seen) (by.End n ∷ [])) p.number (later_trans u v w a.seen b.seen [] (by.End v.number ∷ []) a.later b.later);
  fresh = fresh_more u v a.seen b.seen a.later a.fresh b.fresh;
  over = b.over;
  empty = subst (λ (n : ℕ). SawEmpty (a.seen ++ b.seen) n) p.number (empty_right a.seen b.seen v.number b.empty);
  others = λ o lo ne. bare_right a.seen b.seen o (b.others o (subst (λ (n : ℕ). o < n) (sym p.workers) lo) (λ e. ne (e ∙ p.number)));
  shorter = record {
    early = a.seen ++ s.early;
    last = s.last;
    all = ap (λ (ls : List Look). a.seen ++ ls) s.all ∙ sym (append_assoc a.seen s.early (s.last ∷ []));
    own = s.own ∙ p.number;
    bare = s.bare;
    shorter = shorter_after u.number a.seen s.early a.shorter (λ l h e. vain.away l h (e ∙ sym p.number));
  };
  brief = after_home u v a b.seen b.brief a.seen a.home p.number;
  round = round_after u.number u.workers a.seen b.seen a.own (subst (λ (t : ℕ × ℕ). GoesRound t.0 t.1 b.seen) (λ i. (p.number i, p.workers i)) b.round);
  few = b.few;
}

pub some_after : (r : Option ℕ) (u v w : View) → LooksHome u v → MatchOption r (SeeksInVain v w) (λ unit. SeeksWell v w unit) → IfSome r (λ unit. Claims u w unit)
some_after None u v w a h = tt
some_after (Some unit) u v w a h = claims_after u v w unit a h

pub none_after : (r : Option ℕ) (u v w : View) → LooksHome u v → MatchOption r (SeeksInVain v w) (λ unit. SeeksWell v w unit) → IfNone r (FindsNothing u w)
none_after None u v w a h = nothing_after u v w a h
none_after (Some unit) u v w a h = tt

-- a number is in one of the two rounds at most
apart : (o number workers : ℕ) → o ≢ number → times_in o (range_of (number + 1) workers) + times_in o (range_of 0 number) ≤ 1
apart o number workers n = grind (arith, nat_tests)

-- what the first round takes
pub seeks_first : (v w : View) (number workers unit : ℕ) → v.number ≡ number → v.workers ≡ workers → TakesFrom v w (number + 1) workers unit → SeeksWell v w unit
seeks_first v w number workers unit en ew a = let turn = a.turn in let away : AreElsewhere v.number a.seen = (λ l h e. let p = turn.inside l h in let lo = p.0 in absurd (omega arith)) in record {
  claim = record {
    seen = a.seen;
    steps = a.steps;
    later = a.later;
    taking = a.taking;
    piece = a.piece;
    shorter = shorter_away v.number a.seen away;
    brief = λ o n. let x = a.brief o in let y = apart o number workers (λ e. n (e ∙ sym en)) in omega arith;
    round = subst (λ (t : ℕ × ℕ). GoesRound t.0 t.1 a.seen) (λ i. (sym en i, sym ew i)) (round_up number workers a.seen a.turn);
  };
  away = away;
}

-- what the second round takes
pub seeks_second : (v w x : View) (number workers unit : ℕ) → v.number ≡ number → v.workers ≡ workers → Toured v w (number + 1) workers → TakesFrom w x 0 number unit → SeeksWell v x unit
seeks_second v w x number workers unit en ew a b =
    let l = a.later in let p = l.same_seat in let away : AreElsewhere v.number (a.seen ++ b.seen) =
    both_away v.number number workers a.seen b.seen en a.turn b.turn in record {
      claim = record {
        seen = a.seen ++ b.seen;
        steps = b.steps;
        later = later_trans v w x a.seen b.seen [] b.steps a.later b.later;
        taking = subst (λ (n : ℕ). IsTaking n b.steps) p.number b.taking;
        piece = b.piece;
        shorter = shorter_away v.number (a.seen ++ b.seen) away;
        brief = λ o n. let s = a.brief o in let t = b.brief o in let y = apart o number workers (λ e. n (e ∙ sym en)) in let z = looks_at-append o a.seen b.seen in omega arith;
        round = subst (λ (t : ℕ × ℕ). GoesRound t.0 t.1 (a.seen ++ b.seen)) (λ i. (sym en i, sym ew i)) (round_both number workers a.seen b.seen a.turn b.turn);
      };
      away = away;
    }

-- two rounds that take nothing, and then the end
pub seeks_nothing : (v w x : View) (word number workers : ℕ)
    → v.number ≡ number → v.workers ≡ workers → Toured v w (number + 1) workers → Toured w x 0 number
    → range_len (unpacked word) ≡ 0 → length x.settled ≤ length x.answers → SeeksInVain v (ended x word)
seeks_nothing v w x word number workers en ew a b empty few =
    let t : IsLater v x (a.seen ++ b.seen) [] = later_trans v w x a.seen b.seen [] [] a.later b.later in let same_seat = t.same_seat in let s : IsSeeking x = b.seeking in let f = s.free in
    let l : List Look = look x x.number word ∷ [] in
    let e : IsLater x (ended x word) l (by.End x.number ∷ []) = record {
      same_seat = record { number = refl; workers = refl; answers = refl; joined = refl; carries = refl; made = refl };
      settled = refl;
      looks = refl;
      moves = refl;
    } in
    let away : AreElsewhere v.number (a.seen ++ b.seen) = both_away v.number number workers a.seen b.seen en a.turn b.turn in record {
      claim = record {
        seen = (a.seen ++ b.seen) ++ l;
        later = subst (λ (n : ℕ). IsLater v (ended x word) ((a.seen ++ b.seen) ++ l) (by.End n ∷ [])) same_seat.number
            (later_trans v x (ended x word) (a.seen ++ b.seen) l [] (by.End x.number ∷ []) t e);
        fresh = fresh_more v x (a.seen ++ b.seen) l t (fresh_more v w a.seen b.seen a.later a.fresh b.fresh) (fresh_one x x.number word);
        over = record { hand = f.hand; over = refl };
        empty = (look x x.number word, Contains-append_right (a.seen ++ b.seen) l (look x x.number word) (Contains-push [] (look x x.number word)), same_seat.number, empty);
        others = λ o lo ne. bare_left (a.seen ++ b.seen) l o (go o lo ne (cases_lt o number));
        shorter = record { early = a.seen ++ b.seen; last = look x x.number word; all = refl; own = same_seat.number; bare = empty; shorter = shorter_away v.number (a.seen ++ b.seen) away };
        brief = λ o n. let p = a.brief o in let q = b.brief o in let y = apart o number workers (λ e. n (e ∙ sym en)) in
            let z = looks_at-append o a.seen b.seen in let z' = looks_at-append o (a.seen ++ b.seen) l in let h = looks_at-not x o x.number word (λ e. n (e ∙ same_seat.number)) in omega arith;
        round = round_before v.number v.workers (a.seen ++ b.seen) l
            (subst (λ (t : ℕ × ℕ). GoesRound t.0 t.1 (a.seen ++ b.seen)) (λ i. (sym en i, sym ew i)) (round_both number workers a.seen b.seen a.turn b.turn))
            (subst (λ (n : ℕ). AtHome n l) same_seat.number (home_one x word));
        few = few;
      };
      away = away;
    }
  where
    go : (o : ℕ) → o < v.workers → o ≢ v.number → (o < number) ⊎ (number ≤ o) → IsBare (a.seen ++ b.seen) o
    go o lo ne (inl h) = bare_right a.seen b.seen o (b.bare o (omega arith) h)
    go o lo ne (inr h) = bare_left a.seen b.seen o (a.bare o (let ne' : o ≢ number = (λ e. ne (e ∙ sym en)) in omega arith) (subst (λ (k : ℕ). o < k) ew lo))
