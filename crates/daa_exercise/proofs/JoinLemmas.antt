-- What is counted of moments, and of those that come next, is what is counted of both.
use Rattle.std.proofs.Common.{◌≡◌, ◌∙◌, ◌<◌, ◌≤◌, ◌+◌, ◌-◌, ℕ, zero, suc, List, [], ◌∷◌, ◌++◌, length, refl, sym, ap, ap₂, arith, subst, add-zero, add-suc, add-one, add_assoc, zero-add, append-nil, append_assoc, length-append}
use Rattle.std.specs.Prelude.{slice_index, cond, ◌==◌}
use Rattle.std.specs.List.{All}
use Rattle.std.proofs.lemmas.List.Elements.{All-push}
use Rattle.std.proofs.lemmas.List.FromFn.{fill_by_all, get_or-map-range_with_len}
use Rattle.std.proofs.lemmas.List.Sums.{sum_by-append}
use Rattle.daa_bands.specs.Board.{mask_levels}
use Rattle.daa_config.specs.Settings.{Settings, IsAccepted}
use Rattle.daa_config.specs.declared.kind.Kind.TheVariants.{Track, GroundSpeed, VerticalSpeed, Altitude}
use Rattle.daa_state.specs.InRange.{IsPictureInRange}
use Rattle.daa_state.specs.Picture.{aircraft_of}
use Rattle.daa_state.specs.declared.word.Picture.{Picture}
use Rattle.daa_exercise.specs.Inside.Counting.{Adds, AddsUp, AreCounted, AreLevelsFrom, CountsPicture, HasAlerts, HasCounted, HasRoomFor, HasShown, HaveAllRoom, HaveRoom}
use Rattle.daa_exercise.specs.Inside.Counting.{Joins, aircraft_from}
use Rattle.daa_exercise.specs.Inside.Stints.{IsStint}
use Rattle.daa_exercise.specs.Levels.{counts_of}
use Rattle.daa_exercise.specs.Moments.{moment_of}
use Rattle.daa_exercise.specs.Inside.Drawing.{Outputs}
use Rattle.daa_exercise.specs.Outputs.{outputs_of}
use Rattle.daa_exercise.specs.declared.clerk.Stint.{Stint}
use Rattle.daa_exercise.specs.declared.counting.Counts.{Counts}
use Rattle.daa_exercise.proofs.CountLemmas.{aircraft_from_next, aircraft_from_none, all_next, count_few, how_often}
use Rattle.daa_exercise.proofs.RangeLemmas.{moment_range}
use Rattle.daa_exercise.proofs.TallyLemmas.{AreFirst, first_joined}

-- ---- one tally

how_often_append : (xs ys : List ℕ) (level : ℕ) → how_often (xs ++ ys) level ≡ how_often xs level + how_often ys level
how_often_append xs ys level = sum_by-append (λ other. cond (other == level) 1 0) xs ys

counted_at : (levels : List ℕ) (k : ℕ) → k < 9 → slice_index (counts_of mask_levels levels) k ≡ how_often levels k
unfolding counts_of
counted_at levels k lt = get_or-map-range_with_len (how_often levels) 0 9 k k 0 lt (zero-add k)

-- counts that are added one by one are those of both
pub tally_joined : (a b c : List ℕ) → length c ≡ 9 → ((k : ℕ) → k < 9 → slice_index c k ≡ slice_index a k + slice_index b k) → Joins a b c
unfolding counts_of
tally_joined a b c many each here more e f =
    fill_by_all (how_often (here ++ more)) c 9 0 many at
  where
    at : (k : ℕ) → k < 9 → slice_index c k ≡ how_often (here ++ more) k
    at k lt =
        let x = each k lt in
        let y = ap (λ (xs : List ℕ). slice_index xs k) e ∙ counted_at here k lt in
        let z = ap (λ (xs : List ℕ). slice_index xs k) f ∙ counted_at more k lt in
        let w = how_often_append here more k in
        omega (arith, x, y, z, w)

-- ---- one tally beside another that began with nothing

module _ (none : List ℕ) (empty : none ≡ counts_of mask_levels []) where
  -- none of its counts is above the number of levels
  beside_few : (Is : ℕ → ℕ → Type 0) (n : ℕ) (other : List ℕ) → Adds (AreFirst Is n) none other → (level : ℕ) → slice_index other level ≤ n
  beside_few Is n other (here, are, more) level =
      let e = ap (λ (xs : List ℕ). slice_index xs level) (more [] empty) in
      let f = count_few mask_levels level here in
      let m = are.many in
      omega (arith, e, f, m)

  -- it has room for levels
  pub beside_room : (Is : ℕ → ℕ → Type 0) (n : ℕ) (other : List ℕ) → n ≤ 512 → Adds (AreFirst Is n) none other → HasRoomFor 1 other
  beside_room Is n other most h level = let f = beside_few Is n other h level in omega (arith, f, most)

  -- a tally with room for as many levels has room for its counts
  pub beside_fits : (Is : ℕ → ℕ → Type 0) (n : ℕ) (tally other : List ℕ) → HasRoomFor n tally → Adds (AreFirst Is n) none other → HaveRoom tally other
  beside_fits Is n tally other room h level = let r = room level in let f = beside_few Is n other h level in omega (arith, r, f)

  -- what both counted, one after the other
  pub beside_added : (At : ℕ → ℕ → Type 0) (start m n : ℕ) (old tally other both : List ℕ) → Adds (AreFirst (λ i. At (start + i)) m) old tally
      → Adds (AreFirst (λ i. At (start + m + i)) n) none other → Joins tally other both → Adds (AreFirst (λ i. At (start + i)) (m + n)) old both
  beside_added At start m n old tally other both (xs, are, more) (ys, next, besides) joins = (
    xs ++ ys,
    first_joined At start m n xs ys are next,
    λ levels e. joins (levels ++ xs) ys (more levels e) (besides [] empty) ∙ ap (counts_of mask_levels) (append_assoc levels xs ys),
  )

-- ---- the levels of moments

levels_joined : (Has : Picture → List ℕ → Type 0) (output : Outputs) (time n m : ℕ) (xs ys : List ℕ) → AreLevelsFrom Has output time n xs
    → AreLevelsFrom Has output (time + n) m ys → AreLevelsFrom Has output time (n + m) (xs ++ ys)
levels_joined Has output time n zero xs ys h e =
    let none : xs ++ ys ≡ xs = ap (λ (zs : List ℕ). xs ++ zs) e ∙ append-nil xs in
    subst (λ (k : ℕ). AreLevelsFrom Has output time k (xs ++ ys)) (sym (add-zero n)) (subst (AreLevelsFrom Has output time n) (sym none) h)
levels_joined Has output time n (suc m) xs ys h are = subst (λ (k : ℕ). AreLevelsFrom Has output time k (xs ++ ys)) (sym (add-suc n m)) (record {
  first = xs ++ are.first;
  second = are.second;
  first_is = levels_joined Has output time n m xs are.first h are.first_is;
  second_is = subst (λ (t : ℕ). Has (moment_of output t) are.second) (add_assoc time n m) are.second_is;
  joined = ap (λ (zs : List ℕ). xs ++ zs) are.joined ∙ sym (append_assoc xs are.first are.second);
})

counted_joined : (Has : Picture → List ℕ → Type 0) (output : Outputs) (time n m : ℕ) (a b c : List ℕ) → HasCounted Has output time n a
    → HasCounted Has output (time + n) m b → Joins a b c → HasCounted Has output time (n + m) c
counted_joined Has output time n m a b c h k joins = record {
  levels = h.levels ++ k.levels;
  are = levels_joined Has output time n m h.levels k.levels h.are k.are;
  counted = joins h.levels k.levels h.counted k.counted;
  few = (let e = length-append h.levels k.levels in let f = h.few in let g = k.few in omega (arith, e, f, g));
}

room_beside : (Has : Picture → List ℕ → Type 0) (output : Outputs) (time other n m : ℕ) (a b : List ℕ) → n + m ≤ 10000 → HasCounted Has output time n a
    → HasCounted Has output other m b → HaveRoom a b
room_beside Has output time other n m a b few h k level =
    let x = ap (λ (xs : List ℕ). slice_index xs level) h.counted in
    let y = ap (λ (xs : List ℕ). slice_index xs level) k.counted in
    let p = count_few mask_levels level h.levels in
    let q = count_few mask_levels level k.levels in
    let f = h.few in
    let g = k.few in
    omega (arith, x, y, p, q, f, g, few)

aircraft_joined : (output : Outputs) (time n m : ℕ) → aircraft_from output time (n + m) ≡ aircraft_from output time n + aircraft_from output (time + n) m
aircraft_joined output time n zero =
    let e = ap (aircraft_from output time) (add-zero n) in let none = aircraft_from_none output (time + n) in omega (arith, e, none)
aircraft_joined output time n (suc m) =
    let more : n + suc m ≡ (n + m) + 1 = omega arith in
    let e = ap (aircraft_from output time) more ∙ aircraft_from_next output time (n + m) in
    let f = ap (aircraft_from output (time + n)) (sym (add-one m)) ∙ aircraft_from_next output (time + n) m in
    let same = ap (λ (t : ℕ). length (aircraft_of (moment_of output t))) (add_assoc time n m) in
    let before = aircraft_joined output time n m in
    omega (arith, e, f, same, before)

-- ---- all that is counted

module _ (s : Settings) (output : Outputs) where
  both_counted : (time n m : ℕ) (a b c : Counts) → AreCounted s output time n a → AreCounted s output (time + n) m b → AddsUp a b c
      → AreCounted s output time (n + m) c
  both_counted time n m a b c h k adds = record {
    aircraft = (let e = adds.aircraft in let x = h.aircraft in let y = k.aircraft in let z = aircraft_joined output time n m in omega (arith, e, x, y, z));
    few = (let e = adds.aircraft in let x = h.few in let y = k.few in omega (arith, e, x, y));
    alerts = counted_joined (HasAlerts s) output time n m a.alerts b.alerts c.alerts h.alerts k.alerts adds.alerts;
    track = counted_joined (λ p. HasShown s p Track) output time n m a.track b.track c.track h.track k.track adds.track;
    speed = counted_joined (λ p. HasShown s p GroundSpeed) output time n m a.speed b.speed c.speed h.speed k.speed adds.speed;
    climb = counted_joined (λ p. HasShown s p VerticalSpeed) output time n m a.climb b.climb c.climb h.climb k.climb adds.climb;
    height = counted_joined (λ p. HasShown s p Altitude) output time n m a.height b.height c.height h.height k.height adds.height;
  }

  -- a part, and what is counted from its end on
  pub part_joined : (from upto end : ℕ) (a b c : Counts) → from ≤ upto → upto ≤ end → AreCounted s output from (upto - from) a
      → AreCounted s output upto (end - upto) b → AddsUp a b c → AreCounted s output from (end - from) c
  part_joined from upto end a b c low high h k adds =
      let at : from + (upto - from) ≡ upto = omega (arith, low) in
      let all : (upto - from) + (end - upto) ≡ end - from = omega (arith, low, high) in
      subst (λ (n : ℕ). AreCounted s output from n c) all
      (both_counted from (upto - from) (end - upto) a b c h (subst (λ (t : ℕ). AreCounted s output t (end - upto) b) (sym at) k) adds)

  pub part_has_room : (from upto end : ℕ) (a b : Counts) → from ≤ upto → upto ≤ end → end ≤ 10000 → AreCounted s output from (upto - from) a
      → AreCounted s output upto (end - upto) b → HaveAllRoom a b
  part_has_room from upto end a b low high few h k =
      let n = upto - from in
      let m = end - upto in
      let sum : n + m ≤ 10000 = omega (arith, low, high, few) in record {
        aircraft = (let x = h.few in let y = k.few in omega (arith, x, y, sum));
        alerts = room_beside (HasAlerts s) output from upto n m a.alerts b.alerts sum h.alerts k.alerts;
        track = room_beside (λ p. HasShown s p Track) output from upto n m a.track b.track sum h.track k.track;
        speed = room_beside (λ p. HasShown s p GroundSpeed) output from upto n m a.speed b.speed sum h.speed k.speed;
        climb = room_beside (λ p. HasShown s p VerticalSpeed) output from upto n m a.climb b.climb sum h.climb k.climb;
        height = room_beside (λ p. HasShown s p Altitude) output from upto n m a.height b.height sum h.height k.height;
      }

-- ---- one moment more

pub next_counted : (s : Settings) → IsAccepted s → (seed from count other at : ℕ) (picture : Picture) (old new : Counts) → other ≡ seed → at ≡ from + count
    → picture ≡ moment_of (outputs_of other) at → AreCounted s (outputs_of seed) from count old → CountsPicture s picture old new
    → AreCounted s (outputs_of seed) from (count + 1) new
next_counted s ok seed from count other at picture old new same e is h k =
    let moved : picture ≡ moment_of (outputs_of seed) (from + count) = is ∙ ap₂ (λ (x t : ℕ). moment_of (outputs_of x) t) same e in
    let in' = subst IsPictureInRange (sym is) (moment_range (outputs_of other) at) in
    all_next s (outputs_of seed) ok from count picture old new in' moved h k

-- the same, where the time of the moment is given
pub time_counted : (s : Settings) → IsAccepted s → (seed from time other at : ℕ) (old new : Counts) → other ≡ seed → at ≡ time → from ≤ time
    → AreCounted s (outputs_of seed) from (time - from) old → CountsPicture s (moment_of (outputs_of other) at) old new
    → AreCounted s (outputs_of seed) from (time + 1 - from) new
time_counted s ok seed from time other at old new same e low h k =
    let here : at ≡ from + (time - from) = omega (arith, e, low) in
    let next : time - from + 1 ≡ time + 1 - from = omega (arith, low) in
    subst (λ (n : ℕ). AreCounted s (outputs_of seed) from n new) next
    (next_counted s ok seed from (time - from) other at (moment_of (outputs_of other) at) old new same here refl h k)

-- nothing is counted from a time up to itself
pub none_between : (s : Settings) (output : Outputs) (time : ℕ) (counts : Counts) → AreCounted s output time 0 counts → AreCounted s output time (time - time) counts
none_between s output time counts h =
    let none : 0 ≡ time - time = omega arith in
    subst (λ (n : ℕ). AreCounted s output time n counts) none h

-- ---- one part more

module _ (s : Settings) (seed left end : ℕ) (part : Stint) (counts : Counts) (is : IsStint s seed part) (at : part.upto ≡ left) (low : left ≤ end)
    (h : AreCounted s (outputs_of seed) left (end - left) counts) where
  from_there : AreCounted s (outputs_of seed) part.upto (end - part.upto) counts
  from_there = subst (λ (t : ℕ). AreCounted s (outputs_of seed) t (end - t) counts) (sym at) h

  pub part_fits : end ≤ 10000 → HaveAllRoom part.counts counts
  part_fits few =
      let some = is.some in
      part_has_room s (outputs_of seed) part.from part.upto end part.counts counts (omega (arith, some)) (omega (arith, at, low)) few is.counted from_there

  pub part_added : (both : Counts) → AddsUp part.counts counts both → AreCounted s (outputs_of seed) part.from (end - part.from) both
  part_added both adds =
      let some = is.some in
      part_joined s (outputs_of seed) part.from part.upto end part.counts counts both (omega (arith, some)) (omega (arith, at, low)) is.counted from_there adds

pub all_gathered : (s : Settings) (output : Outputs) (left end : ℕ) (counts : Counts) → left ≤ 0 → AreCounted s output left (end - left) counts
    → AreCounted s output 0 end counts
all_gathered s output left end counts none h =
    let at : left ≡ 0 = omega (arith, none) in
    let all : end - left ≡ end = omega (arith, none) in
    subst (λ (n : ℕ). AreCounted s output 0 n counts) all (subst (λ (t : ℕ). AreCounted s output t (end - left) counts) at h)

-- the parts of a clerk, and one that it counted of a sequence of the same seed
pub parts_pushed : (s : Settings) (seed other : ℕ) (parts all : List Stint) (part : Stint) → all ≡ parts ++ part ∷ [] → other ≡ seed → All (IsStint s seed) parts
    → IsStint s other part → All (IsStint s seed) all
parts_pushed s seed other parts all part e same are is =
    subst (All (IsStint s seed)) (sym e) (All-push (IsStint s seed) parts part are (subst (λ (n : ℕ). IsStint s n part) same is))
