-- The stretches are the bytes, in one way.
use Rattle.std.proofs.Common.{◌≡◌, ◌≢◌, ◌==◌, ℕ, Bool, true, false, List, [], ◌∷◌, refl, sym, ap, subst, ◌∙◌, arith, All, if◌then◌else◌}
use Rattle.std.specs.List.{join_with_byte}
use Rattle.std.proofs.lemmas.Bool.Decides.{nat_tests}
use Rattle.std.proofs.lemmas.List.Elements.{All-append, All-cons, All-head, All-nil, All-tail}
use Rattle.std.proofs.lemmas.List.Splits.{join_with_byte-slice_split, slice_split_at, slice_split_none}
use Rattle.daa_lines.specs.LinesOf.{Bytes, line_feed, stretches_of}
use Rattle.daa_lines.specs.Joined.{HasNoFeed}
use Rattle.daa_lines.proofs.CutLemmas.{Cut, cut, cut_at, with_byte, with_feed, stretches_of-cut}

-- a byte that is no line feed
abbrev IsOther : ℕ → Type 0
IsOther byte = byte ≢ line_feed

pub joined-stretches_of : (bytes : Bytes) → join_with_byte line_feed (stretches_of bytes) ≡ bytes
unfolding stretches_of
joined-stretches_of bytes = join_with_byte-slice_split line_feed bytes

-- no line feed is in a stretch or in the rest
record IsWithoutFeeds (c : Cut) : Type 0 where
  pub whole : All HasNoFeed c.whole
  pub rest : HasNoFeed c.rest

without_front : (byte : ℕ) (whole : List Bytes) (rest : Bytes) → byte ≢ line_feed → IsWithoutFeeds (cut_at whole rest) → IsWithoutFeeds (with_byte byte whole rest)
without_front byte [] rest ne w = record { whole = w.whole; rest = All-cons IsOther byte rest ne w.rest }
without_front byte (line ∷ whole) rest ne w = record {
  whole = All-cons HasNoFeed (byte ∷ line) whole (All-cons IsOther byte line ne (All-head HasNoFeed line whole w.whole)) (All-tail HasNoFeed line whole w.whole);
  rest = w.rest;
}

without_next : (byte : ℕ) (is_feed : Bool) (c : Cut) → (byte == line_feed) ≡ is_feed → IsWithoutFeeds c
    → IsWithoutFeeds (if is_feed then with_feed c else with_byte byte c.whole c.rest)
without_next byte true c e w = record { whole = All-cons HasNoFeed [] c.whole (All-nil IsOther) w.whole; rest = w.rest }
without_next byte false c e w =
    let other : byte ≢ line_feed = grind (arith, nat_tests) in
    without_front byte c.whole c.rest other w

cut_without_feeds : (bytes : Bytes) → IsWithoutFeeds (cut bytes)
unfolding cut
cut_without_feeds [] = record { whole = All-nil HasNoFeed; rest = All-nil IsOther }
cut_without_feeds (byte ∷ bytes) = without_next byte _ (cut bytes) refl (cut_without_feeds bytes)

pub stretches_without_feeds : (bytes : Bytes) → All HasNoFeed (stretches_of bytes)
stretches_without_feeds bytes =
    let w = cut_without_feeds bytes in let rest = (cut bytes).rest in
    subst (All HasNoFeed) (sym (stretches_of-cut bytes))
    (All-append HasNoFeed (cut bytes).whole (rest ∷ []) w.whole (All-cons HasNoFeed rest [] w.rest (All-nil HasNoFeed)))

is_other : (byte : ℕ) → IsOther byte → (byte == line_feed) ≡ false
is_other byte ne = grind (arith, nat_tests)

-- no byte passes the test
none_passes : (bytes : Bytes) → HasNoFeed bytes → All (λ byte. (byte == line_feed) ≡ false) bytes
none_passes bytes free = λ k d l. is_other _ (free k d l)

pub stretches_of-joined : (first : Bytes) (others : List Bytes) → All HasNoFeed (first ∷ others)
    → stretches_of (join_with_byte line_feed (first ∷ others)) ≡ first ∷ others
unfolding stretches_of
stretches_of-joined first [] free = slice_split_none (λ byte. byte == line_feed) first (none_passes first (All-head HasNoFeed first [] free))
stretches_of-joined first (next ∷ others) free =
    slice_split_at (λ byte. byte == line_feed) first line_feed (join_with_byte line_feed (next ∷ others))
    (none_passes first (All-head HasNoFeed first (next ∷ others) free)) refl
    ∙ ap (λ (ls : List Bytes). first ∷ ls) (stretches_of-joined next others (All-tail HasNoFeed first (next ∷ others) free))
