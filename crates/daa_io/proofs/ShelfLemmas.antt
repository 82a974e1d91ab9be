-- Lemmas on texts under names.
use Rattle.std.proofs.Common.{◌≡◌, ℕ, ◌+◌, ◌<◌, ◌≤◌, Bool, false, true, not, cond, List, [], Bor, ◌∷◌, length}
use Rattle.std.proofs.Common.{take, map, Option, None, Some, IfSome, Result, Ok, Err, IfOk, IsErr, is_err}
use Rattle.std.proofs.Common.{IsNone, ◌≢◌, ◌⊎◌, inl, inr, ◌↔◌, refl, sym, ◌∙◌, ap, arith, length-take}
use Rattle.std.specs.Prelude.{position, slice_get, string_bytes, vec_items, option_map, option_and_then, MatchOption, String, Vec}
use Rattle.std.specs.List.{prefix_len}
use Rattle.std.specs.Slice.{IsItemAt}
use Rattle.std.specs.Str.{bytes_eq}
use Rattle.std.specs.Global.{Global}
use Rattle.std.proofs.lemmas.List.{take_all, length-map}
use Rattle.std.proofs.lemmas.Option.{slice_get-map, slice_get_past, slice_get_read}
use Rattle.daa_io.specs.declared.faults.Failed.{Failed}
use Rattle.daa_io.specs.declared.shelf.FetchFault.{FetchFault}
use Rattle.daa_io.specs.Shelf.{longest_text}
use Rattle.daa_io.specs.MemShelf.{text_under}

prefix_len-map : {X Y : Type 0} (f : X → Y) (p : Y → Bool) (xs : List X) → prefix_len p (map f xs) ≡ prefix_len (λ x. p (f x)) xs
prefix_len-map f p [] = refl
prefix_len-map f p (x ∷ xs) = ap (λ n. cond (p (f x)) (1 + n) 0) (prefix_len-map f p xs)

position-map : {X Y : Type 0} (f : X → Y) (p : Y → Bool) (xs : List X) → position p (map f xs) ≡ position (λ x. p (f x)) xs
position-map f p xs = rw (prefix_len-map f (λ y. not (p y)) xs, length-map xs f)

-- the text under a name, by the names and texts as they are kept
pub text_of_place : (names : List (String Global)) (texts : List (Vec ℕ Global)) (name : List ℕ)
    → text_under (map string_bytes names) (map vec_items texts) name
    ≡ option_and_then (λ place. option_map vec_items (slice_get texts place)) (position (λ held. bytes_eq (string_bytes held) name) names)
text_of_place names texts name =
    rw (position-map string_bytes (λ held. bytes_eq held name) names) (by (position (λ held. bytes_eq (string_bytes held) name) names))
  where
    by : (place : Option ℕ) → option_and_then (slice_get (map vec_items texts)) place ≡ option_and_then (λ i. option_map vec_items (slice_get texts i)) place
    by None = refl
    by (Some i) = slice_get-map vec_items texts i

-- what `get` gives of the texts
pub got_text : (texts : List (Vec ℕ Global)) (place : ℕ) (found : Option (Bor (Vec ℕ Global))) → IsItemAt texts place found
    → MatchOption found (option_map vec_items (slice_get texts place) ≡ None) (λ text. option_map vec_items (slice_get texts place) ≡ Some text.now.items)
got_text texts place None is = ap (option_map vec_items) (slice_get_past texts place is.3)
got_text texts place (Some text) is = ap (option_map vec_items) (slice_get_read texts _ place text.now refl is.3.0 (is.3.1 text.now))

-- a text that stopped before the limit is all of the known bytes
pub whole_text : (known : Option (List ℕ)) (text : List ℕ) (limit : ℕ)
    → IfSome (option_map (take limit) known) (λ bytes. text ≡ bytes) → length text < limit → IfSome known (λ bytes. text ≡ bytes)
whole_text None text limit same short = tt
whole_text (Some bytes) text limit same short =
    let all : length bytes ≤ limit = omega (arith, length-take limit bytes, ap length same) in same ∙ take_all limit bytes all

-- ---- a copy of a text that was found under a name

module _ (answer : Result (Vec ℕ Global) FetchFault) (found : Option (List ℕ)) (bytes : List ℕ) (is : found ≡ Some bytes) where
  pub copied_held : IfOk answer (λ copy. copy.items ≡ bytes) → IfOk answer (λ copy. found ≡ Some copy.items)
  copied_held = by answer
    where
      by : (r : Result (Vec ℕ Global) FetchFault) → IfOk r (λ copy. copy.items ≡ bytes) → IfOk r (λ copy. found ≡ Some copy.items)
      by (Ok copy) same = is ∙ ap Some (sym same)
      by (Err fault) same = tt

  pub copied_long : ((answer ≡ Err FetchFault.TooLong) ↔ (longest_text < length bytes))
      → IfSome found (λ text. longest_text < length text → (answer ≡ Err FetchFault.TooLong) ⊎ (answer ≡ Err FetchFault.Failed))
  copied_long long = rw is (λ longer. inl (long.1 longer))

  -- it fails neither by itself nor for want of the text
  pub copied_fails : (call : Result ℕ Failed) (P : Type 0) → answer ≢ Err FetchFault.Failed → is_err call ≡ false → (IsErr call ↔ P)
      → (answer ≡ Err FetchFault.Failed) ↔ (P ⊎ IsNone found)
  copied_fails call P never calm fails = (λ failed. absurd (never failed), λ cause. absurd (by cause))
    where
      by : P ⊎ IsNone found → ⊥
      by (inl named) = let failed : is_err call ≡ true = fails.1 named in cc (failed, calm)
      by (inr absent) = cc (absent, is)
