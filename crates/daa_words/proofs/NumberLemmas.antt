-- The number that is read at an option of whole numbers.
use Rattle.std.proofs.Common.{◌≡◌, ◌∙◌, ◌^◌, ◌<◌, ◌≤◌, ℕ, Bool, cond, true, false, List, Option, Some, None, arith, true≢false, refl, sym, ap, subst}
use Rattle.std.specs.Prelude.{⊤, option_and_then, pos, Ok, Err, Result}
use Rattle.std.specs.Str.Parse.{ParsesUnsigned, digits_value, without_leading_plus}
use Rattle.clap.proofs.CallerReads.{signed_reads}
use Rattle.clap.proofs.ValueTestLemmas.{Accepts-accepts, accepts-Accepts}
use Rattle.clap.specs.Facts.{parser_of_value}
use Rattle.clap.specs.Lexer.{without_minus}
use Rattle.clap.proofs.WalkLemmas.{one_text-rows}
use Rattle.clap.specs.Matches.{ReadsOne, one_text}
use Rattle.clap.specs.declared.parser.matches.Found.{Found}
use Rattle.clap.specs.Values.{IsSignedIn, IsUnsignedIn, read_as, reading_of}
use Rattle.clap.specs.ValueTests.{accepts, is_unsigned_in}
use Rattle.clap.specs.Walk.{Row, Rule, Text, rows_of}
use Rattle.clap.specs.declared.builder.value_parser.ValueParser.TheVariants.{Signed, Unsigned}
use Rattle.daa_words.specs.Order.{number_at}
use Rattle.daa_words.proofs.LevelOptions.{HasText}

-- ---- a text

abbrev value : Text → ℕ
value text = digits_value 10 (without_leading_plus text)

abbrev number_if : Text → Bool → Option ℕ
number_if text b = cond b (Some (value text)) None

-- the number that a text is to `u32`
abbrev pub number_of : Text → Option ℕ
number_of text = number_if text (is_unsigned_in 0 4294967295 text)

fits : (text : Text) → is_unsigned_in 0 4294967295 text ≡ true → IsUnsignedIn 0 4294967295 text
fits text e = accepts-Accepts false (Unsigned 0 4294967295) text e

-- what `u32` reads is the text's number
pub number_read : (E : Type 0) (gives : List ℕ → Result ℕ E → Type 0) (text : Text) (r : Option ℕ) → ReadsOne gives text r
    → ((u : List ℕ) (x : Result ℕ E) → gives u x → ParsesUnsigned 32 10 u x) → r ≡ number_of text
number_read E gives text (Some v) read only =
    let parsed = only text (Ok v) read in
    let fit : is_unsigned_in 0 4294967295 text ≡ true =
    Accepts-accepts false (Unsigned 0 4294967295) text (parsed.0.0, omega (arith, parsed.0.1), omega arith, omega (arith, parsed.0.1)) in
    ap Some parsed.1 ∙ ap (number_if text) (sym fit)
number_read E gives text None read only = go (is_unsigned_in 0 4294967295 text) refl
  where
    go : (b : Bool) → is_unsigned_in 0 4294967295 text ≡ b → None ≡ number_if text b
    go true e = let fit = fits text e in absurd (only text (Err read.0) read.1 (fit.0, omega (arith, fit.3)))
    go false e = refl

-- and the text's number is what `u32` reads
number_is_read : (text : Text) → ReadsOne {E = ⊤} (ParsesUnsigned 32 10) text (number_of text)
number_is_read text = go (is_unsigned_in 0 4294967295 text) refl
  where
    go : (b : Bool) → is_unsigned_in 0 4294967295 text ≡ b → ReadsOne {E = ⊤} (ParsesUnsigned 32 10) text (number_if text b)
    go true e = let fit = fits text e in ((fit.0, omega (arith, fit.3)), refl)
    go false e = (
      tt,
      λ numeral. true≢false (sym (Accepts-accepts false (Unsigned 0 4294967295) text
          (numeral.0, omega (arith, numeral.1), omega arith, omega (arith, numeral.1))) ∙ e),
    )

-- ---- an option

-- what `get_one` reads at an option is its number
pub one_number : (E : Type 0) (gives : List ℕ → Result ℕ E → Type 0) (f : Found) (id : Text) (r : Option ℕ)
    → (one_text f id ≡ None → r ≡ None) → ((t : List ℕ) → one_text f id ≡ Some t → ReadsOne gives t r)
    → ((u : List ℕ) (x : Result ℕ E) → gives u x → ParsesUnsigned 32 10 u x) → r ≡ number_at id (rows_of f)
one_number E gives f id r none some only = go (one_text f id) refl ∙ ap (option_and_then number_of) (one_text-rows f id)
  where
    go : (o : Option Text) → one_text f id ≡ o → r ≡ option_and_then number_of (one_text f id)
    go None e = none e ∙ ap (option_and_then number_of) (sym e)
    go (Some text) e = number_read E gives text r (some text e) only ∙ ap (option_and_then number_of) (sym e)

-- the option's number is in its range
pub record HasNumber (id : Text) (least most : ℕ) (rows : List Row) : Type 0 where
  pub number : ℕ
  pub is : number_at id rows ≡ Some number
  pub at_least : least ≤ number
  pub at_most : number ≤ most

pub number_at_text : (opt : Rule) (least most : ℕ) (rows : List Row) → opt.parser ≡ Some (Signed (pos least) (pos most)) → (h : HasText opt rows)
    → number_at opt.id rows ≡ number_of (without_minus h.text)
number_at_text opt least most rows parser h =
    ap (option_and_then number_of) h.one ∙ ap (λ p. number_of (read_as (reading_of (parser_of_value p)) h.text)) parser

-- an option of whole numbers has a number where it has a text
pub number_there : (opt : Rule) (least most : ℕ) (rows : List Row) → opt.parser ≡ Some (Signed (pos least) (pos most)) → most < 2 ^ 32
    → HasText opt rows → HasNumber opt.id least most rows
number_there opt least most rows parser small h =
    let taken : accepts opt.ignore_case (Signed (pos least) (pos most)) h.text ≡ true =
    subst (λ p. accepts opt.ignore_case (parser_of_value p) h.text ≡ true) parser h.taken in
    let within : IsSignedIn (pos least) (pos most) h.text = accepts-Accepts opt.ignore_case (Signed (pos least) (pos most)) h.text taken in
    let got = signed_reads ⊤ (ParsesUnsigned 32 10) 32 least most h.text (number_of (without_minus h.text)) (number_is_read (without_minus h.text))
    (λ u x g. g) small within in
    record { number = got.0; is = number_at_text opt least most rows parser h ∙ got.1; at_least = got.2; at_most = got.3 }
