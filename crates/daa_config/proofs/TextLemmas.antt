-- What a text is as a document, and that what is taken is in range.
use Rattle.std.proofs.Common.{◌≡◌, ◌∙◌, ◌≤◌, arith, ℕ, Bool, true, false, not, ◌&&◌, ◌==◌, ◌%◌, List, length, nat_lt, map, option_map, Option, Some, None, Result, Ok, Err, cond, refl, subst}
use Rattle.std.specs.Prelude.{nat_abs}
use Rattle.std.specs.List.{list_all}
use Rattle.std.specs.Option.{option_map_or}
use Rattle.std.specs.Str.{IsUtf8, is_utf8}
use Rattle.std.proofs.lemmas.Str.{IsUtf8-from_is_utf8, is_utf8-from_IsUtf8}
use Rattle.std.proofs.lemmas.Bool.Decides.{nat_tests}
use Rattle.std.proofs.lemmas.Bool.{and_parts, not-false}
use Rattle.toml.specs.Data.{Members}
use Rattle.toml.specs.Parse.{parse_document}
use Rattle.daa_config.specs.declared.fault.ConfigFault.{ConfigFault}
use Rattle.daa_config.specs.declared.fault.ConfigFault.TheVariants.{TooLong, NotToml, UnknownKey, MissingKey, NotNumber, OutOfRange, Levels, TooMany}
use Rattle.daa_config.specs.Document.{any_table, number_in}
use Rattle.daa_config.specs.Limits.{full_turn}
use Rattle.daa_config.specs.Inside.Numbers.{levels_are_wrong, has_too_many}
use Rattle.daa_config.specs.Rows.{has_other_key, lacks_key, holds_other}
use Rattle.daa_config.specs.Settings.{Settings, IsAccepted}
use Rattle.daa_config.specs.ConfigOf.{Written, rows_of, settings_of, config_in, config_of}
use Rattle.daa_config.specs.Level.{level_of, cylinder_of, asks_one, asks_nearest, is_set}
use Rattle.daa_config.proofs.RangeLemmas.{accepted}

-- what a text is that is no document
abbrev refused : Result Settings ConfigFault
refused = Err NotToml

-- what a text is that is not too long
abbrev short_text : List ℕ → Result Settings ConfigFault
short_text t = cond (not (is_utf8 t)) (Err NotToml) (option_map_or config_in (parse_document t) (Err NotToml))

document_read : (t : List ℕ) (ms : Members) → IsUtf8 t → parse_document t ≡ Some ms → short_text t ≡ config_in ms
document_read t ms utf8 read = rw (is_utf8-from_IsUtf8 t utf8, read) refl

document_refused : (t : List ℕ) → (IsUtf8 t → parse_document t ≡ None) → short_text t ≡ Err NotToml
document_refused t h = go (is_utf8 t) refl
  where
    go : (b : Bool) → is_utf8 t ≡ b → cond (not b) (Err NotToml) (option_map_or config_in (parse_document t) (Err NotToml)) ≡ refused
    go true e = rw (h (IsUtf8-from_is_utf8 t e)) refl
    go false e = refl

not_long : (n : ℕ) → n ≤ 65536 → nat_lt 65536 n ≡ false
not_long n h = grind (arith, nat_tests)

short : (t : List ℕ) → length t ≤ 65536 → config_of t ≡ short_text t
unfolding config_of
short t h = rw (not_long (length t) h) refl

pub text_read : (t : List ℕ) (ms : Members) → length t ≤ 65536 → IsUtf8 t → parse_document t ≡ Some ms → config_of t ≡ config_in ms
text_read t ms few utf8 read = short t few ∙ document_read t ms utf8 read

pub text_refused : (t : List ℕ) → length t ≤ 65536 → (IsUtf8 t → parse_document t ≡ None) → config_of t ≡ Err NotToml
text_refused t few h = short t few ∙ document_refused t h

-- ---- what is taken

past : {Y : Type 0} (b : Bool) (e : ConfigFault) (r : Result Y ConfigFault) (y : Y) → cond b (Err e) r ≡ Ok y → (b ≡ false) × (r ≡ Ok y)
past true e r y h = cc
past false e r y h = (refl, h)

settled : (w : Written) (s : Settings) → settings_of w ≡ Ok s → IsAccepted s
unfolding settings_of levels_are_wrong has_too_many
settled w s h =
    let t : Settings = record {
      numbers = w.numbers;
      recovery = option_map cylinder_of w.recovery;
      nearest = asks_nearest w.recovery;
      last_times = is_set w.last_times;
      levels = map level_of w.levels;
    } in
    let fit = list_all (λ row. row.fits) (rows_of w) in
    let divides = full_turn % nat_abs w.numbers.track_step == 0 in
    let ranges = past (not (fit && divides)) OutOfRange _ s h in
    let one = past (not (list_all asks_one w.levels)) OutOfRange _ s ranges.1 in
    let levels = past (levels_are_wrong w.numbers.resolve w.levels) Levels _ s one.1 in
    let many = past (has_too_many w.numbers) TooMany _ s levels.1 in
    let both = and_parts fit divides (not-false _ ranges.0) in
    let same : t ≡ s = cc (many.1) in
    subst IsAccepted same (accepted w both.0 both.1 levels.0 many.0)

-- last times are asked for where the number that is written asks for them
asked : (w : Written) (s : Settings) → settings_of w ≡ Ok s → s.last_times ≡ is_set w.last_times
unfolding settings_of levels_are_wrong has_too_many
asked w s h =
    let fit = list_all (λ row. row.fits) (rows_of w) in
    let divides = full_turn % nat_abs w.numbers.track_step == 0 in
    let ranges = past (not (fit && divides)) OutOfRange _ s h in
    let one = past (not (list_all asks_one w.levels)) OutOfRange _ s ranges.1 in
    let levels = past (levels_are_wrong w.numbers.resolve w.levels) Levels _ s one.1 in
    let many = past (has_too_many w.numbers) TooMany _ s levels.1 in
    cc (many.1)

pub asked_as_written : (ms : Members) (s : Settings) → config_in ms ≡ Ok s → s.last_times ≡ is_set (number_in ms "last_times")
unfolding config_in
asked_as_written ms s h =
    let other = past (any_table has_other_key ms) UnknownKey _ s h in
    let lacking = past (any_table lacks_key ms) MissingKey _ s other.1 in
    let holding = past (any_table holds_other ms) NotNumber _ s lacking.1 in
    asked _ s holding.1

of_document : (ms : Members) (s : Settings) → config_in ms ≡ Ok s → IsAccepted s
unfolding config_in
of_document ms s h =
    let other = past (any_table has_other_key ms) UnknownKey _ s h in
    let lacking = past (any_table lacks_key ms) MissingKey _ s other.1 in
    let holding = past (any_table holds_other ms) NotNumber _ s lacking.1 in
    settled _ s holding.1

of_parsed : (o : Option Members) (s : Settings) → option_map_or config_in o (Err NotToml) ≡ Ok s → IsAccepted s
of_parsed None s h = cc
of_parsed (Some ms) s h = of_document ms s h

pub in_range : (text : List ℕ) (s : Settings) → config_of text ≡ Ok s → IsAccepted s
unfolding config_of
in_range text s h =
    let short = past (nat_lt 65536 (length text)) TooLong _ s h in
    let utf8 = past (not (is_utf8 text)) NotToml _ s short.1 in
    of_parsed (parse_document text) s utf8.1
