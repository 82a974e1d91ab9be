-- A level's table that has neither a key `tau` nor a key `tep`, a recovery's that has no key `nearest`, and a document that has no
-- key `last_times`.
use Prim.Native.String.{String}
use Rattle.std.proofs.Common.{◌≡◌, ◌∙◌, ℕ, ℤ, pos, Bool, true, false, not, ◌||◌, ◌&&◌, List, Option, Some, None, refl, ap}
use Rattle.std.specs.Prelude.{codes, option_and_then, is_some, int_le, if◌then◌else◌}
use Rattle.std.specs.Ordering.{nat_cmp, is_eq, match_ordering}
use Rattle.std.specs.declared.cmp.Ordering.{Ordering}
use Rattle.std.specs.declared.cmp.Ordering.TheVariants.{Less, Equal, Greater}
use Rattle.std.specs.Cmp.Lexicographic.{slice_cmp, texts_ties}
use Rattle.std.specs.List.{list_any}
use Rattle.std.specs.Str.{bytes_eq}
use Rattle.std.specs.Option.{option_map_or}
use Rattle.toml.specs.Data.{Data, Members, no_members, member, get_member, as_integer}
use Rattle.daa_taumod.specs.declared.Model.TheVariants.{Tau, Tcpa, Taumod, Tep}
use Rattle.daa_config.specs.declared.numbers.LevelNumbers.{LevelNumbers}
use Rattle.daa_config.specs.declared.numbers.Numbers.{Numbers}
use Rattle.daa_config.specs.declared.numbers.RecoveryNumbers.{RecoveryNumbers}
use Rattle.daa_config.specs.Before.{IsAsBefore, IsRecoveryAsBefore, IsDocumentAsBefore, rows_to_tcpa, rows_to_vdist, rows_to_recovery, numbers_of, recovery_numbers, document_numbers}
use Rattle.daa_config.specs.Document.{number_in}
use Rattle.daa_config.specs.Level.{is_set}
use Rattle.daa_config.specs.Rows.{Row, document_rows, level_rows, recovery_rows, has_other_key}
use Rattle.daa_config.proofs.TextLemmas.{asked_as_written}

-- ---- keys that a table lacks
-- what is found neither here nor further on
found_not : (o : Ordering) (a : Option Data) (d : Data) → match_ordering o a (Some d) a ≡ None → (is_eq o ≡ false) × (a ≡ None)
found_not Less a d h = (refl, h)
found_not Equal a d h = cc
found_not Greater a d h = (refl, h)

-- a key that a table lacks is none of its keys
apart : (k key : List ℕ) (d : Data) (ms : Members) → get_member k (member key d ms) ≡ None → (bytes_eq k key ≡ false) × (get_member k ms ≡ None)
apart k key d ms h = let t = found_not (slice_cmp nat_cmp k key) (get_member k ms) d h in (texts_ties k key ∙ t.0, t.1)

-- of nine tests the last two make no difference
two_fewer : (a b c d e f g x y : Bool) → x ≡ false → y ≡ false → (a || (b || (c || (d || (e || (f || (g || (x || (y || false))))))))) ≡ (a || (b || (c || (d || (e || (f || (g || false)))))))
two_fewer a b c d e f g x y hx hy = rw (hx, hy) refl

all_fewer : (a b c d e f g x y : Bool) → x ≡ true → y ≡ true → (a && (b && (c && (d && (e && (f && (g && (x && (y && true))))))))) ≡ (a && (b && (c && (d && (e && (f && (g && true)))))))
all_fewer a b c d e f g x y hx hy = rw (hx, hy) refl

is_listed : List Row → List ℕ → Bool
is_listed rows key = list_any (λ row. bytes_eq row.key key) rows

further : (a b r s : Bool) → a ≡ b → r ≡ s → (not a || r) ≡ (not b || s)
further a b r s h k = rw (h, k) refl

unknown_as_before : (n : LevelNumbers) (ms : Members) → get_member (codes "tau") ms ≡ None → get_member (codes "tep") ms ≡ None
    → has_other_key (level_rows n) ms ≡ has_other_key (rows_to_tcpa n) ms
unknown_as_before n no_members tau tep = refl
unknown_as_before n (member key d ms) tau tep =
    let t = apart (codes "tau") key d ms tau in
    let p = apart (codes "tep") key d ms tep in
    let of : String → Bool = λ name. bytes_eq (codes name) key in
    further _ _ (has_other_key (level_rows n) ms) (has_other_key (rows_to_tcpa n) ms)
    (two_fewer (of "dthr") (of "zthr") (of "tthr") (of "tcoa") (of "lookahead") (of "alert") (of "tcpa") (of "tau") (of "tep") t.0 p.0)
    (unknown_as_before n ms t.1 p.1)

-- ---- the table
-- what stands at a key that is missing
module _ (ms : Members) (tau : get_member (codes "tau") ms ≡ None) (tep : get_member (codes "tep") ms ≡ None) where
  none_at : (o : Option Data) → o ≡ None → option_map_or (λ z. z) (option_and_then as_integer o) (pos 0) ≡ pos 0
  none_at o h = rw h refl

  tau_is : number_in ms "tau" ≡ pos 0
  tau_is = none_at (get_member (codes "tau") ms) tau

  tep_is : number_in ms "tep" ≡ pos 0
  tep_is = none_at (get_member (codes "tep") ms) tep

  tau_unset : is_set (number_in ms "tau") ≡ false
  tau_unset = ap is_set tau_is

  tep_unset : is_set (number_in ms "tep") ≡ false
  tep_unset = ap is_set tep_is

  -- what stands at a key is no whole number
  abbrev wrong : String → Bool
  wrong name = option_map_or (λ d. not (is_some (as_integer d))) (get_member (codes name) ms) false

  nothing_wrong : (o : Option Data) → o ≡ None → option_map_or (λ d. not (is_some (as_integer d))) o false ≡ false
  nothing_wrong o h = rw h refl

  -- a number from low to high
  abbrev fits : ℤ → ℤ → String → Bool
  fits low high name = int_le low (number_in ms name) && int_le (number_in ms name) high

  zero_fits : (z : ℤ) → z ≡ pos 0 → (int_le (pos 0) z && int_le z (pos 1)) ≡ true
  zero_fits z h = rw h refl

  one_asks : (a b c : Bool) → a ≡ false → c ≡ false → (not (a && (b || c)) && not (b && c)) ≡ true
  one_asks a true c h k = rw (h, k) refl
  one_asks a false c h k = rw h refl

  model_asked : (a b c : Bool) → a ≡ false → c ≡ false → (if a then Tau else if b then Tcpa else if c then Tep else Taumod) ≡ (if b then Tcpa else Taumod)
  model_asked a b c h k = rw (h, k) refl

  pub as_before : IsAsBefore ms
  as_before = record {
    unknown = unknown_as_before (numbers_of ms) ms tau tep;
    missing = refl;
    other = two_fewer (wrong "dthr") (wrong "zthr") (wrong "tthr") (wrong "tcoa") (wrong "lookahead")
        (wrong "alert") (wrong "tcpa") (wrong "tau") (wrong "tep") (nothing_wrong _ tau) (nothing_wrong _ tep);
    fit = all_fewer
        (fits (pos 1) (pos 10000) "dthr")
        (fits (pos 0) (pos 10000) "zthr")
        (fits (pos 0) (pos 120) "tthr")
        (fits (pos 0) (pos 120) "tcoa")
        (fits (pos 1) (pos 180) "lookahead")
        (fits (pos 1) (pos 180) "alert")
        (fits (pos 0) (pos 1) "tcpa")
        (fits (pos 0) (pos 1) "tau")
        (fits (pos 0) (pos 1) "tep")
        (zero_fits _ tau_is)
        (zero_fits _ tep_is);
    one = one_asks _ (is_set (number_in ms "tcpa")) _ tau_unset tep_unset;
    model = model_asked _ (is_set (number_in ms "tcpa")) _ tau_unset tep_unset;
  }

-- ---- the recovery
-- of three tests the last makes no difference
third_fewer : (a b x : Bool) → x ≡ false → (a || (b || (x || false))) ≡ (a || (b || false))
third_fewer a b x hx = rw hx refl

recovery_unknown : (r : RecoveryNumbers) (ms : Members) → get_member (codes "nearest") ms ≡ None
    → has_other_key (recovery_rows r) ms ≡ has_other_key (rows_to_vdist r) ms
recovery_unknown r no_members nearest = refl
recovery_unknown r (member key d ms) nearest =
    let t = apart (codes "nearest") key d ms nearest in
    let of : String → Bool = λ name. bytes_eq (codes name) key in
    further _ _ (has_other_key (recovery_rows r) ms) (has_other_key (rows_to_vdist r) ms)
    (third_fewer (of "hdist") (of "vdist") (of "nearest") t.0)
    (recovery_unknown r ms t.1)

pub recovery_as_before : (ms : Members) → get_member (codes "nearest") ms ≡ None → IsRecoveryAsBefore ms
recovery_as_before ms nearest =
    let zero_is : number_in ms "nearest" ≡ pos 0 = rw nearest refl in
    record {
      unknown = recovery_unknown (recovery_numbers ms) ms nearest;
      missing = refl;
      other = rw nearest refl;
      fit = rw zero_is refl;
      not_asked = ap is_set zero_is;
    }

-- ---- the document
-- of nine tests the last makes no difference
one_fewer : (a b c d e f g h x : Bool) → x ≡ false → (a || (b || (c || (d || (e || (f || (g || (h || (x || false))))))))) ≡ (a || (b || (c || (d || (e || (f || (g || (h || false))))))))
one_fewer a b c d e f g h x hx = rw hx refl

all_but_one : (a b c x : Bool)
    → x ≡ true → (a && (b && (c && (true && (true && (true && (true && (true && (x && true)))))))))
    ≡ (a && (b && (c && (true && (true && (true && (true && (true && true))))))))
all_but_one a b c x hx = rw hx refl

document_unknown : (n : Numbers) (z : ℤ) (ms : Members) → get_member (codes "last_times") ms ≡ None
    → has_other_key (document_rows n z) ms ≡ has_other_key (rows_to_recovery n z) ms
document_unknown n z no_members last = refl
document_unknown n z (member key d ms) last =
    let t = apart (codes "last_times") key d ms last in
    let of : String → Bool = λ name. bytes_eq (codes name) key in
    further _ _ (has_other_key (document_rows n z) ms) (has_other_key (rows_to_recovery n z) ms)
    (one_fewer (of "resolve") (of "turn_rate") (of "track_step") (of "gs") (of "vs") (of "alt") (of "level") (of "recovery") (of "last_times") t.0)
    (document_unknown n z ms t.1)

pub document_as_before : (ms : Members) → get_member (codes "last_times") ms ≡ None → IsDocumentAsBefore ms
document_as_before ms last =
    let zero_is : number_in ms "last_times" ≡ pos 0 = rw last refl in
    record {
      unknown = document_unknown (document_numbers ms) (number_in ms "last_times") ms last;
      missing = refl;
      other = rw last refl;
      fit = rw zero_is refl;
      not_asked = λ s e. asked_as_written ms s e ∙ ap is_set zero_is;
    }
