-- The walk over the words keeps an option's rows good, where no fault is found.
use Rattle.std.proofs.Common.{◌≡◌, ◌&&◌, ℕ, Bool, cond, zero, suc, true, false, List, [], ◌∷◌, length, drop, Option, Some, None, is_some, nat_lt}
use Rattle.std.specs.Prelude.{IfSome, encode_utf8, slice_get}
use Rattle.std.specs.List.{fold}
use Rattle.std.specs.Option.{option_map_or}
use Rattle.std.specs.Str.{bytes_eq, chars}
use Rattle.clap.specs.Lexer.{long_of, short_of}
use Rattle.clap.specs.Facts.{unwrap_or_range}
use Rattle.clap.specs.Simple.{Shape}
use Rattle.clap.specs.Walk.{Held, Names, Outcome, Rule, Step, Text, Waiting, Walk, action_of, after_flag}
use Rattle.clap.specs.Walk.{after_step, arg_by_id, arg_by_index, arg_by_long, arg_by_short, attached_value}
use Rattle.clap.specs.Walk.{bundle_met, bundle_step, done, flag_met, idle, is_pending, long_met}
use Rattle.clap.specs.Walk.{long_or_other, next, option, option_met, option_word, plain, plain_word}
use Rattle.clap.specs.Walk.{positional, refused, settled, short_met, short_or_plain}
use Rattle.clap.specs.Walk.{subcommand, subcommand_met, subcommand_or_other, takes_several, takes_values}
use Rattle.clap.specs.Walk.{to_positional, trailing, value, waits, walked, walked_from, word_met}
use Rattle.clap.specs.Kinds.{Kinds, or_else}
use Rattle.clap.specs.Faults.{bundle_fault, bundle_step_fault, flag_word_fault, flags_fault, long_fault}
use Rattle.clap.specs.Faults.{option_fault, other_fault, positional_fault, react_fault, settle_fault}
use Rattle.clap.specs.Faults.{short_fault, step_fault, stray_fault, turn_fault, walk_fault, word_fault}
use Rattle.clap.specs.declared.builder.action.ArgAction.TheVariants as action
use Rattle.clap.specs.declared.error.kind.ErrorKind.TheVariants as kind
use Rattle.daa_words.proofs.OptionRows.{AreGood, AreOwnOrOther, IsOwnOrOther, neither, own_found, react_keeps, settle_keeps}

module _ (opt : Rule) (set : action_of opt ≡ action.Set) (least : nat_lt 0 (unwrap_or_range opt.range).start_inclusive ≡ true)
    (rules : List Rule) (own : AreOwnOrOther opt rules) (again : Bool) where
  settles : (h : Held) → settle_fault rules again h ≡ [] → AreGood opt h.rows → AreGood opt (settled rules h).rows
  settles h none good = settle_keeps opt set least rules again h own none good

  -- ---- flags

  option_keeps : (a : Rule) (v : Option Text) (h : Held) → IsOwnOrOther opt a → option_fault rules again a v h ≡ []
      → AreGood opt h.rows → AreGood opt (option_met rules a v h).0.rows
  option_keeps a (Some v) h is none good = react_keeps opt set least rules again a (v ∷ []) h own is none good
  option_keeps a None h is none good = settles h none good

  flag_keeps : (a : Rule) (v : Option Text) (h : Held) → IsOwnOrOther opt a → cond (is_some v) (kind.TooManyValues ∷ []) (react_fault rules again a [] h) ≡ []
      → AreGood opt h.rows → AreGood opt (flag_met rules a v h).0.rows
  flag_keeps a (Some v) h is none good = good
  flag_keeps a None h is none good = react_keeps opt set least rules again a [] h own is none good

  long_keeps : (o : Option Rule) (v : Option Text) (h : Held) → IfSome o (IsOwnOrOther opt) → long_fault rules again o v h ≡ []
      → AreGood opt h.rows → AreGood opt (long_met rules o v h).0.rows
  long_keeps None v h is none good = good
  long_keeps (Some a) v h is none good = go (takes_values a) none
    where
      go : (b : Bool) → cond b (option_fault rules again a v h) (cond (is_some v) (kind.TooManyValues ∷ []) (react_fault rules again a [] h)) ≡ []
          → AreGood opt (cond b (option_met rules a v h) (flag_met rules a v h)).0.rows
      go true e = option_keeps a v h is e good
      go false e = flag_keeps a v h is e good

  short_keeps : (o : Option Rule) (rest : Text) (h : Held) (met : Held → Held × Outcome) (fault : Held → Kinds) → IfSome o (IsOwnOrOther opt)
      → ((k : Held) → fault k ≡ [] → AreGood opt k.rows → AreGood opt (met k).0.rows)
      → short_fault rules again o rest h fault ≡ [] → AreGood opt h.rows → AreGood opt (short_met rules o rest h met).0.rows
  short_keeps None rest h met fault is then none good = good
  short_keeps (Some a) rest h met fault is then none good = go (takes_values a) none
    where
      now : Held
      now = Rattle.clap.specs.Walk.reacted rules a [] h

      go : (b : Bool) → cond b (option_fault rules again a (attached_value rest) h) (or_else (react_fault rules again a [] h) (fault now)) ≡ []
          → AreGood opt (cond b (option_met rules a (attached_value rest) h) (met now)).0.rows
      go true e = option_keeps a (attached_value rest) h is e good
      go false e =
          let parts = neither (react_fault rules again a [] h) _ e in
          then now parts.1 (react_keeps opt set least rules again a [] h own is parts.0 good)

  bundle_keeps : (k : ℕ) (flags : Text) (skip : ℕ) (so_far : Outcome) (h : Held) → flags_fault rules again k flags skip h ≡ []
      → AreGood opt h.rows → AreGood opt (bundle_met rules k flags skip so_far h).0.rows
  unfolding flags_fault bundle_met
  bundle_keeps zero flags skip so_far h none good = good
  bundle_keeps (suc k) flags skip so_far h none good = go (slice_get (chars flags) 0) skip (bundle_keeps k) none
    where
      go : (o : Option ℕ) (skip : ℕ)
          → ((flags : Text) (skip : ℕ) (so_far : Outcome) (h : Held) → flags_fault rules again k flags skip h ≡ [] → AreGood opt h.rows → AreGood opt (bundle_met rules k flags skip so_far h).0.rows)
          → bundle_step_fault rules again o flags skip h (flags_fault rules again k) ≡ []
          → AreGood opt (bundle_step rules o flags skip so_far h (bundle_met rules k)).0.rows
      go None skip then e = good
      go (Some x) zero then e =
          let rest = drop (length (encode_utf8 x)) flags in
          short_keeps (arg_by_short rules x) rest h (bundle_met rules k rest 0 done) (flags_fault rules again k rest 0) (own_found opt _ rules own) (then rest 0 done) e good
      go (Some x) (suc skip) then e = then (drop (length (encode_utf8 x)) flags) skip so_far h e good

  -- ---- a word

  plain_keeps : (waiting : Waiting) (word : Text) (h : Held) → AreGood opt h.rows → AreGood opt (plain_word rules waiting word h).0.rows
  plain_keeps idle word h good = good
  plain_keeps positional word h good = good
  plain_keeps (option id) word h good = go (arg_by_id rules id)
    where
      go : (o : Option Rule) → AreGood opt (option_word o id word h).0.rows
      go None = good
      go (Some a) = good

  after_flag_keeps : (waiting : Waiting) (word : Text) (h : Held) (o : Outcome) → AreGood opt h.rows → AreGood opt (after_flag rules waiting word h o).0.rows
  after_flag_keeps waiting word h done good = good
  after_flag_keeps waiting word h (waits id) good = good
  after_flag_keeps waiting word h plain good = plain_keeps waiting word h good
  after_flag_keeps waiting word h refused good = plain_keeps waiting word h good

  flag_word_keeps : (waiting : Waiting) (word : Text) (h : Held) (o : Option (Text × Option Text)) → flag_word_fault rules again o word h ≡ []
      → AreGood opt h.rows → AreGood opt (long_or_other rules waiting word o h).0.rows
  flag_word_keeps waiting word h (Some p) none good =
      after_flag_keeps waiting word (long_met rules (arg_by_long rules p.0) p.1 h).0 (long_met rules (arg_by_long rules p.0) p.1 h).1
      (long_keeps (arg_by_long rules p.0) p.1 h (own_found opt _ rules own) none good)
  flag_word_keeps waiting word h None none good = go (short_of word) none
    where
      go : (o : Option Text) → option_map_or (λ flags. bundle_fault rules again flags h) o [] ≡ [] → AreGood opt (short_or_plain rules waiting word o h).0.rows
      go None e = plain_keeps waiting word h good
      go (Some flags) e =
          let met = bundle_met rules (length flags) flags h.skip plain (record h { skip = 0 }) in
          after_flag_keeps waiting word met.0 met.1 (bundle_keeps (length flags) flags h.skip plain (record h { skip = 0 }) e good)

-- ---- a turn, and the words

module _ (opt : Rule) (set : action_of opt ≡ action.Set) (least : nat_lt 0 (unwrap_or_range opt.range).start_inclusive ≡ true)
    (s : Shape) (own : AreOwnOrOther opt s.rules) (names : Names) where
  word_keeps : (is_trailing : Bool) (waiting : Waiting) (position : ℕ) (word : Text) (h : Held) → word_fault s names is_trailing waiting word h ≡ []
      → AreGood opt h.rows → AreGood opt (word_met s.rules names is_trailing waiting position word h).0.rows
  word_keeps true waiting position word h none good = good
  word_keeps false waiting position word h none good = go (subcommand_met names waiting word) none
    where
      ends : (b : Bool) → cond b [] (flag_word_fault s.rules s.args_override_self (long_of word) word h) ≡ []
          → AreGood opt (cond b (h, trailing position) (long_or_other s.rules waiting word (long_of word) h)).0.rows
      ends true e = good
      ends false e = flag_word_keeps opt set least s.rules own s.args_override_self waiting word h (long_of word) e good

      go : (o : Option Text) → other_fault s o word h ≡ [] → AreGood opt (subcommand_or_other s.rules o waiting position word h).0.rows
      go (Some name) e = good
      go None e = ends (bytes_eq word (45 ∷ 45 ∷ [])) e

  step_keeps : (word : Text) (w : Walk) (h : Held) (step : Step) → step_fault s w.position h step ≡ [] → AreGood opt h.rows
      → AreGood opt (after_step s.rules word w h step).held.rows
  step_keeps word w h (next waiting) none good = good
  step_keeps word w h (trailing position) none good = good
  step_keeps word w h (subcommand name) none good = good
  step_keeps word w h value none good = go (arg_by_index s.rules w.position) none
    where
      put : (a : Rule) (b : Bool) → cond b [] (settle_fault s.rules s.args_override_self h) ≡ [] → AreGood opt (cond b h (settled s.rules h)).rows
      put a true e = good
      put a false e = settle_keeps opt set least s.rules s.args_override_self h own e good

      go : (o : Option Rule) → option_map_or (λ a. positional_fault s.rules s.args_override_self a h) o (stray_fault s) ≡ []
          → AreGood opt (to_positional s.rules o word w h).held.rows
      go None e = good
      go (Some a) e = put a (is_pending a h.pending && takes_several a) e

  turn_keeps : (w : Walk) (word : Text) → turn_fault s names w word ≡ [] → AreGood opt w.held.rows → AreGood opt (walked s.rules names w word).held.rows
  unfolding walked
  turn_keeps w word none good = go w.stopped none
    where
      met : Held × Step
      met = word_met s.rules names w.is_trailing w.waiting w.position word w.held

      go : (o : Option (Text × List Text))
          → cond (is_some o) [] (or_else (word_fault s names w.is_trailing w.waiting word w.held) (step_fault s w.position met.0 met.1)) ≡ []
          → AreGood opt (walked_from s.rules names o w word).held.rows
      go (Some p) e = good
      go None e =
          let parts = neither (word_fault s names w.is_trailing w.waiting word w.held) _ e in
          step_keeps word w met.0 met.1 parts.1 (word_keeps w.is_trailing w.waiting w.position word w.held parts.0 good)

  pub walk_keeps : (w : Walk) (words : List Text) → walk_fault s names w words ≡ [] → AreGood opt w.held.rows
      → AreGood opt (fold (walked s.rules names) w words).held.rows
  unfolding walk_fault
  walk_keeps w [] none good = good
  walk_keeps w (word ∷ rest) none good =
      let parts = neither (turn_fault s names w word) _ none in
      walk_keeps (walked s.rules names w word) rest parts.1 (turn_keeps w word parts.0 good)
