-- The subcommand that is met is not clap's own `help`, where no fault is found.
use Rattle.std.proofs.Common.{◌≡◌, ◌∙◌, ◌&&◌, ◌||◌, ◌⊎◌, Bool, cond, not, true, false, List, [], ◌∷◌, Option, Some, None, inl, inr, is_some, true≢false, refl, sym, ap, subst, codes}
use Rattle.std.specs.Prelude.{⊤, IfSome, option_map, unwrap_or}
use Rattle.std.specs.List.{find, fold}
use Rattle.std.specs.Str.{bytes_eq}
use Rattle.std.proofs.lemmas.Slice.Eq.{bytes_eq-Decides}
use Rattle.clap.specs.Lexer.{long_of, short_of}
use Rattle.clap.specs.Walk.{Held, Names, Outcome, Row, Rule, Step, Text, Waiting, Walk, after_flag}
use Rattle.clap.specs.Walk.{after_step, answers_to, arg_by_index, arg_by_long, bundle, done, idle, long_met}
use Rattle.clap.specs.Walk.{long_or_other, next, nothing_held, option, plain, plain_word, positional, refused}
use Rattle.clap.specs.Walk.{short_or_plain, stop_after, subcommand, subcommand_met, subcommand_or_other}
use Rattle.clap.specs.Walk.{to_positional, trailing, value, waits, walk_from, walked, walked_from, word_met}
use Rattle.clap.specs.Kinds.{or_else}
use Rattle.clap.specs.Faults.{fault_of, other_fault, step_fault, turn_fault, walk_fault, word_fault}
use Rattle.clap.specs.Simple.{App, Shape, argument_words, built, entered, label_of, names_of, rows_at, subcommand_of}
use Rattle.clap.specs.declared.error.kind.ErrorKind.TheVariants as kind
use Rattle.daa_words.proofs.OptionRows.{neither, some_kind}
use Rattle.daa_words.proofs.LevelOptions.{Each, each_found, lacks_faults, no_value_there}

abbrev pub is_help : Text → Bool
is_help name = bytes_eq name (codes "help")

abbrev StopsElsewhere : Option (Text × List Text) → Type 0
StopsElsewhere stop = IfSome stop (λ p. is_help p.0 ≡ false)

abbrev StepsElsewhere : Step → Type 0
StepsElsewhere (subcommand name) = is_help name ≡ false
StepsElsewhere _ = ⊤

-- ---- a word that is no subcommand's name

plain_steps : (c : List Rule) (waiting : Waiting) (word : Text) (h : Held) → StepsElsewhere (plain_word c waiting word h).1
plain_steps c idle word h = tt
plain_steps c positional word h = tt
plain_steps c (option id) word h = tt

flag_steps : (c : List Rule) (waiting : Waiting) (word : Text) (h : Held) (o : Outcome) → StepsElsewhere (after_flag c waiting word h o).1
flag_steps c waiting word h done = tt
flag_steps c waiting word h (waits id) = tt
flag_steps c waiting word h plain = plain_steps c waiting word h
flag_steps c waiting word h refused = plain_steps c waiting word h

long_steps : (c : List Rule) (waiting : Waiting) (word : Text) (o : Option (Text × Option Text)) (h : Held) → StepsElsewhere (long_or_other c waiting word o h).1
long_steps c waiting word (Some p) h = flag_steps c waiting word (long_met c (arg_by_long c p.0) p.1 h).0 (long_met c (arg_by_long c p.0) p.1 h).1
long_steps c waiting word None h = go (short_of word)
  where
    go : (o : Option Text) → StepsElsewhere (short_or_plain c waiting word o h).1
    go None = plain_steps c waiting word h
    go (Some flags) = flag_steps c waiting word (bundle c flags h).0 (bundle c flags h).1

-- ---- a turn, and the words

module _ (s : Shape) (enabled : s.disable_help_subcommand ≡ false) (names : Names) where
  named_elsewhere : (name word : Text) (h : Held) → other_fault s (Some name) word h ≡ [] → is_help name ≡ false
  named_elsewhere name word h none = go (is_help name) (rw enabled at none)
    where
      go : (b : Bool) → cond (b && not false) (kind.DisplayHelp ∷ kind.InvalidSubcommand ∷ []) [] ≡ [] → b ≡ false
      go true e = absurd (some_kind _ _ e)
      go false e = refl

  word_steps : (is_trailing : Bool) (waiting : Waiting) (position : Rattle.std.specs.Prelude.ℕ) (word : Text) (h : Held)
      → word_fault s names is_trailing waiting word h ≡ [] → StepsElsewhere (word_met s.rules names is_trailing waiting position word h).1
  word_steps true waiting position word h none = tt
  word_steps false waiting position word h none = go (subcommand_met names waiting word) none
    where
      ends : (b : Bool) → StepsElsewhere (cond b (h, trailing position) (long_or_other s.rules waiting word (long_of word) h)).1
      ends true = tt
      ends false = long_steps s.rules waiting word (long_of word) h

      go : (o : Option Text) → other_fault s o word h ≡ [] → StepsElsewhere (subcommand_or_other s.rules o waiting position word h).1
      go (Some name) e = named_elsewhere name word h e
      go None e = ends (bytes_eq word (45 ∷ 45 ∷ []))

  step_stops : (word : Text) (w : Walk) (h : Held) (step : Step) → StopsElsewhere w.stopped → StepsElsewhere step → StopsElsewhere (after_step s.rules word w h step).stopped
  step_stops word w h (next waiting) before is = before
  step_stops word w h (trailing position) before is = before
  step_stops word w h (subcommand name) before is = is
  step_stops word w h value before is = go (arg_by_index s.rules w.position)
    where
      go : (o : Option Rule) → StopsElsewhere (to_positional s.rules o word w h).stopped
      go None = before
      go (Some a) = tt

  turn_stops : (w : Walk) (word : Text) → turn_fault s names w word ≡ [] → StopsElsewhere w.stopped → StopsElsewhere (walked s.rules names w word).stopped
  unfolding walked
  turn_stops w word none before = go w.stopped none before
    where
      met : Held × Step
      met = word_met s.rules names w.is_trailing w.waiting w.position word w.held

      go : (o : Option (Text × List Text))
          → cond (is_some o) [] (or_else (word_fault s names w.is_trailing w.waiting word w.held) (step_fault s w.position met.0 met.1)) ≡ []
          → StopsElsewhere o → StopsElsewhere (walked_from s.rules names o w word).stopped
      go (Some p) e there = there
      go None e there =
          let parts = neither (word_fault s names w.is_trailing w.waiting word w.held) _ e in
          step_stops word w met.0 met.1 before (word_steps w.is_trailing w.waiting w.position word w.held parts.0)

  walk_stops : (w : Walk) (words : List Text) → walk_fault s names w words ≡ [] → StopsElsewhere w.stopped
      → StopsElsewhere (fold (walked s.rules names) w words).stopped
  unfolding walk_fault
  walk_stops w [] none before = before
  walk_stops w (word ∷ rest) none before =
      let parts = neither (turn_fault s names w word) _ none in
      walk_stops (walked s.rules names w word) rest parts.1 (turn_stops w word parts.0 before)

-- ---- the subcommand

-- the subcommand's name is known, or it is clap's own `help`
abbrev pub IsKnownOrHelp : (Text → Bool) → Shape → Type 0
IsKnownOrHelp known s = (known s.name ≡ true) ⊎ ((s.name ≡ codes "help") × (s.aliases ≡ []))

-- `help` answers to no other word
help_answers : (word : Text) (s : Shape) → s.name ≡ codes "help" → s.aliases ≡ [] → is_help word ≡ false → answers_to word (label_of s) ≡ true → ⊥
help_answers word s name aliases other answers =
    let as_help = rw (name, aliases) at answers in
    go (bytes_eq (codes "help") word) refl as_help
  where
    go : (b : Bool) → bytes_eq (codes "help") word ≡ b → (b || false) ≡ true → ⊥
    go true is e = true≢false (sym ((bytes_eq-Decides word (codes "help")).1 (sym ((bytes_eq-Decides (codes "help") word).0 is))) ∙ other)
    go false is e = true≢false (sym e)

-- Of any command line: where no fault is found, the subcommand that is met is one of those with a known name, where
-- those and clap's own `help` are all there are.
pub subcommand_known : (a : App) (words : List Text) (known : Text → Bool) → Each (IsKnownOrHelp known) (built a).subs
    → (built a).top.disable_help_subcommand ≡ false → fault_of a words ≡ []
    → (p : Text × List Row) → subcommand_of a words ≡ Some p → known p.0 ≡ true
subcommand_known a words known each enabled none p met =
    go (stop_after (built a).top.rules (names_of (built a)) (argument_words a words))
    (walk_stops (built a).top enabled (names_of (built a)) (walk_from nothing_held) (argument_words a words) (lacks_faults a words none).walk tt) met
  where
    pick : (q : Text × List Text) (s : Shape) → is_help q.0 ≡ false → answers_to q.0 (label_of s) ≡ true → IsKnownOrHelp known s
        → rows_at s q.1 ≡ p → known p.0 ≡ true
    pick q s other answers (inl is) same = subst (λ (r : Text × List Row). known r.0 ≡ true) same is
    pick q s other answers (inr help) same = absurd (help_answers q.0 s help.0 help.1 other answers)

    by_shape : (q : Text × List Text) (o : Option Shape) → is_help q.0 ≡ false
        → IfSome o (λ s. (answers_to q.0 (label_of s) ≡ true) × IsKnownOrHelp known s) → option_map (λ s. rows_at s q.1) o ≡ Some p → known p.0 ≡ true
    by_shape q None other is f = absurd (no_value_there p f)
    by_shape q (Some s) other is f = pick q s other is.0 is.1 (ap (λ o. unwrap_or o p) f)

    go : (stop : Option (Text × List Text)) → StopsElsewhere stop → entered (built a) stop ≡ Some p → known p.0 ≡ true
    go None other f = absurd (no_value_there p f)
    go (Some q) other f = by_shape q (find (λ s. answers_to q.0 (label_of s)) (built a).subs) other
        (each_found (IsKnownOrHelp known) (λ s. answers_to q.0 (label_of s)) (built a).subs each) f
