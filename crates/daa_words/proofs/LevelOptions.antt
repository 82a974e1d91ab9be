-- An option of a level of the parse that is required, or has a default, has a first value where no fault is found. Its
-- parser takes the value, and the value is the default where the words did not give the option.
use Rattle.std.proofs.Common.{◌≡◌, ◌∙◌, ◌&&◌, ◌||◌, ◌⊎◌, ◌++◌, Bool, cond, not, true, false, List, [], ◌∷◌, Option, Some, None, inl, inr, is_some, true≢false, refl, sym, ap, subst, nat_lt}
use Rattle.std.specs.Prelude.{⊤, IfSome, option_and_then, option_map, slice_get, unwrap_or}
use Rattle.std.specs.List.{find, fold, list_any}
use Rattle.std.specs.Option.{option_map_or}
use Rattle.std.specs.Str.{bytes_eq}
use Rattle.std.proofs.lemmas.Slice.Eq.{bytes_eq-Decides}
use Rattle.clap.proofs.WalkLemmas.{both}
use Rattle.clap.specs.Facts.{explicit_source, unwrap_or_range}
use Rattle.clap.specs.Takes.{is_given}
use Rattle.clap.specs.Values.{read_as}
use Rattle.clap.specs.Walk.{Names, Row, Rule, Text, action_of, answers_to, default_rows, first_of}
use Rattle.clap.specs.Walk.{has_row, more_values, nothing_held, one_of, reading_by, row_text}
use Rattle.clap.specs.Walk.{rows_after, settled, stop_after, walk, walk_from, with_default}
use Rattle.clap.specs.Kinds.{Kinds, check_kinds}
use Rattle.std.proofs.lemmas.Bool.{or_parts}
use Rattle.clap.specs.Faults.{defaults_fault, entered_fault, fault_of, level_fault, settle_fault, walk_fault}
use Rattle.clap.specs.Simple.{App, Shape, argument_words, built, entered, label_of, names_of, rows_at, subcommand_of}
use Rattle.clap.specs.declared.builder.action.ArgAction.TheVariants as action
use Rattle.clap.specs.declared.parser.matches.ValueSource.TheVariants.{DefaultValue}
use Rattle.daa_words.proofs.OptionRows.{AreGood, AreOwnOrOther, IsGood, IsOwn, are_good, at_end, defaults_keep, is_filled, neither, settle_keeps, some_kind, takes_value, value_row}
use Rattle.daa_words.proofs.OptionRowsByWalk.{walk_keeps}

pub no_value_there : {X : Type 0} (x : X) → None ≡ Some x → ⊥
no_value_there x e = true≢false (sym (ap is_some e))

denied : (b : Bool) → not b ≡ false → b ≡ true
denied true e = refl
denied false e = absurd (true≢false e)

and_false : (b : Bool) → (b && false) ≡ false
and_false true = refl
and_false false = refl

-- the last checks find nothing, so none of their tests holds
pub record PassChecks (h s a : Bool) : Type 0 where
  pub help : h ≡ false
  pub subcommand : s ≡ false
  pub argument : a ≡ false

pub checks_pass : (help subcommand argument : Bool) → check_kinds help subcommand argument ≡ [] → PassChecks help subcommand argument
checks_pass true s a e = absurd (some_kind _ _ e)
checks_pass false true a e = absurd (some_kind _ _ e)
checks_pass false false true e = absurd (some_kind _ _ e)
checks_pass false false false e = record { help = refl; subcommand = refl; argument = refl }

-- ---- the first text of an option

-- the first value at the option, which its parser takes; the text of it that a number is read from; and the option's
-- default is this value where the words did not give one
pub record HasText (opt : Rule) (rows : List Row) : Type 0 where
  pub text : Text
  pub first : first_of opt.id rows ≡ Some text
  pub one : one_of opt.id rows ≡ Some (read_as (reading_by opt) text)
  pub taken : takes_value opt text ≡ true
  pub default : is_given opt.id rows ≡ false → slice_get opt.defaults 0 ≡ Some text

-- the option's row
record HasRow (opt : Rule) (rows : List Row) : Type 0 where
  row : Row
  found : find (λ x. bytes_eq x.id opt.id) rows ≡ Some row
  own : IsOwn opt row

pub given_row : (id : Text) (rows : List Row) → is_given id rows ≡ true → has_row id rows ≡ true
given_row id [] e = e
given_row id (r ∷ rs) e = go (bytes_eq r.id id) (given_row id rs) e
  where
    go : (b : Bool) → (is_given id rs ≡ true → has_row id rs ≡ true)
        → option_map_or (λ (x : Row). explicit_source x.source) (cond b (Some r) (find (λ x. bytes_eq x.id id) rs)) false ≡ true → (b || has_row id rs) ≡ true
    go true then f = refl
    go false then f = then f

row_there : (opt : Rule) (rows : List Row) → AreGood opt rows → has_row opt.id rows ≡ true → HasRow opt rows
row_there opt [] good has = absurd (true≢false (sym has))
row_there opt (r ∷ rs) good has = go (bytes_eq r.id opt.id) refl has (row_there opt rs good.1)
  where
    found_by : Bool → Option Row
    found_by b = cond b (Some r) (find (λ x. bytes_eq x.id opt.id) rs)

    here : bytes_eq r.id opt.id ≡ true → IsGood opt r → HasRow opt (r ∷ rs)
    here is (inl other) = absurd (true≢false (sym is ∙ other))
    here is (inr own) = record { row = r; found = ap found_by is; own = own }

    go : (b : Bool) → bytes_eq r.id opt.id ≡ b → (b || has_row opt.id rs) ≡ true → (has_row opt.id rs ≡ true → HasRow opt rs) → HasRow opt (r ∷ rs)
    go true is any then = here is good.0
    go false is any then = let got = then any in record { row = got.row; found = ap found_by is ∙ got.found; own = got.own }

pub text_there : (opt : Rule) (rows : List Row) → AreGood opt rows → has_row opt.id rows ≡ true → HasText opt rows
text_there opt rows good has = let got = row_there opt rows good has in by_values got got.row.values refl got.own.values
  where
    unless_given : (got : HasRow opt rows) (v : Text) (vs : List Text) → got.row.values ≡ v ∷ vs
        → (explicit_source got.row.source ≡ true) ⊎ (got.row.values ≡ opt.defaults) → is_given opt.id rows ≡ false → slice_get opt.defaults 0 ≡ Some v
    unless_given got v vs are (inl given) not_given =
        absurd (true≢false (sym given ∙ ap (λ o. option_map_or (λ (x : Row). explicit_source x.source) o false) (sym got.found) ∙ not_given))
    unless_given got v vs are (inr defaults) not_given = ap (λ (l : List Text). slice_get l 0) (sym defaults ∙ are)

    by_values : (got : HasRow opt rows) (values : List Text) → got.row.values ≡ values → are_good opt values ≡ true → HasText opt rows
    by_values got [] are good = absurd (true≢false (sym good))
    by_values got (v ∷ vs) are good = record {
      text = v;
      first = ap (option_and_then (λ (x : Row). slice_get x.values 0)) got.found ∙ ap (λ (l : List Text). slice_get l 0) are;
      one = ap (option_and_then row_text) got.found ∙ ap (λ (l : List Text). option_map (read_as got.row.reading) (slice_get l 0)) are
          ∙ ap (λ how. Some (read_as how v)) got.own.reading;
      taken = (both (takes_value opt v) _ good).0;
      default = unless_given got v vs are got.own.source;
    }

-- ---- defaults

-- a rule of the option's id has a default
abbrev pub has_default : Rule → List Rule → Bool
has_default opt rules = list_any (λ a. is_filled a.defaults && bytes_eq a.id opt.id) rules

-- the row of an id stands also before further rows, and after them
row_before : (id : Text) (xs ys : List Row) → has_row id xs ≡ true → has_row id (xs ++ ys) ≡ true
row_before id [] ys e = absurd (true≢false (sym e))
row_before id (x ∷ xs) ys e = go (bytes_eq x.id id) e (row_before id xs ys)
  where
    go : (b : Bool) → (b || has_row id xs) ≡ true → (has_row id xs ≡ true → has_row id (xs ++ ys) ≡ true) → (b || has_row id (xs ++ ys)) ≡ true
    go true any then = refl
    go false any then = then any

row_after : (id : Text) (xs : List Row) (r : Row) → bytes_eq r.id id ≡ true → has_row id (xs ++ r ∷ []) ≡ true
row_after id [] r e = rw e refl
row_after id (x ∷ xs) r e = go (bytes_eq x.id id) (row_after id xs r e)
  where
    go : (b : Bool) → has_row id (xs ++ r ∷ []) ≡ true → (b || has_row id (xs ++ r ∷ [])) ≡ true
    go true then = refl
    go false then = then

-- a default keeps the rows that there are
default_stays : (id : Text) (rows : List Row) (a : Rule) → has_row id rows ≡ true → has_row id (with_default rows a) ≡ true
default_stays id rows a has = go (has_row a.id rows) a.defaults refl
  where
    go : (b : Bool) (values : List Text) → has_row a.id rows ≡ b → has_row id (cond b rows (default_rows a.id (reading_by a) values rows)) ≡ true
    go true values is = has
    go false [] is = has
    go false (v ∷ vs) is =
        let row = value_row a.id (reading_by a) DefaultValue (v ∷ vs) in
        ap (has_row id) (at_end a.id (more_values DefaultValue (v ∷ vs)) (row ∷ []) rows is) ∙ row_before id rows (row ∷ []) has

-- and puts its own down where there is none
default_put : (rows : List Row) (a : Rule) (id : Text) → is_filled a.defaults ≡ true → bytes_eq a.id id ≡ true → has_row id (with_default rows a) ≡ true
default_put rows a id filled same = go (has_row a.id rows) a.defaults refl filled
  where
    go : (b : Bool) (values : List Text) → has_row a.id rows ≡ b → is_filled values ≡ true
        → has_row id (cond b rows (default_rows a.id (reading_by a) values rows)) ≡ true
    go true values is e = subst (λ t. has_row t rows ≡ true) ((bytes_eq-Decides a.id id).0 same) is
    go false [] is e = absurd (true≢false (sym e))
    go false (v ∷ vs) is e =
        let row = value_row a.id (reading_by a) DefaultValue (v ∷ vs) in
        ap (has_row id) (at_end a.id (more_values DefaultValue (v ∷ vs)) (row ∷ []) rows is) ∙ row_after id rows row same

defaults_stay : (id : Text) (rows : List Row) (rules : List Rule) → has_row id rows ≡ true → has_row id (fold with_default rows rules) ≡ true
defaults_stay id rows [] has = has
defaults_stay id rows (a ∷ rest) has = defaults_stay id (with_default rows a) rest (default_stays id rows a has)

-- an option with a default has a row at the end
default_there : (opt : Rule) (rows : List Row) (rules : List Rule) → has_default opt rules ≡ true → has_row opt.id (fold with_default rows rules) ≡ true
default_there opt rows [] e = absurd (true≢false (sym e))
default_there opt rows (a ∷ rest) e = go (is_filled a.defaults && bytes_eq a.id opt.id) refl e (default_there opt (with_default rows a) rest)
  where
    go : (b : Bool) → (is_filled a.defaults && bytes_eq a.id opt.id) ≡ b → (b || has_default opt rest) ≡ true
        → (has_default opt rest ≡ true → has_row opt.id (fold with_default (with_default rows a) rest) ≡ true)
        → has_row opt.id (fold with_default (with_default rows a) rest) ≡ true
    go true is any then =
        let p = both (is_filled a.defaults) _ is in
        defaults_stay opt.id (with_default rows a) rest (default_put rows a opt.id p.0 p.1)
    go false is any then = then any

-- ---- a level

-- a rule of the option's id is required
abbrev pub is_wanted : Rule → List Rule → Bool
is_wanted opt rules = list_any (λ a. a.required && bytes_eq a.id opt.id) rules

wanted_given : (opt : Rule) (rows : List Row) (rules : List Rule) → list_any (λ a. a.required && not (is_given a.id rows)) rules ≡ false
    → is_wanted opt rules ≡ true → is_given opt.id rows ≡ true
wanted_given opt rows [] none wanted = absurd (true≢false (sym wanted))
wanted_given opt rows (a ∷ rest) none wanted =
    let parts = or_parts (a.required && not (is_given a.id rows)) _ none in
    go (a.required && bytes_eq a.id opt.id) refl wanted parts.0 (wanted_given opt rows rest parts.1)
  where
    go : (b : Bool) → (a.required && bytes_eq a.id opt.id) ≡ b → (b || is_wanted opt rest) ≡ true → (a.required && not (is_given a.id rows)) ≡ false
        → (is_wanted opt rest ≡ true → is_given opt.id rows ≡ true) → is_given opt.id rows ≡ true
    go true e any here then =
        let p = both a.required _ e in
        let missing = rw p.0 at here in
        subst (λ t. is_given t rows ≡ true) ((bytes_eq-Decides a.id opt.id).0 p.1) (denied _ missing)
    go false e any here then = then any

module _ (opt : Rule) (set : action_of opt ≡ action.Set) (least : nat_lt 0 (unwrap_or_range opt.range).start_inclusive ≡ true) where
  -- the option's rows are good at the end of a level without a fault
  pub rows_good : (s : Shape) (names : Names) (words : List Text) (has : Bool) (below : Kinds) → AreOwnOrOther opt s.rules
      → level_fault s names nothing_held words has below ≡ [] → AreGood opt (rows_after s.rules names words)
  rows_good s names words has below own none =
      let end = (walk s.rules names nothing_held words).held in
      let walks = neither (walk_fault s names (walk_from nothing_held) words) _ none in
      let below_it = neither below _ walks.1 in
      let settles = neither (settle_fault s.rules s.args_override_self end) _ below_it.1 in
      let defaults = neither (defaults_fault (settled s.rules end).rows s.rules) _ settles.1 in
      defaults_keep opt set least s.rules (settled s.rules end).rows own defaults.0
      (settle_keeps opt set least s.rules s.args_override_self end own settles.0
      (walk_keeps opt set least s own names (walk_from nothing_held) words walks.0 tt))

  -- a required option has a text
  pub level_text : (s : Shape) (names : Names) (words : List Text) (has : Bool) (below : Kinds) → AreOwnOrOther opt s.rules
      → is_wanted opt s.rules ≡ true → (s.subcommand_negates_reqs && has) ≡ false
      → level_fault s names nothing_held words has below ≡ [] → HasText opt (rows_after s.rules names words)
  level_text s names words has below own wanted needed none =
      let end = (walk s.rules names nothing_held words).held in
      let walks = neither (walk_fault s names (walk_from nothing_held) words) _ none in
      let below_it = neither below _ walks.1 in
      let settles = neither (settle_fault s.rules s.args_override_self end) _ below_it.1 in
      let defaults = neither (defaults_fault (settled s.rules end).rows s.rules) _ settles.1 in
      let checks = checks_pass _ _ _ defaults.1 in
      let missing = rw needed at checks.argument in
      text_there opt (rows_after s.rules names words) (rows_good s names words has below own none)
      (given_row opt.id (rows_after s.rules names words) (wanted_given opt (rows_after s.rules names words) s.rules missing wanted))

  -- so has one with a default
  pub level_default : (s : Shape) (names : Names) (words : List Text) (has : Bool) (below : Kinds) → AreOwnOrOther opt s.rules
      → has_default opt s.rules ≡ true → level_fault s names nothing_held words has below ≡ [] → HasText opt (rows_after s.rules names words)
  level_default s names words has below own default none =
      text_there opt (rows_after s.rules names words) (rows_good s names words has below own none)
      (default_there opt (settled s.rules (walk s.rules names nothing_held words).held).rows s.rules default)

-- ---- the subcommand

-- what holds of each
abbrev pub Each : {X : Type 0} → (X → Type 0) → List X → Type 0
Each P [] = ⊤
Each P (x ∷ xs) = P x × Each P xs

pub each_found : {X : Type 0} (P : X → Type 0) (p : X → Bool) (xs : List X) → Each P xs → IfSome (find p xs) (λ x. (p x ≡ true) × P x)
each_found P p [] each = tt
each_found P p (x ∷ xs) each = go (p x) refl (each_found P p xs each.1)
  where
    go : (b : Bool) → p x ≡ b → IfSome (find p xs) (λ y. (p y ≡ true) × P y) → IfSome (cond b (Some x) (find p xs)) (λ y. (p y ≡ true) × P y)
    go true e rest = (e, each.0)
    go false e rest = rest

-- the subcommand's name is not among these, or it has the option, which is required or has a default
abbrev pub HasIfNamed : (Text → Bool) → Rule → Shape → Type 0
HasIfNamed named opt s = (named s.name ≡ false) ⊎ (AreOwnOrOther opt s.rules × ((is_wanted opt s.rules ≡ true) ⊎ (has_default opt s.rules ≡ true)))

-- the parts of a fault of the whole
pub record LacksFaults (a : App) (words : List Text) : Type 0 where
  pub walk : walk_fault (built a).top (names_of (built a)) (walk_from nothing_held) (argument_words a words) ≡ []
  pub entered : entered_fault (built a) (stop_after (built a).top.rules (names_of (built a)) (argument_words a words)) ≡ []
  pub subcommand : (not (is_some (subcommand_of a words)) && (built a).top.subcommand_required) ≡ false

pub lacks_faults : (a : App) (words : List Text) → fault_of a words ≡ [] → LacksFaults a words
lacks_faults a words none =
    let s = (built a).top in
    let names = names_of (built a) in
    let rest = argument_words a words in
    let end = (walk s.rules names nothing_held rest).held in
    let walks = neither (walk_fault s names (walk_from nothing_held) rest) _ none in
    let below = neither (entered_fault (built a) (stop_after s.rules names rest)) _ walks.1 in
    let settles = neither (settle_fault s.rules s.args_override_self end) _ below.1 in
    let defaults = neither (defaults_fault (settled s.rules end).rows s.rules) _ settles.1 in
    record { walk = walks.0; entered = below.0; subcommand = (checks_pass _ _ _ defaults.1).subcommand }

-- a required subcommand is there
pub enters : (a : App) (words : List Text) → (built a).top.subcommand_required ≡ true → fault_of a words ≡ [] → is_some (subcommand_of a words) ≡ true
enters a words required none =
    let lacks = rw required at (lacks_faults a words none).subcommand in
    go (is_some (subcommand_of a words)) lacks
  where
    go : (b : Bool) → (not b && true) ≡ false → b ≡ true
    go true e = refl
    go false e = absurd (true≢false e)

-- Of any command line: where no fault is found, an option of the subcommand that is met has a first value, if it is
-- required or has a default. The option is set by one value or more, and no other option has its id.
pub subcommand_text : (a : App) (words : List Text) (named : Text → Bool) (opt : Rule) → action_of opt ≡ action.Set
    → nat_lt 0 (unwrap_or_range opt.range).start_inclusive ≡ true → Each (HasIfNamed named opt) (built a).subs → fault_of a words ≡ []
    → (p : Text × List Row) → subcommand_of a words ≡ Some p → named p.0 ≡ true → HasText opt p.1
subcommand_text a words named opt set least each none p met is_named =
    go (stop_after (built a).top.rules (names_of (built a)) (argument_words a words)) (lacks_faults a words none).entered met
  where
    by_shape : (q : Text × List Text) (o : Option Shape) → IfSome o (λ s. (answers_to q.0 (label_of s) ≡ true) × HasIfNamed named opt s)
        → option_map_or (λ s. level_fault s [] nothing_held q.1 false []) o [] ≡ [] → option_map (λ s. rows_at s q.1) o ≡ Some p → HasText opt p.1
    by_shape q None is e f = absurd (no_value_there p f)
    by_shape q (Some s) is e f =
        let same : rows_at s q.1 ≡ p = ap (λ o. unwrap_or o p) f in
        pick is.1 same
      where
        there : AreOwnOrOther opt s.rules → (is_wanted opt s.rules ≡ true) ⊎ (has_default opt s.rules ≡ true) → HasText opt (rows_after s.rules [] q.1)
        there own (inl wanted) = level_text opt set least s [] q.1 false [] own wanted (and_false s.subcommand_negates_reqs) e
        there own (inr default) = level_default opt set least s [] q.1 false [] own default e

        pick : HasIfNamed named opt s → rows_at s q.1 ≡ p → HasText opt p.1
        pick (inl other) same = absurd (true≢false (sym is_named ∙ ap (λ (r : Text × List Row). named r.0) (sym same) ∙ other))
        pick (inr has) same = subst (λ (r : Text × List Row). HasText opt r.1) same (there has.0 has.1)

    go : (stop : Option (Text × List Text)) → entered_fault (built a) stop ≡ [] → entered (built a) stop ≡ Some p → HasText opt p.1
    go None e f = absurd (no_value_there p f)
    go (Some q) e f = by_shape q (find (λ s. answers_to q.0 (label_of s)) (built a).subs)
        (each_found (HasIfNamed named opt) (λ s. answers_to q.0 (label_of s)) (built a).subs each) e f
