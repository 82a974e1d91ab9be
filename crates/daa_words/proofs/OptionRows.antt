-- An option of which each use has a value: where no fault is found, each row that it has has a first value, its parser
-- takes all its values, they are read as the parser says, and they are its defaults where the words gave none. What
-- changes rows keeps this.
use Rattle.std.proofs.Common.{arith, min, ◌+◌, ◌≡◌, ◌∙◌, ◌&&◌, ◌||◌, ◌⊎◌, ◌==◌, ℕ, Bool, cond, true, false, List, []}
use Rattle.std.proofs.Common.{◌∷◌, ◌++◌, length, Option, Some, None, true≢false, inl, inr, refl, sym, ap, subst, nat_lt}
use Rattle.std.specs.Prelude.{⊤, IfSome}
use Rattle.std.specs.List.{find, fold, list_all}
use Rattle.std.specs.Option.{option_map_or}
use Rattle.std.specs.Str.{bytes_eq}
use Rattle.std.proofs.lemmas.Bool.Decides.{nat_tests}
use Rattle.std.proofs.lemmas.Slice.Eq.{bytes_eq-Decides}
use Rattle.std.proofs.lemmas.List.Folds.{list_all-append}
use Rattle.clap.specs.Matches.{count_text}
use Rattle.clap.specs.ValueTests.{accepts}
use Rattle.clap.specs.Facts.{explicit_source, parser_of_value, unwrap_or_range}
use Rattle.clap.specs.Walk.{Held, Row, Rule, Text, action_of, arg_by_id, at_row, count_of, counted}
use Rattle.clap.specs.Walk.{default_rows, has_row, is_empty, more_values, most_values, new_count, reacted}
use Rattle.clap.specs.Walk.{reading_by, settled, settled_rows, stronger, used, used_as, used_by_id}
use Rattle.clap.specs.Walk.{values_or_missing, with_count, with_default, with_values, without}
use Rattle.clap.specs.Kinds.{Kinds, or_else, range_kinds, request_kinds, value_kinds, values_kinds}
use Rattle.clap.specs.Faults.{default_fault, defaults_fault, react_fault, repeat_fault, settle_fault, use_fault, values_fault}
use Rattle.clap.specs.declared.builder.action.ArgAction.{ArgAction}
use Rattle.clap.specs.declared.builder.action.ArgAction.TheVariants as action
use Rattle.clap.specs.declared.builder.value_parser.ValueParser.{ValueParser}
use Rattle.clap.specs.declared.builder.value_parser.Reading.{Reading}
use Rattle.clap.specs.declared.error.kind.ErrorKind.{ErrorKind}
use Rattle.clap.specs.declared.error.kind.ErrorKind.TheVariants as kind
use Rattle.clap.specs.declared.parser.matches.ValueSource.{ValueSource}
use Rattle.clap.specs.declared.parser.matches.ValueSource.TheVariants.{CommandLine, DefaultValue}

-- ---- tests and kinds

abbrev pub is_filled : {X : Type 0} → List X → Bool
is_filled [] = false
is_filled (x ∷ xs) = true

pub some_kind : {X : Type 0} (x : X) (xs : List X) → x ∷ xs ≡ [] → ⊥
some_kind x xs e = true≢false (ap is_filled e)

pub all_of_both : (a b : Bool) → a ≡ true → b ≡ true → (a && b) ≡ true
all_of_both a b p q = rw p q

not_empty : (v : Text) (vs : List Text) → is_empty (v ∷ vs) ≡ false
not_empty v vs = grind (arith, nat_tests)

-- where neither step has a fault
pub neither : (a b : Kinds) → or_else a b ≡ [] → (a ≡ []) × (b ≡ [])
neither [] b e = (refl, e)
neither (k ∷ ks) b e = absurd (some_kind k ks e)

-- a test that gives a kind where it fails
pub passed : (b : Bool) (k : ErrorKind) → cond b [] (k ∷ []) ≡ [] → b ≡ true
passed true k e = refl
passed false k e = absurd (some_kind k [] e)

-- what stands of each element stands of the one that is found
pub found_is : {X : Type 0} (P : X → Type 0) (p : X → Bool) (x : X) (rest : Option X) → P x → IfSome rest P → IfSome (cond (p x) (Some x) rest) P
found_is P p x rest here more = go (p x)
  where
    go : (b : Bool) → IfSome (cond b (Some x) rest) P
    go true = here
    go false = more

-- ---- values

accepted : (i : Bool) (parser : ValueParser) (vs : List Text) → values_kinds i parser vs ≡ [] → list_all (accepts i parser) vs ≡ true
accepted i parser [] e = refl
accepted i parser (v ∷ vs) e =
    let parts = neither (value_kinds i parser v) _ e in
    all_of_both _ _ (passed _ _ parts.0) (accepted i parser vs parts.1)

-- where a value is wanted, a use with none is a fault
no_value : (least most : ℕ) → nat_lt 0 least ≡ true → range_kinds least most 0 ≡ [] → ⊥
no_value least most wanted e = go (nat_lt 0 least) _ wanted e
  where
    go : (b : Bool) (rest : Kinds) → b ≡ true → cond (b && (0 == 0)) (kind.InvalidValue ∷ []) rest ≡ [] → ⊥
    go true rest w none = some_kind _ _ none
    go false rest w none = true≢false (sym w)

-- ---- the rows of an option

-- the rule is the option, or has another id
abbrev pub IsOwnOrOther : Rule → Rule → Type 0
IsOwnOrOther opt a = (bytes_eq a.id opt.id ≡ false) ⊎ (a ≡ opt)

-- no other rule has the option's id
abbrev pub AreOwnOrOther : Rule → List Rule → Type 0
AreOwnOrOther opt [] = ⊤
AreOwnOrOther opt (a ∷ rest) = IsOwnOrOther opt a × AreOwnOrOther opt rest

-- the option's parser takes the value
abbrev pub takes_value : Rule → Text → Bool
takes_value opt = accepts opt.ignore_case (parser_of_value opt.parser)

-- the values are there, and all taken
abbrev pub are_good : Rule → List Text → Bool
are_good opt values = is_filled values && list_all (takes_value opt) values

-- what stands of a row of the option: its values are there and taken, they are read as the option's parser says, and they
-- are the option's defaults where the words did not give them
pub record IsOwn (opt : Rule) (r : Row) : Type 0 where
  pub values : are_good opt r.values ≡ true
  pub reading : r.reading ≡ reading_by opt
  pub source : (explicit_source r.source ≡ true) ⊎ (r.values ≡ opt.defaults)

-- this stands of the row, if it is the option's
abbrev pub IsGood : Rule → Row → Type 0
IsGood opt r = (bytes_eq r.id opt.id ≡ false) ⊎ IsOwn opt r

abbrev pub AreGood : Rule → List Row → Type 0
AreGood opt [] = ⊤
AreGood opt (r ∷ rs) = IsGood opt r × AreGood opt rs

pub own_found : (opt : Rule) (p : Rule → Bool) (rules : List Rule) → AreOwnOrOther opt rules → IfSome (find p rules) (IsOwnOrOther opt)
own_found opt p [] own = tt
own_found opt p (a ∷ rest) own = found_is (IsOwnOrOther opt) p a (find p rest) own.0 (own_found opt p rest own.1)

-- the first row of an id
abbrev pub value_row : Text → Reading → ValueSource → List Text → Row
value_row id how source values = record { id = id; values = values; count = None; source = Some source; reading = how }

abbrev count_row : Text → Reading → ValueSource → ℕ → Row
count_row id how source n = record { id = id; values = count_text n ∷ []; count = Some n; source = Some source; reading = how }

-- where no row has the id, the new rows come last
pub at_end : (id : Text) (change : Row → List Row) (missing rows : List Row) → has_row id rows ≡ false → at_row id change missing rows ≡ rows ++ missing
at_end id change missing [] none = refl
at_end id change missing (r ∷ rs) none = go (bytes_eq r.id id) none (at_end id change missing rs)
  where
    go : (b : Bool) → (b || has_row id rs) ≡ false → (has_row id rs ≡ false → at_row id change missing rs ≡ rs ++ missing)
        → cond b (change r ++ rs) (r ∷ at_row id change missing rs) ≡ r ∷ rs ++ missing
    go true e then = absurd (true≢false e)
    go false e then = ap (λ more. r ∷ more) (then e)

-- what the words give is theirs
given_by_words : (before : Option ValueSource) → explicit_source (Some (stronger before CommandLine)) ≡ true
given_by_words None = refl
given_by_words (Some CommandLine) = refl
given_by_words (Some DefaultValue) = refl

module _ (opt : Rule) where
  good_append : (xs ys : List Row) → AreGood opt xs → AreGood opt ys → AreGood opt (xs ++ ys)
  good_append [] ys good more = more
  good_append (x ∷ xs) ys good more = (good.0, good_append xs ys good.1 more)

  -- what changes rows at an id keeps the option's good
  at_row_keeps : (id : Text) (change : Row → List Row) (missing rows : List Row)
      → ((r : Row) → bytes_eq r.id id ≡ true → IsGood opt r → AreGood opt (change r))
      → AreGood opt missing → AreGood opt rows → AreGood opt (at_row id change missing rows)
  at_row_keeps id change missing [] changed new good = new
  at_row_keeps id change missing (r ∷ rs) changed new good =
      go (bytes_eq r.id id) refl (at_row_keeps id change missing rs changed new good.1)
    where
      go : (b : Bool) → bytes_eq r.id id ≡ b → AreGood opt (at_row id change missing rs)
          → AreGood opt (cond b (change r ++ rs) (r ∷ at_row id change missing rs))
      go true e rest = good_append (change r) rs (changed r e good.0) good.1
      go false e rest = (good.0, rest)

  pub without_keeps : (id : Text) (rows : List Row) → AreGood opt rows → AreGood opt (without id rows)
  without_keeps id rows good = at_row_keeps id (λ _. []) [] rows (λ r e here. tt) tt good

  -- of another id
  module _ (id : Text) (other : bytes_eq id opt.id ≡ false) where
    new_row : (r : Row) → r.id ≡ id → AreGood opt (r ∷ [])
    new_row r is = (inl (ap (λ t. bytes_eq t opt.id) is ∙ other), tt)

    pub other_values : (how : Reading) (source : ValueSource) (values : List Text) (rows : List Row) → AreGood opt rows → AreGood opt (with_values id how source values rows)
    other_values how source values rows good =
        at_row_keeps id (more_values source values) (value_row id how source values ∷ []) rows
        (λ r e here. new_row (record r { values = r.values ++ values; source = Some (stronger r.source source) }) ((bytes_eq-Decides r.id id).0 e))
        (new_row (value_row id how source values) refl) good

    other_count : (how : Reading) (source : ValueSource) (n : ℕ) (rows : List Row) → AreGood opt rows → AreGood opt (with_count id how source n rows)
    other_count how source n rows good =
        at_row_keeps id (new_count source n) (count_row id how source n ∷ []) rows
        (λ r e here. new_row (record r { values = r.values ++ count_text n ∷ []; count = Some n; source = Some (stronger r.source source) }) ((bytes_eq-Decides r.id id).0 e))
        (new_row (count_row id how source n) refl) good

    other_counted : (how : Reading) (values : List Text) (rows : List Row) → AreGood opt rows → AreGood opt (counted id how values rows)
    other_counted how [] rows good = other_count how CommandLine (min (count_of id rows + 1) 255) (without id rows) (without_keeps id rows good)
    other_counted how (v ∷ vs) rows good = other_values how _ _ _ (without_keeps id rows good)

    pub other_use : (x : ArgAction) (how : Reading) (values : List Text) (rows : List Row) → AreGood opt rows → AreGood opt (used_as x id how values rows)
    other_use action.Set how values rows good = other_values how _ _ _ (without_keeps id rows good)
    other_use action.SetTrue how values rows good = other_values how _ _ _ (without_keeps id rows good)
    other_use action.SetFalse how values rows good = other_values how _ _ _ (without_keeps id rows good)
    other_use action.Append how values rows good = other_values how _ _ rows good
    other_use action.Count how values rows good = other_counted how values rows good
    other_use action.Help how values rows good = good
    other_use action.HelpShort how values rows good = good
    other_use action.HelpLong how values rows good = good
    other_use action.Version how values rows good = good

  -- of the option: taken values are put down
  more_good : (xs ys : List Text) → are_good opt xs ≡ true → list_all (takes_value opt) ys ≡ true → are_good opt (xs ++ ys) ≡ true
  more_good [] ys e taken = absurd (true≢false (sym e))
  more_good (x ∷ xs) ys e taken = list_all-append (takes_value opt) (x ∷ xs) ys ∙ all_of_both _ _ e taken

  -- by the words
  pub own_values : (v : Text) (vs : List Text) (rows : List Row) → list_all (takes_value opt) (v ∷ vs) ≡ true
      → AreGood opt rows → AreGood opt (with_values opt.id (reading_by opt) CommandLine (v ∷ vs) rows)
  own_values v vs rows taken good =
      at_row_keeps opt.id (more_values CommandLine (v ∷ vs)) (value_row opt.id (reading_by opt) CommandLine (v ∷ vs) ∷ []) rows
      (λ r e here. (grown r here, tt))
      (inr (record { values = taken; reading = refl; source = inl refl }), tt) good
    where
      grown : (r : Row) → IsGood opt r → IsGood opt (record r { values = r.values ++ v ∷ vs; source = Some (stronger r.source CommandLine) })
      grown r (inl other) = inl other
      grown r (inr own) = inr (record {
        values = more_good r.values (v ∷ vs) own.values taken;
        reading = own.reading;
        source = inl (given_by_words r.source);
      })

  -- by default
  pub own_default : (v : Text) (vs : List Text) (rows : List Row) → opt.defaults ≡ v ∷ vs → list_all (takes_value opt) (v ∷ vs) ≡ true
      → has_row opt.id rows ≡ false → AreGood opt rows → AreGood opt (with_values opt.id (reading_by opt) DefaultValue (v ∷ vs) rows)
  own_default v vs rows is taken none good =
      let row = value_row opt.id (reading_by opt) DefaultValue (v ∷ vs) in
      subst (AreGood opt) (sym (at_end opt.id (more_values DefaultValue (v ∷ vs)) (row ∷ []) rows none))
      (good_append rows (row ∷ []) good (inr (record { values = taken; reading = refl; source = inr (sym is) }), tt))

-- ---- uses of an option that is set by one value or more

module _ (opt : Rule) (set : action_of opt ≡ action.Set) (least : nat_lt 0 (unwrap_or_range opt.range).start_inclusive ≡ true) where
  own_use : (again : Bool) (values : List Text) (rows : List Row) → use_fault again opt values rows ≡ [] → AreGood opt rows → AreGood opt (used opt values rows)
  own_use again [] rows none good =
      absurd (no_value _ (most_values opt) least (neither (range_kinds (unwrap_or_range opt.range).start_inclusive (most_values opt) 0) _ none).0)
  own_use again (v ∷ vs) rows none good =
      let asked = (neither (range_kinds (unwrap_or_range opt.range).start_inclusive (most_values opt) (length (v ∷ vs))) _ none).1 in
      let asked_set = rw set at asked in
      let taken = accepted opt.ignore_case (parser_of_value opt.parser) (v ∷ vs) (neither (repeat_fault again opt.id rows) _ asked_set).1 in
      rw set (own_values opt v vs (without opt.id rows) taken (without_keeps opt opt.id rows good))

  pub use_keeps : (again : Bool) (a : Rule) (values : List Text) (rows : List Row) → IsOwnOrOther opt a → use_fault again a values rows ≡ []
      → AreGood opt rows → AreGood opt (used a values rows)
  use_keeps again a values rows (inl other) none good = other_use opt a.id other (action_of a) (reading_by a) (values_or_missing a values) rows good
  use_keeps again a values rows (inr is) none good =
      subst (λ x. use_fault again x values rows ≡ [] → AreGood opt (used x values rows)) (sym is) (λ e. own_use again values rows e good) none

  pub settle_keeps : (rules : List Rule) (again : Bool) (h : Held) → AreOwnOrOther opt rules → settle_fault rules again h ≡ []
      → AreGood opt h.rows → AreGood opt (settled rules h).rows
  settle_keeps rules again h own none good = go h.pending none
    where
      named : (o : Option Rule) (values : List Text) → IfSome o (IsOwnOrOther opt) → option_map_or (λ a. use_fault again a values h.rows) o [] ≡ []
          → AreGood opt (used_by_id o values h.rows)
      named None values is e = good
      named (Some a) values is e = use_keeps again a values h.rows is e good

      go : (p : Option (Text × List Text)) → option_map_or (λ q. option_map_or (λ a. use_fault again a q.1 h.rows) (arg_by_id rules q.0) []) p [] ≡ []
          → AreGood opt (settled_rows rules p h.rows)
      go None e = good
      go (Some q) e = named (arg_by_id rules q.0) q.1 (own_found opt _ rules own) e

  pub react_keeps : (rules : List Rule) (again : Bool) (a : Rule) (values : List Text) (h : Held) → AreOwnOrOther opt rules → IsOwnOrOther opt a
      → react_fault rules again a values h ≡ [] → AreGood opt h.rows → AreGood opt (reacted rules a values h).rows
  react_keeps rules again a values h own is none good =
      let parts = neither (settle_fault rules again h) _ none in
      use_keeps again a values (settled rules h).rows is parts.1 (settle_keeps rules again h own parts.0 good)

  -- ---- defaults

  default_keeps : (a : Rule) (rows : List Row) → IsOwnOrOther opt a → default_fault rows a ≡ [] → AreGood opt rows → AreGood opt (with_default rows a)
  default_keeps a rows (inl other) none good = go (has_row a.id rows) a.defaults
    where
      put : (values : List Text) → AreGood opt (default_rows a.id (reading_by a) values rows)
      put [] = good
      put (v ∷ vs) = other_values opt a.id other (reading_by a) _ (v ∷ vs) rows good

      go : (b : Bool) (values : List Text) → AreGood opt (cond b rows (default_rows a.id (reading_by a) values rows))
      go true values = good
      go false values = put values
  default_keeps a rows (inr is) none good =
      subst (λ x. default_fault rows x ≡ [] → AreGood opt (with_default rows x)) (sym is) own none
    where
      put : (values : List Text) → opt.defaults ≡ values → has_row opt.id rows ≡ false
          → cond (false || is_empty values) [] (or_else (request_kinds (action_of opt)) (values_fault opt values)) ≡ []
          → AreGood opt (default_rows opt.id (reading_by opt) values rows)
      put [] are new e = good
      put (v ∷ vs) are new e =
          let asked = rw (not_empty v vs) at e in
          own_default opt v vs rows are
          (accepted opt.ignore_case (parser_of_value opt.parser) (v ∷ vs) (neither (request_kinds (action_of opt)) _ asked).1) new good

      own : default_fault rows opt ≡ [] → AreGood opt (with_default rows opt)
      own e = go (has_row opt.id rows) refl e
        where
          go : (b : Bool) → has_row opt.id rows ≡ b → cond (b || is_empty opt.defaults) [] (or_else (request_kinds (action_of opt)) (values_fault opt opt.defaults)) ≡ []
              → AreGood opt (cond b rows (default_rows opt.id (reading_by opt) opt.defaults rows))
          go true there f = good
          go false there f = put opt.defaults refl there f

  pub defaults_keep : (rules : List Rule) (rows : List Row) → AreOwnOrOther opt rules → defaults_fault rows rules ≡ []
      → AreGood opt rows → AreGood opt (fold with_default rows rules)
  unfolding defaults_fault
  defaults_keep [] rows own none good = good
  defaults_keep (a ∷ rest) rows own none good =
      let parts = neither (default_fault rows a) _ none in
      defaults_keep rest (with_default rows a) own.1 parts.1 (default_keeps a rows own.0 parts.0 good)
