-- What clap's clauses give of the definition, and what is read where they find a fault.
use Rattle.std.proofs.Common.{codes, ◌≡◌, ◌≢◌, ℕ, true, false, cond, List, [], ◌∷◌, Option, Some, None, arith, option_map, refl, ap, ◌∙◌, inl, inr}
use Rattle.std.specs.Prelude.{option_and_then}
use Rattle.std.proofs.lemmas.Bool.Decides.{nat_tests}
use Rattle.clap.specs.Walk.{Row, Text, first_of, is_empty, rows_of}
use Rattle.clap.specs.Kinds.{Kinds, HasKind}
use Rattle.clap.specs.Faults.{fault_of, is_simple_and_free}
use Rattle.clap.specs.Simple.{is_simple}
use Rattle.clap.specs.Values.{kind_of}
use Rattle.clap.specs.declared.error.Error.{Error}
use Rattle.clap.specs.declared.error.kind.ErrorKind.{ErrorKind}
use Rattle.clap.specs.declared.error.kind.ErrorKind.TheVariants.{OutOfMemory}
use Rattle.clap.specs.Matches.{first_value}
use Rattle.clap.specs.declared.parser.matches.Found.{Found}
use Rattle.clap.proofs.WalkLemmas.{first_value-rows}
use Rattle.clap.proofs.OnLiterals.{clap_on_literals}
use Rattle.daa_words.specs.Command.{daidalus}
use Rattle.daa_words.specs.Order.{Asked, asked_by, number_at, order_of, task_by}
use Rattle.daa_words.specs.Task.{Task, Judge}

-- the command line is one of those whose faults clap states
pub daidalus_is_stated : is_simple_and_free daidalus ≡ true
unfolding daidalus clap_on_literals
daidalus_is_stated = refl

-- and one of those whose matches clap states
pub daidalus_is_simple : is_simple daidalus ≡ true
unfolding daidalus clap_on_literals
daidalus_is_simple = refl

-- an error that is not memory's comes only where there is a fault
pub refuses : (kinds : Kinds) (e : Error) → HasKind kinds e → (kind_of e ≡ OutOfMemory → ⊥) → kinds ≢ []
refuses [] e (inl memory) other = absurd (other memory)
refuses [] e (inr among) other = absurd among
refuses (k ∷ ks) e h other = λ none. cc

-- where there is a fault there is no order
pub no_order : (words : List Text) → fault_of daidalus words ≢ [] → order_of words ≡ None
unfolding order_of
no_order words h = ap (option_and_then asked_by) (go _ (fault_of daidalus words) h)
  where
    go : {Y : Type 0} (r : Option Y) (kinds : Kinds) → kinds ≢ [] → cond (is_empty kinds) r None ≡ None
    go r [] h = absurd (h refl)
    go r (k ∷ ks) h = grind (arith, nat_tests)

-- what the getters read of the matches is what is asked
abbrev pub asked_with : Option Task → Option Text → Option ℕ → Option Asked
asked_with task config workers = option_and_then (λ t. option_and_then (λ c. option_map (λ w. record { task = t; config = c; workers = w }) workers) config) task

pub asked_read : (name : Text) (f : Found) (task : Option Task) (config : Option Text) (workers : Option ℕ)
    → task ≡ task_by name (rows_of f) → config ≡ first_value f (codes "config") → workers ≡ number_at (codes "workers") (rows_of f)
    → asked_with task config workers ≡ asked_by (name, rows_of f)
unfolding asked_by
asked_read name f task config workers named text number =
    ap (λ t. asked_with t config workers) named
    ∙ ap (λ c. asked_with (task_by name (rows_of f)) c workers) (text ∙ first_value-rows f (codes "config"))
    ∙ ap (asked_with (task_by name (rows_of f)) (first_of (codes "config") (rows_of f))) number

pub states_read : (f : Found) (states : Option Text) → states ≡ first_value f (codes "states") → option_map Judge states ≡ option_map Judge (first_of (codes "states") (rows_of f))
states_read f states text = ap (option_map Judge) (text ∙ first_value-rows f (codes "states"))

-- where there is an order there is no fault
pub taken_by_order : (words : List Text) (asked : Asked) → order_of words ≡ Some asked → fault_of daidalus words ≡ []
unfolding order_of
taken_by_order words asked = go _ (fault_of daidalus words)
  where
    filled : (k : ErrorKind) (ks : Kinds) → is_empty (k ∷ ks) ≡ false
    filled k ks = grind (arith, nat_tests)

    go : (r : Option (Text × List Row)) (kinds : Kinds) → option_and_then asked_by (cond (is_empty kinds) r None) ≡ Some asked → kinds ≡ []
    go r [] e = refl
    go r (k ∷ ks) e = let none : None ≡ Some asked = rw (filled k ks) at e in cc
