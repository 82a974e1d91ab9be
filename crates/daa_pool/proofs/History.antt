-- What the workers did and saw, while the history grows.
use Rattle.std.proofs.Common.{◌≡◌, ℕ, ⊎_elim, List, [], ◌∷◌, ◌++◌, length, sym, ap, ◌∙◌, subst, append_assoc}
use Rattle.std.specs.List.{Contains}
use Rattle.std.proofs.lemmas.List.{append-nil}
use Rattle.std.proofs.lemmas.List.Elements.{Contains-append_cases, Contains-push_cases}
use Rattle.daa_range.specs.Word.{unpacked, IsInOrder}
use Rattle.daa_schedule.specs.CoreState.{CoreState, range_at}
use Rattle.daa_schedule.specs.Runs.{steps_of, IsHistory}
use Rattle.daa_schedule.specs.declared.step.Step.{Step}
use Rattle.daa_schedule.proofs.Histories.{steps_of-append}
use Rattle.daa_pool.specs.declared.view.View.{View}
use Rattle.daa_pool.specs.declared.view.Look.{Look}
use Rattle.daa_pool.specs.declared.view.Part.{Part}
use Rattle.daa_pool.specs.View.{part_of}
use Rattle.daa_pool.specs.Inside.View.{look}
use Rattle.daa_pool.specs.History.{WasSo, IsPartOf}
use Rattle.daa_pool.proofs.Lists.{Contains-nil}

-- what was so was so still when more steps have been made
was_still : (opening : CoreState) (log more : List Step) (number : ℕ) (l : Look) → WasSo opening log number l → WasSo opening (log ++ more) number l
was_still opening log more number l w = record {
  earlier = w.earlier;
  later = w.later ++ more;
  point = ap (λ (xs : List Step). xs ++ more) w.point ∙ append_assoc w.earlier w.later more;
  moves = w.moves;
  in_order = w.in_order;
  range = w.range;
}

-- steps of other workers
pub part_still : (opening : CoreState) (log more : List Step) (part : Part) → steps_of part.number more ≡ [] → IsPartOf opening log part → IsPartOf opening (log ++ more) part
part_still opening log more part none p = record {
  moves = steps_of-append part.number log more ∙ (ap (λ (l : List Step). steps_of part.number log ++ l) none ∙ (append-nil (steps_of part.number log) ∙ p.moves));
  looks = λ l h. was_still opening log more part.number l (p.looks l h);
}

-- steps of the worker itself, and looks that it made before them
pub part_more : (opening : CoreState) (log more : List Step) (before after : View) (seen : List Look)
    → after.number ≡ before.number → after.moves ≡ before.moves ++ more → after.looks ≡ before.looks ++ seen
    → steps_of before.number more ≡ more → ((l : Look) → Contains seen l → WasSo opening log before.number l) → IsPartOf opening log (part_of before) → IsPartOf opening (log ++ more) (part_of after)
part_more opening log more before after seen same moves looks mine saw p = record {
  moves = ap (λ (n : ℕ). steps_of n (log ++ more)) same
      ∙ (steps_of-append before.number log more ∙ (ap (λ (l : List Step). l ++ steps_of before.number more) p.moves ∙ (ap (λ (l : List Step). before.moves ++ l) mine ∙ sym moves)));
  looks = λ l h. subst (λ (n : ℕ). WasSo opening (log ++ more) n l) (sym same) (was_still opening log more before.number l
      (⊎_elim (λ t. p.looks l t) (λ t. saw l t) (Contains-append_cases before.looks seen l (subst (λ (xs : List Look). Contains xs l) looks h))));
}

-- a seat that has not looked
pub never_looked : (opening : CoreState) (log : List Step) (number : ℕ) (l : Look) → Contains [] l → WasSo opening log number l
never_looked opening log number l h = absurd (Contains-nil l h)

-- what a step of a seat sees is so at the end of the history until then
pub record Sees (opening core : CoreState) (before after : View) : Type 0 where
  pub seen : List Look
  pub looks : after.looks ≡ before.looks ++ seen
  pub so : (log : List Step) → IsHistory opening log core → steps_of before.number log ≡ before.moves → (l : Look) → Contains seen l → WasSo opening log before.number l

pub sees_nothing : (opening core : CoreState) (before after : View) → after.looks ≡ before.looks → Sees opening core before after
sees_nothing opening core before after same = record {
  seen = [];
  looks = same ∙ sym (append-nil before.looks);
  so = λ log history moves. never_looked opening log before.number;
}

-- it looks at a worker's range
pub sees_range : (opening core : CoreState) (before after : View) (worker word : ℕ) → IsInOrder word → range_at core worker ≡ unpacked word → after.looks ≡ before.looks ++ look before worker word ∷ []
    → Sees opening core before after
sees_range opening core before after worker word order range looks = record {
  seen = look before worker word ∷ [];
  looks = looks;
  so = λ log history moves l h. ⊎_elim
      (λ t. absurd (Contains-nil l t))
      (λ e. subst (λ (x : Look). WasSo opening log before.number x) e (record {
        earlier = log;
        later = [];
        point = sym (append-nil log);
        moves = ap (λ (xs : List Step). length xs) moves;
        in_order = order;
        range = ap (λ (c : CoreState). range_at c worker) history.reached ∙ range;
      }))
      (Contains-push_cases [] (look before worker word) l h);
}
