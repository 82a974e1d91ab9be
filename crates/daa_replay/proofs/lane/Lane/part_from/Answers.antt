use Rattle.std.proofs.Common.{◌≡◌, ℕ, List, Result, Ok, rules, subst, sym}
use Rattle.std.specs.List.{slice_index_or}
use Rattle.std.specs.List.Sorted.{IsBinarySearchResult}
use Rattle.std.specs.Ordering.{nat_cmp}
use Rattle.std.proofs.lemmas.Cmp.{ranked}
use Rattle.std.proofs.lemmas.List.Sorted.{answers_always}
use Rattle.daa_replay.specs.declared.lane.Chunk.{Chunk}
use Rattle.daa_replay.proofs.lane.Lane.part_from.Goals as goal

-- where a search for a number of bytes ends at a part, the part begins behind so many
found : (done place : ℕ) (parts : List Chunk) (r : Result ℕ ℕ) → IsBinarySearchResult (λ (part : Chunk). nat_cmp part.from.done done) parts r
    → r ≡ Ok place → (d : Chunk) → (slice_index_or parts place d).from.done ≡ done
found done place parts r searched is d =
    ranked _ done _ (sym (subst (λ (r : Result ℕ ℕ). IsBinarySearchResult (λ (part : Chunk). nat_cmp part.from.done done) parts r) is searched d))

pub returns-clause-begins : goal.returns-clause-begins
returns-clause-begins c =
    let by_key = c.binary_search_by_key.ensures.position (λ part. part.from.done) (answers_always _ _ _ (λ f a r g called. search rules)) in
    found c.args.done c.in_ok-place.place _ _ by_key (search rules) _
