use Rattle.daa_state.specs.declared.word.Traffic.{Traffic}
use Rattle.daa_last.specs.Inside.Search.{IsClosedLate}
use Rattle.daa_last.proofs.Searching.{IsNoneBelow}
use Rattle.daa_last.proofs.search.closing_on.Given as goal

abbrev pub invariant-loop-place : goal.invariant-loop-place
invariant-loop-place l = IsNoneBelow l.picture (λ (t : Traffic). IsClosedLate l.config l.picture.own l.rest.candidate l.fn.m t l.rest.from) l.place
