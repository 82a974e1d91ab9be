use Rattle.daa_state.specs.declared.word.Traffic.{Traffic}
use Rattle.daa_last.specs.Inside.Search.{IsStruckBy}
use Rattle.daa_last.proofs.Searching.{IsNoneBelow}
use Rattle.daa_last.proofs.side.is_struck.Given as goal

abbrev pub invariant-loop-place : goal.invariant-loop-place
invariant-loop-place l = IsNoneBelow l.picture (λ (t : Traffic). IsStruckBy l.config l.picture.own l.fn.candidate l.fn.m t l.fn.k) l.place
