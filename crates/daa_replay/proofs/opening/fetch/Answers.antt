use Rattle.std.proofs.Common.{Err, ap, sym, subst, ◌∙◌}
use Rattle.daa_io.specs.declared.shelf.FetchFault.{FetchFault}
use Rattle.daa_replay.specs.declared.opening.Unready.{Unready}
use Rattle.daa_replay.specs.Inside.Opening.{FetchesAs, cause_of_fetch}
use Rattle.daa_replay.proofs.OpeningLemmas.{no_text}
use Rattle.daa_replay.proofs.opening.fetch.Goals as goal

pub returns-in-Err-clause-fetched : goal.returns-in-Err-clause-fetched
returns-in-Err-clause-fetched g c =
    subst (λ (u : Unready). FetchesAs (g.F.Shelf.texts c.args.shelf.now) c.args.name.now (Err u))
    (sym (c.cause_of_fetch.ensures ∙ ap (λ (long : Unready). cause_of_fetch long c.in-Err.fault) c.cause_of.ensures))
    (no_text _ _ c.in-Err.fault (λ e. c.in-Err.ensures.too_long (ap (λ (f : FetchFault). Err f) e)))
