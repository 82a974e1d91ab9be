use Rattle.std.proofs.Common.{◌≡◌, false, arith, ap, refl, subst, ⊎_elim, ◌∙◌, ◌⊎◌, sym}
use Rattle.std.proofs.lemmas.Grind.{common_steps}
use Rattle.daa_lines.specs.LinesState.{LinesState, is_standing}
use Rattle.daa_lines.specs.Inside.LinesState.{IsSized}
use Rattle.daa_lines.specs.declared.lines.Stage.{Stage}
use Rattle.daa_lines.specs.declared.lines.Stage.TheVariants.{Open, Whole, Long, Skipping}
use Rattle.daa_lines.proofs.TakingLemmas.{long_line_of, no_line_of, comes-take, whole_line_of}
use Rattle.daa_lines.proofs.lines.Lines.take_line.Goals as goal

pub returns-in-Whole : goal.returns-in-Whole
returns-in-Whole c =
    let size = subst (λ (v : LinesState). IsSized v.stage v.line) c.self.view_is c.self.invariant.0 in
    let stage : c.args.self.now.stage ≡ Whole = sym (ap (λ (v : LinesState). v.stage) c.self.view_is) ∙ c.in-Whole.is in
    let short = rw stage at size in
    let same : c.as_slice.result.now ≡ c.args.self.now.line = grind (arith, common_steps) in (
      (refl, (λ _. tt), grind (arith, common_steps)),
      record {
        after = tt;
        handed = (stage, same, short);
        long = ((λ e. absurd (cc e)), (λ e. absurd (cc (sym stage ∙ e))));
        not_yet = ((λ e. absurd (cc e)), (λ e. absurd (cc (rw stage at e))));
        line = λ bytes taken s. whole_line_of bytes taken c.args.self.now _ stage same short s;
        kept = λ bytes taken s. comes-take bytes taken c.args.self.now size s;
      },
    )

pub returns-in-Long : goal.returns-in-Long
returns-in-Long c =
    let size = subst (λ (v : LinesState). IsSized v.stage v.line) c.self.view_is c.self.invariant.0 in
    let stage : c.args.self.now.stage ≡ Long = sym (ap (λ (v : LinesState). v.stage) c.self.view_is) ∙ c.in-Long.is in
    let full = rw stage at size in (
      (refl, (λ _. tt), grind (arith, common_steps)),
      record {
        after = tt;
        handed = (stage, full);
        long = ((λ _. stage), (λ _. refl));
        not_yet = ((λ e. absurd (cc e)), (λ e. absurd (cc (rw stage at e))));
        line = λ bytes taken s. long_line_of bytes taken c.args.self.now stage full s;
        kept = λ bytes taken s. comes-take bytes taken c.args.self.now size s;
      },
    )

free_if : (stage : Stage) → (stage ≡ Open) ⊎ (stage ≡ Skipping) → is_standing stage ≡ false
free_if stage h = ⊎_elim (λ e. rw e refl) (λ e. rw e refl) h

pub returns-in-Open : goal.returns-in-Open
returns-in-Open c =
    let size = subst (λ (v : LinesState). IsSized v.stage v.line) c.self.view_is c.self.invariant.0 in
    let free = subst (λ (v : LinesState). is_standing v.stage ≡ false) c.self.view_is (free_if c.self.inside.stage c.in-Open.is) in (
      (refl, (λ _. tt), grind (arith, common_steps)),
      record {
        after = tt;
        handed = free;
        long = ((λ e. absurd (cc e)), (λ e. absurd (cc (rw e at free))));
        not_yet = ((λ _. free), (λ _. refl));
        line = λ bytes taken s. no_line_of bytes taken c.args.self.now free s;
        kept = λ bytes taken s. comes-take bytes taken c.args.self.now size s;
      },
    )
