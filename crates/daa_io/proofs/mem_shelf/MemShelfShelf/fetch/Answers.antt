-- What was found under the name is what the shelf holds there.
use Rattle.std.proofs.Common.{refl, sym, ◌∙◌, inl}
use Rattle.daa_io.proofs.ShelfLemmas.{copied_held, copied_long, copied_fails}
use Rattle.daa_io.proofs.mem_shelf.MemShelfShelf.fetch.Goals as goal

pub returns-then-is_err-clause-fails : goal.returns-then-is_err-clause-fails
returns-then-is_err-clause-fails c =
    rw (← c.self.view_is) (λ _. inl (c.begin.ensures.fails.0 (sym c.is_err.ensures.value ∙ c.if-is_err.true)), λ _. refl)

pub returns-clause-held : goal.returns-clause-held
returns-clause-held c =
    rw (← c.self.view_is)
    (copied_held c.copy_of.result _ c.in-Some.text.now.items
    (rw (c.deref.ensures.value, c.deref-2.ensures.value) at c.in-Some.ensures)
    (rw c.deref-3.ensures.value at c.copy_of.ensures.ok))

pub returns-clause-long : goal.returns-clause-long
returns-clause-long c =
    rw (← c.self.view_is)
    (copied_long c.copy_of.result _ c.in-Some.text.now.items
    (rw (c.deref.ensures.value, c.deref-2.ensures.value) at c.in-Some.ensures)
    (rw c.deref-3.ensures.value at c.copy_of.ensures.too_long))

pub returns-clause-fails : goal.returns-clause-fails
returns-clause-fails c =
    rw (← c.self.view_is)
    (copied_fails c.copy_of.result _ c.in-Some.text.now.items
    (rw (c.deref.ensures.value, c.deref-2.ensures.value) at c.in-Some.ensures)
    c.begin.result _ c.copy_of.ensures.never_fails (sym c.is_err.ensures.value ∙ c.if-is_err.false) c.begin.ensures.fails)
