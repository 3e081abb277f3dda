use Rattle.std.specs.Prelude.{◌-◌, length, slice_get}
use Rattle.std.proofs.Common.{◌∙◌, ap, sym}
use Rattle.egress.proofs.Gathered.{last_found, no_last, same_last}
use Rattle.egress.proofs.moves.is_last.Goals as goal

pub returns-in_default-clause-same : goal.returns-in_default-clause-same
returns-in_default-clause-same c = λ rest last is.
    absurd (no_last last (c.in_default.ensures.value ∙ ap (λ l. slice_get l (length l - 1)) is ∙ last_found rest last))

pub returns-clause-some : goal.returns-clause-some
returns-clause-some c = λ t none. no_last c.in-Some.last.now (sym (c.in-Some.ensures.value ∙ ap (λ l. slice_get l (length l - 1)) none))

pub returns-clause-same : goal.returns-clause-same
returns-clause-same c = λ rest last is.
    let e = same_last c.in-Some.last.now last (c.in-Some.ensures.value ∙ ap (λ l. slice_get l (length l - 1)) is ∙ last_found rest last) in
    (λ t. ap (λ m. m.cells) (sym e) ∙ c.same_cells.ensures.same.0 t, λ cells. c.same_cells.ensures.same.1 (ap (λ m. m.cells) e ∙ cells))
