use Rattle.std.proofs.Common.{sym, ◌∙◌}
use Rattle.checkpoint.proofs.TextOf.{text_found, text_missed, text_broken, text_other}
use Rattle.checkpoint.proofs.text.read_text_line.Goals as goal

pub returns-in-Ok-clause-some : goal.returns-in-Ok-clause-some
returns-in-Ok-clause-some c =
    let w = c.in-Some.ensures.some in
    let r = c.in-Ok.ensures.cases in
    text_found _ _ _ w.0 w.1 (sym c.has_break.ensures ∙ c.if-has_break.false) r.1 r.0

pub returns-in-Err-clause-none : goal.returns-in-Err-clause-none
returns-in-Err-clause-none c =
    let w = c.in-Some.ensures.some in
    let r = c.in-Err.ensures.cases in
    text_missed _ _ w.0 w.1 (sym c.has_break.ensures ∙ c.if-has_break.false) r.0

pub returns-then-has_break-clause-none : goal.returns-then-has_break-clause-none
returns-then-has_break-clause-none c =
    let w = c.in-Some.ensures.some in
    text_broken _ _ w.0 w.1 (sym c.has_break.ensures ∙ c.if-has_break.true)

pub returns-in_default-clause-none : goal.returns-in_default-clause-none
returns-in_default-clause-none c = text_other _ (let h = c.in_default.ensures.none in h)
