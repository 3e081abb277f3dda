use Rattle.std.proofs.Common.{◌∙◌, ◌++◌, ◌∷◌, [], sym, ap, None}
use Rattle.tw_rows.specs.declared.edge.Edge.{Edge}
use Rattle.tw_rows.specs.declared.edge.HeldRow.{HeldRow}
use Rattle.sweep_laws.specs.Antijoining.{begin_of}
use Rattle.sweep_laws.proofs.Adding.{append_none}
use Rattle.anti_join.specs.Rows.{free}
use Rattle.anti_join.proofs.Flips.{told_is}
use Rattle.anti_join.proofs.sweep.AntiRows.tell_begun.Goals as goal

pub returns-then-not-is_free : goal.returns-then-not-is_free
returns-then-not-is_free c =
    let s = c.args.self.now in
    let x = c.args.edge.now in
    let row : HeldRow = record { cells = x.cells; start = x.sync } in
    sym (append_none c.args.answer.now.items) ∙ ap (λ b. c.args.answer.now.items ++ begin_of b c.args.t row) (sym (sym (c.is_free.ensures ∙ ap (free s) c.values.ensures) ∙ c.if-not-is_free.true))

pub returns : goal.returns
returns c =
    let s = c.args.self.now in
    let x = c.args.edge.now in
    let row : HeldRow = record { cells = x.cells; start = x.sync } in
    c.in_ok-push.ensures.items
    ∙ (ap (λ (e : Edge). c.args.answer.now.items ++ e ∷ []) (told_is None c.args.t row c.bounds.result.1 c.in_ok-clone.field-0 c.bounds.ensures.infinity c.in_ok-clone.ensures.cases)
    ∙ ap (λ b. c.args.answer.now.items ++ begin_of b c.args.t row) (sym (sym (c.is_free.ensures ∙ ap (free s) c.values.ensures) ∙ c.if-not-is_free.false)))
