use Rattle.std.proofs.Common.{◌∙◌, ◌++◌, ◌∷◌, [], sym, ap, Some}
use Rattle.tw_rows.specs.declared.edge.Edge.{Edge}
use Rattle.tw_rows.specs.declared.edge.HeldRow.{HeldRow}
use Rattle.sweep_laws.specs.Antijoining.{end_of}
use Rattle.sweep_laws.proofs.Adding.{append_none}
use Rattle.anti_join.specs.Rows.{status}
use Rattle.anti_join.proofs.Flips.{told_is}
use Rattle.anti_join.proofs.sweep.AntiRows.tell_ended.Goals as goal

pub returns-in-None : goal.returns-in-None
returns-in-None c = λ by.
    let s = c.args.self.now in
    let x = c.args.edge.now in
    let row : HeldRow = record { cells = x.cells; start = x.other } in
    sym (append_none c.args.answer.now.items) ∙ ap (λ st. c.args.answer.now.items ++ end_of st c.args.t row) (c.in-None.ensures by ∙ ap (status s) c.values.ensures)

pub returns-in_ok-push-in-Some : goal.returns-in_ok-push-in-Some
returns-in_ok-push-in-Some c = λ by.
    let s = c.args.self.now in
    let x = c.args.edge.now in
    let row : HeldRow = record { cells = x.cells; start = x.other } in
    c.in_ok-push-in-Some.ensures.items
    ∙ (ap (λ (e : Edge). c.args.answer.now.items ++ e ∷ []) (told_is (Some c.in-Some.since) c.args.t row c.other_time.result c.in_ok-clone-in-Some.field-0 c.other_time.ensures c.in_ok-clone-in-Some.ensures.cases)
    ∙ ap (λ st. c.args.answer.now.items ++ end_of st c.args.t row) (c.in-Some.ensures by ∙ ap (status s) c.values.ensures))
