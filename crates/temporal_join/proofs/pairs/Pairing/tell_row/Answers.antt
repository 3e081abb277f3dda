use Rattle.std.proofs.Common.{◌≡◌, ◌∙◌, ◌++◌, [], ap, length, map, sym}
use Rattle.std.proofs.lemmas.Bool.{eqb-true}
use Rattle.std.proofs.lemmas.List.{nil_from_length}
use Rattle.tw_rows.specs.declared.edge.Edge.{Edge}
use Rattle.tw_rows.specs.declared.edge.HeldRow.{HeldRow}
use Rattle.synopsis.specs.Held.{key_of}
use Rattle.sweep_laws.specs.Moves.{told_at}
use Rattle.sweep_laws.proofs.Adding.{append_none}
use Rattle.temporal_join.specs.Pairing.{pair_with}
use Rattle.temporal_join.proofs.Partners.{row_told}
use Rattle.temporal_join.proofs.pairs.Pairing.tell_row.Goals as goal

pub returns-then-is_empty : goal.returns-then-is_empty
returns-then-is_empty c = λ by.
    let p = c.args.self.now in
    let x : HeldRow = record { cells = c.args.cells.now; start = c.args.start } in
    let f : HeldRow → Edge = λ r. told_at c.args.starts p.at (pair_with p x r) in
    let partners = c.rows_of-partners.result.now in
    let none : partners ≡ [] = nil_from_length partners (eqb-true (length partners) 0 (sym c.is_empty.ensures ∙ c.if-is_empty.true)) in
    row_told p.left_key.now p.right_key.now p.right c.args.starts p.at x c.args.others.now.rows c.args.others.now.key c.in-Some.key.now c.args.answer.now.items c.args.answer.now.items
    by (c.in-Some.ensures ∙ ap (λ k. key_of k c.args.cells.now) c.key.ensures)
    (sym (append_none c.args.answer.now.items) ∙ ap (λ l. c.args.answer.now.items ++ map f l) (sym none ∙ c.rows_of-partners.ensures))

pub returns : goal.returns
returns c = λ by.
    let p = c.args.self.now in
    let x : HeldRow = record { cells = c.args.cells.now; start = c.args.start } in
    let f : HeldRow → Edge = λ r. told_at c.args.starts p.at (pair_with p x r) in
    row_told p.left_key.now p.right_key.now p.right c.args.starts p.at x c.args.others.now.rows c.args.others.now.key c.in-Some.key.now c.args.answer.now.items c.tell.new.answer.items
    by (c.in-Some.ensures ∙ ap (λ k. key_of k c.args.cells.now) c.key.ensures)
    (c.in_ok-tell.ensures ∙ ap (λ l. c.args.answer.now.items ++ map f l) c.rows_of-partners.ensures)
