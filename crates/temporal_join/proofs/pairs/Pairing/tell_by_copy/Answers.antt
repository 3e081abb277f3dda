use Rattle.std.proofs.Common.{◌∙◌, ◌++◌, ap, map}
use Rattle.tw_rows.specs.declared.edge.Edge.{Edge}
use Rattle.tw_rows.specs.declared.edge.HeldRow.{HeldRow}
use Rattle.synopsis.specs.Held.{key_of}
use Rattle.sweep_laws.specs.Moves.{told_at}
use Rattle.temporal_join.specs.Pairing.{pair_with}
use Rattle.temporal_join.proofs.Partners.{row_told}
use Rattle.temporal_join.proofs.pairs.Pairing.tell_by_copy.Goals as goal

pub returns : goal.returns
returns c = λ by.
    let p = c.args.self.now in
    let x : HeldRow = record { cells = c.args.cells.now; start = c.args.start } in
    let f : HeldRow → Edge = λ r. told_at c.args.starts p.at (pair_with p x r) in
    row_told p.left_key.now p.right_key.now p.right c.args.starts p.at x c.args.others.now.rows c.args.others.now.key c.as_slice.result.now c.args.answer.now.items c.tell.new.answer.items
    by (c.as_slice.ensures ∙ (c.in_ok-key.ensures ∙ ap (λ k. key_of k c.args.cells.now) c.key.ensures))
    (c.in_ok-tell.ensures ∙ ap (λ l. c.args.answer.now.items ++ map f l) c.rows_of.ensures)
