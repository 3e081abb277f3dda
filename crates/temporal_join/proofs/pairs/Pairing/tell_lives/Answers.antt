use Rattle.std.proofs.Common.{◌≡◌, ◌∙◌, ap}
use Rattle.std.proofs.lemmas.Bool.{eqb-true}
use Rattle.tw_rows.specs.Words.{word_of_cells}
use Rattle.tw_rows.specs.declared.edge.Edge.{Edge}
use Rattle.tw_rows.specs.declared.edge.HeldRow.{HeldRow}
use Rattle.edge_history.specs.Order.{failing}
use Rattle.synopsis.specs.Held.{key_of}
use Rattle.sweep_laws.specs.Moves.{told_at}
use Rattle.temporal_join.specs.Lives.{is_marked}
use Rattle.temporal_join.specs.Pairing.{own_key, pair_with}
use Rattle.temporal_join.proofs.Living.{passes_at}
use Rattle.temporal_join.proofs.LiveTelling.{tell_next}
use Rattle.temporal_join.proofs.pairs.Pairing.tell_lives.Goals as goal

pub loop-other-preserved : goal.loop-other-preserved
loop-other-preserved c = λ word.
    let p = c.args.self.now in
    let x : HeldRow = record { cells = c.args.cells.now; start = c.args.start } in
    let f : HeldRow → Edge = λ r. told_at c.args.starts p.at (pair_with p x r) in
    let y = c.other-item.result in
    let lives = c.lives-lives.result.now in
    let columns = c.args.others.now.columns in
    let i = c.loop-other.other-index in
    let marked : failing (is_marked columns) lives ≡ 0 = ap (failing (is_marked columns)) c.lives-lives.ensures.lives ∙ c.lives-lives.ensures.are.marked in
    let own = eqb-true y.word (word_of_cells (key_of columns y.edge.cells)) (passes_at (is_marked columns) lives i y c.loop-other-test.true c.other-item.is marked) in
    tell_next f columns c.columns.result.now (key_of (own_key p) x.cells) lives i y c.args.answer.now.items c.loop-other.answer.items c.tell_partner.new.answer.items c.loop-other-test.true c.other-item.is c.columns.ensures
    own (c.in_ok-tell_partner.ensures word) (c.loop-other.invariant word)
