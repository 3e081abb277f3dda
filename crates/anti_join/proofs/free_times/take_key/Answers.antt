use Rattle.std.proofs.Common.{◌∙◌, sym, ap, drop, ◌+◌}
use Rattle.tw_rows.specs.Bag.{total}
use Rattle.synopsis.specs.Held.{is_of_key}
use Rattle.edge_history.specs.Order.{many}
use Rattle.edge_history.specs.Opens.{is_held}
use Rattle.anti_join.proofs.Keys.{all_others, is_none, head_is, taken_one}
use Rattle.anti_join.proofs.free_times.take_key.Goals as goal

pub returns-then-is_empty-clause-ok : goal.returns-then-is_empty-clause-ok
returns-then-is_empty-clause-ok c = λ few.
    let rows = c.args.rows.now in
    all_others (is_of_key rows.key c.args.key.now) rows.rows (sym c.rows_of-found.ensures ∙ is_none c.rows_of-found.result.now (sym c.is_empty.ensures ∙ c.if-is_empty.true))

pub returns-clause-ok : goal.returns-clause-ok
returns-clause-ok c = λ few.
    let rows = c.args.rows.now in
    let x = c.index-found-0.result in
    let cells = c.items.ensures ∙ c.in_ok-cells.ensures.cases in
    taken_one (is_of_key rows.key c.args.key.now) rows.rows c.take.new.self.rows (drop 1 c.rows_of-found.result.now) x c.take.result (few c.args.key.now)
    (sym c.rows_of-found.ensures ∙ head_is c.rows_of-found.result.now x (sym c.is_empty.ensures ∙ c.if-is_empty.false) c.index-found-0.is)
    (λ t w. c.take.ensures.taken t w ∙ ap (λ l. total w c.take.new.self.rows + w (record { cells = l; start = x.start })) cells)
    (λ f. ap (λ l. many (is_held l x.start) rows.rows) (sym cells) ∙ c.take.ensures.none f)
