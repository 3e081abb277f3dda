use Rattle.std.proofs.Common.{◌∙◌, ap, nat_eq, length, List, ℕ}
use Rattle.tw_rows.specs.declared.cells.Datum.{Datum}
use Rattle.edge_history.specs.Order.{many}
use Rattle.synopsis.specs.Held.{key_of, is_of_key}
use Rattle.anti_join.specs.Free.{KeyTimes}
use Rattle.anti_join.proofs.Keys.{kept_length}
use Rattle.anti_join.proofs.free_times.FreeTimes.has_none.Goals as goal

pub returns-clause-none : goal.returns-clause-none
returns-clause-none c =
    let rows = c.self.inside.rows in
    let v = c.values.ensures ∙ (c.write.ensures.values ∙ ap (λ (k : List ℕ). key_of k c.args.cells.now) c.self.invariant.0) in
    let found = c.is_empty.ensures ∙ (ap (λ l. nat_eq (length l) 0) c.rows_of.ensures ∙ ap (λ n. nat_eq n 0) (kept_length (is_of_key rows.key c.values.result.now) rows.rows)) in
    let same = ap (λ (l : List Datum). nat_eq (many (is_of_key rows.key l) rows.rows) 0) v in
    let seen = ap (λ (f : KeyTimes). nat_eq (many (is_of_key f.key (key_of f.key c.args.cells.now)) f.rows) 0) c.self.view_is in
    cc (found, same, seen)
