use Rattle.std.proofs.Common.{◌≡◌, ◌∙◌, ap, sym, subst, List}
use Rattle.std.specs.Prelude.{Some, slice_get, length, ◌-◌, filter, true, ◌≤◌}
use Rattle.tw_rows.specs.declared.cells.Datum.{Datum}
use Rattle.edge_history.specs.Order.{many}
use Rattle.edge_history.specs.Opens.{is_held}
use Rattle.synopsis.specs.Held.{is_of_key}
use Rattle.follow_op.proofs.Taken.{filter_got, held_itself}
use Rattle.follow_op.proofs.rows.last_of.Goals as goal

pub returns-clause-some : goal.returns-clause-some
returns-clause-some c =
    let r = c.in-Some.row.now in
    let p = is_of_key c.args.left.now.key c.args.key.now in
    let rows = c.args.left.now.rows in
    let n = length c.rows_of.result.now - 1 in
    let at : slice_get (filter p rows) n ≡ Some r = ap (λ l. slice_get l n) (sym c.rows_of.ensures) ∙ sym c.in-Some.ensures.value in
    let got = filter_got p (is_held r.cells r.start) rows n r at (held_itself r) in
    let same = sym c.in_ok-clone.ensures.cases in
    subst (λ (l : List Datum). (p (record { cells = l; start = r.start }) ≡ true) × (1 ≤ many (is_held l r.start) rows)) same got
