use Rattle.std.proofs.Common.{◌≡◌, ◌+◌, ◌<◌, sym, ◌∙◌, ap, arith, subst, List, length, get_or, true, IsPermutation}
use Rattle.tw_rows.specs.Bag.{total}
use Rattle.tw_rows.specs.declared.edge.HeldRow.{HeldRow}
use Rattle.edge_history.specs.Opens.{is_held}
use Rattle.synopsis.proofs.Bags.{taken_out}
use Rattle.synopsis.proofs.bucket.Bucket.take.Goals as goal

pub swap_remove-requires : goal.swap_remove-requires
swap_remove-requires c = let size : List HeldRow → _ = length in let v = ap size c.self-2.view_is in omega (arith, v, c.unmarked-place.ensures.within)

pub returns-clause-taken : goal.returns-clause-taken
returns-clause-taken c = λ _ w.
    let d = c.swap_remove.result in
    let before = c.self.inside.rows.items in
    let rows = c.self-2.inside.rows.items in
    let i = c.unmarked-place.result in
    let cells = c.args.cells.now in
    let test = is_held cells c.args.start in
    let e = c.unmarked-place.ensures in
    let after : IsPermutation before rows = subst (λ l. IsPermutation before l) (sym c.self-2.view_is) e.same in
    let same : IsPermutation c.args.self.now rows = subst (λ l. IsPermutation l rows) c.self.view_is after in
    let low : i < length rows = subst (λ l. i < length l) (sym c.self-2.view_is) e.within in
    let found : test (get_or before c.in-Some.i d) ≡ true = ap (λ l. test (get_or l c.in-Some.i d)) c.self.view_is ∙ c.in-Some.ensures.found.held d in
    let held : test (get_or rows i d) ≡ true = ap (λ l. test (get_or l i d)) c.self-2.view_is ∙ (ap test (e.moved d) ∙ found) in
    let row : HeldRow = record { cells = cells; start = c.args.start } in
    taken_out w c.args.self.now rows i d cells c.args.start same low held ∙ ap (λ l. total w l + w row) (sym c.swap_remove.ensures.items)
