-- What is answered by hand of the proof of groups::push_cells.
use Rattle.std.specs.Prelude.{◌≡◌, ℕ, ◌+◌, ◌<◌, List, [], ◌∷◌, ◌++◌, take, get_or, length}
use Rattle.std.proofs.Common.{◌∙◌, ap, arith}
use Rattle.std.proofs.lemmas.List.{take_more, map-append}
use Rattle.tw_rows.specs.Bag.{total}
use Rattle.tw_rows.specs.declared.cells.Datum.{Datum}
use Rattle.tw_rows.specs.declared.edge.HeldRow.{HeldRow}
use Rattle.tw_rows.proofs.Bags.{total-append}
use Rattle.edge_history.specs.Opens.{bare}
use Rattle.outer_top.proofs.groups.push_cells.Goals as goal

step : (w : List Datum → ℕ) (rows : List HeldRow) (i : ℕ) (r : HeldRow) (cells : List Datum) (old mid new : List (List Datum)) → i < length rows → r ≡ get_or rows i r → cells ≡ r.cells →
    new ≡ mid ++ cells ∷ [] → total w mid ≡ total w old + total w (bare (take i rows)) → total w new ≡ total w old + total w (bare (take (i + 1) rows))
step w rows i r cells old mid new low is same push h =
    let a = ap (total w) push ∙ total-append w mid (cells ∷ []) in
    let b = ap (λ l. total w (bare l)) (take_more rows i r low) ∙ (ap (total w) (map-append (λ (x : HeldRow). x.cells) (take i rows) (get_or rows i r ∷ [])) ∙ total-append w (bare (take i rows)) ((get_or rows i r).cells ∷ [])) in
    let c = ap (λ (x : HeldRow). w x.cells) is in
    let d = ap w same in
    omega (arith, a, b, c, d, h)

pub loop-row-preserved : goal.loop-row-preserved
loop-row-preserved c = λ w.
    step w c.args.rows.now c.loop-row.row-index c.row-item.result c.in_ok-clone.field-0 c.args.list.now.items c.loop-row.list.items c.push.new.self.items
    (omega arith) c.row-item.is c.in_ok-clone.ensures.cases c.in_ok-push.ensures.items (c.loop-row.invariant w)
