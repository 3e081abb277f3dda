use Rattle.std.proofs.Common.{ℕ, ◌+◌, ◌<◌, ◌≡◌, List, length, get_or, sym, ◌∙◌, subst, ap, take, OnErr, Result, Ok, Err}
use Rattle.tw_rows.specs.Rows.{Row}
use Rattle.tw_rows.specs.Texts.{BeginsWith}
use Rattle.tw_rows.specs.Cells.{with_row}
use Rattle.tw_rows.specs.declared.row.Value.{Value}
use Rattle.tw_rows.proofs.CellReads.{IsTaken, IsTaken-next, with_row-next, BeginsWith-with_row}
use Rattle.tw_rows.proofs.cells.to_cells.Goals as goal

begins : (new old : List (List ℕ)) (row : Row) (n : ℕ) → new ≡ with_row old (take n row) → BeginsWith new old
begins new old row n h = subst (λ t. BeginsWith t old) (sym h) (BeginsWith-with_row old (take n row))

always : {A E : Type 0} (r : Result A E) (P : Type 0) → P → OnErr r P
always (Ok x) P p = tt
always (Err e) P p = p

-- the item of a list stands in a list that is the same
item_of : (xs row : Row) (n : ℕ) (v : Value) → xs ≡ row → v ≡ get_or xs n v → v ≡ get_or row n v
item_of xs row n v same h = h ∙ ap (λ l. get_or l n v) same

pub returns-in_err-to_datum-clause-begins : goal.returns-in_err-to_datum-clause-begins
returns-in_err-to_datum-clause-begins c = begins _ _ _ c.loop-value.value-index (c.in_err-to_datum.ensures.err ∙ c.loop-value.invariant.table)

pub returns-in_err-push-clause-err : goal.returns-in_err-push-clause-err
returns-in_err-push-clause-err c =
    let same = c.values-value-items.ensures in
    always c.from_residual-in_err-push.result _ (
      c.loop-value.value-index + 1,
      with_row-next _ _ c.loop-value.value-index _ _ c.value-item.result c.loop-value.invariant.table
          (subst (λ l. c.loop-value.value-index < length l) same c.loop-value-test.true) (item_of _ _ _ _ same c.value-item.is) c.in_ok-to_datum.ensures.table,
    )

pub returns-in_err-push-clause-begins : goal.returns-in_err-push-clause-begins
returns-in_err-push-clause-begins c =
    let same = c.values-value-items.ensures in
    begins _ _ _ (c.loop-value.value-index + 1) (with_row-next _ _ c.loop-value.value-index _ _ c.value-item.result c.loop-value.invariant.table
    (subst (λ l. c.loop-value.value-index < length l) same c.loop-value-test.true) (item_of _ _ _ _ same c.value-item.is) c.in_ok-to_datum.ensures.table)

pub loop-value-preserved : goal.loop-value-preserved
loop-value-preserved c =
    let same = c.values-value-items.ensures in
    let told = c.in_ok-to_datum.ensures in
    subst (λ l. IsTaken c.args.texts.now c.args.row.now (c.loop-value.value-index + 1) c.to_datum.new.texts l) (sym c.in_ok-push.ensures.ok)
    (IsTaken-next _ _ c.loop-value.value-index _ _ _ c.value-item.result c.in_ok-to_datum.field-0 c.loop-value.invariant
    (subst (λ l. c.loop-value.value-index < length l) same c.loop-value-test.true) (item_of _ _ _ _ same c.value-item.is) told.table told.read told.placed)

pub returns-clause-begins : goal.returns-clause-begins
returns-clause-begins c = begins _ _ _ c.loop-value.value-index c.loop-value.invariant.table
