use Rattle.std.proofs.Common.{◌<◌, length, get_or, ap, sym, subst, ◌∙◌, arith, rules}
use Rattle.batch.specs.Payloads.{payload_data}
use Rattle.batch.specs.Places.{IsColumnPlaced}
use Rattle.batch.proofs.Placing.{rows_placed, columns_placed}
use Rattle.batch.proofs.batch.Batch.are_placed.Goals as goal

pub returns-then-not-is_column_placed : goal.returns-then-not-is_column_placed
returns-then-not-is_column_placed c = (
  λ set. absurd (cc),
  λ all.
      let texts = c.args.texts.now in
      let b = c.self.inside in
      let same = c.as_slice-column-items.ensures in
      let within : c.loop-column.column-index < length b.payload.items = subst (λ xs. c.loop-column.column-index < length xs) same c.loop-column-test.true in
      let here = columns_placed b c.args.self.now c.self.view_is c.self.invariant texts all c.loop-column.column-index c.column-item.result within in
      let found = c.column-item.is ∙ ap (λ xs. get_or xs c.loop-column.column-index c.column-item.result) same in
      sym c.if-not-is_column_placed.true ∙ c.is_column_placed.ensures.1 (subst (λ p. IsColumnPlaced texts b.occupied.items (payload_data p)) (sym found) here),
)

pub returns : goal.returns
returns c = (
  λ set.
      let same = ap length c.as_slice-column-items.ensures in
      rows_placed c.self.inside c.args.self.now c.self.view_is c.self.invariant c.args.texts.now (λ k d low. c.loop-column.invariant k d (omega (arith, low, same, c.loop-column-test.false))),
  λ all. search rules,
)
