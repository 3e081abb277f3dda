use Rattle.std.proofs.Common.{◌≡◌, ◌+◌, ◌-◌, ◌/◌, ◌<◌, ◌≤◌, ◌∙◌, true, false, ℕ, length, get_or, ap, subst, arith}
use Rattle.std.specs.List.{list_all}
use Rattle.std.proofs.lemmas.Bool.Decides.{nat_tests}
use Rattle.occupancy.specs.Bits.{IsNextSet, IsNoneSet}
use Rattle.batch.specs.Rows.{Row, edge_of}
use Rattle.batch.proofs.Keeping.{no_row}
use Rattle.edge_history.specs.Order.{is_below, is_from}
use Rattle.edge_stream.proofs.Rows.{sync_is}
use Rattle.edge_stream.proofs.Fronts.{low_row, high_row, edges_past, edges_none}
use Rattle.edge_stream.proofs.counted.row_from.Goals as goal

low_sync : (t s : ℕ) (r : Row) → r.sync ≡ s → s < t → is_below t (edge_of r) ≡ true
low_sync t s r is lt = grind (arith, nat_tests)

high_sync : (t s : ℕ) (r : Row) → r.sync ≡ s → t ≤ s → is_below t (edge_of r) ≡ false
high_sync t s r is le = grind (arith, nat_tests)

pub halves-preserved-then-lt : goal.halves-preserved-then-lt
halves-preserved-then-lt c =
    let rows = c.args.batch.now.rows in
    let row = c.in-Some.row in
    let inv = c.halves.invariant in
    let middle = c.halves.low + (c.halves.high - c.halves.low) / 2 in
    let next = subst (λ o. IsNextSet o.items middle row) c.occupancy.ensures c.in-Some.ensures.found in
    let within : row < length rows = omega (arith, c.if-row-high.true, inv.within) in
    let early : c.sync_at.result < c.args.t = grind (arith, nat_tests, c.lt.ensures, c.if-lt.true) in
    let low = low_sync c.args.t c.sync_at.result (get_or rows row no_row) (sync_is rows row c.sync_at.result within c.sync_at.ensures) early in
    record {
      ordered = omega (arith, c.if-row-high.true);
      within = inv.within;
      room = inv.room;
      below = λ rises. low_row rows middle row next c.args.t within rises low;
      from = inv.from;
    }

pub halves-preserved-in_default : goal.halves-preserved-in_default
halves-preserved-in_default c =
    let rows = c.args.batch.now.rows in
    let row = c.in-Some.row in
    let inv = c.halves.invariant in
    let middle = c.halves.low + (c.halves.high - c.halves.low) / 2 in
    let next = subst (λ o. IsNextSet o.items middle row) c.occupancy.ensures c.in-Some.ensures.found in
    let within : row < length rows = omega (arith, c.if-row-high.true, inv.within) in
    let late : c.args.t ≤ c.sync_at.result = grind (arith, nat_tests, c.lt.ensures, c.if-lt.false) in
    let high = high_sync c.args.t c.sync_at.result (get_or rows row no_row) (sync_is rows row c.sync_at.result within c.sync_at.ensures) late in
    record {
      ordered = omega arith;
      within = omega (arith, c.halves-test.true, inv.within);
      room = omega (arith, c.halves-test.true, inv.room);
      below = inv.below;
      from = λ rises. high_row rows middle row next c.args.t within rises high;
    }

pub halves-preserved-in_default-2 : goal.halves-preserved-in_default-2
halves-preserved-in_default-2 c =
    let rows = c.args.batch.now.rows in
    let row = c.in-Some.row in
    let inv = c.halves.invariant in
    let middle = c.halves.low + (c.halves.high - c.halves.low) / 2 in
    let next = subst (λ o. IsNextSet o.items middle row) c.occupancy.ensures c.in-Some.ensures.found in
    record {
      ordered = omega arith;
      within = omega (arith, c.halves-test.true, inv.within);
      room = omega (arith, c.halves-test.true, inv.room);
      below = inv.below;
      from = λ rises. ap (list_all (is_from c.args.t)) (edges_past rows middle row next c.halves.high (omega (arith, c.halves-test.true)) (omega (arith, c.if-row-high.false))) ∙ inv.from rises;
    }

pub halves-preserved : goal.halves-preserved
halves-preserved c =
    let rows = c.args.batch.now.rows in
    let inv = c.halves.invariant in
    let middle = c.halves.low + (c.halves.high - c.halves.low) / 2 in
    let none = subst (λ o. IsNoneSet o.items middle) c.occupancy.ensures c.in_default.ensures.none in
    record {
      ordered = omega arith;
      within = omega (arith, c.halves-test.true, inv.within);
      room = omega (arith, c.halves-test.true, inv.room);
      below = inv.below;
      from = λ rises. ap (list_all (is_from c.args.t)) (edges_none rows middle none);
    }
