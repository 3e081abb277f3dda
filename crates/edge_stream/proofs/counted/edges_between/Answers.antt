use Rattle.std.proofs.Common.{◌≡◌, ◌∙◌, ◌+◌, ◌-◌, ◌<◌, ◌≤◌, ◌⊎◌, inl, inr, ℕ, Bool, true, false, List, map, length, get_or, take, sym, ap, arith}
use Rattle.std.proofs.lemmas.List.{length_push}
use Rattle.std.proofs.lemmas.Bool.{cases_lt}
use Rattle.batch.specs.Rows.{Row, edge_of, edges_of, occupied_rows}
use Rattle.batch.proofs.Keeping.{no_row}
use Rattle.edge_stream.proofs.Rows.{bit_is}
use Rattle.edge_stream.proofs.Fronts.{all_hold, fewer_hold, few_hold, one_more, no_more}
use Rattle.edge_stream.proofs.counted.edges_between.Goals as goal
use Rattle.edge_stream.proofs.counted.edges_between.Goals.{then-is_set, else-is_set}

pub returns-then-occupied-rows : goal.returns-then-occupied-rows
returns-then-occupied-rows c =
    let rows = c.args.batch.now.rows in
    let all : length (occupied_rows rows) ≡ length rows = sym c.occupied.ensures ∙ c.if-occupied-rows.true ∙ c.rows.ensures.rows in
    omega (arith, c.saturating_sub.ensures, all_hold c.args.to rows all c.requires.to, all_hold c.args.from rows all c.requires.from)

pub overflow_add-count : goal.overflow_add-count
overflow_add-count c = record { fits = omega (arith, c.loop-i.invariant.counted, few_hold c.loop-i.i c.args.batch.now.rows, c.loop-i-test.true, c.ranges.to) }

bit : (rows : List Row) (i : ℕ) (b v : Bool) → i < length rows → b ≡ get_or (map (λ r. r.occupied) rows) i false → b ≡ v → (get_or rows i no_row).occupied ≡ v
bit rows i b v lt read is = sym (bit_is rows i lt) ∙ sym read ∙ is

pub loop-i-preserved : goal.loop-i-preserved
loop-i-preserved c =
    let rows = c.args.batch.now.rows in
    let i = c.loop-i.i in
    let lt : i < length rows = omega (arith, c.loop-i-test.true, c.requires.to) in
    let read = c.is_set.ensures ∙ ap (λ o. get_or o.items i false) c.occupancy.ensures in
    elim c.if-is_set.branch [
      | then-is_set w ↦
          let here = ap length (one_more rows i lt (bit rows i c.is_set.result true lt read w.if-is_set.true)) ∙ length_push (edges_of (take i rows)) (edge_of (get_or rows i no_row)) in
          record {
            counted = omega (arith, c.loop-i.invariant.counted, w.count-is, here);
            none = λ h. absurd (omega (arith, h, c.loop-i-test.true, c.loop-i.auto.i));
          }
      | else-is_set w ↦
          let here = ap length (no_more rows i lt (bit rows i c.is_set.result false lt read w.if-is_set.false)) in
          record {
            counted = omega (arith, c.loop-i.invariant.counted, w.count-is, here);
            none = λ h. absurd (omega (arith, h, c.loop-i-test.true, c.loop-i.auto.i));
          }
    ]

-- all rows before the last one are counted, or there is none to count
counted : (rows : List Row) (from to i count : ℕ) → to ≤ i → (from ≤ to → i ≤ to) → length (edges_of (take from rows)) + count ≡ length (edges_of (take i rows)) → (to < from → count ≡ 0) → (to < from) ⊎ (from ≤ to) →
    count ≡ length (edges_of (take to rows)) - length (edges_of (take from rows))
counted rows from to i count past within so_far none (inl lt) = omega (arith, none lt, fewer_hold to from rows (omega (arith, lt)))
counted rows from to i count past within so_far none (inr le) =
    let same : i ≡ to = omega (arith, past, within le) in
    let here = ap (λ n. length (edges_of (take n rows))) same in
    omega (arith, so_far, here)

pub returns : goal.returns
returns c = counted c.args.batch.now.rows c.args.from c.args.to c.loop-i.i c.loop-i.count c.loop-i-test.false c.loop-i.auto.i-end c.loop-i.invariant.counted c.loop-i.invariant.none (cases_lt c.args.to c.args.from)
