use Rattle.std.proofs.Common.{◌≡◌, ◌+◌, ◌≤◌, take, map, ℕ}
use Rattle.tw_rows.specs.Bag.{total}
use Rattle.tw_rows.specs.declared.edge.HeldRow.{HeldRow}
use Rattle.union_clip.specs.Leaving.{row_named}
use Rattle.union_clip.proofs.sweep.take_out.Given as goal

abbrev pub invariant-loop-end : goal.invariant-loop-end
invariant-loop-end l = record {
  taken : ((w : HeldRow → ℕ) → total w (map row_named l.ends) ≤ total w l.fn.rows.rows) → (w : HeldRow → ℕ) →
      total w l.fn.rows.rows ≡ total w l.rows.rows + total w (map row_named (take l.end-index l.ends));
  key : l.rows.key ≡ l.fn.rows.key;
}
