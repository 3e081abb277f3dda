use Rattle.std.proofs.Common.{◌≡◌, ◌∙◌, ◌<◌, ℕ, Bool, true, false, List, map, length, get_or, sym, ap, rules, arith}
use Rattle.batch.specs.Rows.{Row, edge_of}
use Rattle.edge_stream.specs.Sides.{is_on_side}
use Rattle.batch.proofs.Keeping.{no_row}
use Rattle.edge_stream.proofs.Rows.{all-clear, all-passes, all-fails, sync_is, bit_is}
use Rattle.edge_stream.proofs.cut.all_on_side.Goals as goal
use Rattle.edge_stream.proofs.cut.all_on_side.Goals.{else-is_set-via-then-is_set+else-not-has, else-is_set-via-else-is_set}

bit : (rows : List Row) (i : ℕ) (b v : Bool) → i < length rows → b ≡ get_or (map (λ r. r.occupied) rows) i false → b ≡ v → (get_or rows i no_row).occupied ≡ v
bit rows i b v lt read is = sym (bit_is rows i lt) ∙ sym read ∙ is

pub returns-then-not-has-clause-all : goal.returns-then-not-has-clause-all
returns-then-not-has-clause-all c =
    let rows = c.args.batch.now.rows in
    let lt : c.loop-i.i < length rows = omega (arith, c.loop-i-test.true, c.rows-i-end.ensures.rows) in
    let set = bit rows c.loop-i.i c.is_set.result true lt (c.is_set.ensures ∙ ap (λ o. get_or o.items c.loop-i.i false) c.occupancy.ensures) c.if-is_set.true in
    let side = c.has.ensures (edge_of (get_or rows c.loop-i.i no_row)) (sync_is rows c.loop-i.i c.sync_at.result lt c.sync_at.ensures) in
    let fails : is_on_side c.args.side c.args.t (edge_of (get_or rows c.loop-i.i no_row)) ≡ false = sym side ∙ search rules in
    sym (c.loop-i.invariant ∙ all-fails (is_on_side c.args.side c.args.t) rows c.loop-i.i lt set fails)

pub loop-i-preserved : goal.loop-i-preserved
loop-i-preserved c =
    let rows = c.args.batch.now.rows in
    let lt : c.loop-i.i < length rows = omega (arith, c.loop-i-test.true, c.rows-i-end.ensures.rows) in
    elim c.else-is_set.branch [
      | else-is_set-via-then-is_set+else-not-has w ↦
          let side = w.has.ensures (edge_of (get_or rows c.loop-i.i no_row)) (sync_is rows c.loop-i.i w.sync_at.result lt w.sync_at.ensures) in
          let passes : is_on_side c.args.side c.args.t (edge_of (get_or rows c.loop-i.i no_row)) ≡ true = sym side ∙ search rules in
          c.loop-i.invariant ∙ all-passes (is_on_side c.args.side c.args.t) rows c.loop-i.i lt passes
      | else-is_set-via-else-is_set w ↦
          c.loop-i.invariant ∙ all-clear (is_on_side c.args.side c.args.t) rows c.loop-i.i lt
          (bit rows c.loop-i.i c.is_set.result false lt (c.is_set.ensures ∙ ap (λ o. get_or o.items c.loop-i.i false) c.occupancy.ensures) w.if-is_set.false)
    ]
