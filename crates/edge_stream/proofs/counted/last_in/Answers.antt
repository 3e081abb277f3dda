use Rattle.std.proofs.Common.{◌≡◌, ◌∙◌, ◌+◌, ◌-◌, ◌<◌, ℕ, Bool, true, false, List, [], ◌∷◌, ◌++◌, Some, map, length, get_or, take, drop, sym, ap, refl, arith}
use Rattle.batch.specs.Rows.{Row, edge_of, edges_of}
use Rattle.batch.proofs.Keeping.{no_row}
use Rattle.edge_stream.specs.Reading.{last_rank}
use Rattle.edge_stream.proofs.Rows.{bit_is, sync_is, other_is}
use Rattle.edge_stream.proofs.Fronts.{edges_parts, edges_left, edges_clear}
use Rattle.edge_stream.proofs.Passing.{last-append}
use Rattle.edge_stream.proofs.counted.last_in.Goals as goal

bit : (rows : List Row) (i : ℕ) (b v : Bool) → i < length rows → b ≡ get_or (map (λ r. r.occupied) rows) i false → b ≡ v → (get_or rows i no_row).occupied ≡ v
bit rows i b v lt read is = sym (bit_is rows i lt) ∙ sym read ∙ is

pub returns-then-is_set : goal.returns-then-is_set
returns-then-is_set c =
    let rows = c.args.batch.now.rows in
    let i = c.loop-i.i - 1 in
    let lt : i < length rows = omega (arith, c.loop-i-test.true, c.loop-i.auto.i, c.rows-i.ensures.rows) in
    let next : i + 1 ≡ c.loop-i.i = omega (arith, c.loop-i-test.true) in
    let read = c.is_set.ensures ∙ ap (λ o. get_or o.items i false) c.occupancy.ensures in
    let e = edge_of (get_or rows i no_row) in
    let is = c.rank_of.ensures e (sync_is rows i c.sync_at.result lt c.sync_at.ensures) (other_is rows i c.other_at.result lt c.other_at.ensures) in
    let none = ap (λ n. edges_of (drop n rows)) next ∙ c.loop-i.invariant in
    let last = edges_left rows i lt (bit rows i c.is_set.result true lt read c.if-is_set.true) ∙ ap (λ l. e ∷ l) none in
    ap Some is ∙ last-append _ (edges_of (take i rows)) (e ∷ []) refl ∙ ap last_rank (ap (λ l. edges_of (take i rows) ++ l) (sym last) ∙ edges_parts i rows)

pub loop-i-preserved : goal.loop-i-preserved
loop-i-preserved c =
    let rows = c.args.batch.now.rows in
    let i = c.loop-i.i - 1 in
    let lt : i < length rows = omega (arith, c.loop-i-test.true, c.loop-i.auto.i, c.rows-i.ensures.rows) in
    let next : i + 1 ≡ c.loop-i.i = omega (arith, c.loop-i-test.true) in
    let read = c.is_set.ensures ∙ ap (λ o. get_or o.items i false) c.occupancy.ensures in
    edges_clear rows i lt (bit rows i c.is_set.result false lt read c.if-is_set.false) ∙ ap (λ n. edges_of (drop n rows)) next ∙ c.loop-i.invariant
