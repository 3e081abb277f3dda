use Rattle.std.proofs.Common.{◌≤◌, ◌++◌, ◌∙◌, sym, ap, arith, length, length-append}
use Rattle.tw_rows.specs.declared.edge.HeldRow.{HeldRow}
use Rattle.std.specs.Prelude.{List}
use Rattle.synopsis.specs.Buckets.{rows_in}
use Rattle.synopsis.proofs.Keyed.{few_blocks, some_left}
use Rattle.synopsis.proofs.Places.{blocks_all}
use Rattle.synopsis.proofs.synopsis.Synopsis.block_count.Goals as goal

pub returns-then-is_empty-clause-rows : goal.returns-then-is_empty-clause-rows
returns-then-is_empty-clause-rows c = rw (← c.self.view_is) (blocks_all c.self.inside.few.rows c.self.inside.buckets.entries)

pub returns-then-is_empty-clause-few : goal.returns-then-is_empty-clause-few
returns-then-is_empty-clause-few c =
    let few = c.self.inside.few.rows in
    let es = c.self.inside.buckets.entries in
    let n = c.len.ensures.len in
    let f = few_blocks es c.self.invariant.keyed.filled in
    let t = length-append few (rows_in es) in
    let h : c.len.result ≤ length (few ++ rows_in es) = omega (arith, n, f, t) in
    rw (← c.self.view_is) h

pub returns-clause-rows : goal.returns-clause-rows
returns-clause-rows c = rw (← c.self.view_is) (blocks_all c.self.inside.few.rows c.self.inside.buckets.entries)

pub returns-clause-few : goal.returns-clause-few
returns-clause-few c =
    let few = c.self.inside.few.rows in
    let es = c.self.inside.buckets.entries in
    let s = some_left c.rows.result.now (sym c.is_empty.ensures ∙ c.if-is_empty.false) in
    let e = ap (λ (l : List HeldRow). length l) c.rows.ensures in
    let t = length-append few (rows_in es) in
    let h : 1 ≤ length (few ++ rows_in es) = omega (arith, s, e, t) in
    rw (← c.self.view_is) h
