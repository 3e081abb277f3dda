use Rattle.std.proofs.Common.{◌∙◌, sym, ap, arith, drop}
use Rattle.tw_rows.specs.declared.edge.HeldRow.{HeldRow}
use Rattle.anti_join.specs.Free.{KeyTimes, free_since}
use Rattle.anti_join.proofs.Keys.{is_none, head_is, since_one, since_none}
use Rattle.anti_join.proofs.free_times.FreeTimes.since.Goals as goal

pub returns-then-is_empty : goal.returns-then-is_empty
returns-then-is_empty c =
    let rows = c.self.inside.rows in
    let v = ap (λ (f : KeyTimes). free_since f.key f.rows c.args.key.now) c.self.view_is in
    let z = c.bounds.ensures.zero in
    let p = since_none rows.key c.args.key.now rows.rows (sym c.rows_of-found.ensures ∙ is_none c.rows_of-found.result.now (sym c.is_empty.ensures ∙ c.if-is_empty.true)) in
    omega (arith, z, p, v)

pub returns : goal.returns
returns c =
    let rows = c.self.inside.rows in
    let x = c.index-found-0.result in
    let v = ap (λ (f : KeyTimes). free_since f.key f.rows c.args.key.now) c.self.view_is in
    let s = ap (λ (r : HeldRow). r.start) c.index-found-0.is in
    let p = since_one rows.key c.args.key.now rows.rows (drop 1 c.rows_of-found.result.now) x (c.self.invariant.1 c.args.key.now)
    (sym c.rows_of-found.ensures ∙ head_is c.rows_of-found.result.now x (sym c.is_empty.ensures ∙ c.if-is_empty.false) c.index-found-0.is) in
    omega (arith, v, s, p)
