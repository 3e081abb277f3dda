use Rattle.std.proofs.Common.{arith}
use Rattle.synopsis.specs.Buckets.{rows_in}
use Rattle.synopsis.proofs.Keyed.{ones}
use Rattle.session_window.proofs.open_rows.OpenRows.take.Goals as goal

pub overflow_sub-self : goal.overflow_sub-self
overflow_sub-self c =
    let a = c.take_rows-rows.ensures.taken (λ r. 1) in
    let x = ones (rows_in c.self.inside.sessions.entries) in
    let y = ones c.take_rows-rows.result.items in
    let l = c.len.ensures in
    let n = c.self.invariant.1 in
    omega (arith, a, x, y, l, n)

pub invariant_of-self : goal.invariant_of-self
invariant_of-self c =
    let a = c.take_rows-rows.ensures.taken (λ r. 1) in
    let x = ones (rows_in c.self.inside.sessions.entries) in
    let y = ones c.take_rows-rows.result.items in
    let z = ones (rows_in c.take_rows-rows.new.sessions.entries) in
    let l = c.len.ensures in
    let n = c.self.invariant.1 in (
      c.take_rows-rows.ensures.keyed c.self.inside.key.columns c.self.invariant.0,
      omega (arith, a, x, y, z, l, n),
    )
