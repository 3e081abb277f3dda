use Rattle.std.proofs.Common.{◌∙◌, ap, subst, sym, arith}
use Rattle.synopsis.specs.Held.{key_of}
use Rattle.synopsis.specs.Buckets.{rows_in, AreKeyed}
use Rattle.synopsis.proofs.Keyed.{ones}
use Rattle.session_window.proofs.open_rows.OpenRows.add.Goals as goal

pub invariant_of-self-2 : goal.invariant_of-self-2
invariant_of-self-2 c =
    let key = c.self.inside.key.columns in
    let es = c.put_row.new.sessions.entries in
    let a = c.in_ok-first.ensures.rows (λ r. 1) in
    let x = ones (rows_in es) in
    let y = ones (rows_in c.self.inside.sessions.entries) in
    let n = c.self.invariant.1 in
    let m = c.in-Some.ensures in (
      subst (λ k. AreKeyed k es) (sym c.write.ensures.columns)
          (c.in_ok-first.ensures.keyed key (c.values.ensures ∙ (c.write.ensures.values ∙ ap (key_of key) c.items.ensures)) c.self.invariant.0),
      omega (arith, a, x, y, n, m),
    )
