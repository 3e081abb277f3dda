use Rattle.std.specs.Prelude.{true, filter, [], length, ◌<◌, ◌≤◌, IfSome, IfNone}
use Rattle.std.proofs.Common.{◌≡◌, ◌∙◌, subst, arith}
use Rattle.edge_history.specs.Order.{many}
use Rattle.edge_history.specs.Opens.{is_held}
use Rattle.synopsis.specs.Held.{is_of_key}
use Rattle.synopsis.proofs.Keyed.{ones}
use Rattle.follow_op.proofs.Taken.{all_others, other_rows}
use Rattle.follow_op.proofs.rows.drop_key.Goals as goal

pub rows-smaller : goal.rows-smaller
rows-smaller c =
    let a = c.remove.ensures.taken (λ r. 1) in
    let b = ones c.rows.left.rows in
    let d = ones c.remove.new.self.rows in
    let e : length c.remove.new.self.rows < length c.rows.left.rows = omega (arith, a, b, d) in
    e

pub rows-preserved : goal.rows-preserved
rows-preserved c =
    let k = c.rows.invariant in
    let r = c.in-Some.row in
    let key = c.args.key.now in
    let p = is_of_key c.args.left.now.key key in
    let found : (is_of_key c.rows.left.key key r ≡ true) × (1 ≤ many (is_held r.cells r.start) c.rows.left.rows) =
    subst (λ o. IfSome o (λ x. (is_of_key c.rows.left.key key x ≡ true) × (1 ≤ many (is_held x.cells x.start) c.rows.left.rows))) c.in-Some.is c.in_ok-row.ensures.some in
    let same : record { cells = c.items.result.now; start = r.start } ≡ r = λ i. record { cells = c.items.ensures i; start = r.start } in
    record {
      rows = other_rows p c.rows.left.rows c.remove.new.self.rows c.args.left.now.rows r (record { cells = c.items.result.now; start = r.start })
          (subst (λ l. is_of_key l key r ≡ true) k.key found.0) same c.remove.ensures.taken k.rows;
      key = c.remove.ensures.key ∙ k.key;
    }

pub returns-clause-rows : goal.returns-clause-rows
returns-clause-rows c =
    let k = c.rows.invariant in
    let key = c.args.key.now in
    let none : filter (is_of_key c.rows.left.key key) c.rows.left.rows ≡ [] =
    subst (λ o. IfNone o (filter (is_of_key c.rows.left.key key) c.rows.left.rows ≡ [])) c.in_default.is c.in_ok-row.ensures.none in
    all_others (is_of_key c.args.left.now.key key) c.rows.left.rows c.args.left.now.rows (subst (λ l. filter (is_of_key l key) c.rows.left.rows ≡ []) k.key none) k.rows
