use Rattle.std.proofs.Common.{◌≡◌, ◌∙◌, sym, ap, arith, Some, slice_get, length, List, ◌++◌, ◌+◌, ◌-◌}
use Rattle.tw_rows.specs.declared.edge.HeldRow.{HeldRow}
use Rattle.synopsis.specs.Buckets.{rows_in}
use Rattle.synopsis.proofs.Keyed.{none_left, walked, passed, still_within}
use Rattle.synopsis.proofs.synopsis.Synopsis.row_at.Goals as goal

pub returns-then-left-rows : goal.returns-then-left-rows
returns-then-left-rows c =
    let es = c.self.inside.buckets.entries in
    let b = c.rows-rows.result.now in
    let d = c.index-rows-left.result in
    let at = c.index.ensures ∙ ap (λ (l : List HeldRow). Some l) (sym c.rows-rows.ensures) in
    let none = sym c.rows-few.ensures ∙ none_left c.rows-few.result.now (sym c.is_empty.ensures ∙ c.if-not-is_empty.false) in
    let found : slice_get (c.self.inside.few.rows ++ rows_in es) c.args.i ≡ Some d =
    ap (λ (l : List HeldRow). slice_get (l ++ rows_in es) c.args.i) none
    ∙ (walked es c.loop-k.k c.loop-k.left c.args.i b at c.loop-k.invariant.same d c.if-left-rows.true ∙ ap (λ (r : HeldRow). Some r) (sym c.index-rows-left.is)) in
    rw (← c.self.view_is) found

pub loop-k-preserved : goal.loop-k-preserved
loop-k-preserved c =
    let es = c.self.inside.buckets.entries in
    let k = c.loop-k.k in
    let left = c.loop-k.left in
    let b = c.rows-rows.result.now in
    let at = c.index.ensures ∙ ap (λ (l : List HeldRow). Some l) (sym c.rows-rows.ensures) in
    let low = c.if-left-rows.false in
    record {
      within = still_within es k left c.args.i b at c.loop-k.invariant.same (k + 1) (left - length b) (omega arith) (omega (arith, low)) c.loop-k.invariant.within;
      same = passed es k left c.args.i b at c.loop-k.invariant.same (k + 1) (left - length b) (omega arith) (omega (arith, low));
    }
