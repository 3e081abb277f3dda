use Rattle.std.specs.Prelude.{◌≡◌, ◌+◌, ℕ}
use Rattle.std.proofs.Common.{◌∙◌, ap, rules}
use Rattle.tw_rows.specs.Bag.{total}
use Rattle.tw_rows.specs.declared.edge.HeldRow.{HeldRow}
use Rattle.snapshot_agg.proofs.Reloading.{groups_next}
use Rattle.snapshot_agg.proofs.loading.groups_of.Goals as goal

pub loop-start-preserved : goal.loop-start-preserved
loop-start-preserved c =
    let l = c.loop-start in
    let e = c.start-item.result in
    let same : c.in_ok-clone.field-0 ≡ e.cells = search rules in
    let added : (w : HeldRow → ℕ) → total w c.add.new.self.rows.rows.held ≡ total w l.groups.rows.rows.held + w (record { cells = e.cells; start = e.sync }) =
    λ w. c.in_ok-add.ensures.added w ∙ ap (λ x. total w l.groups.rows.rows.held + w (record { cells = x; start = e.sync })) same in
    record {
      key = ap (λ v. v.items) c.add.ensures.key ∙ l.invariant.key;
      aggs = ap (λ v. v.items) c.add.ensures.aggs ∙ l.invariant.aggs;
      counted = c.in_ok-add.ensures.counted;
      ends = c.in_ok-add.ensures.ends ∙ l.invariant.ends;
      rows = groups_next c.args.starts.now l.start-index c.start-item.result l.groups.rows.rows.held c.add.new.self.rows.rows.held c.loop-start-test.true c.start-item.is added l.invariant.rows;
    }
