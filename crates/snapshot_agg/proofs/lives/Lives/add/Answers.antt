use Rattle.std.specs.Prelude.{◌+◌, map}
use Rattle.std.proofs.Common.{◌∙◌, ap}
use Rattle.tw_rows.specs.Bag.{total}
use Rattle.tw_rows.specs.declared.edge.HeldRow.{HeldRow}
use Rattle.snapshot_agg.specs.KeptRows.{row_ended}
use Rattle.snapshot_agg.proofs.Living.{others_more}
use Rattle.snapshot_agg.proofs.lives.Lives.add.Goals as goal

pub returns-clause-held : goal.returns-clause-held
returns-clause-held c = λ w.
    let q = c.self.inside in
    let x : HeldRow = record { cells = c.args.cells; start = c.args.start } in
    others_more w q.others.rows c.add.new.self.rows (map row_ended q.ends.items) x (c.in_ok-add.ensures w) ∙ ap (λ v. total w v.rows.held + w x) c.self.view_is
