use Rattle.std.specs.Prelude.{◌++◌, map}
use Rattle.std.proofs.Common.{subst}
use Rattle.tw_rows.specs.Bag.{SameBag}
use Rattle.snapshot_agg.specs.KeptRows.{row_ended}
use Rattle.snapshot_agg.proofs.Faults.{on_ok}
use Rattle.snapshot_agg.proofs.Lined.{both_same}
use Rattle.snapshot_agg.proofs.lives.Lives.settle.Goals as goal

pub returns-clause-held : goal.returns-clause-held
returns-clause-held c =
    let q = c.self.inside in
    let new = c.settle_all.new in
    on_ok c.settle_all.result _ (SameBag c.args.self.now.rows.held (new.others.rows ++ map row_ended new.ends.items))
    (λ h. subst (λ v. SameBag v.rows.held (new.others.rows ++ map row_ended new.ends.items)) c.self.view_is
    (both_same q.others.rows (map row_ended q.ends.items) new.others.rows (map row_ended new.ends.items) h))
    c.settle_all.ensures.rows
