use Rattle.snapshot_agg.specs.Totaled.{totals_of}
use Rattle.snapshot_agg.proofs.Touching.{later_told}
use Rattle.snapshot_agg.proofs.groups.Groups.begin.Goals as goal

pub returns-clause-counted : goal.returns-clause-counted
returns-clause-counted c =
    let g = c.args.self.now in
    record {
      totals = c.requires.counted.totals;
      room = c.requires.counted.room;
      touched = λ q. later_told (totals_of g.totals q) g.instant c.in-Some.next g.touched.items c.clear.new.self.items q c.in-Some.ensures.1 (c.requires.counted.touched q);
    }
