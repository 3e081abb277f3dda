use Rattle.std.proofs.Common.{◌≡◌, List, length}
use Rattle.tw_rows.specs.declared.edge.Edge.{Edge}
use Rattle.sweep_laws.specs.Grouping.{keys_of}
use Rattle.snapshot_agg.specs.Counting.{IsCounted}
use Rattle.snapshot_agg.specs.Living.{AreEnded, TouchesAll}
use Rattle.snapshot_agg.specs.Words.{key_data}
use Rattle.snapshot_agg.proofs.intervals.end_rows.Given as goal

abbrev pub decreases-loop : goal.decreases-loop
decreases-loop l = length l.groups.rows.rows.ends

abbrev pub invariant-loop : goal.invariant-loop
invariant-loop l = record {
  counted : IsCounted l.groups;
  gone : (gone : List Edge) × AreEnded gone l.t l.fn.groups.rows.rows l.groups.rows.rows
      × TouchesAll l.fn.groups.touched.items l.groups.touched.items (keys_of (key_data l.fn.groups.key.items) gone);
  same_key : l.groups.key ≡ l.fn.groups.key;
  same_aggs : l.groups.aggs ≡ l.fn.groups.aggs;
}
