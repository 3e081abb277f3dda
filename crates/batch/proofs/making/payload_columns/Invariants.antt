-- There is an empty column for each kind so far, and as many are taken.
use Rattle.std.proofs.Common.{◌≡◌, map, take}
use Rattle.std.specs.Prelude.{All}
use Rattle.tw_rows.specs.Kinds.{cell_kind_of}
use Rattle.batch.specs.Payloads.{payload_kind}
use Rattle.batch.specs.Columns.{IsColumn}
use Rattle.batch.specs.PoolsView.{all_taken}
use Rattle.batch.proofs.making.payload_columns.Given as goal

abbrev pub invariant-loop-kind : goal.invariant-loop-kind
invariant-loop-kind l = record {
  kinds : map payload_kind l.payload.items ≡ map cell_kind_of (take l.kind-index l.kinds);
  empty : All (IsColumn 0 l.fn.pools.capacity) l.payload.items;
  taken : l.pools ≡ all_taken l.fn.pools (map cell_kind_of (take l.kind-index l.kinds));
}
