use Rattle.std.proofs.Common.{◌≡◌, ◌∙◌, ap, sym, length}
use Rattle.occupancy.proofs.Both.{length-both}
use Rattle.batch.specs.Rows.{kept}
use Rattle.batch.specs.Columns.{rows_of}
use Rattle.batch.proofs.Tables.{rows_of-keep}
use Rattle.batch.proofs.Views.{columns_of, table_is, rows_are, capacity_is, kinds_are, length_is}
use Rattle.batch.proofs.batch.Batch.keep.Goals as goal

pub and_mask-requires : goal.and_mask-requires
and_mask-requires c = c.requires ∙ length_is c.self.inside c.args.self.now c.self.view_is c.self.invariant ∙ sym c.self.invariant.columns.occupied

pub invariant_of-self : goal.invariant_of-self
invariant_of-self c =
    let as_long : length c.args.mask.now.items ≡ length c.self.inside.occupied.items = c.requires ∙ length_is c.self.inside c.args.self.now c.self.view_is c.self.invariant ∙ sym c.self.invariant.columns.occupied in
    let columns = c.self.invariant.columns in
    record {
      columns = record {
        other = columns.other;
        key = columns.key;
        hash = columns.hash;
        occupied = ap (λ o. length o.items) c.and_mask.ensures ∙ length-both c.self.inside.occupied.items c.args.mask.now.items as_long ∙ columns.occupied;
        payload = columns.payload;
        sync_times = columns.sync_times;
        other_times = columns.other_times;
      };
      other_room = c.self.invariant.other_room;
      key_room = c.self.invariant.key_room;
      hash_room = c.self.invariant.hash_room;
      occupied_room = ap (λ o. o.capacity) c.and_mask.ensures ∙ c.self.invariant.occupied_room;
    }

pub returns : goal.returns
returns c =
    table_is _ _ _ _
    ((λ i. rows_of (record (columns_of c.self.inside) { occupied = (c.and_mask.ensures i).items }))
    ∙ rows_of-keep c.self.inside.sync.capacity (columns_of c.self.inside) c.args.mask.now.items c.self.invariant.columns (c.requires ∙ length_is c.self.inside c.args.self.now c.self.view_is c.self.invariant)
    ∙ ap (λ rs. kept rs c.args.mask.now.items) (rows_are c.self.inside c.args.self.now c.self.view_is c.self.invariant))
    (capacity_is c.self.inside c.args.self.now c.self.view_is c.self.invariant)
    (kinds_are c.self.inside c.args.self.now c.self.view_is c.self.invariant)
