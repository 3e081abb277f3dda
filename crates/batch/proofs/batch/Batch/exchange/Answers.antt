use Rattle.std.proofs.Common.{◌∙◌, ap, sym, subst, map, length}
use Rattle.std.specs.Prelude.{All}
use Rattle.batch.specs.Payloads.{payload_kind}
use Rattle.batch.specs.Columns.{rows_of, IsColumn, with_cells}
use Rattle.batch.proofs.Tables.{rows_of-exchange}
use Rattle.batch.proofs.Views.{columns_of, table_is, rows_are, capacity_is, columns_inside, columns_outside}
use Rattle.batch.proofs.batch.Batch.exchange.Goals as goal

pub invariant_of-self : goal.invariant_of-self
invariant_of-self c =
    let columns = c.self.invariant.columns in
    record {
      columns = record {
        other = columns.other;
        key = columns.key;
        hash = columns.hash;
        occupied = columns.occupied;
        payload = subst (λ p. All (IsColumn (length c.self.inside.sync.items) c.self.inside.sync.capacity) p.items) (sym c.replace-old.ensures.after) (columns_inside c.self.inside c.args.self c.self.view_is c.self.invariant c.args.payload.items c.requires);
        sync_times = columns.sync_times;
        other_times = columns.other_times;
      };
      other_room = c.self.invariant.other_room;
      key_room = c.self.invariant.key_room;
      hash_room = c.self.invariant.hash_room;
      occupied_room = c.self.invariant.occupied_room;
    }

pub returns-clause-batch : goal.returns-clause-batch
returns-clause-batch c =
    table_is _ _ _ _
    ((λ i. rows_of (record (columns_of c.self.inside) { payload = (c.replace-old.ensures.after i).items }))
    ∙ rows_of-exchange (columns_of c.self.inside) c.args.payload.items
    ∙ ap (with_cells c.args.payload.items 0) (rows_are c.self.inside c.args.self c.self.view_is c.self.invariant))
    (capacity_is c.self.inside c.args.self c.self.view_is c.self.invariant)
    (ap (λ p. map payload_kind p.items) c.replace-old.ensures.after)

pub returns-clause-whole : goal.returns-clause-whole
returns-clause-whole c = subst (λ p. All (IsColumn (length c.args.self.rows) c.args.self.capacity) p.items) (sym c.replace-old.ensures.value) (columns_outside c.self.inside c.args.self c.self.view_is c.self.invariant)

pub returns-clause-cells : goal.returns-clause-cells
returns-clause-cells c =
    let rows = rows_are c.self.inside c.args.self c.self.view_is c.self.invariant in
    ap (λ p. with_cells p.items 0 c.args.self.rows) c.replace-old.ensures.value ∙ ap (with_cells c.self.inside.payload.items 0) (sym rows) ∙ sym (rows_of-exchange (columns_of c.self.inside) c.self.inside.payload.items) ∙ rows
