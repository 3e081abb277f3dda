use Rattle.std.proofs.Common.{◌≡◌, ◌∙◌, ◌++◌, [], ◌∷◌, length, ap, sym, subst, map}
use Rattle.std.specs.Prelude.{All}
use Rattle.std.specs.List.{refill}
use Rattle.tw_rows.specs.Cells.{datum_kind}
use Rattle.batch.specs.declared.batch.Batch.TheInside.{Inside}
use Rattle.batch.specs.Rows.{Row, Table}
use Rattle.batch.specs.Payloads.{payload_kind, cells_at, HasRoom, Reaches}
use Rattle.batch.proofs.Pushing.{refill-pushed, kinds-cells_at}
use Rattle.batch.proofs.Views.{Holds-push, view-push, read_row, sync_time, other_time, kinds_are, sync_place, other_place, key_place, hash_place, occupied_place, payload_place, sync_room, other_room, key_room, hash_room, occupied_room, payload_room}
use Rattle.batch.proofs.batch.Batch.copy_row.Goals as goal

pub get-requires : goal.get-requires
get-requires c = sync_place c.self.inside c.args.self.now c.self.view_is c.self.invariant c.args.i c.requires.place

pub get-requires-2 : goal.get-requires-2
get-requires-2 c = other_place c.self.inside c.args.self.now c.self.view_is c.self.invariant c.args.i c.requires.place

pub get-requires-3 : goal.get-requires-3
get-requires-3 c = key_place c.self.inside c.args.self.now c.self.view_is c.self.invariant c.args.i c.requires.place

pub get-requires-4 : goal.get-requires-4
get-requires-4 c = hash_place c.self.inside c.args.self.now c.self.view_is c.self.invariant c.args.i c.requires.place

pub is_set-requires : goal.is_set-requires
is_set-requires c = occupied_place c.self.inside c.args.self.now c.self.view_is c.self.invariant c.args.i c.requires.place

pub push-requires : goal.push-requires
push-requires c = sync_room c.to.inside c.args.to.now c.to.view_is c.to.invariant c.requires.room

pub push-requires-2 : goal.push-requires-2
push-requires-2 c = other_room c.to.inside c.args.to.now c.to.view_is c.to.invariant c.requires.room

pub push-requires-3 : goal.push-requires-3
push-requires-3 c = key_room c.to.inside c.args.to.now c.to.view_is c.to.invariant c.requires.room

pub push-requires-4 : goal.push-requires-4
push-requires-4 c = hash_room c.to.inside c.args.to.now c.to.view_is c.to.invariant c.requires.room

pub push-requires-5 : goal.push-requires-5
push-requires-5 c = occupied_room c.to.inside c.args.to.now c.to.view_is c.to.invariant c.requires.room

pub copy_cells-requires-clause-room : goal.copy_cells-requires-clause-room
copy_cells-requires-clause-room c = subst (All HasRoom) (sym c.as_mut_slice.ensures.value) (payload_room c.to.inside c.args.to.now c.to.view_is c.to.invariant c.requires.room)

pub copy_cells-requires-clause-place : goal.copy_cells-requires-clause-place
copy_cells-requires-clause-place c = subst (All (Reaches c.args.i)) (sym c.as_slice.ensures) (payload_place c.self.inside c.args.self.now c.self.view_is c.self.invariant c.args.i c.requires.place)

pub invariant_of-to : goal.invariant_of-to
invariant_of-to c =
    let row : Row = record { sync = c.get.result; other = c.get-2.result; key = c.get-3.result; hash = c.get-4.result; cells = cells_at c.self.inside.payload.items c.args.i; occupied = c.is_set.result } in
    let more : Inside = record {
      sync = c.push.new.self;
      other = c.push-2.new.self;
      key = c.push-3.new.self;
      hash = c.push-4.new.self;
      payload = record { items = refill (length c.to.inside.payload.items) c.to.inside.payload.items c.copy_cells.new.columns; capacity = c.to.inside.payload.capacity };
      occupied = c.push-5.new.self;
    } in
    let kinds : map datum_kind (cells_at c.self.inside.payload.items c.args.i) ≡ map payload_kind c.to.inside.payload.items =
    kinds-cells_at c.self.inside.payload.items c.args.i (payload_place c.self.inside c.args.self.now c.self.view_is c.self.invariant c.args.i c.requires.place)
    ∙ kinds_are c.self.inside c.args.self.now c.self.view_is c.self.invariant ∙ c.requires.kinds ∙ sym (kinds_are c.to.inside c.args.to.now c.to.view_is c.to.invariant) in
    Holds-push c.to.inside c.args.to.now c.to.view_is c.to.invariant row more c.push.ensures c.push-2.ensures c.push-3.ensures c.push-4.ensures
    (refill-pushed c.to.inside.payload.items c.copy_cells.new.columns c.as_mut_slice.result.now (cells_at c.self.inside.payload.items c.args.i) (cells_at c.as_slice.result.now c.args.i) c.copy_cells.ensures c.as_mut_slice.ensures.value (ap (λ ps. cells_at ps c.args.i) c.as_slice.ensures)) c.push-5.ensures
    kinds
    (sync_time c.self.inside c.args.self.now c.self.view_is c.self.invariant c.args.i c.get.result c.requires.place c.get.ensures)
    (other_time c.self.inside c.args.self.now c.self.view_is c.self.invariant c.args.i c.get-2.result c.requires.place c.get-2.ensures)

pub returns : goal.returns
returns c r found =
    let row : Row = record { sync = c.get.result; other = c.get-2.result; key = c.get-3.result; hash = c.get-4.result; cells = cells_at c.self.inside.payload.items c.args.i; occupied = c.is_set.result } in
    let more : Inside = record {
      sync = c.push.new.self;
      other = c.push-2.new.self;
      key = c.push-3.new.self;
      hash = c.push-4.new.self;
      payload = record { items = refill (length c.to.inside.payload.items) c.to.inside.payload.items c.copy_cells.new.columns; capacity = c.to.inside.payload.capacity };
      occupied = c.push-5.new.self;
    } in
    let kinds : map datum_kind (cells_at c.self.inside.payload.items c.args.i) ≡ map payload_kind c.to.inside.payload.items =
    kinds-cells_at c.self.inside.payload.items c.args.i (payload_place c.self.inside c.args.self.now c.self.view_is c.self.invariant c.args.i c.requires.place)
    ∙ kinds_are c.self.inside c.args.self.now c.self.view_is c.self.invariant ∙ c.requires.kinds ∙ sym (kinds_are c.to.inside c.args.to.now c.to.view_is c.to.invariant) in
    let with_last : Row → Table = (λ x. record c.args.to.now { rows = c.args.to.now.rows ++ x ∷ [] }) in
    let same_row : row ≡ r = read_row c.self.inside c.args.self.now c.self.view_is c.self.invariant c.args.i r c.get.result c.get-2.result c.get-3.result c.get-4.result c.is_set.result c.requires.place found c.get.ensures c.get-2.ensures c.get-3.ensures c.get-4.ensures c.is_set.ensures in
    view-push c.to.inside c.args.to.now c.to.view_is c.to.invariant row more c.push.ensures c.push-2.ensures c.push-3.ensures c.push-4.ensures
    (refill-pushed c.to.inside.payload.items c.copy_cells.new.columns c.as_mut_slice.result.now (cells_at c.self.inside.payload.items c.args.i) (cells_at c.as_slice.result.now c.args.i) c.copy_cells.ensures c.as_mut_slice.ensures.value (ap (λ ps. cells_at ps c.args.i) c.as_slice.ensures)) c.push-5.ensures
    kinds
    ∙ ap with_last same_row
