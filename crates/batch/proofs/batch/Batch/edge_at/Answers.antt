use Rattle.std.proofs.Common.{◌≡◌, ◌∙◌, ◌++◌, [], ◌∷◌, ◌<◌, length, ap, sym, subst, take, get_or, map, pos, arith}
use Rattle.std.proofs.lemmas.List.{take_more, take_all, length-map}
use Rattle.std.proofs.lemmas.Option.{get_or_from_slice_get}
use Rattle.tw_rows.specs.declared.cells.Datum.TheVariants.{Int}
use Rattle.tw_rows.specs.Cells.{datum_kind}
use Rattle.batch.specs.Payloads.{payload_data, cells_at}
use Rattle.batch.proofs.Pushing.{get_or-cells_at, kinds-cells_at}
use Rattle.batch.proofs.Views.{reaches_item, sync_place, other_place, sync_time, other_time, payload_place, kinds_are, edge_of_row}
use Rattle.batch.proofs.batch.Batch.edge_at.Goals as goal

pub datum-requires : goal.datum-requires
datum-requires c = reaches_item c.self.inside c.args.self.now c.self.view_is c.self.invariant c.args.i c.loop-column.column-index c.column-item.result c.as_slice-column-items.result.now c.requires c.as_slice-column-items.ensures c.loop-column-test.true c.column-item.is

pub loop-column-preserved : goal.loop-column-preserved
loop-column-preserved c =
    let same = c.as_slice-column-items.ensures in
    let within : c.loop-column.column-index < length c.self.inside.payload.items = subst (λ xs. c.loop-column.column-index < length xs) same c.loop-column-test.true in
    let long = length-map c.self.inside.payload.items (λ p. get_or (payload_data p) c.args.i (Int (pos 0))) in
    let cell : get_or (cells_at c.self.inside.payload.items c.args.i) c.loop-column.column-index c.datum.result ≡ c.datum.result =
    get_or-cells_at c.self.inside.payload.items c.loop-column.column-index c.args.i c.column-item.result c.column-item.result c.datum.result c.datum.result within
    (c.column-item.is ∙ ap (λ xs. get_or xs c.loop-column.column-index c.column-item.result) same) c.datum.ensures.datum in
    record {
      read = c.in_ok-push.ensures.ok ∙ ap (λ xs. xs ++ c.datum.result ∷ []) c.loop-column.invariant.read
          ∙ ap (λ x. take c.loop-column.column-index (cells_at c.self.inside.payload.items c.args.i) ++ x ∷ []) (sym cell)
          ∙ sym (take_more (cells_at c.self.inside.payload.items c.args.i) c.loop-column.column-index c.datum.result (omega (arith, within, long)));
      room = omega (arith, c.loop-column.invariant.room, c.in_ok-push.ensures.capacity);
    }

pub get-requires : goal.get-requires
get-requires c = sync_place c.self.inside c.args.self.now c.self.view_is c.self.invariant c.args.i c.requires

pub from_word-requires : goal.from_word-requires
from_word-requires c = sync_time c.self.inside c.args.self.now c.self.view_is c.self.invariant c.args.i c.get.result c.requires c.get.ensures

pub get-requires-2 : goal.get-requires-2
get-requires-2 c = other_place c.self.inside c.args.self.now c.self.view_is c.self.invariant c.args.i c.requires

pub from_word-requires-2 : goal.from_word-requires-2
from_word-requires-2 c = other_time c.self.inside c.args.self.now c.self.view_is c.self.invariant c.args.i c.get-2.result c.requires c.get-2.ensures

pub returns-clause-ok : goal.returns-clause-ok
returns-clause-ok c =
    let same = ap length c.as_slice-column-items.ensures in
    let long = length-map c.self.inside.payload.items (λ p. get_or (payload_data p) c.args.i (Int (pos 0))) in
    edge_of_row c.self.inside c.args.self.now c.self.view_is c.self.invariant c.args.i _ c.requires
    (c.from_word.ensures ∙ sym (get_or_from_slice_get c.self.inside.sync.items c.args.i c.get.result 0 c.get.ensures))
    (c.from_word-2.ensures ∙ sym (get_or_from_slice_get c.self.inside.other.items c.args.i c.get-2.result 0 c.get-2.ensures))
    (c.new.ensures ∙ c.loop-column.invariant.read
    ∙ take_all c.loop-column.column-index (cells_at c.self.inside.payload.items c.args.i) (omega (arith, same, long, c.loop-column-test.false)))

pub returns-clause-kinds : goal.returns-clause-kinds
returns-clause-kinds c =
    let same = ap length c.as_slice-column-items.ensures in
    let long = length-map c.self.inside.payload.items (λ p. get_or (payload_data p) c.args.i (Int (pos 0))) in
    ap (map datum_kind) (c.new.ensures ∙ c.loop-column.invariant.read
    ∙ take_all c.loop-column.column-index (cells_at c.self.inside.payload.items c.args.i) (omega (arith, same, long, c.loop-column-test.false)))
    ∙ kinds-cells_at c.self.inside.payload.items c.args.i (payload_place c.self.inside c.args.self.now c.self.view_is c.self.invariant c.args.i c.requires)
    ∙ kinds_are c.self.inside c.args.self.now c.self.view_is c.self.invariant
