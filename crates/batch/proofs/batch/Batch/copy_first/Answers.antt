use Rattle.std.proofs.Common.{ap, sym, subst, length, arith}
use Rattle.std.specs.Prelude.{All}
use Rattle.std.specs.List.{refill}
use Rattle.std.proofs.lemmas.List.{length-take-le}
use Rattle.batch.specs.declared.batch.Batch.TheInside.{Inside}
use Rattle.batch.specs.Payloads.{Holds, HasRoomFor}
use Rattle.batch.proofs.Views.{length_is, capacity_is}
use Rattle.batch.proofs.FirstViews.{All-Holds, All-HasRoomFor, extended_to, refill-extended, Holds-first, view-first}
use Rattle.batch.proofs.batch.Batch.copy_first.Goals as goal

pub slice_bounds-extend-end : goal.slice_bounds-extend-end
slice_bounds-extend-end c =
    let n = length_is c.self.inside c.args.self.now c.self.view_is c.self.invariant in
    let v = ap length c.as_slice.ensures in
    sym (length-take-le c.args.count c.as_slice.result.now (omega (arith, n, v, c.requires.count)))

pub extend-requires : goal.extend-requires
extend-requires c =
    let n = length_is c.self.inside c.args.self.now c.self.view_is c.self.invariant in
    let v = ap length c.as_slice.ensures in
    let taken = length-take-le c.args.count c.as_slice.result.now (omega (arith, n, v, c.requires.count)) in
    let m = length_is c.to.inside c.args.to.now c.to.view_is c.to.invariant in
    let room = capacity_is c.to.inside c.args.to.now c.to.view_is c.to.invariant in
    omega (arith, taken, m, room, c.requires.room)

pub slice_bounds-extend-end-2 : goal.slice_bounds-extend-end-2
slice_bounds-extend-end-2 c =
    let n = length_is c.self.inside c.args.self.now c.self.view_is c.self.invariant in
    let e = c.self.invariant.columns.other in
    let v = ap length c.as_slice-2.ensures in
    sym (length-take-le c.args.count c.as_slice-2.result.now (omega (arith, n, e, v, c.requires.count)))

pub extend-requires-2 : goal.extend-requires-2
extend-requires-2 c =
    let n = length_is c.self.inside c.args.self.now c.self.view_is c.self.invariant in
    let e = c.self.invariant.columns.other in
    let o = c.to.invariant.columns.other in
    let r = c.to.invariant.other_room in
    let v = ap length c.as_slice-2.ensures in
    let taken = length-take-le c.args.count c.as_slice-2.result.now (omega (arith, n, e, v, c.requires.count)) in
    let m = length_is c.to.inside c.args.to.now c.to.view_is c.to.invariant in
    let room = capacity_is c.to.inside c.args.to.now c.to.view_is c.to.invariant in
    omega (arith, taken, m, o, r, room, c.requires.room)

pub slice_bounds-extend-end-3 : goal.slice_bounds-extend-end-3
slice_bounds-extend-end-3 c =
    let n = length_is c.self.inside c.args.self.now c.self.view_is c.self.invariant in
    let e = c.self.invariant.columns.key in
    let v = ap length c.as_slice-3.ensures in
    sym (length-take-le c.args.count c.as_slice-3.result.now (omega (arith, n, e, v, c.requires.count)))

pub extend-requires-3 : goal.extend-requires-3
extend-requires-3 c =
    let n = length_is c.self.inside c.args.self.now c.self.view_is c.self.invariant in
    let e = c.self.invariant.columns.key in
    let o = c.to.invariant.columns.key in
    let r = c.to.invariant.key_room in
    let v = ap length c.as_slice-3.ensures in
    let taken = length-take-le c.args.count c.as_slice-3.result.now (omega (arith, n, e, v, c.requires.count)) in
    let m = length_is c.to.inside c.args.to.now c.to.view_is c.to.invariant in
    let room = capacity_is c.to.inside c.args.to.now c.to.view_is c.to.invariant in
    omega (arith, taken, m, o, r, room, c.requires.room)

pub slice_bounds-extend-end-4 : goal.slice_bounds-extend-end-4
slice_bounds-extend-end-4 c =
    let n = length_is c.self.inside c.args.self.now c.self.view_is c.self.invariant in
    let e = c.self.invariant.columns.hash in
    let v = ap length c.as_slice-4.ensures in
    sym (length-take-le c.args.count c.as_slice-4.result.now (omega (arith, n, e, v, c.requires.count)))

pub extend-requires-4 : goal.extend-requires-4
extend-requires-4 c =
    let n = length_is c.self.inside c.args.self.now c.self.view_is c.self.invariant in
    let e = c.self.invariant.columns.hash in
    let o = c.to.invariant.columns.hash in
    let r = c.to.invariant.hash_room in
    let v = ap length c.as_slice-4.ensures in
    let taken = length-take-le c.args.count c.as_slice-4.result.now (omega (arith, n, e, v, c.requires.count)) in
    let m = length_is c.to.inside c.args.to.now c.to.view_is c.to.invariant in
    let room = capacity_is c.to.inside c.args.to.now c.to.view_is c.to.invariant in
    omega (arith, taken, m, o, r, room, c.requires.room)

pub extend_bits-requires-clause-count : goal.extend_bits-requires-clause-count
extend_bits-requires-clause-count c =
    let n = length_is c.self.inside c.args.self.now c.self.view_is c.self.invariant in
    let e = c.self.invariant.columns.occupied in
    omega (arith, n, e, c.requires.count)

pub extend_bits-requires-clause-room : goal.extend_bits-requires-clause-room
extend_bits-requires-clause-room c =
    let m = length_is c.to.inside c.args.to.now c.to.view_is c.to.invariant in
    let room = capacity_is c.to.inside c.args.to.now c.to.view_is c.to.invariant in
    let o = c.to.invariant.columns.occupied in
    let r = c.to.invariant.occupied_room in
    omega (arith, m, o, r, room, c.requires.room)

pub extend_columns-requires-clause-count : goal.extend_columns-requires-clause-count
extend_columns-requires-clause-count c =
    let n = length_is c.self.inside c.args.self.now c.self.view_is c.self.invariant in
    subst (All (Holds c.args.count)) (sym c.as_slice-5.ensures)
    (All-Holds c.args.count (length c.self.inside.sync.items) c.self.inside.sync.capacity c.self.inside.payload.items c.self.invariant.columns.payload (omega (arith, n, c.requires.count)))

pub extend_columns-requires-clause-room : goal.extend_columns-requires-clause-room
extend_columns-requires-clause-room c =
    let m = length_is c.to.inside c.args.to.now c.to.view_is c.to.invariant in
    let room = capacity_is c.to.inside c.args.to.now c.to.view_is c.to.invariant in
    subst (All (HasRoomFor c.args.count)) (sym c.as_mut_slice.ensures.value)
    (All-HasRoomFor c.args.count (length c.to.inside.sync.items) c.to.inside.sync.capacity c.to.inside.payload.items c.to.invariant.columns.payload (omega (arith, m, room, c.requires.room)))

pub invariant_of-to : goal.invariant_of-to
invariant_of-to c =
    let b = c.to.inside in
    let f = c.self.inside in
    let k = c.args.count in
    let more : Inside = record {
      sync = c.extend.new.self;
      other = c.extend-2.new.self;
      key = c.extend-3.new.self;
      hash = c.extend-4.new.self;
      payload = record { items = refill (length b.payload.items) b.payload.items c.extend_columns.new.columns; capacity = b.payload.capacity };
      occupied = c.extend_bits.new.bits;
    } in
    Holds-first k b f c.args.to.now c.args.self.now c.to.view_is c.to.invariant c.self.view_is c.self.invariant more
    (extended_to k b.sync c.extend.new.self c.as_slice.result.now f.sync.items c.extend.ensures c.as_slice.ensures)
    (extended_to k b.other c.extend-2.new.self c.as_slice-2.result.now f.other.items c.extend-2.ensures c.as_slice-2.ensures)
    (extended_to k b.key c.extend-3.new.self c.as_slice-3.result.now f.key.items c.extend-3.ensures c.as_slice-3.ensures)
    (extended_to k b.hash c.extend-4.new.self c.as_slice-4.result.now f.hash.items c.extend-4.ensures c.as_slice-4.ensures)
    (refill-extended k b.payload.items c.extend_columns.new.columns c.as_mut_slice.result.now f.payload.items c.as_slice-5.result.now c.extend_columns.ensures c.as_mut_slice.ensures.value c.as_slice-5.ensures)
    c.extend_bits.ensures c.requires.kinds c.requires.count

pub returns : goal.returns
returns c =
    let b = c.to.inside in
    let f = c.self.inside in
    let k = c.args.count in
    let more : Inside = record {
      sync = c.extend.new.self;
      other = c.extend-2.new.self;
      key = c.extend-3.new.self;
      hash = c.extend-4.new.self;
      payload = record { items = refill (length b.payload.items) b.payload.items c.extend_columns.new.columns; capacity = b.payload.capacity };
      occupied = c.extend_bits.new.bits;
    } in
    view-first k b f c.args.to.now c.args.self.now c.to.view_is c.to.invariant c.self.view_is c.self.invariant more
    (extended_to k b.sync c.extend.new.self c.as_slice.result.now f.sync.items c.extend.ensures c.as_slice.ensures)
    (extended_to k b.other c.extend-2.new.self c.as_slice-2.result.now f.other.items c.extend-2.ensures c.as_slice-2.ensures)
    (extended_to k b.key c.extend-3.new.self c.as_slice-3.result.now f.key.items c.extend-3.ensures c.as_slice-3.ensures)
    (extended_to k b.hash c.extend-4.new.self c.as_slice-4.result.now f.hash.items c.extend-4.ensures c.as_slice-4.ensures)
    (refill-extended k b.payload.items c.extend_columns.new.columns c.as_mut_slice.result.now f.payload.items c.as_slice-5.result.now c.extend_columns.ensures c.as_mut_slice.ensures.value c.as_slice-5.ensures)
    c.extend_bits.ensures c.requires.kinds c.requires.count
