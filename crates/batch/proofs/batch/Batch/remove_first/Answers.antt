use Rattle.std.proofs.Common.{◌-◌, ap, sym, subst, length, arith}
use Rattle.std.specs.Prelude.{All}
use Rattle.std.specs.List.{refill}
use Rattle.batch.specs.declared.batch.Batch.TheInside.{Inside}
use Rattle.batch.specs.Payloads.{Holds}
use Rattle.batch.proofs.Views.{length_is}
use Rattle.batch.proofs.FirstViews.{All-Holds, bits_cut, refill-cut, Holds-cut, view-cut}
use Rattle.batch.proofs.batch.Batch.remove_first.Goals as goal

pub remove_first-requires : goal.remove_first-requires
remove_first-requires c =
    let n = length_is c.self.inside c.args.self.now c.self.view_is c.self.invariant in
    omega (arith, n, c.requires.count)

pub remove_first-requires-2 : goal.remove_first-requires-2
remove_first-requires-2 c =
    let n = length_is c.self.inside c.args.self.now c.self.view_is c.self.invariant in
    let e = c.self.invariant.columns.other in
    omega (arith, n, e, c.requires.count)

pub remove_first-requires-3 : goal.remove_first-requires-3
remove_first-requires-3 c =
    let n = length_is c.self.inside c.args.self.now c.self.view_is c.self.invariant in
    let e = c.self.invariant.columns.key in
    omega (arith, n, e, c.requires.count)

pub remove_first-requires-4 : goal.remove_first-requires-4
remove_first-requires-4 c =
    let n = length_is c.self.inside c.args.self.now c.self.view_is c.self.invariant in
    let e = c.self.invariant.columns.hash in
    omega (arith, n, e, c.requires.count)

pub overflow_sub-left : goal.overflow_sub-left
overflow_sub-left c =
    let n = length_is c.self.inside c.args.self.now c.self.view_is c.self.invariant in
    let e = c.self.invariant.columns.occupied in
    let l = c.len.ensures.len in
    omega (arith, n, e, l, c.requires.count)

pub cut_columns-requires : goal.cut_columns-requires
cut_columns-requires c =
    let n = length_is c.self.inside c.args.self.now c.self.view_is c.self.invariant in
    subst (All (Holds c.args.count)) (sym c.as_mut_slice.ensures.value)
    (All-Holds c.args.count (length c.self.inside.sync.items) c.self.inside.sync.capacity c.self.inside.payload.items c.self.invariant.columns.payload (omega (arith, n, c.requires.count)))

pub invariant_of-self : goal.invariant_of-self
invariant_of-self c =
    let b = c.self.inside in
    let less : Inside = record {
      sync = c.remove_first.new.self;
      other = c.remove_first-2.new.self;
      key = c.remove_first-3.new.self;
      hash = c.remove_first-4.new.self;
      payload = record { items = refill (length b.payload.items) b.payload.items c.cut_columns.new.columns; capacity = b.payload.capacity };
      occupied = c.push_set.new.self;
    } in
    let e = c.len.ensures.len in
    Holds-cut c.args.count b c.args.self.now c.self.view_is c.self.invariant less c.remove_first.ensures c.remove_first-2.ensures c.remove_first-3.ensures c.remove_first-4.ensures
    (refill-cut c.args.count b.payload.items c.cut_columns.new.columns c.as_mut_slice.result.now c.cut_columns.ensures c.as_mut_slice.ensures.value)
    (bits_cut b c.args.self.now c.self.view_is c.self.invariant c.requires.occupied c.args.count _ (ap (λ n. n - c.args.count) e) c.reset.new.self c.push_set.new.self c.reset.ensures c.push_set.ensures)

pub returns : goal.returns
returns c =
    let b = c.self.inside in
    let less : Inside = record {
      sync = c.remove_first.new.self;
      other = c.remove_first-2.new.self;
      key = c.remove_first-3.new.self;
      hash = c.remove_first-4.new.self;
      payload = record { items = refill (length b.payload.items) b.payload.items c.cut_columns.new.columns; capacity = b.payload.capacity };
      occupied = c.push_set.new.self;
    } in
    let e = c.len.ensures.len in
    view-cut c.args.count b c.args.self.now c.self.view_is c.self.invariant less c.remove_first.ensures c.remove_first-2.ensures c.remove_first-3.ensures c.remove_first-4.ensures
    (refill-cut c.args.count b.payload.items c.cut_columns.new.columns c.as_mut_slice.result.now c.cut_columns.ensures c.as_mut_slice.ensures.value)
    (bits_cut b c.args.self.now c.self.view_is c.self.invariant c.requires.occupied c.args.count _ (ap (λ n. n - c.args.count) e) c.reset.new.self c.push_set.new.self c.reset.ensures c.push_set.ensures)
