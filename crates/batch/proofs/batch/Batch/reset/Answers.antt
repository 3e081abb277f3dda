use Rattle.std.proofs.Common.{length}
use Rattle.std.specs.List.{refill}
use Rattle.batch.specs.declared.batch.Batch.TheInside.{Inside}
use Rattle.batch.proofs.Pushing.{refill-cleared}
use Rattle.batch.proofs.Views.{Holds-clear, view-clear}
use Rattle.batch.proofs.batch.Batch.reset.Goals as goal

pub invariant_of-self : goal.invariant_of-self
invariant_of-self c =
    let cleared : Inside = record {
      sync = c.clear.new.self;
      other = c.clear-2.new.self;
      key = c.clear-3.new.self;
      hash = c.clear-4.new.self;
      payload = record { items = refill (length c.self.inside.payload.items) c.self.inside.payload.items c.clear_columns.new.columns; capacity = c.self.inside.payload.capacity };
      occupied = c.reset.new.self;
    } in
    Holds-clear c.self.inside c.args.self.now c.self.view_is c.self.invariant cleared c.clear.ensures c.clear-2.ensures c.clear-3.ensures c.clear-4.ensures
    (refill-cleared c.self.inside.payload.items c.clear_columns.new.columns c.as_mut_slice.result.now c.clear_columns.ensures c.as_mut_slice.ensures.value) c.reset.ensures

pub returns : goal.returns
returns c =
    let cleared : Inside = record {
      sync = c.clear.new.self;
      other = c.clear-2.new.self;
      key = c.clear-3.new.self;
      hash = c.clear-4.new.self;
      payload = record { items = refill (length c.self.inside.payload.items) c.self.inside.payload.items c.clear_columns.new.columns; capacity = c.self.inside.payload.capacity };
      occupied = c.reset.new.self;
    } in
    view-clear c.self.inside c.args.self.now c.self.view_is c.self.invariant cleared c.clear.ensures c.clear-2.ensures c.clear-3.ensures c.clear-4.ensures
    (refill-cleared c.self.inside.payload.items c.clear_columns.new.columns c.as_mut_slice.result.now c.clear_columns.ensures c.as_mut_slice.ensures.value) c.reset.ensures
