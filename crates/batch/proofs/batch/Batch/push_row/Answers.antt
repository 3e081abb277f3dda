use Rattle.std.proofs.Common.{◌≡◌, ◌≤◌, ◌∙◌, ◌++◌, [], ◌∷◌, true, length, ap, sym, refl, subst, arith}
use Rattle.std.specs.List.{refill}
use Rattle.tw_rows.specs.Instant.{inf}
use Rattle.batch.specs.declared.batch.Batch.TheInside.{Inside}
use Rattle.batch.specs.Rows.{Row, Table}
use Rattle.batch.proofs.Pushing.{refill-pushed}
use Rattle.batch.proofs.Views.{Holds-push, view-push, length_is, capacity_is, kinds_are}
use Rattle.batch.proofs.batch.Batch.push_row.Goals as goal

pub returns-then-len-capacity-clause-full : goal.returns-then-len-capacity-clause-full
returns-then-len-capacity-clause-full c =
    let long = length_is c.self.inside c.args.self.now c.self.view_is c.self.invariant in
    let room = capacity_is c.self.inside c.args.self.now c.self.view_is c.self.invariant in
    (λ _. omega (arith, long, room, c.len.ensures.len, c.capacity.ensures.capacity, c.if-len-capacity.true), λ _. refl)

pub returns-clause-full : goal.returns-clause-full
returns-clause-full c =
    let long = length_is c.self.inside c.args.self.now c.self.view_is c.self.invariant in
    let room = capacity_is c.self.inside c.args.self.now c.self.view_is c.self.invariant in
    (λ e. absurd (cc), λ e. absurd (omega (arith, e, long, room, c.len.ensures.len, c.capacity.ensures.capacity, c.if-len-capacity.false)))

pub invariant_of-self : goal.invariant_of-self
invariant_of-self c =
    let row : Row = record { sync = c.word.result; other = c.word-2.result; key = 0; hash = 0; cells = c.args.cells.now; occupied = true } in
    let more : Inside = record {
      sync = c.push.new.self;
      other = c.push-2.new.self;
      key = c.push-3.new.self;
      hash = c.push-4.new.self;
      payload = record { items = refill (length c.self.inside.payload.items) c.self.inside.payload.items c.push_cells.new.columns; capacity = c.self.inside.payload.capacity };
      occupied = c.push-5.new.self;
    } in
    Holds-push c.self.inside c.args.self.now c.self.view_is c.self.invariant row more c.push.ensures c.push-2.ensures c.push-3.ensures c.push-4.ensures
    (refill-pushed c.self.inside.payload.items c.push_cells.new.columns c.as_mut_slice.result.now c.args.cells.now c.args.cells.now c.push_cells.ensures c.as_mut_slice.ensures.value refl) c.push-5.ensures
    (c.requires ∙ sym (kinds_are c.self.inside c.args.self.now c.self.view_is c.self.invariant))
    (subst (λ n. n ≤ inf) (sym c.word.ensures.word) c.word.ensures.within)
    (subst (λ n. n ≤ inf) (sym c.word-2.ensures.word) c.word-2.ensures.within)

pub returns-clause-ok : goal.returns-clause-ok
returns-clause-ok c =
    let row : Row = record { sync = c.word.result; other = c.word-2.result; key = 0; hash = 0; cells = c.args.cells.now; occupied = true } in
    let more : Inside = record {
      sync = c.push.new.self;
      other = c.push-2.new.self;
      key = c.push-3.new.self;
      hash = c.push-4.new.self;
      payload = record { items = refill (length c.self.inside.payload.items) c.self.inside.payload.items c.push_cells.new.columns; capacity = c.self.inside.payload.capacity };
      occupied = c.push-5.new.self;
    } in
    let with_last : Row → Table = (λ r. record c.args.self.now { rows = c.args.self.now.rows ++ r ∷ [] }) in
    let same_row : row ≡ record { sync = c.args.sync; other = c.args.other; key = 0; hash = 0; cells = c.args.cells.now; occupied = true } =
    (λ i. record { sync = c.word.ensures.word i; other = c.word-2.ensures.word i; key = 0; hash = 0; cells = c.args.cells.now; occupied = true }) in
    view-push c.self.inside c.args.self.now c.self.view_is c.self.invariant row more c.push.ensures c.push-2.ensures c.push-3.ensures c.push-4.ensures
    (refill-pushed c.self.inside.payload.items c.push_cells.new.columns c.as_mut_slice.result.now c.args.cells.now c.args.cells.now c.push_cells.ensures c.as_mut_slice.ensures.value refl) c.push-5.ensures
    (c.requires ∙ sym (kinds_are c.self.inside c.args.self.now c.self.view_is c.self.invariant))
    ∙ ap with_last same_row
