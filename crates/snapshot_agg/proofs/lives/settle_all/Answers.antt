use Rattle.std.specs.Prelude.{◌≡◌, ◌∷◌, List, map}
use Rattle.std.proofs.Common.{ap, arith, rules}
use Rattle.tw_rows.specs.Bag.{total}
use Rattle.tw_rows.specs.declared.cells.Datum.{Datum}
use Rattle.tw_rows.specs.declared.edge.Edge.{Edge}
use Rattle.snapshot_agg.specs.KeptRows.{row_ended}
use Rattle.snapshot_agg.proofs.Living.{rises_less, ends_less}
use Rattle.snapshot_agg.proofs.lives.settle_all.Goals as goal

pub returns-in_err-clone-clause-fine : goal.returns-in_err-clone-clause-fine
returns-in_err-clone-clause-fine c = λ h.
    let ends = c.loop-end.ends.items in
    let rest = c.pop_front.new.self.items in
    let first : c.loop-end.ends.items ≡ c.in-Some.end ∷ c.pop_front.new.self.items = search rules in
    let i = c.loop-end.invariant.fine h in
    (rises_less ends rest c.in-Some.end first i.0, ends_less ends rest c.in-Some.end first i.1)

pub returns-in_err-add-clause-fine : goal.returns-in_err-add-clause-fine
returns-in_err-add-clause-fine c = λ h.
    let ends = c.loop-end.ends.items in
    let rest = c.pop_front.new.self.items in
    let first : c.loop-end.ends.items ≡ c.in-Some.end ∷ c.pop_front.new.self.items = search rules in
    let i = c.loop-end.invariant.fine h in
    (rises_less ends rest c.in-Some.end first i.0, ends_less ends rest c.in-Some.end first i.1)

pub returns-in_err-put-clause-fine : goal.returns-in_err-put-clause-fine
returns-in_err-put-clause-fine c = λ h.
    let ends = c.loop-end.ends.items in
    let rest = c.pop_front.new.self.items in
    let first : c.loop-end.ends.items ≡ c.in-Some.end ∷ c.pop_front.new.self.items = search rules in
    let i = c.loop-end.invariant.fine h in
    (rises_less ends rest c.in-Some.end first i.0, ends_less ends rest c.in-Some.end first i.1)

pub loop-end-preserved : goal.loop-end-preserved
loop-end-preserved c =
    let ends = c.loop-end.ends.items in
    let rest = c.pop_front.new.self.items in
    let e = c.in-Some.end in
    let first : c.loop-end.ends.items ≡ c.in-Some.end ∷ c.pop_front.new.self.items = search rules in
    let same : c.in_ok-clone.field-0 ≡ e.cells = search rules in
    record {
      fine = λ h. let i = c.loop-end.invariant.fine h in (rises_less ends rest e first i.0, ends_less ends rest e first i.1);
      rows = λ w.
          let a = c.in_ok-add.ensures w in
          let b = ap (λ (l : List Datum). w (record { cells = l; start = e.other })) same in
          let f = ap (λ (l : List Edge). total w (map row_ended l)) first in
          let i = c.loop-end.invariant.rows w in
          omega (arith, a, b, f, i);
      pending = λ w.
          let a = c.in_ok-put.ensures.edges w in
          let f = ap (total w) first in
          let i = c.loop-end.invariant.pending w in
          omega (arith, a, f, i);
      own = λ h. c.in_ok-put.ensures.own (c.loop-end.invariant.own h);
    }
