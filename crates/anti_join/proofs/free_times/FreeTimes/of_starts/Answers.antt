use Rattle.std.proofs.Common.{◌∙◌, refl, sym, ap, subst, take, List, nat_eq}
use Rattle.std.proofs.lemmas.List.{take_all}
use Rattle.tw_rows.specs.Bag.{SameBag}
use Rattle.tw_rows.specs.declared.cells.Datum.{Datum}
use Rattle.tw_rows.specs.declared.edge.Edge.{Edge}
use Rattle.edge_history.specs.Order.{many}
use Rattle.synopsis.specs.Held.{key_of, is_of_key}
use Rattle.sweep_laws.specs.Saving.{rows_of}
use Rattle.anti_join.specs.Free.{KeyTimes}
use Rattle.anti_join.proofs.Changes.{is_zero}
use Rattle.anti_join.proofs.Starting.{start_more, start_twice, one_time}
use Rattle.anti_join.proofs.free_times.FreeTimes.of_starts.Goals as goal

pub returns-then-not-has_none-clause-refused : goal.returns-then-not-has_none-clause-refused
returns-then-not-has_none-clause-refused c = λ _ one.
    let k = c.loop-edge.invariant in
    let old = c.loop-edge.times in
    let some = ap (λ (l : List Datum). nat_eq (many (is_of_key old.key (key_of old.key l)) old.rows) 0) (sym c.items.ensures) ∙ (sym c.has_none.ensures.none ∙ c.if-not-has_none.true) in
    start_twice c.args.key.now old.key c.args.edges.now c.loop-edge.edge-index c.edge-item.result old.rows c.loop-edge-test.true c.edge-item.is k.key some k.rows one

pub loop-edge-preserved : goal.loop-edge-preserved
loop-edge-preserved c =
    let k = c.loop-edge.invariant in
    let x = c.edge-item.result in
    let old = c.loop-edge.times in
    let now = c.has_none.new.self in
    let same = c.has_none.ensures.same in
    let own = ap (λ (f : KeyTimes). f.key) same ∙ k.key in
    let before = subst (λ (f : KeyTimes). SameBag f.rows (rows_of (take c.loop-edge.edge-index c.args.edges.now))) (sym same) k.rows in
    let free = is_zero (many (is_of_key now.key (key_of now.key x.cells)) now.rows)
    (ap (λ (f : KeyTimes). nat_eq (many (is_of_key f.key (key_of f.key x.cells)) f.rows) 0) same
    ∙ (ap (λ (l : List Datum). nat_eq (many (is_of_key old.key (key_of old.key l)) old.rows) 0) (sym c.items.ensures) ∙ (sym c.has_none.ensures.none ∙ c.if-not-has_none.false))) in
    record {
      key = c.in_ok-set_start.ensures.key ∙ own;
      rows = start_more c.args.key.now now.key c.args.edges.now c.loop-edge.edge-index x x.cells now.rows c.set_start.new.self.rows c.loop-edge-test.true c.edge-item.is
          refl own free before c.in_ok-set_start.ensures.ok;
    }

pub returns-clause-rows : goal.returns-clause-rows
returns-clause-rows c =
    subst (λ (l : List Edge). SameBag c.loop-edge.times.rows (rows_of l)) (take_all c.loop-edge.edge-index c.args.edges.now c.loop-edge-test.false) c.loop-edge.invariant.rows

pub returns-clause-single : goal.returns-clause-single
returns-clause-single c = one_time c.args.key.now c.loop-edge.times.key c.args.edges.now c.loop-edge.times.rows c.loop-edge.invariant.key (returns-clause-rows c) c.len.ensures.single
