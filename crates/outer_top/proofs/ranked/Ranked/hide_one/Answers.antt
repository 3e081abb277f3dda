-- What is answered by hand of the proof of ranked::Ranked::hide_one.
use Rattle.std.specs.Prelude.{◌≡◌, ℕ, ◌+◌, ◌-◌, ◌<◌, nat_le, false, List, length}
use Rattle.tw_rows.specs.declared.edge.HeldRow.{HeldRow}
use Rattle.std.proofs.Common.{arith, sym, ◌∙◌, ap}
use Rattle.std.proofs.lemmas.Bool.Decides.{nat_tests}
use Rattle.tw_rows.specs.Bag.{total}
use Rattle.edge_history.specs.Opens.{bare}
use Rattle.outer_top.proofs.Moving.{few_from, few_none, none_if, first_within, hidden_apart, hidden_rows, hidden_ranked, hidden_count, hidden_lost}
use Rattle.outer_top.proofs.ranked.Ranked.hide_one.Goals as goal
use Rattle.outer_top.proofs.ranked.Ranked.hide_one.Goals.{in-Some, in-None}

abbrev size : List HeldRow → ℕ
size l = length l

under : (m n : ℕ) → nat_le m n ≡ false → n < m
under m n h = grind (arith, nat_tests)

pub overflow_sub-over : goal.overflow_sub-over
overflow_sub-over c =
    let e = ap size c.rows.ensures in
    let s = c.args.self.now in
    let f = first_within s.shown.entries c.in-Some.field-0-0.now c.in-Some.group.now s.count c.in-Some.ensures.first s.counted in
    omega (arith, e, f)

pub returns-then-not-over-clause-few : goal.returns-then-not-over-clause-few
returns-then-not-over-clause-few c = λ _.
    let s = c.args.self.now in
    elim c.match-first_key_value.branch [
      | in-Some w ↦ few_from s.shown.entries w.in-Some.field-0-0.now w.in-Some.group.now s.count c.args.most w.in-Some.ensures.first w.in-Some.ensures.all_from s.counted (let e = ap size w.rows.ensures in let o = sym w.over-is ∙ c.if-not-over.true in let z = under c.args.most (s.count - length w.rows.result.now) o in omega (arith, e, z))
      | in-None w ↦ few_none s.shown.entries c.args.most c.requires (none_if s.shown.entries w.in-None.ensures.variant.1)
    ]

pub invariant_of-self-2 : goal.invariant_of-self-2
invariant_of-self-2 c =
    let s = c.args.self.now in
    let p = c.in-Some-pop_first in
    let e = ap size c.rows-2.ensures in
    let n = hidden_count s.shown.entries c.pop_first.new.self.entries s.hidden.entries c.insert.new.self.entries p.rank p.group p.ensures.removal p.ensures.all_above s.apart s.count s.counted in
    record {
      apart = hidden_apart s.shown.entries c.pop_first.new.self.entries s.hidden.entries c.insert.new.self.entries p.rank p.group p.ensures.removal p.ensures.all_above s.apart c.insert.result c.insert.ensures.entries c.insert.ensures.err;
      counted = omega (arith, e, n);
    }

pub returns-clause-rows : goal.returns-clause-rows
returns-clause-rows c = λ w.
    let s = c.args.self.now in
    let p = c.in-Some-pop_first in
    hidden_rows s.shown.entries c.pop_first.new.self.entries s.hidden.entries c.insert.new.self.entries p.rank p.group p.ensures.removal p.ensures.all_above s.apart c.in_ok-insert.ensures.entries w

pub returns-clause-lost : goal.returns-clause-lost
returns-clause-lost c = λ w.
    let s = c.args.self.now in
    let p = c.in-Some-pop_first in
    hidden_lost s.shown.entries c.pop_first.new.self.entries s.hidden.entries c.insert.new.self.entries p.rank p.group p.ensures.removal p.ensures.all_above s.apart w c.args.lost.now.items c.push_cells.new.list.items
    (c.in_ok-push_cells.ensures w ∙ ap (λ l. total w c.args.lost.now.items + total w (bare l)) c.rows-3.ensures)

pub returns-clause-ranked : goal.returns-clause-ranked
returns-clause-ranked c = λ rank a b.
    let s = c.args.self.now in
    let p = c.in-Some-pop_first in
    hidden_ranked s.shown.entries c.pop_first.new.self.entries s.hidden.entries c.insert.new.self.entries p.rank p.group p.ensures.removal p.ensures.all_above s.apart c.in_ok-insert.ensures.entries rank a b
