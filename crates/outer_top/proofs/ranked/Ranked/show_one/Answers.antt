-- What is answered by hand of the proof of ranked::Ranked::show_one.
use Rattle.std.specs.Prelude.{ℕ, ◌+◌, List, length}
use Rattle.tw_rows.specs.declared.edge.HeldRow.{HeldRow}
use Rattle.std.proofs.Common.{arith, sym, ◌∙◌, ap}
use Rattle.tw_rows.specs.Bag.{total}
use Rattle.edge_history.specs.Opens.{bare}
use Rattle.outer_top.specs.Ranks.{rows_in}
use Rattle.outer_top.proofs.Moving.{rest_apart, kept_apart, shown_apart, shown_rows, shown_ranked, shown_count, shown_won, shown_few}
use Rattle.outer_top.proofs.ranked.Ranked.show_one.Goals as goal

abbrev size : List HeldRow → ℕ
size l = length l

pub invariant_of-self-in-Break-1 : goal.invariant_of-self-in-Break-1
invariant_of-self-in-Break-1 c =
    let s = c.args.self.now in
    let p = c.in-Some in
    record { apart = rest_apart s.shown.entries s.shown.entries s.hidden.entries c.pop_last.new.self.entries p.rank p.group p.ensures.removal p.ensures.all_below s.apart; counted = s.counted }

pub invariant_of-self-in-Break-branch-2 : goal.invariant_of-self-in-Break-branch-2
invariant_of-self-in-Break-branch-2 c =
    let s = c.args.self.now in
    let p = c.in-Some in
    record { apart = rest_apart s.shown.entries s.shown.entries s.hidden.entries c.pop_last.new.self.entries p.rank p.group p.ensures.removal p.ensures.all_below s.apart; counted = s.counted }

pub invariant_of-self-in-Break-branch-3 : goal.invariant_of-self-in-Break-branch-3
invariant_of-self-in-Break-branch-3 c =
    let s = c.args.self.now in
    let p = c.in-Some in
    let same = c.in_err-insert.ensures.err in
    record {
      apart = kept_apart s.shown.entries c.insert.new.self.entries s.hidden.entries c.pop_last.new.self.entries p.rank p.group p.ensures.removal p.ensures.all_below s.apart same;
      counted = s.counted ∙ ap (λ l. length (rows_in l)) (sym same);
    }

pub invariant_of-self-2 : goal.invariant_of-self-2
invariant_of-self-2 c =
    let s = c.args.self.now in
    let p = c.in-Some in
    let put = c.in_ok-insert.ensures.entries in
    let n = shown_count s.shown.entries c.insert.new.self.entries s.hidden.entries c.pop_last.new.self.entries p.rank p.group p.ensures.removal p.ensures.all_below s.apart put s.count s.counted in
    record {
      apart = shown_apart s.shown.entries c.insert.new.self.entries s.hidden.entries c.pop_last.new.self.entries p.rank p.group p.ensures.removal p.ensures.all_below s.apart put;
      counted = (let e = c.in_ok-count.ensures in let l = ap size c.rows.ensures in omega (arith, e, l, n));
    }

pub returns-clause-rows : goal.returns-clause-rows
returns-clause-rows c = λ w.
    let s = c.args.self.now in
    let p = c.in-Some in
    shown_rows s.shown.entries c.insert.new.self.entries s.hidden.entries c.pop_last.new.self.entries p.rank p.group p.ensures.removal p.ensures.all_below s.apart c.in_ok-insert.ensures.entries w

pub returns-clause-won : goal.returns-clause-won
returns-clause-won c = λ w.
    let s = c.args.self.now in
    let p = c.in-Some in
    shown_won s.shown.entries c.insert.new.self.entries s.hidden.entries c.pop_last.new.self.entries p.rank p.group p.ensures.removal p.ensures.all_below s.apart c.in_ok-insert.ensures.entries w c.args.won.now.items c.push_cells.new.list.items
    (c.in_ok-push_cells.ensures w ∙ ap (λ l. total w c.args.won.now.items + total w (bare l)) c.rows-2.ensures)

pub returns-clause-ranked : goal.returns-clause-ranked
returns-clause-ranked c = λ rank a b.
    let s = c.args.self.now in
    let p = c.in-Some in
    shown_ranked s.shown.entries c.insert.new.self.entries s.hidden.entries c.pop_last.new.self.entries p.rank p.group p.ensures.removal p.ensures.all_below s.apart c.in_ok-insert.ensures.entries rank a b

pub returns-clause-few : goal.returns-clause-few
returns-clause-few c = λ most low few.
    let s = c.args.self.now in
    let p = c.in-Some in
    shown_few s.shown.entries c.insert.new.self.entries s.hidden.entries c.pop_last.new.self.entries p.rank p.group p.ensures.removal p.ensures.all_below s.apart c.in_ok-insert.ensures.entries s.count most s.counted low
