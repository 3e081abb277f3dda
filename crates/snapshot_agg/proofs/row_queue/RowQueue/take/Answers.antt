use Rattle.std.specs.Prelude.{◌++◌, ℕ, cond}
use Rattle.std.proofs.Common.{sym, ◌∙◌, ap, subst, arith}
use Rattle.tw_rows.specs.Bag.{SameBag, total}
use Rattle.tw_rows.specs.declared.edge.HeldRow.{HeldRow}
use Rattle.edge_history.specs.Opens.{is_held}
use Rattle.snapshot_agg.proofs.Lined.{first_taken, first_shortens, found_taken, still_same, shorter_by, some_there, both_same, as_long, none_here}
use Rattle.snapshot_agg.proofs.row_queue.RowQueue.take.Goals as goal

pub overflow_sub-self : goal.overflow_sub-self
overflow_sub-self c =
    let q = c.self.inside in
    let f = c.is_first.ensures c.if-is_first.true in
    let a = first_shortens q.found.rows q.line.items c.pop_front.new.self.items f.0 (record { cells = c.args.cells.now; start = c.args.start }) f.1 c.pop_front.ensures.rest in
    let n = c.self.invariant in
    omega (arith, a, n)

pub returns-then-is_first-clause-taken : goal.returns-then-is_first-clause-taken
returns-then-is_first-clause-taken c = λ t w.
    let q = c.self.inside in
    let x : HeldRow = record { cells = c.args.cells.now; start = c.args.start } in
    let f = c.is_first.ensures c.if-is_first.true in
    sym (ap (λ v. total w v.rows) c.self.view_is) ∙ first_taken q.found.rows q.line.items c.pop_front.new.self.items f.0 x f.1 c.pop_front.ensures.rest w

pub without-self-inside-requires : goal.without-self-inside-requires
without-self-inside-requires c = λ t.
    let q = c.self.inside in
    let x : HeldRow = record { cells = c.args.cells.now; start = c.args.start } in
    some_there q.found.rows q.line.items c.find_all.new.found.rows c.find_all.new.line.items c.take-taken.new.self.rows x c.in_ok-find_all.ensures.same q.count c.take-taken.result c.self.invariant
    c.take-taken.ensures.taken t

pub returns-clause-taken : goal.returns-clause-taken
returns-clause-taken c = λ t w.
    let q = c.self.inside in
    let x : HeldRow = record { cells = c.args.cells.now; start = c.args.start } in
    sym (ap (λ v. total w v.rows) c.self.view_is)
    ∙ found_taken q.found.rows q.line.items c.find_all.new.found.rows c.find_all.new.line.items c.take-taken.new.self.rows x c.in_ok-find_all.ensures.same (c.take-taken.ensures.taken t) w

pub returns-clause-none : goal.returns-clause-none
returns-clause-none c = λ t.
    let q = c.self.inside in
    let p : HeldRow → ℕ = λ r. cond (is_held c.args.cells.now c.args.start r) 1 0 in
    sym (ap (λ v. total p v.rows) c.self.view_is)
    ∙ (both_same q.found.rows q.line.items c.find_all.new.found.rows c.find_all.new.line.items c.in_ok-find_all.ensures.same).weigh p
    ∙ none_here (is_held c.args.cells.now c.args.start) c.find_all.new.found.rows c.find_all.new.line.items c.in_ok-find_all.ensures.all (c.take-taken.ensures.none t)

pub returns-clause-same : goal.returns-clause-same
returns-clause-same c = λ t.
    let q = c.self.inside in
    let x : HeldRow = record { cells = c.args.cells.now; start = c.args.start } in
    subst (λ v. SameBag v.rows (c.take-taken.new.self.rows ++ c.find_all.new.line.items)) c.self.view_is
    (still_same q.found.rows q.line.items c.find_all.new.found.rows c.find_all.new.line.items c.take-taken.new.self.rows x c.in_ok-find_all.ensures.same (c.take-taken.ensures.unchanged t))

pub invariant_of-self-in_err-find_all : goal.invariant_of-self-in_err-find_all
invariant_of-self-in_err-find_all c =
    let q = c.self.inside in
    let a = as_long q.found.rows q.line.items c.find_all.new.found.rows c.find_all.new.line.items c.in_err-find_all.ensures.same in
    let n = c.self.invariant in
    omega (arith, a, n)

pub invariant_of-self-2 : goal.invariant_of-self-2
invariant_of-self-2 c =
    let q = c.self.inside in
    let x : HeldRow = record { cells = c.args.cells.now; start = c.args.start } in
    shorter_by q.found.rows q.line.items c.find_all.new.found.rows c.find_all.new.line.items c.take-taken.new.self.rows x c.in_ok-find_all.ensures.same q.count c.without-self-inside.result c.take-taken.result
    c.self.invariant c.take-taken.ensures.taken c.take-taken.ensures.unchanged c.without-self-inside.ensures.less c.without-self-inside.ensures.same
