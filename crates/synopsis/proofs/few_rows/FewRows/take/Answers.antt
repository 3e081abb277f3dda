use Rattle.std.specs.Prelude.{◌≡◌, [], ◌∷◌, cond, drop, length}
use Rattle.std.proofs.Common.{sym, ◌∙◌, ap, subst, arith}
use Rattle.tw_rows.specs.SameCells.{same_cells}
use Rattle.synopsis.specs.declared.few_rows.MarkedRow.{MarkedRow}
use Rattle.synopsis.specs.Marked.{AreMarked, HasNone, IsFirst, held_rows}
use Rattle.synopsis.specs.Queued.{queue_of}
use Rattle.synopsis.proofs.MarkedRows.{no_queue, first_start, first_gone}
use Rattle.synopsis.proofs.few_rows.FewRows.take.Goals as goal

pub returns-in_default-clause-none : goal.returns-in_default-clause-none
returns-in_default-clause-none c =
    let k = c.args.cells.now in
    let same = c.as_slice.ensures.value in
    let none = subst (HasNone k) same (c.in_default.ensures.none (subst AreMarked (sym same) c.self.invariant)) in
    subst (λ l. queue_of l k ≡ []) c.self.view_is (no_queue k c.self.inside.rows.items none)

pub returns-clause-first : goal.returns-clause-first
returns-clause-first c =
    let k = c.args.cells.now in
    let items = c.self.inside.rows.items in
    let same = c.as_slice.ensures.value in
    let x = c.remove-row.result in
    let first = subst (λ l. IsFirst k l c.in-Some.place) same (c.in-Some.ensures.first (subst AreMarked (sym same) c.self.invariant)) in
    let low = ap (λ l. length l) same in
    subst (λ l. queue_of l k ≡ x.start ∷ drop 1 (queue_of l k)) c.self.view_is
    (first_start k x items c.in-Some.place (let w = c.in-Some.ensures.within in omega (arith, w, low)) first.0 (first.1 x)
    ∙ ap (λ (y : MarkedRow). y.start ∷ drop 1 (queue_of (held_rows items) k)) (sym c.remove-row.ensures.value))

pub returns-clause-rest : goal.returns-clause-rest
returns-clause-rest c = λ q.
    let k = c.args.cells.now in
    let items = c.self.inside.rows.items in
    let same = c.as_slice.ensures.value in
    let x = c.remove-row.result in
    let first = subst (λ l. IsFirst k l c.in-Some.place) same (c.in-Some.ensures.first (subst AreMarked (sym same) c.self.invariant)) in
    let low = ap (λ l. length l) same in
    ap (λ l. queue_of (held_rows l) q) c.remove-row.ensures.items
    ∙ (first_gone k x items c.in-Some.place (let w = c.in-Some.ensures.within in omega (arith, w, low)) first.0 (first.1 x) q
    ∙ ap (λ l. cond (same_cells k q) (drop 1 (queue_of l q)) (queue_of l q)) c.self.view_is)
