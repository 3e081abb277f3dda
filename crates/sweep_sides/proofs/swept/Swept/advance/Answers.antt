use Rattle.std.proofs.Common.{◌≡◌, ◌++◌, ◌∙◌, map, sym, ap, subst, arith}
use Rattle.std.specs.Prelude.{All}
use Rattle.std.proofs.Math.Logic.{∥∥₁_map}
use Rattle.tw_rows.specs.Cells.{datum_kind}
use Rattle.tw_rows.specs.Kinds.{cell_kind_of}
use Rattle.edge_history.specs.Balance.{Told}
use Rattle.edge_history.specs.History.{of}
use Rattle.edge_history.specs.Order.{failing, is_from, is_below}
use Rattle.edge_stream.specs.Listing.{cells_of}
use Rattle.edge_stream.specs.Taking.{batches_given, batches_taken}
use Rattle.edge_stream.proofs.Filling.{batches_given-capacity}
use Rattle.sweep_sides.proofs.GivenBack.{both_given-capacity, both_given-limit}
use Rattle.plan_model.specs.Meaning.{node_closes}
use Rattle.plan_laws.proofs.Steps.{node_rises}
use Rattle.sweep_sides.specs.Answers.{FitsList}
use Rattle.sweep_sides.proofs.Telling.{list_is, between_parts}
use Rattle.sweep_sides.specs.Sweeping.{AreStored, HasSwept, told_events}
use Rattle.sweep_sides.specs.Sweepers.{HasColumns, SweptKeeps}
use Rattle.sweep_sides.proofs.Stepped.{come_more, come_on, swept_more}
use Rattle.sweep_sides.proofs.StoredRows.{events_stored}
use Rattle.sweep_sides.proofs.swept.Swept.advance.Goals as goal

pub advance-requires-clause-rises : goal.advance-requires-clause-rises
advance-requires-clause-rises g c =
    let s = c.args.self.now in
    let e = c.closes-from.ensures in
    let f = c.closes-to.ensures in
    let low = node_rises (g.S.Sweep.node s.sweep) s.left_to s.right_to c.args.left_to c.args.right_to c.requires.left_rises c.requires.right_rises c.word.ensures.within in
    omega (arith, e, f, low)

pub returns-clause-kept : goal.returns-clause-kept
returns-clause-kept g c = λ texts hl hr out k ml mr.
    let s = c.args.self.now in
    let new = c.advance.new.self in
    let n = g.S.Sweep.node s.sweep in
    let keeps2 = g.S.Sweep.keeps new in
    let same : g.S.Sweep.node new ≡ n = c.advance.ensures.node in
    let lc = map cell_kind_of s.left_kinds.items in
    let rc = map cell_kind_of s.right_kinds.items in
    let own = map cell_kind_of s.own_kinds.items in
    let l = c.args.left.edges in
    let r = c.args.right.edges in
    let from = node_closes n s.left_to s.right_to in
    let to = node_closes n c.args.left_to c.args.right_to in
    let f : c.closes-from.result ≡ from = c.closes-from.ensures in
    let e : c.closes-to.result ≡ to = c.closes-to.ensures in
    let told = c.in_ok-told.told.items in
    let came = come_more n lc rc s.left_to s.right_to c.args.left_to c.args.right_to texts hl hr l r c.word.ensures.within c.word-2.ensures.within k.came ml mr
    (subst (λ ks. All (λ x. map datum_kind x.cells ≡ ks) l) c.requires.left_kinds c.cells_are_of_kinds.ensures)
    (subst (λ ks. All (λ x. map datum_kind x.cells ≡ ks) r) c.requires.right_kinds c.cells_are_of_kinds-2.ensures) in
    let swept = c.in_ok-told.ensures.kept s.left_to s.right_to hl hr out f (subst (λ t. g.S.Sweep.keeps s.sweep t hl hr out) (sym f) k.kept) (come_on s.left_to s.right_to texts hl hr l r ml mr) in
    let swept_to = subst (λ t. HasSwept n keeps2 t to (hl ++ l) (hr ++ r) out told) f (subst (λ t. HasSwept n keeps2 c.closes-from.result t (hl ++ l) (hr ++ r) out told) e swept) in
    let stored = subst (λ ks. AreStored ks (told_events n (hl ++ l) (hr ++ r))) (sym s.columns.kinds)
    (c.laws.ensures.cells s.sweep lc rc (of (hl ++ l)) (of (hr ++ r)) (events_stored lc (hl ++ l) came.left_cells) (events_stored rc (hr ++ r) came.right_cells)) in
    let fits = subst (λ t. FitsList (map cell_kind_of c.as_slice.result.now) from t c.as_slice-2.result.now → c.in_ok-answer.answer.edges ≡ c.as_slice-2.result.now) e
    (subst (λ t. FitsList (map cell_kind_of c.as_slice.result.now) t c.closes-to.result c.as_slice-2.result.now → c.in_ok-answer.answer.edges ≡ c.as_slice-2.result.now) f c.in_ok-answer.ensures.edges) in
    let kept = swept_more n lc rc own keeps2 s.left_to s.right_to c.args.left_to c.args.right_to texts (hl ++ l) (hr ++ r) out told c.in_ok-answer.answer.edges came swept_to
    (λ h. subst (λ p. Told to (out ++ told) (told_events p (hl ++ l) (hr ++ r))) same (c.laws.ensures.tells new to (hl ++ l) (hr ++ r) (out ++ told) h))
    stored
    (list_is s.own_kinds.items c.as_slice.result.now from to told c.as_slice-2.result.now c.in_ok-answer.answer.edges c.as_slice.ensures.value c.as_slice-2.ensures.value fits) in
    subst (λ p. SweptKeeps p keeps2 lc rc c.args.left_to c.args.right_to texts (hl ++ l) (hr ++ r) (out ++ c.in_ok-answer.answer.edges)) (sym same) kept

pub invariant_of-self-2-clause-columns : goal.invariant_of-self-2-clause-columns
invariant_of-self-2-clause-columns g c =
    let s = c.args.self.now in
    subst (λ n. HasColumns n s.left_kinds.items s.right_kinds.items s.own_kinds.items s.capacity) (sym c.advance.ensures.node) s.columns

pub invariant_of-self-2-clause-fits : goal.invariant_of-self-2-clause-fits
invariant_of-self-2-clause-fits g c = λ _.
    let s = c.args.self.now in
    let new = c.advance.new.self in
    let n = g.S.Sweep.node s.sweep in
    let lc = map cell_kind_of s.left_kinds.items in
    let rc = map cell_kind_of s.right_kinds.items in
    let fits = g.S.Sweep.fits in
    let to = node_closes n c.args.left_to c.args.right_to in
    ∥∥₁_map (s.fits c.requires.works) (λ h.
    let old = subst (λ t. fits (cells_of c.args.left) (cells_of c.args.right) t s.sweep) (sym c.closes-from.ensures)
    (subst (λ ks. fits ks (cells_of c.args.right) (node_closes n s.left_to s.right_to) s.sweep) (sym c.requires.left_kinds)
    (subst (λ ks. fits lc ks (node_closes n s.left_to s.right_to) s.sweep) (sym c.requires.right_kinds) h)) in
    subst (λ p. fits lc rc (node_closes p c.args.left_to c.args.right_to) new) (sym c.advance.ensures.node)
    (subst (λ t. fits lc rc t new) c.closes-to.ensures
    (subst (λ ks. fits ks rc c.closes-to.result new) c.requires.left_kinds
    (subst (λ ks. fits (cells_of c.args.left) ks c.closes-to.result new) c.requires.right_kinds (c.in_ok-told.ensures.fits old)))))

pub returns-clause-between : goal.returns-clause-between
returns-clause-between g c = λ fl fr.
    let p = between_parts c.closes-from.result c.closes-to.result c.in_ok-answer.answer.edges c.in_ok-answer.ensures.between in
    record {
      from = subst (λ n. failing (is_from n) c.in_ok-answer.answer.edges ≡ 0) c.closes-from.ensures p.0;
      below = subst (λ n. failing (is_below n) c.in_ok-answer.answer.edges ≡ 0) c.closes-to.ensures p.1;
    }

pub give_back-requires-2 : goal.give_back-requires-2
give_back-requires-2 g c =
    ap (λ s. s.capacity) c.give_back.ensures ∙ batches_given-capacity c.args.left.batches c.args.pools.now (cells_of c.args.left)
    ∙ c.requires.capacity ∙ sym c.requires.right_capacity

pub list_of-requires-clause-pools : goal.list_of-requires-clause-pools
list_of-requires-clause-pools g c =
    both_given-capacity c.args.left c.args.right c.args.pools.now c.give_back.new.pools c.give_back-2.new.pools c.give_back.ensures c.give_back-2.ensures ∙ c.requires.capacity

pub returns-in_err-answer-clause-pools : goal.returns-in_err-answer-clause-pools
returns-in_err-answer-clause-pools g c =
    c.list_of.ensures.pools ∙ both_given-capacity c.args.left c.args.right c.args.pools.now c.give_back.new.pools c.give_back-2.new.pools c.give_back.ensures c.give_back-2.ensures

pub returns-clause-pools : goal.returns-clause-pools
returns-clause-pools g c =
    c.list_of.ensures.pools ∙ both_given-capacity c.args.left c.args.right c.args.pools.now c.give_back.new.pools c.give_back-2.new.pools c.give_back.ensures c.give_back-2.ensures

pub returns-in_err-answer-clause-limit : goal.returns-in_err-answer-clause-limit
returns-in_err-answer-clause-limit g c =
    c.list_of.ensures.limit ∙ both_given-limit c.args.left c.args.right c.args.pools.now c.give_back.new.pools c.give_back-2.new.pools c.give_back.ensures c.give_back-2.ensures

pub returns-clause-limit : goal.returns-clause-limit
returns-clause-limit g c =
    c.list_of.ensures.limit ∙ both_given-limit c.args.left c.args.right c.args.pools.now c.give_back.new.pools c.give_back-2.new.pools c.give_back.ensures c.give_back-2.ensures

pub returns-clause-given : goal.returns-clause-given
returns-clause-given g c =
    let given = c.give_back-2.ensures ∙ ap (λ p. batches_given c.args.right.batches p (cells_of c.args.right)) c.give_back.ensures in
    c.in_ok-answer.ensures.taken ∙ (λ i. batches_taken c.in_ok-answer.answer.batches (given i) (map cell_kind_of (c.as_slice.ensures.value i)))
