use Rattle.std.proofs.Common.{◌≡◌, ◌<◌, length, get_or, map, true, sym, ap, subst, ◌∙◌, arith, refl}
use Rattle.std.proofs.lemmas.List.Sorted.{IsPermutation-refl}
use Rattle.tw_rows.specs.Bag.{total}
use Rattle.edge_history.specs.Opens.{is_held}
use Rattle.synopsis.specs.Few.{FewRows, key_word, AreTogether, MayFill}
use Rattle.synopsis.proofs.Bags.{is_that_row, taken_out}
use Rattle.synopsis.proofs.Filling.{together_filled, marked_filled}
use Rattle.synopsis.proofs.Together.{together_taken, marked_taken, taken_weighs}
use Rattle.synopsis.proofs.few.Few.take.Goals as goal

pub invariant_of-self : goal.invariant_of-self
invariant_of-self c =
    let columns = c.self.inside.columns.items in
    let rows = c.self.inside.rows.items in
    let words = c.self.inside.words.items in
    let place = c.in-Some.place in
    let d = c.swap_remove-then-may_fill.result in
    let low : place < length rows = subst (λ l. place < length l) c.as_slice.ensures.value c.in-Some.ensures.found.within in
    let may : MayFill words place = subst (λ l. MayFill l place) c.as_slice-2.ensures.value (c.if-may_fill.ensures refl) in
    let marked = c.self.invariant.marked in
    record {
      together = subst (AreTogether columns) (sym c.swap_remove-then-may_fill.ensures.items) (together_filled columns rows words place d marked may c.self.invariant.together);
      marked = c.swap_remove.ensures.items ∙ marked_filled columns rows words place c.swap_remove.result d low marked ∙ ap (map (key_word columns)) (sym c.swap_remove-then-may_fill.ensures.items);
    }

pub returns-then-may_fill-clause-taken : goal.returns-then-may_fill-clause-taken
returns-then-may_fill-clause-taken c = λ _ w.
    let rows = c.self.inside.rows.items in
    let place = c.in-Some.place in
    let d = c.swap_remove-then-may_fill.result in
    let low : place < length rows = subst (λ l. place < length l) c.as_slice.ensures.value c.in-Some.ensures.found.within in
    let held : is_held c.args.cells.now c.args.start (get_or rows place d) ≡ true =
    subst (λ l. is_held c.args.cells.now c.args.start (get_or l place d) ≡ true) c.as_slice.ensures.value (c.in-Some.ensures.found.held d) in
    let a = taken_out w rows rows place d c.args.cells.now c.args.start (IsPermutation-refl rows) low held in
    let e = ap (total w) c.swap_remove-then-may_fill.ensures.items in
    let v = ap (λ (v : FewRows). total w v.rows) c.self.view_is in
    omega (arith, a, e, v)

pub invariant_of-self-2 : goal.invariant_of-self-2
invariant_of-self-2 c =
    let columns = c.self.inside.columns.items in
    let rows = c.self.inside.rows.items in
    let place = c.in-Some.place in
    let low : place < length rows = subst (λ l. place < length l) c.as_slice.ensures.value c.in-Some.ensures.found.within in
    record {
      together = subst (AreTogether columns) (sym c.remove-2.ensures.items) (together_taken columns rows place c.remove-2.result low c.self.invariant.together);
      marked = c.remove.ensures.items ∙ marked_taken columns rows c.self.inside.words.items place c.self.invariant.marked ∙ ap (map (key_word columns)) (sym c.remove-2.ensures.items);
    }

pub returns-clause-taken : goal.returns-clause-taken
returns-clause-taken c = λ _ w.
    let rows = c.self.inside.rows.items in
    let place = c.in-Some.place in
    let d = c.remove-2.result in
    let low : place < length rows = subst (λ l. place < length l) c.as_slice.ensures.value c.in-Some.ensures.found.within in
    let held : is_held c.args.cells.now c.args.start (get_or rows place d) ≡ true =
    subst (λ l. is_held c.args.cells.now c.args.start (get_or l place d) ≡ true) c.as_slice.ensures.value (c.in-Some.ensures.found.held d) in
    let a = taken_weighs w rows place d low in
    let b = is_that_row w (get_or rows place d) c.args.cells.now c.args.start held in
    let e = ap (total w) c.remove-2.ensures.items in
    let v = ap (λ (v : FewRows). total w v.rows) c.self.view_is in
    omega (arith, a, b, e, v)
