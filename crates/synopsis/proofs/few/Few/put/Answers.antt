use Rattle.std.specs.List.{insert}
use Rattle.std.proofs.Common.{◌≡◌, ◌+◌, take, drop, map, sym, ap, subst, ◌∙◌}
use Rattle.tw_rows.specs.Bag.{total}
use Rattle.tw_rows.specs.Words.{word_of_cells}
use Rattle.tw_rows.specs.declared.edge.HeldRow.{HeldRow}
use Rattle.synopsis.specs.Held.{key_of, is_of_key}
use Rattle.synopsis.specs.Few.{FewRows, key_word, NonePass, StandsHere, AreTogether}
use Rattle.synopsis.proofs.Keyed.{own_key}
use Rattle.synopsis.proofs.Together.{together_put, marked_put, put_weighs}
use Rattle.synopsis.proofs.few.Few.put.Goals as goal

pub invariant_of-self : goal.invariant_of-self
invariant_of-self c = record {
  together = subst (AreTogether c.self.inside.columns.items) (sym c.reserve.ensures.items) c.self.invariant.together;
  marked = c.self.invariant.marked ∙ ap (map (key_word c.self.inside.columns.items)) (sym c.reserve.ensures.items);
}

pub invariant_of-self-2 : goal.invariant_of-self-2
invariant_of-self-2 c =
    let columns = c.self.inside.columns.items in
    let rows = c.self.inside.rows.items in
    let key = c.args.key.now in
    let place = c.first_with-place.result in
    let row : HeldRow = record { cells = c.args.cells; start = c.args.start } in
    let is : key ≡ key_of columns c.args.cells = c.requires ∙ ap (λ (v : FewRows). key_of v.columns c.args.cells) (sym c.self.view_is) in
    let found = c.first_with-place.ensures in
    let before : NonePass (is_of_key columns key) (take place rows) =
    subst (λ l. NonePass (is_of_key columns key) (take place l)) c.as_slice.ensures.value (subst (λ k. NonePass (is_of_key k key) (take place c.as_slice.result.now)) c.as_slice-3.ensures.value found.before) in
    let here : StandsHere (is_of_key columns key) (drop place rows) =
    subst (λ l. StandsHere (is_of_key columns key) (drop place l)) c.as_slice.ensures.value (subst (λ k. StandsHere (is_of_key k key) (drop place c.as_slice.result.now)) c.as_slice-3.ensures.value found.here) in
    let put = c.put_at-2.ensures.items ∙ ap (λ l. insert l place row) c.reserve.ensures.items in
    record {
      together = subst (AreTogether columns) (sym put) (together_put columns key row rows place (own_key columns c.args.cells c.args.start key is) before here c.self.invariant.together);
      marked = c.put_at.ensures.items ∙ ap (λ l. insert l place c.mixed_words-word.result) c.reserve-2.ensures.items ∙ marked_put columns rows c.self.inside.words.items place c.mixed_words-word.result row c.self.invariant.marked (c.mixed_words-word.ensures ∙ ap word_of_cells is)
          ∙ ap (map (key_word columns)) (sym put);
    }

pub returns-clause-ok : goal.returns-clause-ok
returns-clause-ok c = λ w.
    let row : HeldRow = record { cells = c.args.cells; start = c.args.start } in
    ap (total w) (c.put_at-2.ensures.items ∙ ap (λ l. insert l c.first_with-place.result row) c.reserve.ensures.items) ∙ put_weighs w c.self.inside.rows.items c.first_with-place.result row ∙ ap (λ (v : FewRows). total w v.rows + w row) c.self.view_is
