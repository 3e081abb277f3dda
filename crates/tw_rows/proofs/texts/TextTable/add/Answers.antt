use Rattle.std.specs.Prelude.{◌≡◌, ◌∷◌, [], ◌++◌, Some, map, length, slice_get, Contains, string_bytes}
use Rattle.std.proofs.Common.{sym, ◌∙◌, ap, subst}
use Rattle.std.proofs.lemmas.List.{length-map}
use Rattle.std.specs.Map.{keys_of}
use Rattle.tw_rows.proofs.TextTables.{distinct_texts, added_text, slice_get-last}
use Rattle.tw_rows.proofs.texts.TextTable.add.Goals as goal

pub invariant_of-self-2 : goal.invariant_of-self-2
invariant_of-self-2 c = distinct_texts string_bytes _ c.in_ok-insert.ensures.unique

pub returns-clause-table : goal.returns-clause-table
returns-clause-table c =
    ap (λ es. map string_bytes (keys_of es)) c.in_ok-insert.ensures.entries
    ∙ added_text string_bytes c.args.text.now c.in_ok-to_string.field-0 _ _ (sym c.in_ok-to_string.ensures.ok) (subst (λ l. ¬ (Contains l c.args.text.now)) (sym c.self.view_is) c.requires)
    ∙ ap (λ l. l ++ c.args.text.now ∷ []) c.self.view_is

pub returns-clause-place : goal.returns-clause-place
returns-clause-place c =
    let long = c.len-place.ensures.len ∙ sym (length-map c.self.inside.texts.entries (λ e. e.0)) ∙ sym (length-map _ string_bytes) ∙ ap length c.self.view_is in
    subst (λ l. slice_get l c.len-place.result ≡ Some c.args.text.now) (sym (returns-clause-table c)) (subst (λ n. slice_get (c.args.self.now ++ c.args.text.now ∷ []) n ≡ Some c.args.text.now) (sym long) (slice_get-last c.args.self.now c.args.text.now))

pub returns-clause-distinct : goal.returns-clause-distinct
returns-clause-distinct c = distinct_texts string_bytes _ c.in_ok-insert.ensures.unique
