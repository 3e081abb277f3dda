use Rattle.std.specs.Prelude.{◌≡◌, ◌<◌, Some, refl, slice_get, Contains, string_bytes}
use Rattle.std.proofs.Common.{sym, ◌∙◌, subst}
use Rattle.std.proofs.lemmas.List.{length-map}
use Rattle.indexmap.specs.IndexMap.{keys}
use Rattle.tw_rows.proofs.TextTables.{list_any-texts, absent_text, placed_text, missing_text, Contains-slice_get}
use Rattle.tw_rows.proofs.texts.TextTable.find.Goals as goal

pub returns-in-Some-clause-none : goal.returns-in-Some-clause-none
returns-in-Some-clause-none c =
    let at = subst (λ l. slice_get l c.in-Some.place ≡ Some c.args.text.now) c.self.view_is (placed_text string_bytes c.args.text.now (keys c.self.inside.texts) c.in-Some.place (sym c.in-Some.ensures.index) (subst (λ n. c.in-Some.place < n) (sym (length-map c.self.inside.texts.entries (λ e. e.0))) c.in-Some.ensures.within)) in
    (λ e. absurd (cc), λ none. absurd (none (Contains-slice_get _ c.in-Some.place _ at)))

pub returns-in-Some-clause-some : goal.returns-in-Some-clause-some
returns-in-Some-clause-some c = subst (λ l. slice_get l c.in-Some.place ≡ Some c.args.text.now) c.self.view_is (placed_text string_bytes c.args.text.now (keys c.self.inside.texts) c.in-Some.place (sym c.in-Some.ensures.index) (subst (λ n. c.in-Some.place < n) (sym (length-map c.self.inside.texts.entries (λ e. e.0))) c.in-Some.ensures.within))

pub returns-in-None-clause-none : goal.returns-in-None-clause-none
returns-in-None-clause-none c =
    let away = subst (λ l. ¬ (Contains l c.args.text.now)) c.self.view_is (absent_text _ c.args.text.now (list_any-texts string_bytes _ (keys c.self.inside.texts) ∙ missing_text string_bytes c.args.text.now (keys c.self.inside.texts) (sym c.in-None.ensures.index))) in
    (λ e. away, λ none. refl)
