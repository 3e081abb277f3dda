use Rattle.std.proofs.Common.{◌≡◌, ◌+◌, ℕ, List, ◌∷◌, length, take, drop, Some, None, cond, ltb, subst, sym, ◌∙◌, ap, rules, tests}
use Rattle.std.specs.Prelude.{◌==◌}
use Rattle.std.specs.List.{position_or_len}
use Rattle.std.proofs.lemmas.Iterator.{YieldsList-from_slice}
use Rattle.std.proofs.lemmas.Iterator.Search.{position_from_yields_List}
use Rattle.row_reader.specs.Fields.{commas}
use Rattle.row_reader.proofs.Whole.{rest_all}
use Rattle.row_reader.proofs.Commas.{cut_here, cut_nowhere, found, missed}
use Rattle.row_reader.proofs.fields.split_field.Goals as goal

pub returns-in-None : goal.returns-in-None
returns-in-None c =
    let text = c.args.text.now in
    let asked : c.position.result ≡ cond (ltb (position_or_len (λ b. b == 44) text) (length text)) (Some (position_or_len (λ b. b == 44) text)) None =
    position_from_yields_List (λ b. b == 44) _ _ c.position.result c.position.ensures.ran (YieldsList-from_slice text cc) (λ x b q k. search (rules, tests)) in
    cut_nowhere text (missed text c.position.result asked c.in-None.is)

pub returns-in-Some : goal.returns-in-Some
returns-in-Some c =
    let text = c.args.text.now in
    let asked : c.position.result ≡ cond (ltb (position_or_len (λ b. b == 44) text) (length text)) (Some (position_or_len (λ b. b == 44) text)) None =
    position_from_yields_List (λ b. b == 44) _ _ c.position.result c.position.ensures.ran (YieldsList-from_slice text cc) (λ x b q k. search (rules, tests)) in
    let f = found text c.position.result c.in-Some.comma asked c.in-Some.is in
    subst (λ (i : ℕ). commas text ≡ take i text ∷ commas (drop (i + 1) text)) f.0 (cut_here text f.1) ∙ ap (λ (l : List ℕ). take c.in-Some.comma text ∷ commas l) (sym (rest_all text (c.in-Some.comma + 1)))
