use Rattle.std.proofs.Common.{rules, tests, ◌≡◌, ap, ◌∙◌, sym, List, ℕ, ◌++◌}
use Rattle.std.specs.List.{list_any}
use Rattle.std.proofs.lemmas.Iterator.{YieldsList-from_slice}
use Rattle.std.proofs.lemmas.Iterator.Search.{any_from_yields_List}
use Rattle.csv.specs.Writing.{default_writer, needs_byte, escaped}
use Rattle.row_reader.proofs.Plain.{field_text-plain}
use Rattle.row_reader.proofs.Quoted.{quoted_text}
use Rattle.row_reader.proofs.field.push_text.Goals as goal

pub returns-in_ok-push-2-clause-ok : goal.returns-in_ok-push-2-clause-ok
returns-in_ok-push-2-clause-ok c =
    let text = c.args.text.now in
    let asked : c.any.result ≡ list_any (needs_byte default_writer) text = any_from_yields_List (needs_byte default_writer) _ _ _ c.any.ensures.ran (YieldsList-from_slice text cc) (λ x b q k. search (rules, tests)) in
    quoted_text text _ _ _ _ (sym asked ∙ c.if-any.true) c.in_ok-push.ensures.items
    (c.in_ok-push_doubled.ensures.ok ∙ ap (λ (l : List ℕ). c.push.new.self.items ++ escaped default_writer l) c.as_bytes-bytes.ensures.value) c.in_ok-push-2.ensures.items

pub returns-in_ok-extend_from_slice-clause-ok : goal.returns-in_ok-extend_from_slice-clause-ok
returns-in_ok-extend_from_slice-clause-ok c =
    let text = c.args.text.now in
    let asked : c.any.result ≡ list_any (needs_byte default_writer) text = any_from_yields_List (needs_byte default_writer) _ _ _ c.any.ensures.ran (YieldsList-from_slice text cc) (λ x b q k. search (rules, tests)) in
    c.in_ok-extend_from_slice.ensures.items ∙ ap (λ (l : List ℕ). c.args.out.now.items ++ l) (c.as_bytes-bytes.ensures.value ∙ sym (field_text-plain text (sym asked ∙ c.if-any.false)))
