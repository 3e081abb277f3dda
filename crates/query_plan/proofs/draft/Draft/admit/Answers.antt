use Rattle.std.proofs.Common.{◌≡◌, ℕ, List, Ok, length, sym, ap, ◌∙◌, arith}
use Rattle.query_plan.specs.Draft.{Draft, Planned, and_then, with_nodes, admitted}
use Rattle.query_plan.specs.Checked.{checked}
use Rattle.query_plan.specs.Growing.{reaches_of, reaches_with}
use Rattle.query_plan.proofs.Answering.{handed_on}
use Rattle.query_plan.proofs.Growing.{admitted_is, admitted_near, admitted_parts, reaches_found}
use Rattle.query_plan.proofs.draft.Draft.admit.Goals as goal

-- the reaches and the nodes that are passed on are those of the draft and of the item
same_reaches : (item : ℕ) (nodes_reaches reaches : List ℕ) (ps passed : List Planned) → reaches ≡ nodes_reaches → passed ≡ ps → reaches_with item nodes_reaches ps ≡ reaches_with item reaches passed
same_reaches item nodes_reaches reaches ps passed same also = ap (λ r. reaches_with item r ps) (sym same) ∙ ap (λ q. reaches_with item reaches q) (sym also)

same_checked : (item n count : ℕ) (ps passed : List Planned) → count ≡ n → passed ≡ ps → checked item n ps ≡ checked item count passed
same_checked item n count ps passed same also = ap (λ k. checked item k ps) (sym same) ∙ ap (λ q. checked item count q) (sym also)

pub returns-in_err-reaches : goal.returns-in_err-reaches
returns-in_err-reaches c =
    let inside = c.self.inside in
    let d : Draft = record { names = inside.names.items; nodes = inside.nodes.items; schemas = inside.schemas.items } in
    let item = c.args.item in
    let ps = c.args.planned.items in
    let rest = λ (r : List ℕ). and_then (checked item (length d.nodes) ps) (λ u. Ok (with_nodes d ps)) in
    let asked = same_reaches item (reaches_of d.nodes) inside.reaches.items ps c.deref.result.now c.self.invariant.1 c.deref.ensures.value in
    handed_on (λ (x : Draft). x) c.in_err-reaches.field-0.0 (reaches_with item inside.reaches.items c.deref.result.now) (admitted item c.args.self ps) rest c.from_residual.result c.from_residual.ensures.1
    (ap (λ x. admitted item x ps) (sym c.self.view_is) ∙ (admitted_is item d ps ∙ ap (λ q. and_then q rest) asked))
    c.in_err-reaches.ensures

pub returns-in_err-checked : goal.returns-in_err-checked
returns-in_err-checked c =
    let inside = c.self.inside in
    let d : Draft = record { names = inside.names.items; nodes = inside.nodes.items; schemas = inside.schemas.items } in
    let item = c.args.item in
    let ps = c.args.planned.items in
    let near = same_reaches item (reaches_of d.nodes) inside.reaches.items ps c.deref.result.now c.self.invariant.1 c.deref.ensures.value ∙ c.in_ok-reaches.ensures in
    let asked = same_checked item (length d.nodes) c.len.result ps c.deref-2.result.now (c.len.ensures ∙ (omega arith)) c.deref-2.ensures.value in
    handed_on (λ (x : Draft). x) c.in_err-checked.field-0.0 (checked item c.len.result c.deref-2.result.now) (admitted item c.args.self ps) (λ u. Ok (with_nodes d ps))
    c.from_residual-in_err-checked.result c.from_residual-in_err-checked.ensures.1
    (ap (λ x. admitted item x ps) (sym c.self.view_is) ∙ (admitted_near item d ps c.in_ok-reaches.reaches.items near ∙ ap (λ q. and_then q (λ u. Ok (with_nodes d ps))) asked))
    c.in_err-checked.ensures

pub invariant_of-result : goal.invariant_of-result
invariant_of-result c =
    let inside = c.self.inside in
    let item = c.args.item in
    let ps = c.args.planned.items in
    let near = same_reaches item (reaches_of inside.nodes.items) inside.reaches.items ps c.deref.result.now c.self.invariant.1 c.deref.ensures.value ∙ c.in_ok-reaches.ensures in (
      c.in_ok-put_all.ensures.levels,
      reaches_found item inside.nodes.items ps c.in_ok-reaches.reaches.items near ∙ ap reaches_of (sym c.in_ok-put_all.ensures.nodes),
    )

pub returns : goal.returns
returns c =
    let inside = c.self.inside in
    let d : Draft = record { names = inside.names.items; nodes = inside.nodes.items; schemas = inside.schemas.items } in
    let item = c.args.item in
    let ps = c.args.planned.items in
    let near = same_reaches item (reaches_of d.nodes) inside.reaches.items ps c.deref.result.now c.self.invariant.1 c.deref.ensures.value ∙ c.in_ok-reaches.ensures in
    let right = same_checked item (length d.nodes) c.len.result ps c.deref-2.result.now (c.len.ensures ∙ (omega arith)) c.deref-2.ensures.value ∙ c.in_ok-checked.ensures in
    ap (λ x. admitted item x ps) (sym c.self.view_is)
    ∙ admitted_parts item d ps c.in_ok-reaches.reaches.items c.put_all.new.nodes.items c.put_all.new.schemas.items near right c.in_ok-put_all.ensures.nodes c.in_ok-put_all.ensures.schemas
