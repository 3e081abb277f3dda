-- Facts that the nodes of steps rest on.
use Rattle.std.specs.Prelude.{◌≡◌, ℕ, ◌+◌, ok_or, Ok, List, [], ◌∷◌, ◌++◌, map}
use Rattle.std.proofs.Common.{◌∙◌, ap, sym, zero-add}
use Rattle.tw_rows.specs.Instant.{instants}
use Rattle.tw_rows.specs.declared.schema.ColumnDef.{ColumnDef}
use Rattle.std.proofs.lemmas.List.{map-append}
use Rattle.plan_model.specs.declared.agg.Agg.{Agg}
use Rattle.plan_model.specs.declared.expr.ExprNode.TheVariants as E
use Rattle.plan_model.specs.declared.fault.QueryFault.TheVariants as F
use Rattle.plan_model.proofs.Counting.{instants-add}
use Rattle.query_text.specs.declared.query.QueryAgg.{QueryAgg}
use Rattle.query_plan.specs.Names.{key_of, aggs_of}
use Rattle.query_plan.specs.Schemas.{aggs_fit}
use Rattle.query_plan.specs.Draft.{Draft, and_then, needs, schema_at}
use Rattle.query_plan.specs.Steps.{columns_alone, grouped, group_step}
use Rattle.query_plan.proofs.Answering.{goes_on}

-- one column more, behind the first n
pub columns_more : (n : ℕ) → instants 0 (n + 1) ≡ instants 0 n ++ n ∷ []
columns_more n = instants-add 0 n 1 ∙ ap (λ k. instants 0 n ++ k ∷ []) (zero-add n)

-- and one item more
pub items_more : (n : ℕ) → columns_alone (n + 1) ≡ columns_alone n ++ (E.Column n ∷ []) ∷ []
items_more n = ap (map (λ c. E.Column c ∷ [])) (columns_more n) ∙ map-append (λ c. E.Column c ∷ []) (instants 0 n) (n ∷ [])

-- a group whose key and aggregates are there is refused for their kinds alone
pub group_found : (item : ℕ) (d : Draft) (at : ℕ) (names : List (List ℕ)) (aggs : List QueryAgg) (schema : List ColumnDef) (key : List ℕ) (computed : List Agg) → schema ≡ schema_at d at → ok_or (key_of schema names) (F.UnknownName item) ≡ Ok key → ok_or (aggs_of schema aggs) (F.UnknownName item) ≡ Ok computed → group_step item d at names aggs ≡ and_then (needs (aggs_fit schema aggs) (F.TypeClash item)) (λ u. Ok (grouped d at key aggs computed))
group_found item d at names aggs schema key computed same k a =
    let there = schema_at d at in
    goes_on key (ok_or (key_of there names) (F.UnknownName item)) (λ key. and_then (ok_or (aggs_of there aggs) (F.UnknownName item)) (λ computed. and_then (needs (aggs_fit there aggs) (F.TypeClash item)) (λ u. Ok (grouped d at key aggs computed)))) (ap (λ s. ok_or (key_of s names) (F.UnknownName item)) (sym same) ∙ k)
    ∙ (goes_on computed (ok_or (aggs_of there aggs) (F.UnknownName item)) (λ computed. and_then (needs (aggs_fit there aggs) (F.TypeClash item)) (λ u. Ok (grouped d at key aggs computed))) (ap (λ s. ok_or (aggs_of s aggs) (F.UnknownName item)) (sym same) ∙ a)
    ∙ ap (λ s. and_then (needs (aggs_fit s aggs) (F.TypeClash item)) (λ u. Ok (grouped d at key aggs computed))) (sym same))
