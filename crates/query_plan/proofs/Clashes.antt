-- The kinds of the nodes so far, then those of the rest, are those of all.
use Rattle.std.proofs.Common.{◌≡◌, ℕ, ◌+◌, ◌-◌, ◌<◌, ◌≤◌, Option, Some, None, List, [], ◌∷◌, ◌++◌, length, drop, get_or, ap, sym, ◌∙◌}
use Rattle.std.specs.Prelude.{option_and_then, slice_get}
use Rattle.std.proofs.lemmas.List.{drop_more, drop_all}
use Rattle.tw_rows.specs.declared.kind.Kind.{Kind}
use Rattle.tw_rows.specs.declared.schema.ColumnDef.{ColumnDef}
use Rattle.query_text.specs.declared.tree.TreeNode.{TreeNode}
use Rattle.query_plan.specs.Types.{node_type, types_from, type_of}

-- i of the nodes are of the kinds that are found
pub record AreTypesSoFar (schema : List ColumnDef) (ns : List TreeNode) (i : ℕ) (found : List Kind) : Type 0 where
  pub same : types_from schema found (drop i ns) ≡ types_from schema [] ns

at : (schema : List ColumnDef) (ns : List TreeNode) (i : ℕ) (n : TreeNode) (found : List Kind) (o : Option Kind) → i < length ns → n ≡ get_or ns i n → o ≡ node_type schema found n → types_from schema found (drop i ns) ≡ option_and_then (λ k. types_from schema (found ++ k ∷ []) (drop (i + 1) ns)) o
at schema ns i n found o low is of =
    ap (types_from schema found) (drop_more ns i n low)
    ∙ ap (λ m. types_from schema found (m ∷ drop (i + 1) ns)) (sym is)
    ∙ ap (option_and_then (λ k. types_from schema (found ++ k ∷ []) (drop (i + 1) ns))) (sym of)

pub types_none : (schema : List ColumnDef) (ns : List TreeNode) (found : List Kind) → found ≡ [] → AreTypesSoFar schema ns 0 found
types_none schema ns found e = record { same = ap (λ l. types_from schema l ns) e }

pub types_more : (schema : List ColumnDef) (ns : List TreeNode) (i : ℕ) (n : TreeNode) (k : Kind) (o : Option Kind) (found new : List Kind) → AreTypesSoFar schema ns i found → i < length ns → n ≡ get_or ns i n → o ≡ node_type schema found n → o ≡ Some k → new ≡ found ++ k ∷ [] → AreTypesSoFar schema ns (i + 1) new
types_more schema ns i n k o found new h low is of gives pushed =
    record {
      same = ap (λ l. types_from schema l (drop (i + 1) ns)) pushed
          ∙ ap (option_and_then (λ k. types_from schema (found ++ k ∷ []) (drop (i + 1) ns))) (sym gives)
          ∙ sym (at schema ns i n found o low is of)
          ∙ h.same;
    }

last_from : (schema : List ColumnDef) (ns : List TreeNode) (r : Option (List Kind)) → r ≡ types_from schema [] ns → option_and_then (λ types. slice_get types (length types - 1)) r ≡ type_of schema ns
last_from schema ns r e = ap (option_and_then (λ types. slice_get types (length types - 1))) e

pub types_stop : (schema : List ColumnDef) (ns : List TreeNode) (i : ℕ) (n : TreeNode) (o : Option Kind) (found : List Kind) → AreTypesSoFar schema ns i found → i < length ns → n ≡ get_or ns i n → o ≡ node_type schema found n → o ≡ None → None ≡ type_of schema ns
types_stop schema ns i n o found h low is of gives =
    last_from schema ns None
    (ap (option_and_then (λ k. types_from schema (found ++ k ∷ []) (drop (i + 1) ns))) (sym gives) ∙ sym (at schema ns i n found o low is of) ∙ h.same)

pub types_all : (schema : List ColumnDef) (ns : List TreeNode) (i : ℕ) (found : List Kind) → AreTypesSoFar schema ns i found → length ns ≤ i → slice_get found (length found - 1) ≡ type_of schema ns
types_all schema ns i found h past =
    last_from schema ns (Some found) (ap (types_from schema found) (sym (drop_all i ns past)) ∙ h.same)
