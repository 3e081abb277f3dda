-- The plan of one stream of a text and an int.
use Rattle.std.specs.Prelude.{◌≡◌, ◌≤◌, List, [], ◌∷◌, length}
use Rattle.std.proofs.Common.{sym, ◌∙◌, ap, subst, arith}
use Rattle.std.proofs.lemmas.List.{length-map}
use Rattle.std.proofs.lemmas.List.Elements.{All-nil, All-cons}
use Rattle.tw_rows.specs.declared.kind.CellKind.TheVariants.{Whole, Place}
use Rattle.tw_rows.specs.declared.schema.ColumnDef.{ColumnDef}
use Rattle.tw_rows.specs.declared.schema.StreamDef.{StreamDef}
use Rattle.plan_model.specs.declared.node.Node.{Node}
use Rattle.plan_model.specs.declared.node.Node.TheVariants.{Source}
use Rattle.plan_model.specs.IsPlan.{kinds_of_schema, AreNodes, IsNewNode, most_columns, most_reach}
use Rattle.plan_model.proofs.Growing.{no_nodes, nodes_grow}

module _ (s : StreamDef) (schema : List ColumnDef) (of_s : kinds_of_schema s.schema ≡ Place ∷ Whole ∷ []) (of_schema : kinds_of_schema schema ≡ Place ∷ Whole ∷ []) where
  two_columns : (columns : List ColumnDef) → kinds_of_schema columns ≡ Place ∷ Whole ∷ [] → length columns ≤ most_columns
  two_columns columns is = (let two : length columns ≡ 2 = sym (length-map columns _) ∙ ap length is in omega (arith, two))

  new_source : IsNewNode (s ∷ []) [] [] (Source 0) schema
  unfolding most_reach
  new_source = record {
    left_lower = tt;
    right_lower = tt;
    streamed = omega arith;
    over_events = record { on_left = λ reads. absurd (cc); on_right = λ reads. absurd (cc) };
    sound = tt;
    kinds = of_schema ∙ sym of_s;
    partnered = tt;
    counted = tt;
    near = omega arith;
    narrow = two_columns schema of_schema;
    room = omega arith;
  }

  pub one_stream : (streams : List StreamDef) (nodes : List Node) (schemas : List (List ColumnDef)) → streams ≡ s ∷ [] → nodes ≡ Source 0 ∷ [] → schemas ≡ schema ∷ [] → AreNodes streams nodes schemas
  one_stream streams nodes schemas of_streams of_nodes of_schemas =
      subst (λ x. AreNodes x nodes schemas) (sym of_streams)
      (subst (λ x. AreNodes (s ∷ []) x schemas) (sym of_nodes)
      (subst (λ x. AreNodes (s ∷ []) (Source 0 ∷ []) x) (sym of_schemas)
      (nodes_grow (s ∷ []) [] [] (Source 0) schema (no_nodes (s ∷ []) (All-cons (λ x. length x.schema ≤ most_columns) s [] (two_columns s.schema of_s) (All-nil _))) new_source)))
