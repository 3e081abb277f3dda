-- What the planner's definition gives is a plan.
use Rattle.std.specs.Prelude.{◌≡◌, ℕ, suc, ◌+◌, ◌-◌, ◌/◌, ◌%◌, ◌<◌, ◌≤◌, nat_lt, nat_le, nat_eq, Bool, true, false, ◌&&◌, ◌||◌, not, Option, Some, option_map, option_and_then, ok_or, Result, Ok, List, [], ◌∷◌, ◌++◌, map, length, slice_get, slice_index_or, All, refl}
use Rattle.std.specs.List.{list_any, list_all}
use Rattle.std.proofs.Common.{sym, ◌∙◌, ap, subst, arith, append_assoc}
use Rattle.std.proofs.lemmas.Bool.{leb-true, ltb-false, eqb-true, and_parts, or_parts}
use Rattle.std.proofs.lemmas.List.{length-append, length-map, length_push, get_or_at}
use Rattle.std.proofs.lemmas.List.Elements.{All-nil, All-cons, All-push}
use Rattle.std.proofs.lemmas.Option.{slice_get-map, slice_get-get_or, get_or_from_slice_get}
use Rattle.tw_rows.specs.declared.kind.CellKind.TheVariants.{Whole}
use Rattle.tw_rows.specs.declared.kind.Kind.TheVariants as K
use Rattle.tw_rows.specs.declared.schema.ColumnDef.{ColumnDef}
use Rattle.tw_rows.specs.declared.schema.StreamDef.{StreamDef}
use Rattle.tw_rows.specs.Kinds.{cell_kind_of}
use Rattle.plan_model.specs.declared.fault.QueryFault.{QueryFault}
use Rattle.plan_model.specs.declared.fault.QueryFault.TheVariants as F
use Rattle.plan_model.specs.declared.node.Node.{Node}
use Rattle.plan_model.specs.declared.node.Node.TheVariants.{Source, Where, Select, Union, Delay, Hop, Duration, Extend, Session, Clip, Coalesce, Top, Follow}
use Rattle.plan_model.specs.IsPlan.{kinds_of_schema, kinds_at, IsWindow, AreNarrow, PlanParts, IsPlan, most_columns}
use Rattle.plan_model.specs.Reach.{event_level}
use Rattle.plan_model.proofs.Growing.{no_nodes}
use Rattle.query_text.specs.declared.query.Item.{Item}
use Rattle.query_text.specs.declared.query.Let.{Let}
use Rattle.query_text.specs.declared.query.Pipe.{Pipe}
use Rattle.query_text.specs.declared.query.Query.{Query}
use Rattle.query_text.specs.declared.query.QueryAgg.{QueryAgg}
use Rattle.query_text.specs.declared.query.QueryStep.{QueryStep}
use Rattle.query_text.specs.declared.query.QueryStep.TheVariants as S
use Rattle.query_text.specs.declared.tree.TreeNode.{TreeNode}
use Rattle.query_plan.specs.Names.{column_of, key_of, expr_of, exprs_of, tree_exprs, aggs_of}
use Rattle.query_plan.specs.Schemas.{column_at, select_schema, same_kinds, aggs_fit, fills_fit}
use Rattle.query_plan.specs.Types.{same_kind, is_number, type_of, types_of, tree_types}
use Rattle.query_plan.proofs.Fitting.{column_of_low, key_of-is, number_column, same_kinds-same, aggs_of-are, kinds-select_schema, kinds-join_schema}
use Rattle.query_plan.proofs.Typing.{same_kind-same, number_is_whole, type_of-typed, types_of-typed}
use Rattle.query_plan.specs.Draft.{Named, Planned, Draft, no_draft, and_then, needs, is_taken, schema_at, with_nodes, with_name, admitted}
use Rattle.query_plan.specs.Planned.{Reached, stream_planned, streams_planned, step_planned, steps_planned, let_planned, lets_planned, planned}
use Rattle.query_plan.specs.Steps.{operand, over_events, alone, named_sides, are_alike, sides, joined, where_step, select_step, union_step, duration_step, extend_step, is_window, hop_step, session_step, clip_step, join_node, join_step, key_group, anti_node, anti_step, left_nodes, left_step, grouped, group_step, is_top_count, top_step, follow_step, step_nodes}
use Rattle.query_plan.proofs.Averaging.{grouped_fit}
use Rattle.query_plan.proofs.BothSides.{operand_low, AreSides, named_sides_are, sides_are, join_fit, group_fit, anti_fit}
use Rattle.query_plan.proofs.Fits.{same_Ok, goes_on, takes, passes, IsAdmitted, admitted_is, IsFit, IsDraft, calm, eventful, all_keep, one_keeps}
use Rattle.query_plan.proofs.LeftNodes.{left_fit}

-- a source
source_fit : (streams : List StreamDef) (nodes : List Node) (schemas : List (List ColumnDef)) (i : ℕ) (s : StreamDef) → i < length streams → slice_get streams i ≡ Some s →
    IsFit streams nodes schemas (Source i) s.schema
source_fit streams nodes schemas i s low there = record {
  left_lower = tt;
  right_lower = tt;
  streamed = low;
  over_events = calm nodes (Source i) refl refl;
  sound = tt;
  kinds = sym (get_or_from_slice_get (map (λ (d : StreamDef). kinds_of_schema d.schema) streams) i (kinds_of_schema s.schema) []
      (slice_get-map (λ (d : StreamDef). kinds_of_schema d.schema) streams i ∙ ap (option_map (λ (d : StreamDef). kinds_of_schema d.schema)) there));
  partnered = tt;
  counted = tt;
}

-- a window whose period divides its size
window_is : (size period : ℕ) → is_window size period ≡ true → IsWindow size period
window_is size period h =
    let parts = and_parts (nat_le 1 size && nat_le 1 period) (nat_eq (size % period) 0) h in
    let both = and_parts (nat_le 1 size) (nat_le 1 period) parts.0 in
    let repeats : 1 ≤ period = leb-true 1 period both.1 in
    let none : size % period ≡ 0 = eqb-true (size % period) 0 parts.1 in
    record { lasts = leb-true 1 size both.0; repeats = repeats; divides = (size / period, omega (arith, repeats, none)) }

-- each step keeps what a draft keeps
module _ (streams : List StreamDef) (item : ℕ) (d e : Draft) (at : ℕ) (ps : List Planned) (kept : IsDraft streams d) (low : at < length d.nodes) (admits : admitted item d ps ≡ Ok e) where
  alone_keeps : (n : Node) → IsFit streams d.nodes d.schemas n (schema_at d at) → alone d at n ≡ Ok ps → IsDraft streams e
  alone_keeps n fit h = one_keeps streams item d e (record { node = n; schema = schema_at d at }) ps kept fit h admits

  where_keeps : (tree : List TreeNode) → where_step item d at tree ≡ Ok ps → IsDraft streams e
  where_keeps tree h =
      let named = takes (expr_of (schema_at d at) tree) (F.UnknownName item) (λ test.
      and_then (ok_or (type_of (schema_at d at) tree) (F.TypeClash item)) (λ kind.
      and_then (needs (same_kind kind K.Bool) (F.TypeClash item)) (λ u. alone d at (Where at test)))) ps h in
      let typed = takes (type_of (schema_at d at) tree) (F.TypeClash item) (λ kind.
      and_then (needs (same_kind kind K.Bool) (F.TypeClash item)) (λ u. alone d at (Where at named.0))) ps named.2 in
      let tests = passes (same_kind typed.0 K.Bool) (F.TypeClash item) (λ u. alone d at (Where at named.0)) ps typed.2 in
      let sound = type_of-typed (schema_at d at) tree named.0 typed.0 named.1 typed.1 in
      alone_keeps (Where at named.0) (record {
        left_lower = low;
        right_lower = tt;
        streamed = tt;
        over_events = calm d.nodes (Where at named.0) refl refl;
        sound = (sound.0, sound.1 ∙ ap cell_kind_of (same_kind-same typed.0 K.Bool tests.0));
        kinds = refl;
        partnered = tt;
        counted = tt;
      }) tests.1

  select_keeps : (items : List Item) → select_step item d at items ≡ Ok ps → IsDraft streams e
  select_keeps items h =
      let named = takes (exprs_of (schema_at d at) items) (F.UnknownName item) (λ exprs.
      and_then (ok_or (types_of (schema_at d at) items) (F.TypeClash item)) (λ types.
      Ok (record { node = Select at exprs; schema = select_schema items types } ∷ []))) ps h in
      let typed = takes (types_of (schema_at d at) items) (F.TypeClash item) (λ types.
      Ok (record { node = Select at named.0; schema = select_schema items types } ∷ [])) ps named.2 in
      one_keeps streams item d e (record { node = Select at named.0; schema = select_schema items typed.0 }) ps kept (record {
        left_lower = low;
        right_lower = tt;
        streamed = tt;
        over_events = calm d.nodes (Select at named.0) refl refl;
        sound = (types_of-typed (schema_at d at) items named.0 typed.0 named.1 typed.1).0;
        kinds = kinds-select_schema (schema_at d at) items named.0 typed.0 named.1 typed.1;
        partnered = tt;
        counted = tt;
      }) typed.2 admits

  union_keeps : (name : List ℕ) → union_step item d at name ≡ Ok ps → IsDraft streams e
  union_keeps name h =
      let reached = goes_on (operand item d name) (λ right.
      and_then (needs (same_kinds (schema_at d at) (schema_at d right)) (F.TypeClash item)) (λ u. alone d at (Union at right))) ps h in
      let right = reached.0 in
      let alike = passes (same_kinds (schema_at d at) (schema_at d right)) (F.TypeClash item) (λ u. alone d at (Union at right)) ps reached.2 in
      alone_keeps (Union at right) (record {
        left_lower = low;
        right_lower = operand_low streams item d name right kept reached.1;
        streamed = tt;
        over_events = calm d.nodes (Union at right) refl refl;
        sound = same_kinds-same (schema_at d at) (schema_at d right) alike.0;
        kinds = refl;
        partnered = tt;
        counted = tt;
      }) alike.1

  delay_keeps : (by : ℕ) → alone d at (Delay at by) ≡ Ok ps → IsDraft streams e
  delay_keeps by h = alone_keeps (Delay at by) (record {
    left_lower = low;
    right_lower = tt;
    streamed = tt;
    over_events = calm d.nodes (Delay at by) refl refl;
    sound = tt;
    kinds = refl;
    partnered = tt;
    counted = tt;
  }) h

  duration_keeps : (by : ℕ) → duration_step item d at by ≡ Ok ps → IsDraft streams e
  duration_keeps by h =
      let level = passes (event_level d.nodes at) (F.NotEventLevel item) (λ u.
      and_then (needs (nat_le 1 by) (F.BadWindow item)) (λ u. alone d at (Duration at by))) ps h in
      let lasts = passes (nat_le 1 by) (F.BadWindow item) (λ u. alone d at (Duration at by)) ps level.1 in
      alone_keeps (Duration at by) (record {
        left_lower = low;
        right_lower = tt;
        streamed = tt;
        over_events = eventful d.nodes (Duration at by) level.0 refl;
        sound = leb-true 1 by lasts.0;
        kinds = refl;
        partnered = tt;
        counted = tt;
      }) lasts.1

  extend_keeps : (by : ℕ) → extend_step item d at by ≡ Ok ps → IsDraft streams e
  extend_keeps by h =
      let level = passes (event_level d.nodes at) (F.NotEventLevel item) (λ u. alone d at (Extend at by)) ps h in
      alone_keeps (Extend at by) (record {
        left_lower = low;
        right_lower = tt;
        streamed = tt;
        over_events = eventful d.nodes (Extend at by) level.0 refl;
        sound = tt;
        kinds = refl;
        partnered = tt;
        counted = tt;
      }) level.1

  hop_keeps : (size period : ℕ) → hop_step item d at size period ≡ Ok ps → IsDraft streams e
  hop_keeps size period h =
      let level = passes (event_level d.nodes at) (F.NotEventLevel item) (λ u.
      and_then (needs (is_window size period) (F.BadWindow item)) (λ u. alone d at (Hop at size period))) ps h in
      let window = passes (is_window size period) (F.BadWindow item) (λ u. alone d at (Hop at size period)) ps level.1 in
      alone_keeps (Hop at size period) (record {
        left_lower = low;
        right_lower = tt;
        streamed = tt;
        over_events = eventful d.nodes (Hop at size period) level.0 refl;
        sound = window_is size period window.0;
        kinds = refl;
        partnered = tt;
        counted = tt;
      }) window.1

  session_keeps : (timeout : ℕ) (names : List (List ℕ)) → session_step item d at timeout names ≡ Ok ps → IsDraft streams e
  session_keeps timeout names h =
      let named = takes (key_of (schema_at d at) names) (F.UnknownName item) (λ key.
      and_then (over_events item d at) (λ u.
      and_then (needs (nat_le 1 timeout) (F.BadWindow item)) (λ u. alone d at (Session at timeout key)))) ps h in
      let level = passes (event_level d.nodes at) (F.NotEventLevel item) (λ u.
      and_then (needs (nat_le 1 timeout) (F.BadWindow item)) (λ u. alone d at (Session at timeout named.0))) ps named.2 in
      let lasts = passes (nat_le 1 timeout) (F.BadWindow item) (λ u. alone d at (Session at timeout named.0)) ps level.1 in
      alone_keeps (Session at timeout named.0) (record {
        left_lower = low;
        right_lower = tt;
        streamed = tt;
        over_events = eventful d.nodes (Session at timeout named.0) level.0 refl;
        sound = (leb-true 1 timeout lasts.0, (key_of-is (schema_at d at) names named.0 named.1).0);
        kinds = refl;
        partnered = tt;
        counted = tt;
      }) lasts.1

  clip_keeps : (name : List ℕ) (key : List (List ℕ)) → clip_step item d at name key ≡ Ok ps → IsDraft streams e
  clip_keeps name key h =
      let sided = goes_on (sides item d at name key) (λ s.
      and_then (over_events item d at) (λ u.
      and_then (over_events item d s.right) (λ u. alone d at (Clip at s.right s.left_key s.right_key)))) ps h in
      let s = sided.0 in
      let level = passes (event_level d.nodes at) (F.NotEventLevel item) (λ u.
      and_then (over_events item d s.right) (λ u. alone d at (Clip at s.right s.left_key s.right_key))) ps sided.2 in
      let right_level = passes (event_level d.nodes s.right) (F.NotEventLevel item) (λ u. alone d at (Clip at s.right s.left_key s.right_key)) ps level.1 in
      let are = sides_are streams item d at name key s kept sided.1 in
      alone_keeps (Clip at s.right s.left_key s.right_key) (record {
        left_lower = low;
        right_lower = are.low;
        streamed = tt;
        over_events = record { on_left = λ reads. level.0; on_right = λ reads. right_level.0 };
        sound = are.keys;
        kinds = refl;
        partnered = tt;
        counted = tt;
      }) right_level.1

  join_keeps : (name : List ℕ) (key : List (List ℕ)) → join_step item d at name key ≡ Ok ps → IsDraft streams e
  join_keeps name key h =
      let sided = goes_on (sides item d at name key) (λ s. Ok (join_node d at s ∷ [])) ps h in
      let are = sides_are streams item d at name key sided.0 kept sided.1 in
      one_keeps streams item d e (join_node d at sided.0) ps kept (join_fit streams d at sided.0 low are) sided.2 admits

  group_keeps : (names : List (List ℕ)) (aggs : List QueryAgg) → group_step item d at names aggs ≡ Ok ps → IsDraft streams e
  group_keeps names aggs h =
      let named = takes (key_of (schema_at d at) names) (F.UnknownName item) (λ key.
      and_then (ok_or (aggs_of (schema_at d at) aggs) (F.UnknownName item)) (λ computed.
      and_then (needs (aggs_fit (schema_at d at) aggs) (F.TypeClash item)) (λ u. Ok (grouped d at key aggs computed)))) ps h in
      let found = takes (aggs_of (schema_at d at) aggs) (F.UnknownName item) (λ computed.
      and_then (needs (aggs_fit (schema_at d at) aggs) (F.TypeClash item)) (λ u. Ok (grouped d at named.0 aggs computed))) ps named.2 in
      let fits = passes (aggs_fit (schema_at d at) aggs) (F.TypeClash item) (λ u. Ok (grouped d at named.0 aggs found.0)) ps found.2 in
      all_keep streams item d e (grouped d at named.0 aggs found.0) ps kept
      (grouped_fit streams d at named.0 aggs found.0 low kept.nodes_are.one_each (key_of-is (schema_at d at) names named.0 named.1).0 (aggs_of-are (schema_at d at) aggs found.0 found.1 fits.0))
      fits.1 admits

  anti_keeps : (name : List ℕ) (key : List (List ℕ)) → anti_step item d at name key ≡ Ok ps → IsDraft streams e
  anti_keeps name key h =
      let n = length d.nodes in
      let sided = goes_on (sides item d at name key) (λ s. Ok (key_group d s ∷ anti_node d at s n ∷ [])) ps h in
      let s = sided.0 in
      let are = sides_are streams item d at name key s kept sided.1 in
      all_keep streams item d e (key_group d s ∷ anti_node d at s n ∷ []) ps kept
      (group_fit streams d at s d.nodes d.schemas are are.low refl, (anti_fit streams d at s n d.nodes d.schemas are refl kept.nodes_are.one_each low refl, tt))
      sided.2 admits

  left_keeps : (name : List ℕ) (key : List (List ℕ)) (trees : List (List TreeNode)) → left_step item d at name key trees ≡ Ok ps → IsDraft streams e
  left_keeps name key trees h =
      let n = length d.nodes in
      let sided = goes_on (named_sides item d at name key) (λ s.
      and_then (ok_or (tree_exprs (schema_at d at) trees) (F.UnknownName item)) (λ fills.
      and_then (needs (are_alike d at s) (F.TypeClash item)) (λ u.
      and_then (ok_or (tree_types (schema_at d at) trees) (F.TypeClash item)) (λ types.
      and_then (needs (fills_fit (schema_at d s.right) s.right_key types) (F.TypeClash item)) (λ u. Ok (left_nodes d at s n fills)))))) ps h in
      let s = sided.0 in
      let named = takes (tree_exprs (schema_at d at) trees) (F.UnknownName item) (λ fills.
      and_then (needs (are_alike d at s) (F.TypeClash item)) (λ u.
      and_then (ok_or (tree_types (schema_at d at) trees) (F.TypeClash item)) (λ types.
      and_then (needs (fills_fit (schema_at d s.right) s.right_key types) (F.TypeClash item)) (λ u. Ok (left_nodes d at s n fills))))) ps sided.2 in
      let alike = passes (are_alike d at s) (F.TypeClash item) (λ u.
      and_then (ok_or (tree_types (schema_at d at) trees) (F.TypeClash item)) (λ types.
      and_then (needs (fills_fit (schema_at d s.right) s.right_key types) (F.TypeClash item)) (λ u. Ok (left_nodes d at s n named.0)))) ps named.2 in
      let typed = takes (tree_types (schema_at d at) trees) (F.TypeClash item) (λ types.
      and_then (needs (fills_fit (schema_at d s.right) s.right_key types) (F.TypeClash item)) (λ u. Ok (left_nodes d at s n named.0))) ps alike.1 in
      let fits = passes (fills_fit (schema_at d s.right) s.right_key typed.0) (F.TypeClash item) (λ u. Ok (left_nodes d at s n named.0)) ps typed.2 in
      all_keep streams item d e (left_nodes d at s n named.0) ps kept
      (left_fit streams d at s trees named.0 typed.0 low kept.nodes_are.one_each (named_sides_are streams item d at name key s kept sided.1 alike.0) named.1 typed.1 fits.0)
      fits.1 admits

  top_keeps : (count : ℕ) (names : List (List ℕ)) (by : List ℕ) → top_step item d at count names by ≡ Ok ps → IsDraft streams e
  top_keeps count names by h =
      let schema = schema_at d at in
      let named = takes (key_of schema names) (F.UnknownName item) (λ key.
      and_then (ok_or (column_of schema by) (F.UnknownName item)) (λ column.
      and_then (needs (is_number (column_at schema column).kind) (F.TypeClash item)) (λ u.
      and_then (needs (is_top_count count) (F.BadWindow item)) (λ u. alone d at (Top at key column count))))) ps h in
      let found = takes (column_of schema by) (F.UnknownName item) (λ column.
      and_then (needs (is_number (column_at schema column).kind) (F.TypeClash item)) (λ u.
      and_then (needs (is_top_count count) (F.BadWindow item)) (λ u. alone d at (Top at named.0 column count)))) ps named.2 in
      let fits = passes (is_number (column_at schema found.0).kind) (F.TypeClash item) (λ u.
      and_then (needs (is_top_count count) (F.BadWindow item)) (λ u. alone d at (Top at named.0 found.0 count))) ps found.2 in
      let counts = passes (is_top_count count) (F.BadWindow item) (λ u. alone d at (Top at named.0 found.0 count)) ps fits.1 in
      let both = and_parts (nat_le 1 count) (nat_le count 1000) counts.0 in
      alone_keeps (Top at named.0 found.0 count) (record {
        left_lower = low;
        right_lower = tt;
        streamed = tt;
        over_events = calm d.nodes (Top at named.0 found.0 count) refl refl;
        sound = record {
          keyed = (key_of-is schema names named.0 named.1).0;
          whole = number_column schema found.0 (column_of_low schema by found.0 found.1) (number_is_whole (column_at schema found.0).kind fits.0);
          some = leb-true 1 count both.0;
          few = leb-true count 1000 both.1;
        };
        kinds = refl;
        partnered = tt;
        counted = tt;
      }) counts.1

  coalesce_keeps : alone d at (Coalesce at) ≡ Ok ps → IsDraft streams e
  coalesce_keeps h = alone_keeps (Coalesce at) (record {
    left_lower = low;
    right_lower = tt;
    streamed = tt;
    over_events = calm d.nodes (Coalesce at) refl refl;
    sound = tt;
    kinds = refl;
    partnered = tt;
    counted = tt;
  }) h

  follow_keeps : (name : List ℕ) (key : List (List ℕ)) (within : ℕ) → follow_step item d at name key within ≡ Ok ps → IsDraft streams e
  follow_keeps name key within h =
      let sided = goes_on (sides item d at name key) (λ s.
      and_then (over_events item d at) (λ u.
      and_then (over_events item d s.right) (λ u.
      and_then (needs (nat_le 1 within) (F.BadWindow item)) (λ u.
      Ok (record { node = Follow at s.right s.left_key s.right_key within; schema = joined d at s } ∷ []))))) ps h in
      let s = sided.0 in
      let follow : Planned = record { node = Follow at s.right s.left_key s.right_key within; schema = joined d at s } in
      let level = passes (event_level d.nodes at) (F.NotEventLevel item) (λ u.
      and_then (over_events item d s.right) (λ u.
      and_then (needs (nat_le 1 within) (F.BadWindow item)) (λ u. Ok (follow ∷ [])))) ps sided.2 in
      let right_level = passes (event_level d.nodes s.right) (F.NotEventLevel item) (λ u.
      and_then (needs (nat_le 1 within) (F.BadWindow item)) (λ u. Ok (follow ∷ []))) ps level.1 in
      let lasts = passes (nat_le 1 within) (F.BadWindow item) (λ u. Ok (follow ∷ [])) ps right_level.1 in
      let are = sides_are streams item d at name key s kept sided.1 in
      one_keeps streams item d e follow ps kept (record {
        left_lower = low;
        right_lower = are.low;
        streamed = tt;
        over_events = record { on_left = λ reads. level.0; on_right = λ reads. right_level.0 };
        sound = (leb-true 1 within lasts.0, are.keys);
        kinds = kinds-join_schema (schema_at d at) (schema_at d s.right) s.right_key;
        partnered = tt;
        counted = tt;
      }) lasts.1 admits

  pub step_keeps : (s : QueryStep) → step_nodes item d at s ≡ Ok ps → IsDraft streams e
  step_keeps (S.Where tree) h = where_keeps tree h
  step_keeps (S.Select items) h = select_keeps items h
  step_keeps (S.Union name) h = union_keeps name h
  step_keeps (S.Delay by) h = delay_keeps by h
  step_keeps (S.Duration by) h = duration_keeps by h
  step_keeps (S.Extend by) h = extend_keeps by h
  step_keeps (S.Hop size period) h = hop_keeps size period h
  step_keeps (S.Session timeout key) h = session_keeps timeout key h
  step_keeps (S.Clip right key) h = clip_keeps right key h
  step_keeps (S.Join right key) h = join_keeps right key h
  step_keeps (S.Anti right key) h = anti_keeps right key h
  step_keeps (S.Group key aggs) h = group_keeps key aggs h
  step_keeps S.Coalesce h = coalesce_keeps h
  step_keeps (S.Left right key fills) h = left_keeps right key fills h
  step_keeps (S.Top count key by) h = top_keeps count key by h
  step_keeps (S.Follow right key within) h = follow_keeps right key within h

-- one more name is known
name_keeps : (streams : List StreamDef) (d : Draft) (name : List ℕ) (node : ℕ) → IsDraft streams d → node < length d.nodes → IsDraft streams (with_name d name node)
name_keeps streams d name node kept low = record {
  nodes_are = kept.nodes_are;
  named = All-push (λ n. n.node < length d.nodes) d.names (record { name = name; node = node }) kept.named low;
}

-- a draft has no fewer nodes after an item
admitted_long : (item : ℕ) (d e : Draft) (ps : List Planned) → admitted item d ps ≡ Ok e → length d.nodes + length ps ≡ length e.nodes
admitted_long item d e ps h =
    subst (λ x. length d.nodes + length ps ≡ length x.nodes) (admitted_is item d e ps h).1
    (let all = length-append d.nodes (map (λ (p : Planned). p.node) ps) in let as_many = length-map ps (λ (p : Planned). p.node) in omega (arith, all, as_many))

stream_keeps : (streams : List StreamDef) (item : ℕ) (d e : Draft) (s : StreamDef) → IsDraft streams d → item < length streams → slice_get streams item ≡ Some s → stream_planned item d s ≡ Ok e → IsDraft streams e
stream_keeps streams item d e s kept low there h =
    let p : Planned = record { node = Source item; schema = s.schema } in
    let grown = goes_on (admitted item d (p ∷ [])) (λ x. and_then (needs (not (is_taken d.names s.name)) (F.NameTaken item)) (λ u. Ok (with_name x s.name (length d.nodes)))) e h in
    let known = passes (not (is_taken d.names s.name)) (F.NameTaken item) (λ u. Ok (with_name grown.0 s.name (length d.nodes))) e grown.2 in
    let long = admitted_long item d grown.0 (p ∷ []) grown.1 in
    subst (IsDraft streams) (same_Ok (with_name grown.0 s.name (length d.nodes)) e known.1)
    (name_keeps streams grown.0 s.name (length d.nodes)
    (one_keeps streams item d grown.0 p (p ∷ []) kept (source_fit streams d.nodes d.schemas item s low there) refl grown.1)
    (omega (arith, long)))

-- the streams that are left, behind those that are done
streams_keep : (streams done left : List StreamDef) (item : ℕ) (d e : Draft) → done ++ left ≡ streams → length done ≡ item → IsDraft streams d → streams_planned item d left ≡ Ok e → IsDraft streams e
streams_keep streams done [] item d e all long kept h = subst (IsDraft streams) (same_Ok d e h) kept
streams_keep streams done (s ∷ ss) item d e all long kept h =
    let step = goes_on (stream_planned item d s) (λ x. streams_planned (suc item) x ss) e h in
    let low : item < length streams = (let whole = ap length all in let parts = length-append done (s ∷ ss) in omega (arith, whole, parts, long)) in
    let here : slice_get streams item ≡ Some s = slice_get-get_or streams item s low ∙ ap Some (ap (λ l. slice_index_or l item s) (sym all) ∙ get_or_at done s ss s item long) in
    streams_keep streams (done ++ s ∷ []) ss (suc item) step.0 e
    (append_assoc done (s ∷ []) ss ∙ all)
    (let more = length_push done s in omega (arith, more, long))
    (stream_keeps streams item d step.0 s kept low here step.1)
    step.2

-- a draft, and one of its nodes
pub record IsReached (streams : List StreamDef) (r : Reached) : Type 0 where
  pub kept : IsDraft streams r.draft
  pub low : r.at < length r.draft.nodes

reached_by : (streams : List StreamDef) (item : ℕ) (r q : Reached) (s : QueryStep) → IsReached streams r → step_planned item r s ≡ Ok q → IsReached streams q
reached_by streams item r q s reached h =
    let made = goes_on (step_nodes item r.draft r.at s) (λ ps. and_then (admitted item r.draft ps) (λ e. Ok (record { draft = e; at = length e.nodes - 1 }))) q h in
    let grown = goes_on (admitted item r.draft made.0) (λ e. Ok (record { draft = e; at = length e.nodes - 1 })) q made.2 in
    let long = admitted_long item r.draft grown.0 made.0 grown.1 in
    let some = reached.low in
    subst (IsReached streams) (same_Ok (record { draft = grown.0; at = length grown.0.nodes - 1 }) q grown.2)
    (record {
      kept = step_keeps streams item r.draft grown.0 r.at made.0 reached.kept reached.low grown.1 s made.1;
      low = omega (arith, long, some);
    })

steps_keep : (streams : List StreamDef) (steps : List QueryStep) (item : ℕ) (r q : Reached) → IsReached streams r → steps_planned item r steps ≡ Ok q → IsReached streams q
steps_keep streams [] item r q reached h = subst (IsReached streams) (same_Ok r q h) reached
steps_keep streams (s ∷ ss) item r q reached h =
    let step = goes_on (step_planned item r s) (λ x. steps_planned (suc item) x ss) q h in
    steps_keep streams ss (suc item) step.0 q (reached_by streams item r step.0 s reached step.1) step.2

let_keeps : (streams : List StreamDef) (item : ℕ) (d e : Draft) (l : Let) → IsDraft streams d → let_planned item d l ≡ Ok e → IsDraft streams e
let_keeps streams item d e l kept h =
    let base = goes_on (operand item d l.pipe.base) (λ at.
    and_then (needs (not (is_taken d.names l.name)) (F.NameTaken item)) (λ u.
    and_then (steps_planned (suc item) (record { draft = d; at = at }) l.pipe.steps) (λ r. Ok (with_name r.draft l.name r.at)))) e h in
    let known = passes (not (is_taken d.names l.name)) (F.NameTaken item) (λ u.
    and_then (steps_planned (suc item) (record { draft = d; at = base.0 }) l.pipe.steps) (λ r. Ok (with_name r.draft l.name r.at))) e base.2 in
    let piped = goes_on (steps_planned (suc item) (record { draft = d; at = base.0 }) l.pipe.steps) (λ r. Ok (with_name r.draft l.name r.at)) e known.1 in
    let reached = steps_keep streams l.pipe.steps (suc item) (record { draft = d; at = base.0 }) piped.0
    (record { kept = kept; low = operand_low streams item d l.pipe.base base.0 kept base.1 }) piped.1 in
    subst (IsDraft streams) (same_Ok (with_name piped.0.draft l.name piped.0.at) e piped.2) (name_keeps streams piped.0.draft l.name piped.0.at reached.kept reached.low)

lets_keep : (streams : List StreamDef) (lets : List Let) (body : Pipe) (item : ℕ) (d : Draft) (r : Reached) → IsDraft streams d → lets_planned item d lets body ≡ Ok r → IsReached streams r
lets_keep streams [] body item d r kept h =
    let base = goes_on (operand item d body.base) (λ at. steps_planned (suc item) (record { draft = d; at = at }) body.steps) r h in
    steps_keep streams body.steps (suc item) (record { draft = d; at = base.0 }) r (record { kept = kept; low = operand_low streams item d body.base base.0 kept base.1 }) base.2
lets_keep streams (l ∷ ls) body item d r kept h =
    let one = goes_on (let_planned item d l) (λ e. lets_planned (suc item + length l.pipe.steps) e ls body) r h in
    lets_keep streams ls body (suc item + length l.pipe.steps) one.0 r (let_keeps streams item d one.0 l kept one.1) one.2

-- streams that are admitted have no more columns than a node may have
narrow_stream : (item : ℕ) (d e : Draft) (s : StreamDef) → stream_planned item d s ≡ Ok e → length s.schema ≤ most_columns
narrow_stream item d e s h =
    let p : Planned = record { node = Source item; schema = s.schema } in
    let grown = goes_on (admitted item d (p ∷ [])) (λ x. and_then (needs (not (is_taken d.names s.name)) (F.NameTaken item)) (λ u. Ok (with_name x s.name (length d.nodes)))) e h in
    ltb-false most_columns (length s.schema) (or_parts (nat_lt most_columns (length s.schema)) false (admitted_is item d grown.0 (p ∷ []) grown.1).0.narrow).0

narrow_streams : (item : ℕ) (d e : Draft) (ss : List StreamDef) → streams_planned item d ss ≡ Ok e → AreNarrow ss
narrow_streams item d e [] h = All-nil (λ (s : StreamDef). length s.schema ≤ most_columns)
narrow_streams item d e (s ∷ ss) h =
    let step = goes_on (stream_planned item d s) (λ x. streams_planned (suc item) x ss) e h in
    All-cons (λ (x : StreamDef). length x.schema ≤ most_columns) s ss (narrow_stream item d step.0 s step.1) (narrow_streams (suc item) step.0 e ss step.2)

no_draft_kept : (streams : List StreamDef) → AreNarrow streams → IsDraft streams no_draft
no_draft_kept streams narrow = record { nodes_are = no_nodes streams narrow; named = All-nil (λ n. n.node < 0) }

-- what is planned is a plan
pub planned-IsPlan : (q : Query) (p : PlanParts) → planned q ≡ Ok p → IsPlan p
planned-IsPlan q p h =
    let sourced = goes_on (streams_planned 0 no_draft q.streams) (λ d.
    and_then (lets_planned (length q.streams) d q.lets q.body) (λ r.
    Ok (record { streams = q.streams; nodes = r.draft.nodes; schemas = r.draft.schemas; root = r.at }))) p h in
    let piped = goes_on (lets_planned (length q.streams) sourced.0 q.lets q.body) (λ r.
    Ok (record { streams = q.streams; nodes = r.draft.nodes; schemas = r.draft.schemas; root = r.at })) p sourced.2 in
    let r = piped.0 in
    let reached = lets_keep q.streams q.lets q.body (length q.streams) sourced.0 r
    (streams_keep q.streams [] q.streams 0 no_draft sourced.0 refl refl (no_draft_kept q.streams (narrow_streams 0 no_draft sourced.0 q.streams sourced.1)) sourced.1) piped.1 in
    subst IsPlan (same_Ok (record { streams = q.streams; nodes = r.draft.nodes; schemas = r.draft.schemas; root = r.at }) p piped.2)
    (record { nodes_are = reached.kept.nodes_are; rooted = reached.low })
