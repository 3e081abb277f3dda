-- A group with averages: the sums with a count behind all, and the mean that divides by it.
use Rattle.std.specs.Prelude.{◌≡◌, ℕ, zero, suc, ◌+◌, ◌-◌, ◌<◌, ◌≤◌, ◌≢◌, Bool, true, false, cond, if◌then◌else◌, Option, Some, List, [], ◌∷◌, ◌++◌, map, length, take, slice_get, slice_index_or, All, refl}
use Rattle.std.specs.List.{AllPairs}
use Rattle.std.proofs.Common.{sym, ◌∙◌, ap, subst, arith, append_assoc}
use Rattle.std.proofs.Math.Seq.{take-append_seam}
use Rattle.std.proofs.lemmas.List.{length-append, length-map, length_push, map-append}
use Rattle.std.proofs.lemmas.List.Elements.{All-nil, All-cons, All-push, All-weaker}
use Rattle.std.proofs.lemmas.List.Kept.{AllPairs-cons}
use Rattle.std.proofs.lemmas.Option.{slice_get-get_or}
use Rattle.tw_rows.specs.declared.kind.CellKind.{CellKind}
use Rattle.tw_rows.specs.declared.kind.CellKind.TheVariants.{Whole}
use Rattle.tw_rows.specs.declared.schema.ColumnDef.{ColumnDef}
use Rattle.tw_rows.specs.declared.schema.StreamDef.{StreamDef}
use Rattle.tw_rows.specs.Kinds.{cell_kind_of}
use Rattle.plan_model.specs.declared.agg.Agg.{Agg}
use Rattle.plan_model.specs.declared.agg.Agg.TheVariants as A
use Rattle.plan_model.specs.declared.node.Node.{Node}
use Rattle.plan_model.specs.declared.node.Node.TheVariants.{Group, Mean}
use Rattle.plan_model.specs.IsPlan.{kinds_of_schema, kinds_at, key_kinds, IsKey, IsAggOver, AreSums, IsCountedGroup}
use Rattle.plan_model.proofs.Growing.{get_of_new}
use Rattle.query_text.specs.declared.query.QueryAgg.{QueryAgg}
use Rattle.query_plan.specs.Schemas.{group_schema, count_column, is_avg, averages_from}
use Rattle.query_plan.proofs.Fitting.{AreFitting, kinds-group_schema}
use Rattle.query_plan.specs.Draft.{Planned, Draft, schema_at}
use Rattle.query_plan.specs.Steps.{has_average, grouped}
use Rattle.query_plan.proofs.Fits.{IsFit, AllFit, calm}
use Rattle.query_plan.proofs.BothSides.{kinds_of_last}

-- a number of a list of averages lies among those of the aggregates
record IsBetween (low high c : ℕ) : Type 0 where
  from : low ≤ c
  below : c < high

lower : (low high c : ℕ) → IsBetween (suc low) high c → IsBetween low high c
lower low high c h = let f = h.from in record { from = omega (arith, f); below = h.below }

averages_lie : (at : ℕ) (aggs : List QueryAgg) (high : ℕ) → high ≡ at + length aggs → All (IsBetween at high) (averages_from at aggs)
averages_lie at [] high h = All-nil (IsBetween at high)
averages_lie at (a ∷ as') high h =
    let rest = averages_lie (suc at) as' high (omega (arith, h)) in
    let all = All-weaker (IsBetween (suc at) high) (IsBetween at high) (lower at high) (averages_from (suc at) as') rest in
    either (is_avg a.fun) all
  where
    either : (b : Bool) → All (IsBetween at high) (averages_from (suc at) as') → All (IsBetween at high) (cond b (at ∷ averages_from (suc at) as') (averages_from (suc at) as'))
    either true all = All-cons (IsBetween at high) at (averages_from (suc at) as') (record { from = omega arith; below = omega (arith, h) }) all
    either false all = all

averages_once : (at : ℕ) (aggs : List QueryAgg) → AllPairs (λ a b. a ≢ b) (averages_from at aggs)
averages_once at [] = λ i j d low high. absurd (omega (arith, high))
averages_once at (a ∷ as') =
    let rest = averages_once (suc at) as' in
    let later = All-weaker (IsBetween (suc at) (suc at + length as')) (λ c. at ≢ c) (λ c h e. let f = h.from in absurd (omega (arith, f, e))) (averages_from (suc at) as') (averages_lie (suc at) as' (suc at + length as') refl) in
    either (is_avg a.fun) later rest
  where
    either : (b : Bool) → All (λ c. at ≢ c) (averages_from (suc at) as') → AllPairs (λ a b. a ≢ b) (averages_from (suc at) as') →
        AllPairs (λ a b. a ≢ b) (cond b (at ∷ averages_from (suc at) as') (averages_from (suc at) as'))
    either true later rest = AllPairs-cons (λ a b. a ≢ b) at (averages_from (suc at) as') later rest
    either false later rest = rest

-- behind the key all columns of a group are whole numbers
whole_at : {X : Type 0} (xs : List X) (c : ℕ) → slice_index_or (map (λ (x : X). Whole) xs) c Whole ≡ Whole
whole_at [] c = refl
whole_at (x ∷ xs) zero = refl
whole_at (x ∷ xs) (suc c) = whole_at xs c

whole_behind : {X : Type 0} (front : List CellKind) (xs : List X) (c : ℕ) → length front ≤ c → slice_index_or (front ++ map (λ (x : X). Whole) xs) c Whole ≡ Whole
whole_behind [] xs c low = whole_at xs c
whole_behind (k ∷ ks) xs zero low = absurd (omega (arith, low))
whole_behind (k ∷ ks) xs (suc c) low = whole_behind ks xs c (omega (arith, low))

-- the averages among the columns of a group that has so many aggregates and a count behind them
sums_are : (kinds front : List CellKind) (aggs : List QueryAgg) (computed : List Agg) → kinds ≡ front ++ map (λ (a : Agg). Whole) (computed ++ A.Count ∷ []) → length computed ≡ length aggs →
    AreSums kinds (averages_from (length front) aggs)
sums_are kinds front aggs computed same long =
    let lie = averages_lie (length front) aggs (length front + length aggs) refl in
    let size : length kinds ≡ length front + length aggs + 1 =
    (let a = ap length same in let b = length-append front (map (λ (a : Agg). Whole) (computed ++ A.Count ∷ [])) in let c = length-map (computed ++ A.Count ∷ []) (λ (a : Agg). Whole) in let d = length_push computed A.Count in omega (arith, a, b, c, d, long)) in
    record {
      before_last = All-weaker (IsBetween (length front) (length front + length aggs)) (λ c. c + 1 < length kinds) (λ c h. let b = h.below in omega (arith, b, size)) (averages_from (length front) aggs) lie;
      whole = All-weaker (IsBetween (length front) (length front + length aggs)) (λ c. slice_get kinds c ≡ Some Whole)
          (λ c h. let b = h.below in
          slice_get-get_or kinds c Whole (omega (arith, b, size))
          ∙ ap Some (ap (λ l. slice_index_or l c Whole) same ∙ whole_behind front (computed ++ A.Count ∷ []) c h.from))
          (averages_from (length front) aggs) lie;
      once = averages_once (length front) aggs;
    }

counted_kinds : (schema : List ColumnDef) (key : List ℕ) (aggs : List QueryAgg) (computed : List Agg) → AreFitting schema aggs computed →
    kinds_of_schema (group_schema schema key aggs computed ++ count_column ∷ []) ≡ key_kinds (kinds_of_schema schema) key ++ map (λ (a : Agg). Whole) (computed ++ A.Count ∷ [])
counted_kinds schema key aggs computed fit =
    map-append (λ (c : ColumnDef). cell_kind_of c.kind) (group_schema schema key aggs computed) (count_column ∷ [])
    ∙ (ap (λ l. l ++ Whole ∷ []) (kinds-group_schema schema key aggs computed fit)
    ∙ (append_assoc (key_kinds (kinds_of_schema schema) key) (map (λ (a : Agg). Whole) computed) (Whole ∷ [])
    ∙ ap (λ l. key_kinds (kinds_of_schema schema) key ++ l) (sym (map-append (λ (a : Agg). Whole) computed (A.Count ∷ [])))))

-- the mean is the group without the count
mean_kinds : (schema : List ColumnDef) (kinds : List CellKind) → kinds ≡ kinds_of_schema schema ++ Whole ∷ [] → kinds_of_schema schema ≡ take (length kinds - 1) kinds
mean_kinds schema kinds same =
    let front = kinds_of_schema schema in
    let size : length kinds - 1 ≡ length front = (let a = ap length same in let b = length_push front Whole in omega (arith, a, b)) in
    sym (ap (λ n. take n kinds) size ∙ (ap (take (length front)) same ∙ take-append_seam front (Whole ∷ [])))

-- the nodes of a group fit behind those of a draft
pub grouped_fit : (streams : List StreamDef) (d : Draft) (at : ℕ) (key : List ℕ) (aggs : List QueryAgg) (computed : List Agg) → at < length d.nodes → length d.schemas ≡ length d.nodes → IsKey (kinds_at d.schemas at) key → AreFitting (schema_at d at) aggs computed →
    AllFit streams d.nodes d.schemas (grouped d at key aggs computed)
grouped_fit streams d at key aggs computed low one_each keyed fit = go (has_average aggs)
  where
    schema : List ColumnDef
    schema = group_schema (schema_at d at) key aggs computed

    counted : Planned
    counted = record { node = Group at key (computed ++ A.Count ∷ []); schema = schema ++ count_column ∷ [] }

    mean : Planned
    mean = record { node = Mean (length d.nodes) (averages_from (length key) aggs); schema = schema }

    plain : Planned
    plain = record { node = Group at key computed; schema = schema }

    group_fits : (gs : List Agg) (s : List ColumnDef) → All (IsAggOver (kinds_at d.schemas at)) gs → kinds_of_schema s ≡ key_kinds (kinds_at d.schemas at) key ++ map (λ (a : Agg). Whole) gs → IsFit streams d.nodes d.schemas (Group at key gs) s
    group_fits gs s sound same = record {
      left_lower = low;
      right_lower = tt;
      streamed = tt;
      over_events = calm d.nodes (Group at key gs) refl refl;
      sound = (keyed, sound);
      kinds = same;
      partnered = tt;
      counted = tt;
    }

    mean_fits : IsFit streams (d.nodes ++ counted.node ∷ []) (d.schemas ++ counted.schema ∷ []) mean.node mean.schema
    mean_fits =
        let nodes = d.nodes ++ counted.node ∷ [] in
        let kinds = kinds_at (d.schemas ++ counted.schema ∷ []) (length d.nodes) in
        let front = key_kinds (kinds_at d.schemas at) key in
        let last : kinds ≡ kinds_of_schema counted.schema = kinds_of_last d.schemas counted.schema (length d.nodes) one_each in
        let long : length front ≡ length key = length-map key (λ column. slice_index_or (kinds_at d.schemas at) column Whole) in
        let more = length_push d.nodes counted.node in
        record {
          left_lower = omega (arith, more);
          right_lower = tt;
          streamed = tt;
          over_events = calm nodes mean.node refl refl;
          sound = subst (λ n. AreSums kinds (averages_from n aggs)) long (sums_are kinds front aggs computed (last ∙ counted_kinds (schema_at d at) key aggs computed fit) fit.long);
          kinds = mean_kinds schema kinds (last ∙ map-append (λ (c : ColumnDef). cell_kind_of c.kind) schema (count_column ∷ []));
          partnered = tt;
          counted = subst IsCountedGroup (sym (get_of_new d.nodes counted.node)) (computed, refl);
        }

    go : (b : Bool) → AllFit streams d.nodes d.schemas (cond b (counted ∷ mean ∷ []) (plain ∷ []))
    go true = (group_fits (computed ++ A.Count ∷ []) counted.schema (All-push (IsAggOver (kinds_at d.schemas at)) computed A.Count fit.sound tt) (counted_kinds (schema_at d at) key aggs computed fit), (mean_fits, tt))
    go false = (group_fits computed schema fit.sound (kinds-group_schema (schema_at d at) key aggs computed fit), tt)
