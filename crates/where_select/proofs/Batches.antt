-- What stages make of batches.
use Rattle.std.proofs.Common.{◌≡◌, ◌≤◌, ℕ, arith, Bool, true, false, List, [], ◌∷◌, ◌++◌, map, length, cond, refl, ap, sym, subst, ◌∙◌, append_assoc}
use Rattle.std.specs.Prelude.{max, All}
use Rattle.std.proofs.lemmas.List.Elements.{All-nil, All-cons, All-head, All-tail, All-filter}
use Rattle.tw_rows.specs.Cells.{ArePlaced, read_cells}
use Rattle.tw_rows.specs.Kinds.{cell_kind_of}
use Rattle.tw_rows.specs.declared.edge.Edge.{Edge}
use Rattle.tw_rows.specs.declared.kind.CellKind.{CellKind}
use Rattle.tw_rows.specs.declared.kind.CellKind.TheVariants.{Whole, Bit, Place}
use Rattle.batch.specs.Rows.{Row, Table, edge_of, edges_of, occupied_rows}
use Rattle.batch.specs.PoolsView.{PoolsView, free_of, given, all_taken, all_given}
use Rattle.batch.proofs.PoolLaws.{NoMore-all}
use Rattle.edge_stream.proofs.Filling.{all_given-capacity, all_given-limit}
use Rattle.plan_model.specs.declared.expr.ExprNode.{ExprNode}
use Rattle.plan_model.specs.declared.node.Node.{Node}
use Rattle.plan_model.specs.Expr.{holds}
use Rattle.plan_model.specs.IsPlan.{node_kinds}
use Rattle.plan_model.specs.Typed.{kind_of}
use Rattle.lane_expr.specs.Steps.{expr_of}
use Rattle.lane_expr.specs.Kernels.{Program, CanRead, HoldsPlaces, result_kind, kind_for}
use Rattle.lane_expr.proofs.Typing.{kind_of-texts}
use Rattle.where_select.specs.Filters.{FilterView, filtered}
use Rattle.where_select.specs.Projects.{AreProjected, exprs_of, is_same_kind, many, Lacks}
use Rattle.where_select.proofs.Edges.{edges-filtered, edges-projected}
use Rattle.where_select.specs.declared.row_stage.RowStage.{RowStage}
use Rattle.plan_laws.specs.Places.{EdgesArePlaced}
use Rattle.plan_laws.specs.Selected.{AreSelected}
use Rattle.where_select.specs.Made.{IsMade}
use Rattle.where_select.proofs.MadeEdges.{selected_of}
use Rattle.where_select.specs.Stages.{ArePlain, IsFor, IsWhereOf, IsSelectOf, IsStageOf}

-- where the edges have their places, the occupied rows do
pub rows_placed : (texts : List (List ℕ)) (rows : List Row) → EdgesArePlaced texts (edges_of rows) → HoldsPlaces texts rows
rows_placed texts [] h = All-nil _
rows_placed texts (r ∷ rs) h = pick r.occupied refl h (rows_placed texts rs)
  where
    pick : (b : Bool) → r.occupied ≡ b → All (λ e. ArePlaced texts e.cells) (map edge_of (cond b (r ∷ occupied_rows rs) (occupied_rows rs))) → (EdgesArePlaced texts (edges_of rs) → HoldsPlaces texts rs) → HoldsPlaces texts (r ∷ rs)
    pick true o k rest =
        All-cons (λ q. q.occupied ≡ true → ArePlaced texts q.cells) r rs (λ _. All-head (λ e. ArePlaced texts e.cells) (edge_of r) (edges_of rs) k)
        (rest (All-tail (λ e. ArePlaced texts e.cells) (edge_of r) (edges_of rs) k))
    pick false o k rest = All-cons (λ q. q.occupied ≡ true → ArePlaced texts q.cells) r rs (λ yes. absurd (cc)) (rest k)

-- filtered edges have their places
pub filtered_placed : (texts : List (List ℕ)) (test : List ExprNode) (rows new : List Row) → new ≡ filtered texts test rows → EdgesArePlaced texts (edges_of rows) → EdgesArePlaced texts (edges_of new)
filtered_placed texts test rows new e h =
    subst (EdgesArePlaced texts) (sym (ap edges_of e ∙ edges-filtered texts test rows))
    (All-filter (λ x. holds test (read_cells texts x.cells)) (λ x. ArePlaced texts x.cells) (edges_of rows) h)

-- and so have projected edges
pub projected_placed : (texts : List (List ℕ)) (exprs : List (List ExprNode)) (old new : List Row) → AreProjected texts exprs old new → EdgesArePlaced texts (edges_of new)
projected_placed texts exprs [] [] h = All-nil _
projected_placed texts exprs [] (n ∷ ns) h = absurd h
projected_placed texts exprs (r ∷ rs) [] h = absurd h
projected_placed texts exprs (r ∷ rs) (n ∷ ns) h = pick n.occupied (ap (λ q. q.occupied) (sym h.0.rest)) (projected_placed texts exprs rs ns h.1)
  where
    pick : (b : Bool) → r.occupied ≡ b → EdgesArePlaced texts (edges_of ns) → All (λ e. ArePlaced texts e.cells) (map edge_of (cond b (n ∷ occupied_rows ns) (occupied_rows ns)))
    pick true o rest = All-cons (λ e. ArePlaced texts e.cells) (edge_of n) (edges_of ns) (h.0.placed o) rest
    pick false o rest = rest

-- a filter and its batch
module _ (texts : List (List ℕ)) (capacity : ℕ) (kinds : List CellKind) (n : Node) (f : FilterView) (is : IsWhereOf texts capacity kinds n f) where
  pub filter_reads : (batch : Table) → batch.kinds ≡ kinds → length batch.rows ≤ capacity → EdgesArePlaced texts (edges_of batch.rows) → CanRead texts f.test batch
  filter_reads batch alike within placed = record {
    kinds = alike ∙ sym is.filter.suited.alike;
    rows = subst (λ m. length batch.rows ≤ m) (sym is.filter.suited.rows) within;
    steps = is.filter.kernel.placed;
    cells = rows_placed texts batch.rows placed;
  }

  pub filter_room : (rows : List Row) → length rows ≤ capacity → length rows ≤ f.capacity
  filter_room rows within = subst (λ m. length rows ≤ m) (sym is.filter.room) within

  pub filter_made : (rows new : List Row) → new ≡ filtered texts (expr_of texts f.test.steps) rows → IsMade texts n (edges_of rows) (edges_of new)
  filter_made rows new e =
      subst (λ m. IsMade texts m (edges_of rows) (edges_of new)) (sym is.is)
      (ap edges_of (e ∙ ap (λ x. filtered texts x rows) is.filter.kernel.same) ∙ edges-filtered texts is.test rows)

  pub filter_kinds : kinds ≡ node_kinds n kinds []
  filter_kinds = subst (λ m. kinds ≡ node_kinds m kinds []) (sym is.is) refl

kinds-exprs : (texts : List (List ℕ)) (capacity : ℕ) (kinds : List CellKind) (ks : List Program) → All (IsFor capacity kinds) ks → map result_kind ks ≡ map (λ e. kind_of e kinds) (exprs_of texts ks)
kinds-exprs texts capacity kinds [] h = refl
kinds-exprs texts capacity kinds (k ∷ ks) h =
    let here : result_kind k ≡ kind_of (expr_of texts k.steps) kinds = kind_of-texts k.kinds texts k.steps ∙ ap (kind_of (expr_of texts k.steps)) (All-head (IsFor capacity kinds) k ks h).alike in
    let rest = kinds-exprs texts capacity kinds ks (All-tail (IsFor capacity kinds) k ks h) in
    λ i. here i ∷ rest i

stored : (k : CellKind) → cell_kind_of (kind_for k) ≡ k
stored Whole = refl
stored Bit = refl
stored Place = refl

-- results are stored as their kinds say
pub results_stored : (ks : List Program) → map cell_kind_of (map (λ k. kind_for (result_kind k)) ks) ≡ map result_kind ks
results_stored [] = refl
results_stored (k ∷ ks) = let here = stored (result_kind k) in let rest = results_stored ks in λ i. here i ∷ rest i

-- and are plain
pub results_plain : (ks : List Program) → ArePlain (map (λ k. kind_for (result_kind k)) ks)
results_plain [] = refl
results_plain (k ∷ ks) =
    let here = ap kind_for (sym (stored (result_kind k))) in
    let rest = results_plain ks in
    λ i. here i ∷ rest i

-- a projection and its batch
module _ (texts : List (List ℕ)) (capacity : ℕ) (kinds : List CellKind) (n : Node) (ks : List Program) (is : IsSelectOf texts capacity kinds n ks) where
  pub project_reads : (batch : Table) → batch.kinds ≡ kinds → length batch.rows ≤ capacity → EdgesArePlaced texts (edges_of batch.rows) → All (λ k. CanRead texts k batch) ks
  project_reads batch alike within placed =
      λ i d lt. record {
        kinds = alike ∙ sym (is.project.suited i d lt).alike;
        rows = subst (λ m. length batch.rows ≤ m) (sym (is.project.suited i d lt).rows) within;
        steps = is.project.placed i d lt;
        cells = rows_placed texts batch.rows placed;
      }

  pub project_made : (rows new : List Row) → AreProjected texts (exprs_of texts ks) rows new → IsMade texts n (edges_of rows) (edges_of new)
  project_made rows new h =
      let placed = projected_placed texts (exprs_of texts ks) rows new h in
      subst (λ m. IsMade texts m (edges_of rows) (edges_of new)) (sym is.is) (
        subst (λ x. AreSelected texts x (edges_of rows) (edges_of new)) is.project.same
            (selected_of texts (exprs_of texts ks) (edges_of rows) (edges_of new) (edges-projected texts (exprs_of texts ks) rows new h)),
        placed,
      )

  pub project_kinds : map result_kind ks ≡ node_kinds n kinds []
  project_kinds =
      subst (λ m. map result_kind ks ≡ node_kinds m kinds []) (sym is.is)
      (kinds-exprs texts capacity kinds ks is.project.suited ∙ ap (map (λ e. kind_of e kinds)) is.project.same)

-- the same stage for equal kinds and as many rows
pub stage_same : (texts : List (List ℕ)) (c d : ℕ) (kinds others : List CellKind) (n : Node) (s t : RowStage) → c ≡ d → kinds ≡ others → s ≡ t → IsStageOf texts c kinds n s → IsStageOf texts d others n t
stage_same texts c d kinds others n s t e f g is =
    subst (λ x. IsStageOf texts d others n x) g (subst (λ x. IsStageOf texts d x n s) f (subst (λ x. IsStageOf texts x kinds n s) e is))

-- the pools keep their capacity
pub pools_kept : (old new : PoolsView) (ks ls : List CellKind) → new ≡ all_given (all_taken old ks) ls → new.capacity ≡ old.capacity
pools_kept old new ks ls given = ap (λ s. s.capacity) given ∙ all_given-capacity (all_taken old ks) ls ∙ (NoMore-all old ks).capacity

pub limit_kept : (old new : PoolsView) (ks ls : List CellKind) → new ≡ all_given (all_taken old ks) ls → new.limit ≡ old.limit
limit_kept old new ks ls given = ap (λ s. s.limit) given ∙ all_given-limit (all_taken old ks) ls ∙ (NoMore-all old ks).limit

at_most_one : (b : Bool) → cond b 1 0 ≤ 1
at_most_one true = omega arith
at_most_one false = omega arith

few_of : (kind : CellKind) (ks : List CellKind) → many kind ks ≤ length ks
few_of kind [] = omega arith
few_of kind (k ∷ ks) =
    let rest = few_of kind ks in
    let one = at_most_one (is_same_kind kind k) in
    omega (arith, rest, one)

-- pools that were refilled lack no column
abbrev refilled : PoolsView → ℕ → PoolsView
refilled s n = record s { words = max s.words n; ints = max s.ints n; bits = max s.bits n; occupancies = max s.occupancies n }

free_then : (s : PoolsView) (n : ℕ) (kind : CellKind) → n ≤ free_of (refilled s n) kind
free_then s n Whole = omega arith
free_then s n Bit = omega arith
free_then s n Place = omega arith

pub no_lack : (s new : PoolsView) (n : ℕ) (ks : List CellKind) → n ≡ length ks → new ≡ refilled s n → Lacks new ks → ⊥
no_lack s new n ks count is lacks =
    let few = few_of lacks.0 ks in
    let free = subst (λ t. n ≤ free_of t lacks.0) (sym is) (free_then s n lacks.0) in
    let less = lacks.1 in
    omega (arith, few, free, less, count)

-- parts of edges that have their places
pub places_front : (texts : List (List ℕ)) (es xs ys : List Edge) → es ≡ xs ++ ys → EdgesArePlaced texts es → EdgesArePlaced texts xs
places_front texts es xs ys e h = left xs (subst (EdgesArePlaced texts) e h)
  where
    left : (xs : List Edge) → EdgesArePlaced texts (xs ++ ys) → EdgesArePlaced texts xs
    left [] k = All-nil _
    left (x ∷ xs) k =
        All-cons (λ q. ArePlaced texts q.cells) x xs (All-head (λ q. ArePlaced texts q.cells) x (xs ++ ys) k)
        (left xs (All-tail (λ q. ArePlaced texts q.cells) x (xs ++ ys) k))

pub places_back : (texts : List (List ℕ)) (es xs ys : List Edge) → es ≡ xs ++ ys → EdgesArePlaced texts es → EdgesArePlaced texts ys
places_back texts es xs ys e h = right xs (subst (EdgesArePlaced texts) e h)
  where
    right : (xs : List Edge) → EdgesArePlaced texts (xs ++ ys) → EdgesArePlaced texts ys
    right [] k = k
    right (x ∷ xs) k = right xs (All-tail (λ q. ArePlaced texts q.cells) x (xs ++ ys) k)

-- the edges of one batch more are taken
pub all_taken_in : (done left now rest all : List Edge) → done ++ left ≡ all → left ≡ now ++ rest → all ≡ (done ++ now) ++ rest
all_taken_in done left now rest all parts next = sym parts ∙ ap (λ l. done ++ l) next ∙ sym (append_assoc done now rest)
