-- The edges of filtered and of projected rows.
use Rattle.std.proofs.Common.{◌≡◌, ℕ, ◌&&◌, Bool, true, false, List, [], ◌∷◌, map, cond, refl, ap, sym, subst}
use Rattle.std.specs.Prelude.{filter}
use Rattle.tw_rows.specs.Cells.{read_cells}
use Rattle.plan_model.specs.declared.expr.ExprNode.{ExprNode}
use Rattle.plan_model.specs.Expr.{holds, value}
use Rattle.batch.specs.Rows.{Row, edge_of, edges_of, occupied_rows, kept}
use Rattle.lane_expr.specs.Kernels.{mask_of}
use Rattle.where_select.specs.Filters.{filtered}
use Rattle.where_select.specs.Projects.{AreProjected, read_edge, projected_edge}

pub edges-filtered : (texts : List (List ℕ)) (test : List ExprNode) (rows : List Row) → edges_of (filtered texts test rows) ≡ filter (λ e. holds test (read_cells texts e.cells)) (edges_of rows)
edges-filtered texts test [] = refl
edges-filtered texts test (r ∷ rs) =
    let rest = edges-filtered texts test rs in
    elim r.occupied as (λ b. map edge_of (cond (b && holds test (read_cells texts r.cells)) (record r { occupied = b && holds test (read_cells texts r.cells) } ∷ occupied_rows (filtered texts test rs)) (occupied_rows (filtered texts test rs)))
    ≡ filter (λ e. holds test (read_cells texts e.cells)) (map edge_of (cond b (r ∷ occupied_rows rs) (occupied_rows rs)))) [
      | true ↦ elim (holds test (read_cells texts r.cells)) as (λ h. map edge_of (cond h (record r { occupied = h } ∷ occupied_rows (filtered texts test rs)) (occupied_rows (filtered texts test rs)))
          ≡ cond h (edge_of r ∷ filter (λ e. holds test (read_cells texts e.cells)) (edges_of rs)) (filter (λ e. holds test (read_cells texts e.cells)) (edges_of rs))) [
            | true ↦ ap (λ es. edge_of r ∷ es) rest
            | false ↦ rest
          ]
      | false ↦ rest
    ]

pub edges-projected : (texts : List (List ℕ)) (exprs : List (List ExprNode)) (old new : List Row) → AreProjected texts exprs old new → map (read_edge texts) (edges_of new) ≡ map (projected_edge texts exprs) (edges_of old)
edges-projected texts exprs [] [] h = refl
edges-projected texts exprs [] (n ∷ ns) h = absurd h
edges-projected texts exprs (r ∷ rs) [] h = absurd h
edges-projected texts exprs (r ∷ rs) (n ∷ ns) h =
    let rest = edges-projected texts exprs rs ns h.1 in
    let same : n.occupied ≡ r.occupied = ap (λ q. q.occupied) h.0.rest in
    let sync : n.sync ≡ r.sync = ap (λ q. q.sync) h.0.rest in
    let other : n.other ≡ r.other = ap (λ q. q.other) h.0.rest in
    let all = elim r.occupied as (λ b. (b ≡ true → read_cells texts n.cells ≡ map (λ e. value e (read_cells texts r.cells)) exprs) → map (read_edge texts) (map edge_of (cond b (n ∷ occupied_rows ns) (occupied_rows ns)))
    ≡ map (projected_edge texts exprs) (map edge_of (cond b (r ∷ occupied_rows rs) (occupied_rows rs)))) [
      | true ↦ λ read.
          let one : read_edge texts (edge_of n) ≡ projected_edge texts exprs (edge_of r) = λ i. record { sync = sync i; other = other i; values = read refl i } in
          λ i. one i ∷ rest i
      | false ↦ λ read. rest
    ] h.0.read in
    subst (λ b. map (read_edge texts) (map edge_of (cond b (n ∷ occupied_rows ns) (occupied_rows ns))) ≡ map (projected_edge texts exprs) (edges_of (r ∷ rs))) (sym same) all

and_twice : (a b : Bool) → (a && (a && b)) ≡ (a && b)
and_twice true b = refl
and_twice false b = refl

-- the rows that a mask keeps
pub kept-mask : (texts : List (List ℕ)) (test : List ExprNode) (rows : List Row) → kept rows (mask_of texts test rows) ≡ filtered texts test rows
kept-mask texts test [] = refl
kept-mask texts test (r ∷ rs) =
    let rest = kept-mask texts test rs in
    let once = and_twice r.occupied (holds test (read_cells texts r.cells)) in
    λ i. record r { occupied = once i } ∷ rest i
