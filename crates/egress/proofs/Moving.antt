-- The edges of an instant move the rows that are alive.
use Rattle.std.specs.Prelude.{◌≡◌, ℕ, zero, suc, nat_lt, nat_le, ◌&&◌, false, List, [], ◌∷◌, ◌++◌, map, cond, refl}
use Rattle.std.specs.Ordering.{eq_by_cmp}
use Rattle.std.proofs.Common.{sym, ◌∙◌, ap, arith}
use Rattle.std.proofs.lemmas.Bool.Decides.{nat_tests}
use Rattle.tw_rows.specs.Bag.{SameBag, total}
use Rattle.tw_rows.specs.Event.{AreEvents, alive}
use Rattle.tw_rows.specs.Rows.{Row, row_cmp}
use Rattle.tw_rows.specs.Cells.{read_cells}
use Rattle.tw_rows.specs.declared.edge.Edge.{Edge}
use Rattle.tw_rows.specs.declared.edge.HeldRow.{HeldRow}
use Rattle.tw_rows.specs.declared.cells.Datum.{Datum}
use Rattle.tw_rows.proofs.Bags.{total-map, total-flat_map, total_same}
use Rattle.edge_history.specs.History.{CellEvent}
use Rattle.edge_history.specs.Balance.{news}
use Rattle.edge_history.specs.Opens.{opens, bare, ended_of, started_of, ended_rows, started_rows}
use Rattle.edge_history.proofs.Retaining.{AreEvents-none_fails}
use Rattle.edge_history.proofs.Opening.{opens_step, alive_is_open}
use Rattle.plan_laws.specs.Places.{read_events}
use Rattle.plan_laws.proofs.Maps.{alive_to}
use Rattle.plan_model.specs.Opens.{how_often, before}
use Rattle.egress.specs.Instants.{AreMoves}
use Rattle.egress.specs.Waiting.{SameMoves}

-- the cells that edges end, edge by edge, and those that they start
pub weigh_ended : (w : List Datum → ℕ) (xs : List Edge) → total w (bare (ended_rows xs)) ≡ total (λ x. total w (bare (ended_of x))) xs
weigh_ended w xs =
    total-map w (λ h. h.cells) (ended_rows xs) ∙ total-flat_map (λ h. w h.cells) ended_of xs
    ∙ total_same _ _ xs (λ x. sym (total-map w (λ h. h.cells) (ended_of x)))

pub weigh_started : (w : List Datum → ℕ) (xs : List Edge) → total w (bare (started_rows xs)) ≡ total (λ x. total w (bare (started_of x))) xs
weigh_started w xs =
    total-map w (λ h. h.cells) (started_rows xs) ∙ total-flat_map (λ h. w h.cells) started_of xs
    ∙ total_same _ _ xs (λ x. sym (total-map w (λ h. h.cells) (started_of x)))

-- the same edges move the same rows
pub moves_of_same : (xs ys : List Edge) → SameBag xs ys → SameMoves xs ys
moves_of_same xs ys same = record {
  ended = record { weigh = λ w. weigh_ended w xs ∙ same.weigh (λ x. total w (bare (ended_of x))) ∙ sym (weigh_ended w ys) };
  started = record { weigh = λ w. weigh_started w xs ∙ same.weigh (λ x. total w (bare (started_of x))) ∙ sym (weigh_started w ys) };
}

module _ (texts : List (List ℕ)) (events : List CellEvent) where
  -- the weight of a held row whose cells are read as r
  abbrev is_read : Row → HeldRow → ℕ
  is_read r h = cond (eq_by_cmp row_cmp r (read_cells texts h.cells)) 1 0

  often_bare : (r : Row) (rows : List HeldRow) → how_often r (map (read_cells texts) (bare rows)) ≡ total (is_read r) rows
  often_bare r rows =
      total-map (λ x. cond (eq_by_cmp row_cmp r x) 1 0) (read_cells texts) (bare rows)
      ∙ total-map (λ c. cond (eq_by_cmp row_cmp r (read_cells texts c)) 1 0) (λ h. h.cells) rows

  often_alive : (r : Row) (t : ℕ) → how_often r (alive (read_events texts events) t) ≡ total (is_read r) (opens (suc t) events)
  often_alive r t =
      ap (how_often r) (alive_to (read_cells texts) events t)
      ∙ total-map (λ x. cond (eq_by_cmp row_cmp r x) 1 0) (read_cells texts) (alive events t)
      ∙ (alive_is_open t events).weigh (λ c. cond (eq_by_cmp row_cmp r (read_cells texts c)) 1 0)
      ∙ total-map (λ c. cond (eq_by_cmp row_cmp r (read_cells texts c)) 1 0) (λ h. h.cells) (opens (suc t) events)

  pub none_open : (w : HeldRow → ℕ) (es : List CellEvent) → total w (opens 0 es) ≡ 0
  none_open w [] = refl
  none_open w (e ∷ es) =
      let z : nat_lt e.start 0 ≡ false = grind (arith, nat_tests) in
      ap (λ b. total w (cond (b && nat_le 0 e.end) (record { cells = e.row; start = e.start } ∷ []) [] ++ opens 0 es)) z
      ∙ none_open w es

  often_before : (r : Row) (t : ℕ) → how_often r (before (alive (read_events texts events)) t) ≡ total (is_read r) (opens t events)
  often_before r zero = sym (none_open (is_read r) events)
  often_before r (suc t) = often_alive r t

  pub edges_move : (t : ℕ) (now : List Edge) → AreEvents events → SameMoves now (news t (suc t) events) →
      AreMoves (alive (read_events texts events)) t
      (λ r. how_often r (map (read_cells texts) (bare (ended_rows now))))
      (λ r. how_often r (map (read_cells texts) (bare (started_rows now))))
  edges_move t now valid same r =
      let w = is_read r in
      let a = often_alive r t in
      let b = often_before r t in
      let c = often_bare r (ended_rows now) in
      let d = often_bare r (started_rows now) in
      let v : List Datum → ℕ = λ c. cond (eq_by_cmp row_cmp r (read_cells texts c)) 1 0 in
      let e = sym (total-map v (λ h. h.cells) (ended_rows now)) ∙ same.ended.weigh v ∙ total-map v (λ h. h.cells) (ended_rows (news t (suc t) events)) in
      let f = sym (total-map v (λ h. h.cells) (started_rows now)) ∙ same.started.weigh v ∙ total-map v (λ h. h.cells) (started_rows (news t (suc t) events)) in
      let g = opens_step w t (suc t) events (omega arith) (AreEvents-none_fails events valid) in
      omega (arith, a, b, c, d, e, f, g)
