-- The rows that columns of results make.
use Rattle.std.proofs.Common.{◌≡◌, ℕ, zero, suc, ◌+◌, ◌<◌, true, List, [], ◌∷◌, ◌++◌, map, length, get_or, set, pos, refl, ap, subst, arith}
use Rattle.std.specs.Prelude.{All}
use Rattle.std.proofs.lemmas.List.Elements.{All-nil, All-cons}
use Rattle.tw_rows.specs.declared.cells.Datum.{Datum}
use Rattle.tw_rows.specs.declared.cells.Datum.TheVariants.{Int}
use Rattle.tw_rows.specs.Cells.{ArePlaced, read_cells}
use Rattle.plan_model.specs.declared.expr.ExprNode.{ExprNode}
use Rattle.plan_model.specs.Expr.{value}
use Rattle.batch.specs.declared.payload.Payload.{Payload}
use Rattle.batch.specs.Payloads.{payload_data, payload_capacity, cells_at}
use Rattle.batch.specs.Rows.{Row, Table}
use Rattle.batch.specs.Columns.{IsColumn, with_cells}
use Rattle.lane_expr.specs.Running.{no_row}
use Rattle.lane_expr.specs.Kernels.{IsResult, AreResults}
use Rattle.where_select.specs.Projects.{AreProjected, AreColumns}

AreResults-at : (texts : List (List ℕ)) (e : List ExprNode) (rs : List Row) (ds : List Datum) (i : ℕ) → AreResults texts e rs ds → i < length rs → IsResult texts e (get_or rs i no_row) (get_or ds i (Int (pos 0)))
AreResults-at texts e [] ds i h lt = absurd (omega arith)
AreResults-at texts e (r ∷ rs) [] i h lt = absurd h
AreResults-at texts e (r ∷ rs) (d ∷ ds) zero h lt = h.0
AreResults-at texts e (r ∷ rs) (d ∷ ds) (suc i) h lt = AreResults-at texts e rs ds i h.1 (omega arith)

length-AreResults : (texts : List (List ℕ)) (e : List ExprNode) (rs : List Row) (ds : List Datum) → AreResults texts e rs ds → length ds ≡ length rs
length-AreResults texts e [] [] h = refl
length-AreResults texts e [] (d ∷ ds) h = absurd h
length-AreResults texts e (r ∷ rs) [] h = absurd h
length-AreResults texts e (r ∷ rs) (d ∷ ds) h = ap suc (length-AreResults texts e rs ds h.1)

-- the columns may stand in the batch
pub columns_whole : (texts : List (List ℕ)) (batch : Table) (es : List (List ExprNode)) (ps : List Payload) → AreColumns texts batch es ps → All (IsColumn (length batch.rows) batch.capacity) ps
columns_whole texts batch [] [] h = All-nil _
columns_whole texts batch [] (p ∷ ps) h = absurd h
columns_whole texts batch (e ∷ es) [] h = absurd h
columns_whole texts batch (e ∷ es) (p ∷ ps) h =
    All-cons (IsColumn (length batch.rows) batch.capacity) p ps
    (record { cells = length-AreResults texts e batch.rows (payload_data p) h.0; room = h.1 })
    (columns_whole texts batch es ps h.2)

-- one column more
pub AreColumns-push : (texts : List (List ℕ)) (batch : Table) (es : List (List ExprNode)) (ps : List Payload) (e : List ExprNode) (p : Payload) → AreColumns texts batch es ps → AreResults texts e batch.rows (payload_data p) → payload_capacity p ≡ batch.capacity → AreColumns texts batch (es ++ e ∷ []) (ps ++ p ∷ [])
AreColumns-push texts batch [] [] e p h results room = (results, room, tt)
AreColumns-push texts batch [] (q ∷ ps) e p h results room = absurd h
AreColumns-push texts batch (d ∷ es) [] e p h results room = absurd h
AreColumns-push texts batch (d ∷ es) (q ∷ ps) e p h results room = (h.0, h.1, AreColumns-push texts batch es ps e p h.2 results room)

module _ (texts : List (List ℕ)) (batch : Table) (i : ℕ) (lt : i < length batch.rows) (o : (get_or batch.rows i no_row).occupied ≡ true) where
  read_at : (es : List (List ExprNode)) (ps : List Payload) → AreColumns texts batch es ps → read_cells texts (cells_at ps i) ≡ map (λ e. value e (read_cells texts (get_or batch.rows i no_row).cells)) es
  read_at [] [] h = refl
  read_at [] (p ∷ ps) h = absurd h
  read_at (e ∷ es) [] h = absurd h
  read_at (e ∷ es) (p ∷ ps) h =
      let here = (AreResults-at texts e batch.rows (payload_data p) i h.0 lt).read o in
      rw here (ap (λ vs. value e (read_cells texts (get_or batch.rows i no_row).cells) ∷ vs) (read_at es ps h.2))

  placed_at : (es : List (List ExprNode)) (ps : List Payload) → AreColumns texts batch es ps → ArePlaced texts (cells_at ps i)
  placed_at [] [] h = tt
  placed_at [] (p ∷ ps) h = absurd h
  placed_at (e ∷ es) [] h = absurd h
  placed_at (e ∷ es) (p ∷ ps) h = ((AreResults-at texts e batch.rows (payload_data p) i h.0 lt).placed o, placed_at es ps h.2)

-- the rows from a place on, with the cells of the columns
projected_from : (texts : List (List ℕ)) (es : List (List ExprNode)) (ps : List Payload) (place : ℕ) (rs : List Row)
    → ((k : ℕ) → k < length rs → (get_or rs k no_row).occupied ≡ true → (read_cells texts (cells_at ps (place + k)) ≡ map (λ e. value e (read_cells texts (get_or rs k no_row).cells)) es) × ArePlaced texts (cells_at ps (place + k)))
    → AreProjected texts es rs (with_cells ps place rs)
projected_from texts es ps place [] h = tt
projected_from texts es ps place (r ∷ rs) h =
    let same : place + 0 ≡ place = omega arith in
    let here = λ (o : r.occupied ≡ true). subst (λ n. (read_cells texts (cells_at ps n) ≡ map (λ e. value e (read_cells texts r.cells)) es) × ArePlaced texts (cells_at ps n)) same (h 0 (omega arith) o) in (
      record { rest = refl; read = λ o. (here o).0; placed = λ o. (here o).1 },
      projected_from texts es ps (suc place) rs (λ k lt o.
          let next : place + suc k ≡ suc place + k = omega arith in
          subst (λ n. (read_cells texts (cells_at ps n) ≡ map (λ e. value e (read_cells texts (get_or rs k no_row).cells)) es) × ArePlaced texts (cells_at ps n)) next (h (suc k) (omega arith) o)),
    )

-- the rows of the batch are projected by the columns of the expressions
pub rows_projected : (texts : List (List ℕ)) (batch : Table) (es : List (List ExprNode)) (ps : List Payload) → AreColumns texts batch es ps → AreProjected texts es batch.rows (with_cells ps 0 batch.rows)
rows_projected texts batch es ps h =
    projected_from texts es ps 0 batch.rows (λ k lt o.
    let same : k ≡ 0 + k = omega arith in
    subst (λ n. (read_cells texts (cells_at ps n) ≡ map (λ e. value e (read_cells texts (get_or batch.rows k no_row).cells)) es) × ArePlaced texts (cells_at ps n)) same
    (read_at texts batch k lt o es ps h, placed_at texts batch k lt o es ps h))

pub map-nil : {X Y : Type 0} (f : X → Y) (xs : List X) → map f xs ≡ [] → xs ≡ []
map-nil f [] e = refl
map-nil f (x ∷ xs) e = absurd (cc)

pub set-same : {X : Type 0} (xs : List X) (i : ℕ) (d : X) → set xs i (get_or xs i d) ≡ xs
set-same [] zero d = refl
set-same [] (suc i) d = refl
set-same (x ∷ xs) zero d = refl
set-same (x ∷ xs) (suc i) d = ap (λ l. x ∷ l) (set-same xs i d)
