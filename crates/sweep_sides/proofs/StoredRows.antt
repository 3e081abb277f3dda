-- Events whose rows columns of the kinds store.
use Rattle.std.specs.Prelude.{◌≡◌, ℕ, Bool, true, false, cond, IsTrue, List, [], ◌∷◌, map, All, refl}
use Rattle.std.proofs.Common.{ap, arith}
use Rattle.std.proofs.lemmas.List.Elements.{All-weaker}
use Rattle.tw_rows.specs.Cells.{datum_kind}
use Rattle.tw_rows.specs.declared.cells.Datum.{Datum}
use Rattle.tw_rows.specs.declared.edge.Edge.{Edge}
use Rattle.tw_rows.specs.declared.kind.CellKind.{CellKind}
use Rattle.edge_history.specs.History.{CellEvent, of}
use Rattle.edge_history.specs.Order.{failing}
use Rattle.edge_history.proofs.Sums.{failing-All}
use Rattle.plan_laws.proofs.Standing.{all_of}
use Rattle.plan_laws.proofs.RowsOf.{Rows}
use Rattle.sweep_laws.specs.Saving.{store_all}
use Rattle.sweep_laws.proofs.Stored.{kinds_stored}

-- columns of these kinds store the row of the event
abbrev pub row_stored : List CellKind → CellEvent → Bool
row_stored kinds e = store_all kinds e.row

-- columns of these kinds store the cells
abbrev pub Stored : List CellKind → List Datum → Type 0
Stored kinds cells = store_all kinds cells ≡ true

pub rows_stored : (kinds : List CellKind) (es : List CellEvent) → failing (λ e. store_all kinds e.row) es ≡ 0 → Rows (Stored kinds) es
rows_stored kinds [] h = tt
rows_stored kinds (e ∷ es) h = (one (store_all kinds e.row) (omega (arith, h)), rows_stored kinds es (omega (arith, h)))
  where
    one : (b : Bool) → cond {A = ℕ} b 0 1 ≡ 0 → b ≡ true
    one true z = refl
    one false z = absurd (omega (arith, z))

pub stored_rows : (kinds : List CellKind) (es : List CellEvent) → Rows (Stored kinds) es → failing (λ e. store_all kinds e.row) es ≡ 0
stored_rows kinds [] h = refl
stored_rows kinds (e ∷ es) h =
    let a = ap (λ b. cond {A = ℕ} b 0 1) h.0 in
    let b = stored_rows kinds es h.1 in
    omega (arith, a, b)

-- the events of edges have the columns of the edges
pub events_stored : (kinds : List CellKind) (h : List Edge) → All (λ e. map datum_kind e.cells ≡ kinds) h → failing (λ e. store_all kinds e.row) (of h) ≡ 0
events_stored kinds h cells =
    (failing-All (λ (e : CellEvent). store_all kinds e.row) (of h)).1 (all_of (λ cells. IsTrue (store_all kinds cells)) h
    (All-weaker (λ (e : Edge). map datum_kind e.cells ≡ kinds) (λ (e : Edge). IsTrue (store_all kinds e.cells)) (λ e k. kinds_stored kinds e.cells k) h cells))
