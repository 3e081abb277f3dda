-- The times that are kept began with left rows.
use Rattle.std.specs.Prelude.{◌≡◌, ◌⊎◌, ℕ, ◌+◌, ◌<◌, ◌≤◌, nat_lt, Bool, true, false, cond, List, [], ◌∷◌, filter, drop, take, refl}
use Rattle.std.proofs.Common.{◌∙◌, ap, arith, inl, inr}
use Rattle.std.proofs.lemmas.Bool.Decides.{nat_tests}
use Rattle.std.proofs.lemmas.List.{take-append-drop}
use Rattle.tw_rows.specs.Bag.{SameBag, total}
use Rattle.tw_rows.specs.declared.cells.Datum.{Datum}
use Rattle.tw_rows.specs.declared.edge.Edge.{Edge}
use Rattle.tw_rows.specs.declared.edge.HeldRow.{HeldRow}
use Rattle.tw_rows.specs.declared.kind.CellKind.{CellKind}
use Rattle.tw_rows.proofs.Bags.{total-filter}
use Rattle.edge_history.specs.Order.{failing, is_below}
use Rattle.edge_history.specs.Opens.{started_rows}
use Rattle.edge_history.proofs.Sums.{failing-parts}
use Rattle.sweep_laws.specs.Sweeps.{IsNext, StartsAt}
use Rattle.sweep_laws.specs.Saving.{HaveBegun}
use Rattle.sweep_laws.proofs.Stored.{started_weigh, begun_fewer, begun_more, begun_from}
use Rattle.sweep_sides.proofs.Cutting.{starts_part}

pub kept_less : (w : HeldRow → ℕ) (q : HeldRow → Bool) (rows : List HeldRow) → total w (filter q rows) ≤ total w rows
kept_less w q rows = let a = total-filter w q rows in let b = less rows in omega (arith, a, b)
  where
    one : (b : Bool) (n : ℕ) → cond b n 0 ≤ n
    one true n = omega arith
    one false n = omega arith

    less : (xs : List HeldRow) → total (λ x. cond (q x) (w x) 0) xs ≤ total w xs
    less [] = omega arith
    less (x ∷ xs) = let r = less xs in let o = one (q x) (w x) in omega (arith, r, o)

-- a time of a left row's key that is kept anew
pub times_set : (kinds : List CellKind) (to t : ℕ) (p q : HeldRow → Bool) (rows ys times new : List HeldRow) (x : HeldRow) (cells : List Datum) → t < to → filter p rows ≡ x ∷ ys → cells ≡ x.cells →
    SameBag new (record { cells = cells; start = t } ∷ filter q times) → HaveBegun kinds to rows → HaveBegun kinds to times → HaveBegun kinds to new
times_set kinds to t p q rows ys times new x cells low found same put left old =
    let row : HeldRow = record { cells = cells; start = t } in
    let a = begun_from kinds to t p rows ys x cells low found same left in
    let one : HaveBegun kinds to (row ∷ []) = started_weigh kinds to (record { cells = cells; start = t } ∷ []) ∙ omega (arith, a) in
    begun_more kinds to (filter q times) (row ∷ []) new (λ w. let b = put.weigh w in omega (arith, b)) (begun_fewer kinds to times (filter q times) (λ w. kept_less w q times) old) one

-- the next instant of due edges comes before the time before which they are due
pub next_below : (t to : ℕ) (left right : List Edge) → IsNext t left right → failing (is_below to) left ≡ 0 → failing (is_below to) right ≡ 0 → t < to
next_below t to left right next below_l below_r = pick next.found
  where
    first : (es : List Edge) → StartsAt t es → failing (is_below to) es ≡ 0 → t < to
    first [] at below = absurd at
    first (e ∷ es) at below = here (nat_lt e.sync to) refl below
      where
        here : (b : Bool) → nat_lt e.sync to ≡ b → cond b 0 1 + failing (is_below to) es ≡ 0 → t < to
        here true is h = let low : e.sync < to = grind (arith, nat_tests) in omega (arith, low, at)
        here false is h = absurd (omega (arith, h))

    pick : StartsAt t left ⊎ StartsAt t right → t < to
    pick (inl at) = first left at below_l
    pick (inr at) = first right at below_r

pub below_rest : (to i : ℕ) (due rest : List Edge) → rest ≡ drop i due → failing (is_below to) due ≡ 0 → failing (is_below to) rest ≡ 0
below_rest to i due rest is below = ap (failing (is_below to)) is ∙ (failing-parts (is_below to) (take i due) (drop i due) (ap (failing (is_below to)) (take-append-drop i due) ∙ below)).1

-- the rows so far: those at first, and those that edges started
pub begun_so_far : (kinds : List CellKind) (to i : ℕ) (rows now : List HeldRow) (due : List Edge) → ((w : HeldRow → ℕ) → total w now ≤ total w rows + total w (started_rows (take i due))) →
    HaveBegun kinds to (started_rows due) → HaveBegun kinds to rows → HaveBegun kinds to now
begun_so_far kinds to i rows now due so_far started left =
    begun_more kinds to rows (started_rows (take i due)) now so_far left (begun_fewer kinds to (started_rows due) (started_rows (take i due)) (λ w. starts_part w due i) started)
