-- The places of the rows of batches.
use Rattle.std.proofs.Common.{◌≡◌, ℕ, ◌&&◌, Bool, true, false, List, [], ◌∷◌, ◌++◌, Result, Ok, Err, OnOk, OnErr, refl, ap, sym, subst}
use Rattle.std.proofs.lemmas.List.Elements.{All-push, All-nil, All-cons, All-head, All-tail}
use Rattle.tw_rows.specs.Cells.{ArePlaced}
use Rattle.batch.specs.Rows.{Row, Table, kept}
use Rattle.lane_expr.specs.Kernels.{HoldsPlaces}

first_true : (a b : Bool) → (a && b) ≡ true → a ≡ true
first_true true b h = refl
first_true false b h = h

-- rows that are kept are placed as they were
pub HoldsPlaces-kept : (texts : List (List ℕ)) (rows : List Row) (bits : List Bool) → HoldsPlaces texts rows → HoldsPlaces texts (kept rows bits)
HoldsPlaces-kept texts [] bits h = All-nil _
HoldsPlaces-kept texts (r ∷ rs) [] h = All-nil _
HoldsPlaces-kept texts (r ∷ rs) (b ∷ bs) h =
    All-cons (λ q. q.occupied ≡ true → ArePlaced texts q.cells) (record r { occupied = r.occupied && b }) (kept rs bs)
    (λ o. All-head (λ q. q.occupied ≡ true → ArePlaced texts q.cells) r rs h (first_true r.occupied b o))
    (HoldsPlaces-kept texts rs bs (All-tail (λ q. q.occupied ≡ true → ArePlaced texts q.cells) r rs h))

-- and so are they once a placed row is added, or none
pub HoldsPlaces-pushed : {A E : Type 0} (result : Result A E) (texts : List (List ℕ)) (old new : Table) (r : Row) → OnOk result (new ≡ record old { rows = old.rows ++ r ∷ [] }) → OnErr result (new ≡ old) → HoldsPlaces texts old.rows → ArePlaced texts r.cells → HoldsPlaces texts new.rows
HoldsPlaces-pushed (Ok x) texts old new r ok err h p =
    subst (HoldsPlaces texts) (sym (ap (λ t. t.rows) ok)) (All-push (λ q. q.occupied ≡ true → ArePlaced texts q.cells) old.rows r h (λ _. p))
HoldsPlaces-pushed (Err e) texts old new r ok err h p = subst (HoldsPlaces texts) (sym (ap (λ t. t.rows) err)) h
