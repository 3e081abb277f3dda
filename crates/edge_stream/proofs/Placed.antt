-- Cells that are placed in a table, in rows and in their edges.
use Rattle.std.proofs.Common.{◌≡◌, ◌+◌, ◌<◌, ℕ, suc, Bool, true, false, cond, List, [], ◌∷◌, ◌++◌, map, length, take, drop, get_or, refl, ap, sym, subst, ◌∙◌}
use Rattle.std.specs.Prelude.{All}
use Rattle.std.proofs.lemmas.List.{take_more}
use Rattle.std.proofs.lemmas.List.Elements.{All-nil, All-cons, All-head, All-tail, All-append}
use Rattle.tw_rows.specs.declared.edge.Edge.{Edge}
use Rattle.batch.specs.Rows.{Row, Table, edge_of, edges_of, occupied_rows}
use Rattle.edge_stream.specs.Listing.{edges_in}
use Rattle.edge_stream.proofs.Cutting.{edges_in-push, edges_in-parts, edges_in-at}

module _ (P : Edge → Type 0) where
  pub All-right : (xs ys : List Edge) → All P (xs ++ ys) → All P ys
  All-right [] ys h = h
  All-right (x ∷ xs) ys h = All-right xs ys (All-tail P x (xs ++ ys) h)

  -- what holds of the edges of rows, with more after them, holds of each row that is occupied
  pub rows_from_edges : (rows : List Row) (rest : List Edge) → All P (edges_of rows ++ rest) → All (λ r. r.occupied ≡ true → P (edge_of r)) rows
  rows_from_edges [] rest h = All-nil (λ r. r.occupied ≡ true → P (edge_of r))
  rows_from_edges (r ∷ rs) rest h = pick r.occupied refl h (rows_from_edges rs rest)
    where
      Q : Row → Type 0
      Q = λ q. q.occupied ≡ true → P (edge_of q)

      pick : (b : Bool) → r.occupied ≡ b → All P (map edge_of (cond b (r ∷ occupied_rows rs) (occupied_rows rs)) ++ rest) → (All P (edges_of rs ++ rest) → All Q rs) → All Q (r ∷ rs)
      pick true is all below = All-cons Q r rs (λ _. All-head P (edge_of r) (edges_of rs ++ rest) all) (below (All-tail P (edge_of r) (edges_of rs ++ rest) all))
      pick false is all below = All-cons Q r rs (λ set. absurd (cc)) (below all)

  pub edges_from_rows : (rows : List Row) → All (λ r. r.occupied ≡ true → P (edge_of r)) rows → All P (edges_of rows)
  edges_from_rows [] h = All-nil P
  edges_from_rows (r ∷ rs) h = pick r.occupied refl (edges_from_rows rs (All-tail (λ q. q.occupied ≡ true → P (edge_of q)) r rs h))
    where
      Q : Row → Type 0
      Q = λ q. q.occupied ≡ true → P (edge_of q)

      pick : (b : Bool) → r.occupied ≡ b → All P (edges_of rs) → All P (map edge_of (cond b (r ∷ occupied_rows rs) (occupied_rows rs)))
      pick true is below = All-cons P (edge_of r) (edges_of rs) (All-head Q r rs h is) below
      pick false is below = below

  -- what holds of the edges of all batches holds of those of each, and what holds batch by batch of all
  pub All-batch : (bs : List Table) (n : ℕ) (d : Table) → n < length bs → All P (edges_in bs) → All (λ r. r.occupied ≡ true → P (edge_of r)) (get_or bs n d).rows
  All-batch bs n d low all =
      let rest = All-right (edges_in (take n bs)) (edges_in (drop n bs)) (subst (All P) (sym (edges_in-parts n bs)) all) in
      rows_from_edges (get_or bs n d).rows (edges_in (drop (suc n) bs)) (subst (All P) (edges_in-at n bs d low) rest)

  pub All-next : (bs : List Table) (n : ℕ) (b : Table) → n < length bs → b ≡ get_or bs n b → All P (edges_in (take n bs)) → All (λ r. r.occupied ≡ true → P (edge_of r)) b.rows →
      All P (edges_in (take (n + 1) bs))
  All-next bs n b low is before here =
      subst (λ xs. All P (edges_in xs)) (ap (λ x. take n bs ++ x ∷ []) is ∙ sym (take_more bs n b low))
      (subst (All P) (sym (edges_in-push (take n bs) b)) (All-append P (edges_in (take n bs)) (edges_of b.rows) before (edges_from_rows b.rows here)))
