-- The edges of a list of batches, and what they are where a batch changes.
use Rattle.std.proofs.Common.{◌≡◌, ◌<◌, ℕ, zero, suc, List, [], ◌∷◌, ◌++◌, length, get_or, take, drop, set, refl, ap, sym, ◌∙◌, arith, append_assoc, append-nil, drop-cons}
use Rattle.std.proofs.lemmas.Grind.{flat_map-append}
use Rattle.std.proofs.lemmas.List.{take-append-drop}
use Rattle.tw_rows.specs.declared.edge.Edge.{Edge}
use Rattle.batch.specs.Rows.{Table, edges_of}
use Rattle.edge_stream.specs.Listing.{edges_in}

pub edges_in-append : (xs ys : List Table) → edges_in (xs ++ ys) ≡ edges_in xs ++ edges_in ys
edges_in-append xs ys = flat_map-append (λ b. edges_of b.rows) xs ys

pub edges_in-push : (xs : List Table) (b : Table) → edges_in (xs ++ b ∷ []) ≡ edges_in xs ++ edges_of b.rows
edges_in-push xs b = edges_in-append xs (b ∷ []) ∙ ap (λ l. edges_in xs ++ l) (append-nil (edges_of b.rows))

-- the edges up to a place, and those after it
pub edges_in-parts : (n : ℕ) (xs : List Table) → edges_in (take n xs) ++ edges_in (drop n xs) ≡ edges_in xs
edges_in-parts n xs = sym (edges_in-append (take n xs) (drop n xs)) ∙ ap edges_in (take-append-drop n xs)

pub edges_in-at : (n : ℕ) (xs : List Table) (d : Table) → n < length xs → edges_in (drop n xs) ≡ edges_of (get_or xs n d).rows ++ edges_in (drop (suc n) xs)
edges_in-at n xs d lt = ap edges_in (drop-cons xs n d lt)

-- with another batch at the place
pub take-set : (xs : List Table) (n : ℕ) (b : Table) → take n (set xs n b) ≡ take n xs
take-set [] zero b = refl
take-set [] (suc n) b = refl
take-set (x ∷ xs) zero b = refl
take-set (x ∷ xs) (suc n) b = ap (λ l. x ∷ l) (take-set xs n b)

pub drop-set : (xs : List Table) (n : ℕ) (b : Table) → n < length xs → drop n (set xs n b) ≡ b ∷ drop (suc n) xs
drop-set [] n b lt = absurd (omega arith)
drop-set (x ∷ xs) zero b lt = refl
drop-set (x ∷ xs) (suc n) b lt = drop-set xs n b (omega arith)

-- with more edges in the last batch
pub edges_in-extended : (xs : List Table) (k : ℕ) (b new : Table) (es : List Edge) → suc k ≡ length xs → b ≡ get_or xs k b → edges_of new.rows ≡ edges_of b.rows ++ es → edges_in (set xs k new) ≡ edges_in xs ++ es
edges_in-extended [] k b new es last is more = absurd (omega (arith, last))
edges_in-extended (x ∷ []) zero b new es last is more =
    append-nil (edges_of new.rows) ∙ more ∙ ap (λ t. edges_of t.rows ++ es) is ∙ ap (λ l. l ++ es) (sym (append-nil (edges_of x.rows)))
edges_in-extended (x ∷ []) (suc k) b new es last is more = absurd (omega (arith, last))
edges_in-extended (x ∷ y ∷ ys) zero b new es last is more = absurd (omega (arith, last))
edges_in-extended (x ∷ y ∷ ys) (suc k) b new es last is more =
    ap (λ l. edges_of x.rows ++ l) (edges_in-extended (y ∷ ys) k b new es (omega (arith, last)) is more) ∙ sym (append_assoc (edges_of x.rows) (edges_in (y ∷ ys)) es)

-- with one edge more there
pub edges_in-last : (xs : List Table) (k : ℕ) (b new : Table) (e : Edge) → suc k ≡ length xs → b ≡ get_or xs k b → edges_of new.rows ≡ edges_of b.rows ++ e ∷ [] → edges_in (set xs k new) ≡ edges_in xs ++ e ∷ []
edges_in-last xs k b new e last is more = edges_in-extended xs k b new (e ∷ []) last is more
