-- What an instant does with a side of few rows.
use Rattle.std.specs.Prelude.{◌≡◌, ℕ, ◌+◌, ◌<◌, ◌≤◌, nat_eq, nat_lt, ◌||◌, Bool, true, false, cond, List, [], ◌∷◌, ◌++◌, map, refl}
use Rattle.std.proofs.Common.{sym, ◌∙◌, ap, arith}
use Rattle.std.proofs.lemmas.Bool.{eqb-true, and_parts}
use Rattle.std.proofs.lemmas.Bool.Decides.{nat_tests}
use Rattle.std.proofs.lemmas.Grind.{flat_map-append}
use Rattle.std.proofs.lemmas.List.{append-nil}
use Rattle.tw_rows.specs.Bag.{total}
use Rattle.tw_rows.specs.Instant.{inf}
use Rattle.tw_rows.specs.declared.edge.Edge.{Edge}
use Rattle.tw_rows.specs.declared.edge.HeldRow.{HeldRow}
use Rattle.tw_rows.proofs.Bags.{total-append, total-map, total-flat_map, total-add}
use Rattle.edge_history.specs.Order.{failing, is_end}
use Rattle.edge_history.specs.Balance.{start_edge, end_edge}
use Rattle.edge_history.specs.Opens.{singles_of, ended_of, started_of, ended_rows, started_rows}
use Rattle.edge_history.proofs.Sums.{sum_eq, weaker}
use Rattle.sweep_laws.specs.Sweeps.{is_at}
use Rattle.temporal_join.specs.Few.{SidePassed}
use Rattle.temporal_join.specs.Lives.{is_begun, lasts, ends_at, end_of, end_weight, row_of}
use Rattle.temporal_join.specs.declared.lives.Life.{Life}
use Rattle.temporal_join.proofs.Living.{begun_parts}

-- the start of a row as an edge
abbrev pub begin_of : Life → Edge
begin_of l = record { sync = l.edge.sync; other = inf; cells = l.edge.cells }

-- ROWS OF ENDS AND OF STARTS
head_none : (p : Bool) (n : ℕ) → cond {A = ℕ} p 0 1 + n ≡ 0 → (p ≡ true) × (n ≡ 0)
head_none true n h = (refl, omega (arith, h))
head_none false n h = absurd (omega (arith, h))

ended_ends : (xs : List Life) → failing lasts xs ≡ 0 → ended_rows (map end_of xs) ≡ map row_of xs
ended_ends [] h = refl
ended_ends (x ∷ xs) h =
    let p = head_none (lasts x) (failing lasts xs) h in
    (λ i. cond {A = List HeldRow} (p.0 i) (row_of x ∷ []) [] ++ ended_ends xs p.1 i)

started_ends : (xs : List Life) → failing lasts xs ≡ 0 → started_rows (map end_of xs) ≡ []
started_ends [] h = refl
started_ends (x ∷ xs) h =
    let p = head_none (lasts x) (failing lasts xs) h in
    (λ i. cond {A = List HeldRow} (p.0 i) [] (record { cells = x.edge.cells; start = x.edge.other } ∷ []) ++ started_ends xs p.1 i)

begin_starts : (t : ℕ) (x : Life) → t < inf → is_begun t x.edge ≡ true → is_end (begin_of x) ≡ false
begin_starts t x low h = none inf x.edge.sync (let b = begun_parts t x.edge h in let e = b.0 in omega (arith, e, low))
  where
    none : (m n : ℕ) → n < m → nat_lt m n ≡ false
    none m n l = grind (arith, nat_tests)

started_begins : (t : ℕ) (xs : List Life) → t < inf → failing (λ l. is_begun t l.edge) xs ≡ 0 → started_rows (map begin_of xs) ≡ map row_of xs
started_begins t [] low h = refl
started_begins t (x ∷ xs) low h =
    let p = head_none (is_begun t x.edge) (failing (λ l. is_begun t l.edge) xs) h in
    (λ i. cond {A = List HeldRow} (begin_starts t x low p.0 i) [] (row_of x ∷ []) ++ started_begins t xs low p.1 i)

ended_begins : (t : ℕ) (xs : List Life) → t < inf → failing (λ l. is_begun t l.edge) xs ≡ 0 → ended_rows (map begin_of xs) ≡ []
ended_begins t [] low h = refl
ended_begins t (x ∷ xs) low h =
    let p = head_none (is_begun t x.edge) (failing (λ l. is_begun t l.edge) xs) h in
    (λ i. cond {A = List HeldRow} (begin_starts t x low p.0 i) (record { cells = x.edge.cells; start = inf } ∷ []) [] ++ ended_begins t xs low p.1 i)

-- the end of a row that ends at an instant is known
end_known : (w : Edge → ℕ) (t : ℕ) (x : Life) → t < inf → ends_at t x ≡ true → end_weight w x ≡ w (end_of x)
end_known w t x low h = ap (λ b. cond {A = ℕ} b 0 (w (end_of x))) (far x.edge.other (eqb-true x.edge.other t h))
  where
    far : (o : ℕ) → o ≡ t → nat_eq o inf ≡ false
    far o e = grind (arith, nat_tests)

-- an edge that begins a row is its start, and its end where that is known
begun_singles : (w : Edge → ℕ) (t : ℕ) (x : Life) → is_begun t x.edge ≡ true → total w (singles_of x.edge) ≡ w (begin_of x) + end_weight w x
begun_singles w t x h =
    ap (λ b. total w (cond (b || nat_eq x.edge.other inf) (x.edge ∷ []) (start_edge (record { row = x.edge.cells; start = cond b x.edge.other x.edge.sync; end = cond b x.edge.sync x.edge.other }) ∷ end_edge (record { row = x.edge.cells; start = cond b x.edge.other x.edge.sync; end = cond b x.edge.sync x.edge.other }) ∷ []))) starts
    ∙ go (nat_eq x.edge.other inf) refl
  where
    none : (m n : ℕ) → n ≤ m → nat_lt m n ≡ false
    none m n l = grind (arith, nat_tests)

    starts : nat_lt x.edge.other x.edge.sync ≡ false
    starts = none x.edge.other x.edge.sync (let b = begun_parts t x.edge h in let l = b.1 in omega (arith, l))

    go : (c : Bool) → nat_eq x.edge.other inf ≡ c →
        total w (cond c (x.edge ∷ []) (begin_of x ∷ end_of x ∷ [])) ≡ w (begin_of x) + cond c 0 (w (end_of x))
    go true f = let e = ap (λ o. w (record { sync = x.edge.sync; other = o; cells = x.edge.cells })) (eqb-true x.edge.other inf f) in omega (arith, e)
    go false f = omega arith

module _ (t : ℕ) (low : t < inf) (nl : List Edge) (begun_nl : failing (is_begun t) nl ≡ 0) (l0 l1 l2 ended begun : List Life) (at : failing (ends_at t) ended ≡ 0) (lasting : failing lasts ended ≡ 0)
    (out : (v : Life → ℕ) → total v l0 ≡ total v l1 + total v ended) (are : map (λ l. l.edge) begun ≡ nl) (put : (v : Life → ℕ) → total v l2 ≡ total v l1 + total v begun) where
  abbrev pub side_now : List Edge
  side_now = map end_of ended ++ map begin_of begun

  all_begun : failing (λ l. is_begun t l.edge) begun ≡ 0
  all_begun = sym (total-map (λ (e : Edge). cond {A = ℕ} (is_begun t e) 0 1) (λ (l : Life). l.edge) begun) ∙ (ap (failing (is_begun t)) are ∙ begun_nl)

  pub ended_are : ended_rows side_now ≡ map row_of ended
  ended_are = flat_map-append ended_of (map end_of ended) (map begin_of begun) ∙ ((λ i. ended_ends ended lasting i ++ ended_begins t begun low all_begun i) ∙ append-nil (map row_of ended))

  pub started_are : started_rows side_now ≡ map row_of begun
  started_are = flat_map-append started_of (map end_of ended) (map begin_of begun) ∙ (λ i. started_ends ended lasting i ++ started_begins t begun low all_begun i)

  pub side_passed : SidePassed t l0 l2 nl side_now
  side_passed = record {
    parts = λ w.
        let a = total-append w (map end_of ended) (map begin_of begun) in
        let b = total-map w end_of ended in
        let c = sum_eq (ends_at t) (end_weight w) (λ x. w (end_of x)) ended (λ x h. end_known w t x low h) at in
        let d = total-map w begin_of begun in
        let o = out (end_weight w) in
        let p = put (end_weight w) in
        let s = total-flat_map w singles_of nl in
        let m = ap (total (λ e. total w (singles_of e))) (sym are) ∙ total-map (λ e. total w (singles_of e)) (λ (l : Life). l.edge) begun in
        let n = sum_eq (λ l. is_begun t l.edge) (λ l. total w (singles_of l.edge)) (λ l. w (begin_of l) + end_weight w l) begun (λ x h. begun_singles w t x h) all_begun in
        let q = total-add (λ l. w (begin_of l)) (end_weight w) begun in
        omega (arith, a, b, c, d, o, p, s, m, n, q);
    at =
        let v : Edge → ℕ = λ e. cond (is_at t e) 0 1 in
        let a = total-append v (map end_of ended) (map begin_of begun) in
        let b = total-map v end_of ended in
        let d = total-map v begin_of begun in
        let n = weaker (λ l. is_begun t l.edge) (λ l. nat_eq l.edge.sync t) begun (λ x h. (and_parts (nat_eq x.edge.sync t) (nat_lt t x.edge.other) h).0) all_begun in
        omega (arith, a, b, d, n, at);
    rows = λ w.
        let a = total-map w row_of l0 in
        let b = total-map w row_of l2 in
        let d = ap (total w) started_are ∙ total-map w row_of begun in
        let o = out (λ l. w (row_of l)) in
        let p = put (λ l. w (row_of l)) in
        omega (arith, a, b, d, o, p);
  }
