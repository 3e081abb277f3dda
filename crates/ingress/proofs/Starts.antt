-- A start edge that is taken out of edges that wait.
use Rattle.std.specs.Prelude.{◌≡◌, ℕ, zero, suc, ◌+◌, ◌*◌, ◌<◌, nat_eq, not, ◌&&◌, Bool, true, false, cond, unwrap_or, get_or, take, drop, length, Some, None, List, [], ◌∷◌, ◌++◌, Vec, refl}
use Rattle.std.specs.Ordering.{nat_cmp, is_eq}
use Rattle.std.specs.declared.cmp.Ordering.{Ordering}
use Rattle.std.specs.declared.cmp.Ordering.TheVariants.{Less, Equal, Greater}
use Rattle.std.specs.Map.{lookup}
use Rattle.std.specs.BTreeMap.{is_at}
use Rattle.std.proofs.Common.{sym, ◌∙◌, ap, subst, arith}
use Rattle.std.proofs.lemmas.Bool.{and_parts, eqb-true}
use Rattle.std.proofs.lemmas.Bool.Decides.{nat_tests}
use Rattle.std.proofs.lemmas.Cmp.{ranked}
use Rattle.tw_rows.specs.Instant.{inf}
use Rattle.tw_rows.specs.Bag.{total, SameBag}
use Rattle.tw_rows.specs.SameCells.{same_cells}
use Rattle.tw_rows.specs.declared.cells.Datum.{Datum}
use Rattle.tw_rows.specs.declared.edge.Edge.{Edge}
use Rattle.tw_rows.proofs.Bags.{total-append}
use Rattle.tw_rows.proofs.Fronts.{total_more}
use Rattle.edge_history.specs.Order.{rank, is_end, failing, many, starts_it}
use Rattle.edge_stream.proofs.Gone.{start_is}
use Rattle.ingress.specs.Ranks.{has_rank, AreRanked, edges_at}

module _ (cells : List Datum) (start : ℕ) where
  start_rank : (e : Edge) → starts_it cells start e ≡ true → rank e ≡ 2 * start + 1
  start_rank e h =
      let p = and_parts (nat_eq e.other inf) (not (is_end e) && (same_cells e.cells cells && nat_eq e.sync start)) h in
      let q = and_parts (not (is_end e)) (same_cells e.cells cells && nat_eq e.sync start) p.1 in
      let r = and_parts (same_cells e.cells cells) (nat_eq e.sync start) q.1 in
      let s = eqb-true e.sync start r.1 in
      go (is_end e) q.0 s
    where
      go : (b : Bool) → not b ≡ true → e.sync ≡ start → 2 * e.sync + cond b 0 1 ≡ 2 * start + 1
      go true f s = absurd (cc)
      go false f s = omega (arith, s)

  elsewhere : (r : ℕ) (es : List Edge) → failing (has_rank r) es ≡ 0 → (r ≡ 2 * start + 1 → ⊥) → many (starts_it cells start) es ≡ 0
  elsewhere r [] h apart = refl
  elsewhere r (e ∷ es) h apart =
      let is : rank e ≡ r = grind (arith, nat_tests) in
      let others : failing (has_rank r) es ≡ 0 = grind (arith, nat_tests) in
      go (starts_it cells start e) refl is (elsewhere r es others apart)
    where
      go : (b : Bool) → starts_it cells start e ≡ b → rank e ≡ r → many (starts_it cells start) es ≡ 0 → cond b 1 0 + many (starts_it cells start) es ≡ 0
      go true f is rest = absurd (apart (sym is ∙ start_rank e f))
      go false f is rest = omega (arith, rest)

  module _ {S : Type 0} where
    none_above : (low : ℕ) (es : List (ℕ × Vec Edge S)) → 2 * start + 1 < low → AreRanked low es → many (starts_it cells start) (edges_at es) ≡ 0
    none_above low [] less h = refl
    none_above low (x ∷ es) less h =
        let a = total-append (λ e. cond (starts_it cells start e) 1 0) x.1.items (edges_at es) in
        let b = elsewhere x.0 x.1.items h.1 (λ e. omega (arith, e, less, h.0)) in
        let c = none_above (suc x.0) es (omega (arith, less, h.0)) h.2 in
        omega (arith, a, b, c)

    -- no such start where there is none among those of its rank
    pub none_there : (k low : ℕ) (es : List (ℕ × Vec Edge S)) → k ≡ 2 * start + 1 → AreRanked low es →
        ((q : Vec Edge S) → lookup (is_at (nat_cmp k)) es ≡ Some q → many (starts_it cells start) q.items ≡ 0) → many (starts_it cells start) (edges_at es) ≡ 0
    none_there k low [] is h own = refl
    none_there k low (x ∷ es) is h own =
        go (none_there k (suc x.0) es is h.2) (nat_cmp k x.0) refl own
      where
        both : many (starts_it cells start) x.1.items ≡ 0 → many (starts_it cells start) (edges_at es) ≡ 0 → many (starts_it cells start) (x.1.items ++ edges_at es) ≡ 0
        both b c = let a = total-append (λ e. cond (starts_it cells start e) 1 0) x.1.items (edges_at es) in omega (arith, a, b, c)

        go : (((q : Vec Edge S) → lookup (is_at (nat_cmp k)) es ≡ Some q → many (starts_it cells start) q.items ≡ 0) → many (starts_it cells start) (edges_at es) ≡ 0) →
            (o : Ordering) → o ≡ nat_cmp k x.0 →
            ((q : Vec Edge S) → cond (is_eq o) (Some x.1) (lookup (is_at (nat_cmp k)) es) ≡ Some q → many (starts_it cells start) q.items ≡ 0) →
            many (starts_it cells start) (x.1.items ++ edges_at es) ≡ 0
        go rest Less f own =
            let less : k < x.0 = ranked k x.0 Less f in
            both (elsewhere x.0 x.1.items h.1 (λ e. omega (arith, e, less, is))) (none_above (suc x.0) es (omega (arith, less, is)) h.2)
        go rest Equal f own =
            let same : k ≡ x.0 = ranked k x.0 Equal f in
            both (own x.1 refl) (none_above (suc x.0) es (omega (arith, same, is)) h.2)
        go rest Greater f own =
            let more : x.0 < k = ranked k x.0 Greater f in
            both (elsewhere x.0 x.1.items h.1 (λ e. omega (arith, e, more, is))) (rest own)

-- one item taken out
pub without_one : {X : Type 0} (w : X → ℕ) (xs : List X) (i : ℕ) (d : X) → i < length xs → w (get_or xs i d) + total w (take i xs ++ drop (suc i) xs) ≡ total w xs
without_one w [] i d h = absurd (omega (arith, h))
without_one w (x ∷ xs) zero d h = refl
without_one w (x ∷ xs) (suc i) d h = let a = without_one w xs i d (omega (arith, h)) in omega (arith, a)

pub start_removed : (cells : List Datum) (start : ℕ) (xs ys : List Edge) (i : ℕ) → i < length xs → ((d : Edge) → starts_it cells start (get_or xs i d) ≡ true) →
    ys ≡ take i xs ++ drop (suc i) xs → SameBag (record { sync = start; other = inf; cells = cells } ∷ ys) xs
start_removed cells start xs ys i low found is =
    let e : Edge = record { sync = start; other = inf; cells = cells } in
    record {
      weigh = λ w.
          let a = ap (total w) is in
          let b = without_one w xs i e low in
          let c = ap w (start_is cells start (get_or xs i e) (found e)) in
          omega (arith, a, b, c);
    }

-- no start among one edge more
pub no_more : (cells : List Datum) (start : ℕ) (xs : List Edge) (i : ℕ) (x : Edge) → i < length xs → x ≡ get_or xs i x → (b : Bool) → b ≡ starts_it cells start x → b ≡ false →
    many (starts_it cells start) (take i xs) ≡ 0 → many (starts_it cells start) (take (i + 1) xs) ≡ 0
no_more cells start xs i x low is b test f none =
    let a = total_more (λ e. cond (starts_it cells start e) 1 0) xs i x low in
    let z : starts_it cells start (get_or xs i x) ≡ false = ap (starts_it cells start) (sym is) ∙ (sym test ∙ f) in
    let y = ap (λ t. cond {A = ℕ} t 1 0) z in
    omega (arith, a, y, none)

module _ {S : Type 0} (cells : List Datum) (start k : ℕ) (es : List (ℕ × Vec Edge S)) (edges : List Edge) (is : edges_at es ≡ edges) (h : AreRanked 0 es)
    (same : k ≡ 2 * start + 1) where
  -- no such start in a map whose queue of that rank has none, or that has no such queue
  pub queue_has_none : (q : Vec Edge S) → Some q ≡ lookup (is_at (nat_cmp k)) es → many (starts_it cells start) q.items ≡ 0 → many (starts_it cells start) edges ≡ 0
  queue_has_none q found none = subst (λ l. many (starts_it cells start) l ≡ 0) is (none_there cells start k 0 es same h
      (λ p e. let b : q ≡ p = ap (λ o. unwrap_or o q) (found ∙ e) in subst (λ x. many (starts_it cells start) x.items ≡ 0) b none))

  pub no_queue : lookup (is_at (nat_cmp k)) es ≡ None → many (starts_it cells start) edges ≡ 0
  no_queue none = subst (λ l. many (starts_it cells start) l ≡ 0) is (none_there cells start k 0 es same h (λ p e. absurd (let f = sym none ∙ e in cc)))
