-- Edges in a map by rank: a queue that changes, a queue that is new, and what is first.
use Rattle.std.specs.Prelude.{◌≡◌, ℕ, suc, ◌+◌, ◌*◌, ◌<◌, ◌≤◌, Bool, true, false, cond, unwrap_or, slice_get, Option, Some, None, Result, Ok, Err, OnErr, IsTrue, List, [], ◌∷◌, ◌++◌, filter, length, Vec, refl}
use Rattle.std.specs.Ordering.{nat_cmp, is_eq, match_ordering}
use Rattle.std.specs.declared.cmp.Ordering.{Ordering}
use Rattle.std.specs.declared.cmp.Ordering.TheVariants.{Less, Equal, Greater}
use Rattle.std.specs.Map.{lookup, set_value}
use Rattle.std.specs.BTreeMap.{insert_entry, is_at}
use Rattle.std.proofs.Common.{sym, ◌∙◌, ap, subst, arith}
use Rattle.std.proofs.lemmas.Bool.Decides.{nat_tests}
use Rattle.std.proofs.lemmas.Cmp.{ranked}
use Rattle.tw_rows.specs.Bag.{total, SameBag}
use Rattle.tw_rows.specs.declared.edge.Edge.{Edge}
use Rattle.tw_rows.proofs.Bags.{total-append}
use Rattle.edge_history.specs.Order.{rank, is_end, failing, is_below, is_from, Rises}
use Rattle.edge_history.proofs.Rising.{Rises-less}
use Rattle.ingress.specs.Ranks.{has_rank, AreRanked, edges_at}

-- what holds whatever the answer is
pub always : {T E : Type 0} (r : Result T E) (P : Type 0) → P → OnErr r P
always (Ok x) P p = tt
always (Err e) P p = p

-- the bounds of a rank
pub rank_low : (e : Edge) → 2 * e.sync ≤ rank e
rank_low e = go (is_end e)
  where
    go : (b : Bool) → 2 * e.sync ≤ 2 * e.sync + cond b 0 1
    go true = omega arith
    go false = omega arith

pub rank_high : (e : Edge) → rank e ≤ 2 * e.sync + 1
rank_high e = go (is_end e)
  where
    go : (b : Bool) → 2 * e.sync + cond b 0 1 ≤ 2 * e.sync + 1
    go true = omega arith
    go false = omega arith

-- of one rank: below a time, and from it on
pub all_below : (r t : ℕ) (es : List Edge) → r < 2 * t → failing (has_rank r) es ≡ 0 → failing (is_below t) es ≡ 0
all_below r t [] low h = refl
all_below r t (e ∷ es) low h = let a = rank_low e in let rest = all_below r t es low in grind (arith, nat_tests)

pub all_from : (r t : ℕ) (es : List Edge) → 2 * t ≤ r → failing (has_rank r) es ≡ 0 → failing (is_from t) es ≡ 0
all_from r t [] low h = refl
all_from r t (e ∷ es) low h = let a = rank_high e in let rest = all_from r t es low in grind (arith, nat_tests)

rises_on : (r k : ℕ) (es more : List Edge) → r ≤ k → failing (has_rank k) es ≡ 0 → Rises k more → Rises r (es ++ more)
rises_on r k [] more low h rest = Rises-less k r more low rest
rises_on r k (e ∷ es) more low h rest =
    let is : rank e ≡ k = grind (arith, nat_tests) in
    let others : failing (has_rank k) es ≡ 0 = grind (arith, nat_tests) in
    (omega (arith, is, low), rises_on (rank e) k es more (omega (arith, is)) others rest)

module _ {S : Type 0} where
  pub ranked_rises : (low : ℕ) (es : List (ℕ × Vec Edge S)) → AreRanked low es → Rises low (edges_at es)
  ranked_rises low [] h = tt
  ranked_rises low (x ∷ es) h =
      rises_on low x.0 x.1.items (edges_at es) h.0 h.1 (Rises-less (suc x.0) x.0 (edges_at es) (omega arith) (ranked_rises (suc x.0) es h.2))

  pub later_ranked : (low d : ℕ) (es : List (ℕ × Vec Edge S)) → d ≤ low → AreRanked low es → AreRanked d es
  later_ranked low d [] le h = tt
  later_ranked low d (x ∷ es) le h = (omega (arith, le, h.0), h.1, h.2)

  ranked_from : (t low : ℕ) (es : List (ℕ × Vec Edge S)) → 2 * t ≤ low → AreRanked low es → failing (is_from t) (edges_at es) ≡ 0
  ranked_from t low [] le h = refl
  ranked_from t low (x ∷ es) le h =
      let a = total-append (λ e. cond (is_from t e) 0 1) x.1.items (edges_at es) in
      let b = all_from x.0 t x.1.items (omega (arith, le, h.0)) h.1 in
      let c = ranked_from t (suc x.0) es (omega (arith, le, h.0)) h.2 in
      omega (arith, a, b, c)

  pub first_from : (t : ℕ) (x : ℕ × Vec Edge S) (es : List (ℕ × Vec Edge S)) → 2 * t ≤ x.0 → AreRanked 0 (x ∷ es) → failing (is_from t) (edges_at (x ∷ es)) ≡ 0
  first_from t x es le h = ranked_from t x.0 (x ∷ es) le (omega arith, h.1, h.2)

  module _ (k : ℕ) (v : Vec Edge S) where
    pub found_ranked : (low : ℕ) (es : List (ℕ × Vec Edge S)) → AreRanked low es → lookup (is_at (nat_cmp k)) es ≡ Some v → failing (has_rank k) v.items ≡ 0
    found_ranked low [] h e = absurd (cc)
    found_ranked low (x ∷ es) h e = go (found_ranked (suc x.0) es h.2) (nat_cmp k x.0) refl e
      where
        go : (lookup (is_at (nat_cmp k)) es ≡ Some v → failing (has_rank k) v.items ≡ 0) → (o : Ordering) → o ≡ nat_cmp k x.0 →
            cond (is_eq o) (Some x.1) (lookup (is_at (nat_cmp k)) es) ≡ Some v → failing (has_rank k) v.items ≡ 0
        go rest Less f e = rest e
        go rest Equal f e =
            let same : k ≡ x.0 = ranked k x.0 Equal f in
            let is : x.1 ≡ v = ap (λ o. unwrap_or o v) e in
            subst (λ n. failing (has_rank n) v.items ≡ 0) (sym same) (subst (λ q. failing (has_rank x.0) q.items ≡ 0) is h.1)
        go rest Greater f e = rest e

    pub set_ranked : (low : ℕ) (es : List (ℕ × Vec Edge S)) → AreRanked low es → failing (has_rank k) v.items ≡ 0 → AreRanked low (set_value (is_at (nat_cmp k)) es v)
    set_ranked low [] h own = tt
    set_ranked low (x ∷ es) h own = go (set_ranked (suc x.0) es h.2 own) (nat_cmp k x.0) refl
      where
        go : AreRanked (suc x.0) (set_value (is_at (nat_cmp k)) es v) → (o : Ordering) → o ≡ nat_cmp k x.0 →
            AreRanked low (cond (is_eq o) ((x.0, v) ∷ es) (x ∷ set_value (is_at (nat_cmp k)) es v))
        go rest Less f = (h.0, h.1, rest)
        go rest Equal f = let same : k ≡ x.0 = ranked k x.0 Equal f in (h.0, subst (λ n. failing (has_rank n) v.items ≡ 0) same own, h.2)
        go rest Greater f = (h.0, h.1, rest)

    pub set_total : (w : Edge → ℕ) (q : Vec Edge S) (es : List (ℕ × Vec Edge S)) → lookup (is_at (nat_cmp k)) es ≡ Some q →
        total w (edges_at (set_value (is_at (nat_cmp k)) es v)) + total w q.items ≡ total w (edges_at es) + total w v.items
    set_total w q [] e = absurd (cc)
    set_total w q (x ∷ es) e = go (set_total w q es) (nat_cmp k x.0) e
      where
        later : total w (edges_at (set_value (is_at (nat_cmp k)) es v)) + total w q.items ≡ total w (edges_at es) + total w v.items →
            total w (x.1.items ++ edges_at (set_value (is_at (nat_cmp k)) es v)) + total w q.items ≡ total w (x.1.items ++ edges_at es) + total w v.items
        later c =
            let a = total-append w x.1.items (edges_at (set_value (is_at (nat_cmp k)) es v)) in
            let b = total-append w x.1.items (edges_at es) in
            omega (arith, a, b, c)

        go : (lookup (is_at (nat_cmp k)) es ≡ Some q → total w (edges_at (set_value (is_at (nat_cmp k)) es v)) + total w q.items ≡ total w (edges_at es) + total w v.items) →
            (o : Ordering) → cond (is_eq o) (Some x.1) (lookup (is_at (nat_cmp k)) es) ≡ Some q →
            total w (edges_at (cond (is_eq o) ((x.0, v) ∷ es) (x ∷ set_value (is_at (nat_cmp k)) es v))) + total w q.items ≡ total w (x.1.items ++ edges_at es) + total w v.items
        go rest Less f = later (rest f)
        go rest Equal f =
            let a = total-append w v.items (edges_at es) in
            let b = total-append w x.1.items (edges_at es) in
            let c : total w x.1.items ≡ total w q.items = ap (λ o. total w (unwrap_or o q).items) f in
            omega (arith, a, b, c)
        go rest Greater f = later (rest f)

    pub set_same : (q : Vec Edge S) (es : List (ℕ × Vec Edge S)) → lookup (is_at (nat_cmp k)) es ≡ Some q → v.items ≡ q.items →
        edges_at (set_value (is_at (nat_cmp k)) es v) ≡ edges_at es
    set_same q [] e is = absurd (cc)
    set_same q (x ∷ es) e is = go (λ f. set_same q es f is) (nat_cmp k x.0) e
      where
        go : (lookup (is_at (nat_cmp k)) es ≡ Some q → edges_at (set_value (is_at (nat_cmp k)) es v) ≡ edges_at es) →
            (o : Ordering) → cond (is_eq o) (Some x.1) (lookup (is_at (nat_cmp k)) es) ≡ Some q →
            edges_at (cond (is_eq o) ((x.0, v) ∷ es) (x ∷ set_value (is_at (nat_cmp k)) es v)) ≡ x.1.items ++ edges_at es
        go rest Less f = ap (λ l. x.1.items ++ l) (rest f)
        go rest Equal f = ap (λ l. l ++ edges_at es) (is ∙ sym (ap (λ o. (unwrap_or o q).items) f))
        go rest Greater f = ap (λ l. x.1.items ++ l) (rest f)

    pub insert_ranked : (low : ℕ) (es : List (ℕ × Vec Edge S)) → low ≤ k → AreRanked low es → failing (has_rank k) v.items ≡ 0 → AreRanked low (insert_entry nat_cmp es k v)
    insert_ranked low [] le h own = (le, own, tt)
    insert_ranked low (x ∷ es) le h own = go (λ more. insert_ranked (suc x.0) es more h.2 own) (nat_cmp k x.0) refl
      where
        go : (suc x.0 ≤ k → AreRanked (suc x.0) (insert_entry nat_cmp es k v)) → (o : Ordering) → o ≡ nat_cmp k x.0 →
            AreRanked low (match_ordering o ((k, v) ∷ x ∷ es) ((x.0, v) ∷ es) (x ∷ insert_entry nat_cmp es k v))
        go rest Less f = let less : k < x.0 = ranked k x.0 Less f in (le, own, (omega (arith, less), h.1, h.2))
        go rest Equal f = let same : k ≡ x.0 = ranked k x.0 Equal f in (h.0, subst (λ n. failing (has_rank n) v.items ≡ 0) same own, h.2)
        go rest Greater f = let more : x.0 < k = ranked k x.0 Greater f in (h.0, h.1, rest (omega (arith, more)))

    pub insert_total : (w : Edge → ℕ) (es : List (ℕ × Vec Edge S)) → lookup (is_at (nat_cmp k)) es ≡ None →
        total w (edges_at (insert_entry nat_cmp es k v)) ≡ total w v.items + total w (edges_at es)
    insert_total w [] e = total-append w v.items []
    insert_total w (x ∷ es) e = go (insert_total w es) (nat_cmp k x.0) e
      where
        go : (lookup (is_at (nat_cmp k)) es ≡ None → total w (edges_at (insert_entry nat_cmp es k v)) ≡ total w v.items + total w (edges_at es)) →
            (o : Ordering) → cond (is_eq o) (Some x.1) (lookup (is_at (nat_cmp k)) es) ≡ None →
            total w (edges_at (match_ordering o ((k, v) ∷ x ∷ es) ((x.0, v) ∷ es) (x ∷ insert_entry nat_cmp es k v))) ≡ total w v.items + total w (x.1.items ++ edges_at es)
        go rest Less f = total-append w v.items (x.1.items ++ edges_at es)
        go rest Equal f = absurd (cc)
        go rest Greater f =
            let a = total-append w x.1.items (edges_at (insert_entry nat_cmp es k v)) in
            let b = total-append w x.1.items (edges_at es) in
            let c = rest f in
            omega (arith, a, b, c)

own_rank : (k : ℕ) (e : Edge) → rank e ≡ k → failing (has_rank k) (e ∷ []) ≡ 0
own_rank k e is = grind (arith, nat_tests)

abbrev pub rank_in : {S : Type 0} → Option (ℕ × Vec Edge S) → ℕ
rank_in None = 0
rank_in (Some p) = p.0

-- of no ranks there is no edge
pub no_ranks : {S : Type 0} (es : List (ℕ × Vec Edge S)) (edges : List Edge) (p : Edge → Bool) → edges_at es ≡ edges → (0 < length es → ⊥) → filter p edges ≡ []
no_ranks [] edges p is none = ap (filter p) (sym is)
no_ranks (e ∷ es) edges p is none = absurd (none (omega arith))

-- the first of the edges, and those without it
module _ {S : Type 0} (es : List (ℕ × Vec Edge S)) (edges : List Edge) (is : edges_at es ≡ edges) (h : AreRanked 0 es) where
  pub in_order : Rises 0 edges
  in_order = subst (Rises 0) is (ranked_rises 0 es h)

  pub none_below : (t r : ℕ) (q : Vec Edge S) → slice_get es 0 ≡ Some (r, q) → 2 * t ≤ r → failing (is_from t) edges ≡ 0
  none_below t r q first le = subst (λ l. failing (is_from t) l ≡ 0) is (go es first h)
    where
      go : (xs : List (ℕ × Vec Edge S)) → slice_get xs 0 ≡ Some (r, q) → AreRanked 0 xs → failing (is_from t) (edges_at xs) ≡ 0
      go [] f k = refl
      go (x ∷ xs) f k = first_from t x xs (let e : x.0 ≡ r = ap rank_in f in omega (arith, e, le)) k

  module _ (r : ℕ) (q : Vec Edge S) (rest : List (ℕ × Vec Edge S)) (removed : es ≡ (r, q) ∷ rest) where
    pub rest_ranked : AreRanked 0 rest
    rest_ranked = later_ranked (suc r) 0 rest (omega arith) (subst (AreRanked 0) removed h).2

    pub first_below : (t r2 : ℕ) (q2 : Vec Edge S) → slice_get es 0 ≡ Some (r2, q2) → r2 < 2 * t → failing (is_below t) q.items ≡ 0
    first_below t r2 q2 first less =
        let e : r ≡ r2 = ap rank_in (sym (ap (λ l. slice_get l 0) removed) ∙ first) in
        all_below r t q.items (omega (arith, e, less)) (subst (AreRanked 0) removed h).1

module _ {S : Type 0} (k : ℕ) (es es2 : List (ℕ × Vec Edge S)) (q q2 : Vec Edge S) (h : AreRanked 0 es) where
  module _ (found : Some q ≡ lookup (is_at (nat_cmp k)) es) (set : es2 ≡ set_value (is_at (nat_cmp k)) es q2) where
    pub same_ranked : q2.items ≡ q.items → AreRanked 0 es2
    same_ranked e = subst (AreRanked 0) (sym set)
        (set_ranked k q2 0 es h (subst (λ l. failing (has_rank k) l ≡ 0) (sym e) (found_ranked k q 0 es h (sym found))))

    pub same_edges : q2.items ≡ q.items → edges_at es2 ≡ edges_at es
    same_edges e = ap edges_at set ∙ set_same k q2 q es (sym found) e

    pub put_ranked : (e : Edge) → rank e ≡ k → q2.items ≡ q.items ++ e ∷ [] → AreRanked 0 es2
    put_ranked e is pushed = subst (AreRanked 0) (sym set) (set_ranked k q2 0 es h (
        let a = found_ranked k q 0 es h (sym found) in
        let b = ap (failing (has_rank k)) pushed ∙ total-append (λ x. cond (has_rank k x) 0 1) q.items (e ∷ []) in
        let d = own_rank k e is in
        omega (arith, a, b, d)))

    pub put_edges : (e : Edge) → q2.items ≡ q.items ++ e ∷ [] → SameBag (edges_at es2) (e ∷ edges_at es)
    put_edges e pushed = record {
      weigh = λ w.
          let a = ap (λ l. total w (edges_at l)) set in
          let b = set_total k q2 w q es (sym found) in
          let c = ap (total w) pushed ∙ total-append w q.items (e ∷ []) in
          omega (arith, a, b, c);
    }

    -- the queue is one edge shorter
    pub taken_ranked : (e : Edge) → SameBag (e ∷ q2.items) q.items → AreRanked 0 es2
    taken_ranked e less = subst (AreRanked 0) (sym set) (set_ranked k q2 0 es h (
        let a = found_ranked k q 0 es h (sym found) in
        let b = less.weigh (λ x. cond (has_rank k x) 0 1) in
        omega (arith, a, b)))

    pub taken_edges : (e : Edge) → SameBag (e ∷ q2.items) q.items → SameBag (e ∷ edges_at es2) (edges_at es)
    taken_edges e less = record {
      weigh = λ w.
          let a = ap (λ l. total w (edges_at l)) set in
          let b = set_total k q2 w q es (sym found) in
          let c = less.weigh w in
          omega (arith, a, b, c);
    }

    -- it is so where an edge was found
    module _ (e : Edge) (b : Bool) (taken : IsTrue b → SameBag (e ∷ q2.items) q.items) (kept : b ≡ false → q2.items ≡ q.items) where
      pub out_ranked : AreRanked 0 es2
      out_ranked = go b taken kept
        where
          go : (b : Bool) → (IsTrue b → SameBag (e ∷ q2.items) q.items) → (b ≡ false → q2.items ≡ q.items) → AreRanked 0 es2
          go true t k = taken_ranked e (t refl)
          go false t k = same_ranked (k refl)

      pub out_taken : (all : List Edge) → edges_at es ≡ all → IsTrue b → SameBag (e ∷ edges_at es2) all
      out_taken all is t = subst (SameBag (e ∷ edges_at es2)) is (taken_edges e (taken t))

      pub out_kept : (all : List Edge) → edges_at es ≡ all → b ≡ false → edges_at es2 ≡ all
      out_kept all is f = same_edges (kept f) ∙ is

  module _ (e : Edge) (is : rank e ≡ k) (empty : q.items ≡ []) (pushed : q2.items ≡ q.items ++ e ∷ []) (inserted : es2 ≡ insert_entry nat_cmp es k q2) where
    only : q2.items ≡ e ∷ []
    only = pushed ∙ ap (λ l. l ++ e ∷ []) empty

    pub new_ranked : AreRanked 0 es2
    new_ranked = subst (AreRanked 0) (sym inserted) (insert_ranked k q2 0 es (omega arith) h (
        let b = ap (failing (has_rank k)) only in let d = own_rank k e is in omega (arith, b, d)))

    pub new_edges : lookup (is_at (nat_cmp k)) es ≡ None → SameBag (edges_at es2) (e ∷ edges_at es)
    new_edges none = record {
      weigh = λ w.
          let a = ap (λ l. total w (edges_at l)) inserted in
          let b = insert_total k q2 w es none in
          let c = ap (total w) only in
          omega (arith, a, b, c);
    }
