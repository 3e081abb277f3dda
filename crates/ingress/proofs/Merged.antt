-- Edges of a queue in order and edges by rank, put together in order.
use Rattle.std.specs.Prelude.{◌≡◌, ℕ, suc, ◌+◌, ◌*◌, ◌<◌, ◌≤◌, ◌⊎◌, nat_le, nat_lt, ◌&&◌, Bool, true, false, cond, List, [], ◌∷◌, ◌++◌, length, map, filter, Vec, Some, None, Result, Ok, Err, OnOk, refl}
use Rattle.std.specs.BTreeMap.Range.{range_contains, entries_between}
use Rattle.std.specs.declared.ops.Bound.TheVariants.{Included, Excluded}
use Rattle.std.specs.Ordering.{nat_cmp}
use Rattle.std.proofs.Common.{sym, ◌∙◌, ap, subst, arith, inl, inr}
use Rattle.std.proofs.lemmas.Bool.{and_parts, cases_lt}
use Rattle.std.proofs.lemmas.Bool.Decides.{nat_tests}
use Rattle.std.proofs.lemmas.List.{append-nil, append_assoc}
use Rattle.std.proofs.lemmas.List.Elements.{filter-append}
use Rattle.tw_rows.specs.Bag.{total, SameBag}
use Rattle.tw_rows.specs.declared.edge.Edge.{Edge}
use Rattle.tw_rows.proofs.Bags.{total-append}
use Rattle.tw_rows.specs.Cells.{datum_kind}
use Rattle.edge_history.specs.Order.{rank, failing, many, is_below, is_from, is_real, Rises, KeepsOrder}
use Rattle.edge_history.proofs.Agreeing.{same_order}
use Rattle.edge_history.proofs.Rising.{Rises-less}
use Rattle.edge_stream.specs.Reading.{last_rank}
use Rattle.edge_history.proofs.Sums.{weaker, failing-append, failing-filter, failing-kept}
use Rattle.tw_rows.specs.declared.kind.CellKind.{CellKind}
use Rattle.ingress.specs.Fits.{is_fit}
use Rattle.ingress.specs.Ranks.{has_rank, is_ranked_below, is_up_to, is_between, AreRanked, edges_at}
use Rattle.ingress.proofs.Ranked.{rank_low, rank_high}
use Rattle.ingress.proofs.Released.{kept_all, none_below}
use Rattle.ingress.proofs.Fitting.{rises_filter, none_fails_at, fit_real, fit_kinds}

joined : (r s : ℕ) (xs ys : List Edge) → Rises r xs → failing (is_up_to s) xs ≡ 0 → r ≤ s → Rises s ys → Rises r (xs ++ ys)
joined r s [] ys h up le rest = Rises-less s r ys le rest
joined r s (x ∷ xs) ys h up le rest =
    let is : rank x ≤ s = grind (arith, nat_tests) in
    let others : failing (is_up_to s) xs ≡ 0 = grind (arith, nat_tests) in
    (h.0, joined (rank x) s xs ys h.1 others is rest)

-- edges up to a rank, and edges from it on
pub keeps_joined : (s : ℕ) (xs ys : List Edge) → KeepsOrder xs → failing (is_up_to s) xs ≡ 0 → Rises s ys → failing is_real ys ≡ 0 → KeepsOrder (xs ++ ys)
keeps_joined s xs ys keeps up rest real =
    let h = (same_order xs).0 keeps in
    (same_order (xs ++ ys)).1 (joined 0 s xs ys h.0 up (omega arith) rest, failing-append is_real xs ys h.1 real)

rises_raised : (r : ℕ) (ys : List Edge) → Rises 0 ys → failing (λ e. nat_le r (rank e)) ys ≡ 0 → Rises r ys
rises_raised r [] h low = tt
rises_raised r (y ∷ ys) h low = let is : r ≤ rank y = grind (arith, nat_tests) in (is, h.1)

-- the edges between two ranks, of edges in order
pub between_rises : (a b : ℕ) (ys : List Edge) → Rises 0 ys → Rises a (filter (is_between a b) ys)
between_rises a b ys h = rises_raised a (filter (is_between a b) ys) (rises_filter (is_between a b) 0 ys h)
    (weaker (is_between a b) (λ e. nat_le a (rank e)) (filter (is_between a b) ys)
    (λ e k. (and_parts (nat_le a (rank e)) (nat_lt (rank e) b) k).0) (failing-kept (is_between a b) ys))

pub up_more : (a b : ℕ) (xs : List Edge) → a ≤ b → failing (is_up_to a) xs ≡ 0 → failing (is_up_to b) xs ≡ 0
up_more a b xs le h = weaker (is_up_to a) (is_up_to b) xs (λ e k. grind (arith, nat_tests)) h

pub between_up : (a b : ℕ) (xs ys : List Edge) → a ≤ b → failing (is_up_to a) xs ≡ 0 → failing (is_up_to b) (xs ++ filter (is_between a b) ys) ≡ 0
between_up a b xs ys le h = failing-append (is_up_to b) xs (filter (is_between a b) ys) (up_more a b xs le h)
    (weaker (is_between a b) (is_up_to b) (filter (is_between a b) ys) (λ e k. grind (arith, nat_tests)) (failing-kept (is_between a b) ys))

-- edges up to a rank, and of edges in order that fit those between it and another
pub between_keeps : (a b : ℕ) (xs ys : List Edge) (kinds : List CellKind) → KeepsOrder xs → failing (is_up_to a) xs ≡ 0 → Rises 0 ys → failing (is_fit kinds) ys ≡ 0 →
    KeepsOrder (xs ++ filter (is_between a b) ys)
between_keeps a b xs ys kinds keeps up h fit =
    keeps_joined a xs (filter (is_between a b) ys) keeps up (between_rises a b ys h) (failing-filter (is_between a b) is_real ys (fit_real kinds ys fit))

range_test : (a b r : ℕ) → range_contains nat_cmp (Included a) (Excluded b) r ≡ (nat_le a r && nat_lt r b)
range_test a b r = grind (arith, nat_tests)

either : (t : Bool) (xs : List Edge) → xs ≡ cond t xs xs
either true xs = refl
either false xs = refl

all_between : (a b k : ℕ) (xs : List Edge) → failing (has_rank k) xs ≡ 0 → filter (is_between a b) xs ≡ cond (nat_le a k && nat_lt k b) xs []
all_between a b k [] h = either (nat_le a k && nat_lt k b) []
all_between a b k (x ∷ xs) h =
    let is : rank x ≡ k = grind (arith, nat_tests) in
    let others : failing (has_rank k) xs ≡ 0 = grind (arith, nat_tests) in
    ap (λ t. cond t (x ∷ filter (is_between a b) xs) (filter (is_between a b) xs)) (ap (λ n. nat_le a n && nat_lt n b) is)
    ∙ go (nat_le a k && nat_lt k b) (all_between a b k xs others)
  where
    go : (t : Bool) → filter (is_between a b) xs ≡ cond t xs [] → cond t (x ∷ filter (is_between a b) xs) (filter (is_between a b) xs) ≡ cond t (x ∷ xs) []
    go true rest = ap (λ l. x ∷ l) rest
    go false rest = rest

module _ {S : Type 0} where
  -- the ranks of a range have the edges between its ends
  between_entries : (a b low : ℕ) (es : List (ℕ × Vec Edge S)) → AreRanked low es →
      edges_at (entries_between nat_cmp (Included a) (Excluded b) es) ≡ filter (is_between a b) (edges_at es)
  between_entries a b low [] h = refl
  between_entries a b low (x ∷ es) h =
      ap (λ t. edges_at (cond t (x ∷ entries_between nat_cmp (Included a) (Excluded b) es) (entries_between nat_cmp (Included a) (Excluded b) es))) (range_test a b x.0)
      ∙ go (nat_le a x.0 && nat_lt x.0 b) (between_entries a b (suc x.0) es h.2)
      ∙ ap (λ l. l ++ filter (is_between a b) (edges_at es)) (sym (all_between a b x.0 x.1.items h.1))
      ∙ sym (filter-append (is_between a b) x.1.items (edges_at es))
    where
      go : (t : Bool) → edges_at (entries_between nat_cmp (Included a) (Excluded b) es) ≡ filter (is_between a b) (edges_at es) →
          edges_at (cond t (x ∷ entries_between nat_cmp (Included a) (Excluded b) es) (entries_between nat_cmp (Included a) (Excluded b) es)) ≡
          cond t x.1.items [] ++ filter (is_between a b) (edges_at es)
      go true rest = ap (λ l. x.1.items ++ l) rest
      go false rest = rest

  pub between_held : (a b : ℕ) (es : List (ℕ × Vec Edge S)) (edges : List Edge) → edges_at es ≡ edges → AreRanked 0 es → (found : List Edge) →
      found ≡ edges_at (entries_between nat_cmp (Included a) (Excluded b) es) → found ≡ filter (is_between a b) edges
  between_held a b es edges view h found is = is ∙ between_entries a b 0 es h ∙ ap (filter (is_between a b)) view

  -- of no edges none is between
  pub none_between : (a b : ℕ) (es : List (ℕ × Vec Edge S)) (edges : List Edge) → edges_at es ≡ edges → length es ≡ 0 → (xs : List Edge) → xs ≡ xs ++ filter (is_between a b) edges
  none_between a b [] edges view none xs = sym (append-nil xs) ∙ ap (λ l. xs ++ filter (is_between a b) l) view
  none_between a b (e ∷ es) edges view none xs = absurd (omega (arith, none))

sum_between : (w : Edge → ℕ) (a b : ℕ) (es : List Edge) → a ≤ b →
    total w (filter (is_ranked_below b) es) ≡ total w (filter (is_ranked_below a) es) + total w (filter (is_between a b) es)
sum_between w a b [] le = refl
sum_between w a b (e ∷ es) le = let rest = sum_between w a b es le in go (cases_lt (rank e) a) (cases_lt (rank e) b) rest
  where
    go : (rank e < a) ⊎ (a ≤ rank e) → (rank e < b) ⊎ (b ≤ rank e) →
        total w (filter (is_ranked_below b) es) ≡ total w (filter (is_ranked_below a) es) + total w (filter (is_between a b) es) →
        total w (filter (is_ranked_below b) (e ∷ es)) ≡ total w (filter (is_ranked_below a) (e ∷ es)) + total w (filter (is_between a b) (e ∷ es))
    go (inl p) (inl q) rest = grind (arith, nat_tests)
    go (inl p) (inr q) rest = absurd (omega (arith, p, q, le))
    go (inr p) (inl q) rest = grind (arith, nat_tests)
    go (inr p) (inr q) rest = grind (arith, nat_tests)

none_below_zero : (es : List Edge) → filter (is_ranked_below 0) es ≡ []
none_below_zero [] = refl
none_below_zero (e ∷ es) = let rest = none_below_zero es in grind (arith, nat_tests)

-- below the rank of the ends at t are the edges below t
below_ranks : (t : ℕ) (es : List Edge) → filter (is_ranked_below (2 * t)) es ≡ filter (is_below t) es
below_ranks t [] = refl
below_ranks t (e ∷ es) = go (cases_lt e.sync t) (below_ranks t es)
  where
    go : (e.sync < t) ⊎ (t ≤ e.sync) → filter (is_ranked_below (2 * t)) es ≡ filter (is_below t) es → filter (is_ranked_below (2 * t)) (e ∷ es) ≡ filter (is_below t) (e ∷ es)
    go (inl p) rest = let a = rank_high e in grind (arith, nat_tests)
    go (inr p) rest = let a = rank_low e in grind (arith, nat_tests)

-- the edges of the queue before t that were gone through, and the others below a rank, were put together, up to that rank;
-- `rest` are those of the queue to come
pub record Merged (queue others rest : List Edge) (t low : ℕ) (list : List Edge) : Type 0 where
  pub done : List Edge
  pub parts : done ++ rest ≡ queue
  pub early : failing (is_below t) done ≡ 0
  pub bag : (w : Edge → ℕ) → total w list ≡ total w done + total w (filter (is_ranked_below low) others)
  pub order : KeepsOrder list
  pub up : failing (is_up_to low) list ≡ 0
  pub rises : Rises low rest
  pub within : low ≤ 2 * t

-- edges in order, where the first comes at a time or later
rank_sync : (t : ℕ) (e : Edge) → 2 * t ≤ rank e → t ≤ e.sync
rank_sync t e h = let a = rank_high e in omega (arith, a, h)

all_later : (t r : ℕ) (es : List Edge) → 2 * t ≤ r → Rises r es → failing (is_from t) es ≡ 0
all_later t r [] le h = refl
all_later t r (e ∷ es) le h =
    let a = rank_sync t e (omega (arith, le, h.0)) in
    let rest = all_later t (rank e) es (omega (arith, le, h.0)) h.1 in
    grind (arith, nat_tests)

-- where the rank of the next one, if there is one, is at least that of the ends at t, none is left before t
pub none_left : (t low : ℕ) (rest : List Edge) → Rises low rest → ((e : Edge) (es : List Edge) → rest ≡ e ∷ es → 2 * t ≤ rank e) → failing (is_from t) rest ≡ 0
none_left t low [] h late = refl
none_left t low (e ∷ es) h late = all_later t (2 * t) (e ∷ es) (omega arith) (late e es refl, h.1)

module _ (queue others : List Edge) where
  pub merged_first : (t : ℕ) (list rest : List Edge) → list ≡ [] → rest ≡ queue → KeepsOrder queue → Merged queue others rest t 0 list
  merged_first t list rest empty is h = record {
    done = [];
    parts = is;
    early = refl;
    bag = λ w. let a = ap (total w) empty in let b = ap (total w) (none_below_zero others) in omega (arith, a, b);
    order = (same_order list).1 (subst (Rises 0) (sym empty) tt, ap (failing is_real) empty);
    up = ap (failing (is_up_to 0)) empty;
    rises = subst (Rises 0) (sym is) h.rises;
    within = omega arith;
  }

  module _ (rest : List Edge) (t low : ℕ) (list mid : List Edge) (m : Merged queue others rest t low list) (e : Edge) (r : ℕ) (is_rank : r ≡ rank e)
      (added : mid ≡ list ++ filter (is_between low r) others) (keeps : KeepsOrder mid) (up : failing (is_up_to r) mid ≡ 0) (real : is_real e ≡ true) where
    alone : failing is_real (e ∷ []) ≡ 0
    alone = ap (λ b. cond {A = ℕ} b 0 1 + 0) real

    pub next_order : KeepsOrder (mid ++ e ∷ [])
    next_order = keeps_joined r mid (e ∷ []) keeps up (omega (arith, is_rank), tt) alone

    pub merged_next : (after left : List Edge) → rest ≡ e ∷ left → r < 2 * t → after ≡ mid ++ e ∷ [] → Merged queue others left t r after
    merged_next after left first early last =
        let next : (low ≤ rank e) × Rises (rank e) left = subst (Rises low) first m.rises in
        let l = rank_low e in
        let before : is_below t e ≡ true = (let k : e.sync < t = omega (arith, l, early, is_rank) in grind (arith, nat_tests)) in
        record {
          done = m.done ++ e ∷ [];
          parts = append_assoc m.done (e ∷ []) left ∙ ap (λ l. m.done ++ l) (sym first) ∙ m.parts;
          early = failing-append (is_below t) m.done (e ∷ []) m.early (ap (λ b. cond {A = ℕ} b 0 1 + 0) before);
          bag = λ w.
              let a = ap (total w) last ∙ total-append w mid (e ∷ []) in
              let b = ap (total w) added ∙ total-append w list (filter (is_between low r) others) in
              let c = m.bag w in
              let d = total-append w m.done (e ∷ []) in
              let g = sum_between w low r others (omega (arith, next.0, is_rank)) in
              omega (arith, a, b, c, d, g);
          order = subst KeepsOrder (sym last) next_order;
          up = ap (failing (is_up_to r)) last ∙ failing-append (is_up_to r) mid (e ∷ []) up (let z : rank e ≤ r = omega (arith, is_rank) in grind (arith, nat_tests));
          rises = subst (λ n. Rises n left) (sym is_rank) next.1;
          within = omega (arith, early);
        }

  -- the edges before t, where none of the queue is left before it
  pub merged_all : (rest : List Edge) (t low end : ℕ) (list after : List Edge) → Merged queue others rest t low list → failing (is_from t) rest ≡ 0 → end ≡ 2 * t →
      after ≡ list ++ filter (is_between low end) others → SameBag after (filter (is_below t) (queue ++ others))
  merged_all rest t low end list after m late is added =
      let before : filter (is_below t) queue ≡ m.done =
      ap (filter (is_below t)) (sym m.parts) ∙ filter-append (is_below t) m.done rest
      ∙ ap (λ l. l ++ filter (is_below t) rest) (kept_all (is_below t) m.done m.early)
      ∙ ap (λ l. m.done ++ l) (none_below t rest late) ∙ append-nil m.done in
      record {
        weigh = λ w.
            let a = ap (total w) added ∙ total-append w list (filter (is_between low end) others) in
            let b = m.bag w in
            let c = sum_between w low end others (let k = m.within in omega (arith, k, is)) in
            let d = ap (λ k. total w (filter (is_ranked_below k) others)) is ∙ ap (total w) (below_ranks t others) in
            let f = ap (total w) (filter-append (is_below t) queue others) ∙ total-append w (filter (is_below t) queue) (filter (is_below t) others) in
            let g = ap (total w) before in
            omega (arith, a, b, c, d, f, g);
      }

-- the next edge of those that fit, and the others
pub next_fits : (ks : List CellKind) (es : List Edge) (e : Edge) (rest : List Edge) → es ≡ e ∷ rest → failing (is_fit ks) es ≡ 0 → (is_real e ≡ true) × (map datum_kind e.cells ≡ ks) × (failing (is_fit ks) rest ≡ 0)
next_fits ks es e rest is h =
    let all : failing (is_fit ks) (e ∷ rest) ≡ 0 = ap (failing (is_fit ks)) (sym is) ∙ h in
    let real = fit_real ks (e ∷ rest) all in
    (none_fails_at is_real (e ∷ rest) 0 e real (omega arith), fit_kinds ks (e ∷ rest) 0 e e refl (omega arith) all, omega (arith, all))

-- a list in order with one edge more, where its last rank is no greater
pub last_rises : (r : ℕ) (xs : List Edge) (e : Edge) (last : ℕ) → Rises r xs → Some last ≡ last_rank xs → last ≤ rank e → Rises r (xs ++ e ∷ [])
last_rises r [] e last h is le = absurd (cc)
last_rises r (x ∷ []) e last h is le = let s : last ≡ rank x = cc in (h.0, (omega (arith, s, le), tt))
last_rises r (x ∷ y ∷ ys) e last h is le = (h.0, last_rises (rank x) (y ∷ ys) e last h.1 is le)

pub none_last : (xs : List Edge) → None ≡ last_rank xs → xs ≡ []
none_last [] is = refl
none_last (x ∷ []) is = absurd (cc)
none_last (x ∷ y ∷ ys) is = absurd (let none = none_last (y ∷ ys) is in cc)

module _ (queue others : List Edge) where
  pub last_bag : (e : Edge) (more : List Edge) → more ≡ queue ++ e ∷ [] → SameBag (more ++ others) (e ∷ queue ++ others)
  last_bag e more is = record {
    weigh = λ w.
        let a = total-append w more others in
        let b = ap (total w) is ∙ total-append w queue (e ∷ []) in
        let c = total-append w queue others in
        omega (arith, a, b, c);
  }

  pub other_bag : (e : Edge) (more : List Edge) → SameBag more (e ∷ others) → SameBag (queue ++ more) (e ∷ queue ++ others)
  other_bag e more is = record {
    weigh = λ w.
        let a = total-append w queue more in
        let b = is.weigh w in
        let c = total-append w queue others in
        omega (arith, a, b, c);
  }

  pub queue_taken : (e : Edge) (fewer : List Edge) → SameBag (e ∷ fewer) queue → SameBag (e ∷ fewer ++ others) (queue ++ others)
  queue_taken e fewer is = record {
    weigh = λ w.
        let a = total-append w fewer others in
        let b = is.weigh w in
        let c = total-append w queue others in
        omega (arith, a, b, c);
  }

  pub other_taken : (e : Edge) (fewer : List Edge) → SameBag (e ∷ fewer) others → SameBag (e ∷ queue ++ fewer) (queue ++ others)
  other_taken e fewer is = record {
    weigh = λ w.
        let a = total-append w queue fewer in
        let b = is.weigh w in
        let c = total-append w queue others in
        omega (arith, a, b, c);
  }

  pub none_in_both : (p : Edge → Bool) (all : List Edge) → queue ++ others ≡ all → many p queue ≡ 0 → many p others ≡ 0 → many p all ≡ 0
  none_in_both p all is a b =
      let c = ap (many p) is in
      let d = total-append (λ e. cond (p e) 1 0) queue others in
      omega (arith, a, b, c, d)

pub ok_maps : {T E : Type 0} (r : Result T E) (P Q : Type 0) → (P → Q) → OnOk r P → OnOk r Q
ok_maps (Ok x) P Q f h = f h
ok_maps (Err e) P Q f h = tt
