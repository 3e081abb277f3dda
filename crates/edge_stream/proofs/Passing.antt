-- Batches one after another: how many of their edges come before a time, which is the first that does not, and which is the last.
use Rattle.std.proofs.Common.{◌≡◌, ◌≤◌, ◌<◌, ℕ, ◌+◌, Bool, true, false, cond, List, [], ◌∷◌, ◌++◌, length, get_or, take, drop, refl, ap, sym, ◌∙◌, subst, arith, add-one, append-nil}
use Rattle.std.specs.Prelude.{Some, None, filter}
use Rattle.std.specs.List.{list_all}
use Rattle.std.proofs.lemmas.List.{take_more}
use Rattle.std.proofs.lemmas.List.Elements.{filter-append}
use Rattle.tw_rows.proofs.Bags.{total-append}
use Rattle.tw_rows.specs.declared.edge.Edge.{Edge}
use Rattle.batch.specs.Rows.{Table, edges_of}
use Rattle.edge_history.specs.Order.{Rises, many, is_below, is_from}
use Rattle.edge_history.proofs.Rising.{Rises-front, Rises-back}
use Rattle.edge_stream.specs.Listing.{edges_in}
use Rattle.edge_stream.specs.Reading.{first_sync, last_rank}
use Rattle.edge_stream.proofs.Rising.{later_from}
use Rattle.edge_stream.proofs.Cutting.{edges_in-push, edges_in-parts, edges_in-at}
use Rattle.edge_stream.proofs.Fronts.{many_none, many_fewer}

-- ---- the first edge

first-append : (s : ℕ) (xs ys : List Edge) → Some s ≡ first_sync xs → Some s ≡ first_sync (xs ++ ys)
first-append s [] ys h = absurd (cc)
first-append s (x ∷ xs) ys h = h

first-none : (xs : List Edge) → None ≡ first_sync xs → xs ≡ []
first-none [] h = refl
first-none (x ∷ xs) h = absurd (cc)

-- ---- the last edge

pub last-append : (r : ℕ) (xs ys : List Edge) → Some r ≡ last_rank ys → Some r ≡ last_rank (xs ++ ys)
last-append r [] ys h = h
last-append r (x ∷ []) [] h = absurd (cc)
last-append r (x ∷ []) (y ∷ ys) h = h
last-append r (x ∷ z ∷ zs) ys h = last-append r (z ∷ zs) ys h

pub last-none : (xs : List Edge) → None ≡ last_rank xs → xs ≡ []
last-none [] h = refl
last-none (x ∷ []) h = absurd (cc)
last-none (x ∷ y ∷ ys) h = let none : y ∷ ys ≡ [] = last-none (y ∷ ys) h in absurd (cc)

-- ---- one batch of several

module _ (bs : List Table) (n : ℕ) (b : Table) (lt : n < length bs) (is : b ≡ get_or bs n b) where
  pub next_in : edges_in (take (n + 1) bs) ≡ edges_in (take n bs) ++ edges_of b.rows
  next_in = ap edges_in (take_more bs n b lt) ∙ edges_in-push (take n bs) (get_or bs n b) ∙ ap (λ x. edges_in (take n bs) ++ edges_of x.rows) (sym is)

  pub left_in : edges_in (drop n bs) ≡ edges_of b.rows ++ edges_in (drop (n + 1) bs)
  left_in = edges_in-at n bs b lt ∙ (λ i. edges_of ((sym is) i).rows ++ edges_in (drop ((sym (add-one n)) i) bs))

  pub whole_in : edges_in bs ≡ edges_in (take n bs) ++ (edges_of b.rows ++ edges_in (drop (n + 1) bs))
  whole_in = sym (edges_in-parts n bs) ∙ ap (λ l. edges_in (take n bs) ++ l) left_in

  module _ (rises : Rises 0 (edges_in bs)) where
    after : Rises 0 (edges_of b.rows ++ edges_in (drop (n + 1) bs))
    after = Rises-back 0 (edges_in (take n bs)) (edges_of b.rows ++ edges_in (drop (n + 1) bs)) (subst (Rises 0) whole_in rises)

    pub rises_in : Rises 0 (edges_of b.rows)
    rises_in = Rises-front 0 (edges_of b.rows) (edges_in (drop (n + 1) bs)) after

    pub rises_later : Rises 0 (edges_in (drop (n + 1) bs))
    rises_later = Rises-back 0 (edges_of b.rows) (edges_in (drop (n + 1) bs)) after

    -- where not all of its edges come before t, none of a later batch does
    pub later_in : (t : ℕ) → list_all (is_below t) (edges_of b.rows) ≡ false → list_all (is_from t) (edges_in (drop (n + 1) bs)) ≡ true
    later_in t some = later_from t 0 (edges_of b.rows) (edges_in (drop (n + 1) bs)) after some

  pub many_next : (p : Edge → Bool) → many p (edges_in (take (n + 1) bs)) ≡ many p (edges_in (take n bs)) + many p (edges_of b.rows)
  many_next p = ap (many p) next_in ∙ total-append (λ e. cond (p e) 1 0) (edges_in (take n bs)) (edges_of b.rows)

  pub many_whole : (p : Edge → Bool) → many p (edges_in bs) ≡ many p (edges_in (take n bs)) + many p (edges_of b.rows) + many p (edges_in (drop (n + 1) bs))
  many_whole p =
      let w : Edge → ℕ = λ e. cond (p e) 1 0 in
      let front = total-append w (edges_in (take n bs)) (edges_of b.rows ++ edges_in (drop (n + 1) bs)) in
      let rest = total-append w (edges_of b.rows) (edges_in (drop (n + 1) bs)) in
      omega (arith, ap (many p) whole_in, front, rest)

  -- the places that its edges take
  module _ (from to : ℕ) (le : from ≤ to) (count room rest : ℕ) (so_far : many (is_below to) (edges_in (take n bs)) + rest ≡ many (is_below from) (edges_in (take n bs)) + room)
      (here : many (is_below from) (edges_of b.rows) + count ≡ many (is_below to) (edges_of b.rows)) where
    pub fewer_left : (left : ℕ) → left + count ≡ rest → many (is_below to) (edges_in (take (n + 1) bs)) + left ≡ many (is_below from) (edges_in (take (n + 1) bs)) + room
    fewer_left left is_left = omega (arith, so_far, here, is_left, many_next (is_below to), many_next (is_below from))

    pub none_left : rest < count → many (is_below from) (edges_in bs) + room < many (is_below to) (edges_in bs)
    none_left short = omega (arith, so_far, here, short, many_whole (is_below to), many_whole (is_below from), many_fewer from to (edges_in (drop (n + 1) bs)) le)

    pub all_left : (left : ℕ) → left + count ≡ rest → list_all (is_from to) (edges_in (drop (n + 1) bs)) ≡ true → many (is_below to) (edges_in bs) + left ≡ many (is_below from) (edges_in bs) + room
    all_left left is_left later =
        let none = many_none to (edges_in (drop (n + 1) bs)) later in
        omega (arith, so_far, here, is_left, none, many_whole (is_below to), many_whole (is_below from), many_fewer from to (edges_in (drop (n + 1) bs)) le)

  -- the first edge that comes at t or later
  module _ (t : ℕ) (none : filter (is_from t) (edges_in (take n bs)) ≡ []) where
    from_here : filter (is_from t) (edges_in bs) ≡ filter (is_from t) (edges_of b.rows) ++ filter (is_from t) (edges_in (drop (n + 1) bs))
    from_here =
        ap (filter (is_from t)) whole_in ∙ filter-append (is_from t) (edges_in (take n bs)) (edges_of b.rows ++ edges_in (drop (n + 1) bs))
        ∙ ap (λ l. l ++ filter (is_from t) (edges_of b.rows ++ edges_in (drop (n + 1) bs))) none
        ∙ filter-append (is_from t) (edges_of b.rows) (edges_in (drop (n + 1) bs))

    pub first_here : (s : ℕ) → Some s ≡ first_sync (filter (is_from t) (edges_of b.rows)) → Some s ≡ first_sync (filter (is_from t) (edges_in bs))
    first_here s h =
        first-append s (filter (is_from t) (edges_of b.rows)) (filter (is_from t) (edges_in (drop (n + 1) bs))) h ∙ ap first_sync (sym from_here)

    pub first_later : None ≡ first_sync (filter (is_from t) (edges_of b.rows)) → filter (is_from t) (edges_in (take (n + 1) bs)) ≡ []
    first_later h =
        ap (filter (is_from t)) next_in ∙ filter-append (is_from t) (edges_in (take n bs)) (edges_of b.rows)
        ∙ (λ i. none i ++ first-none (filter (is_from t) (edges_of b.rows)) h i)

  -- the last edge
  module _ (none : edges_in (drop (n + 1) bs) ≡ []) where
    pub last_here : (r : ℕ) → Some r ≡ last_rank (edges_of b.rows) → Some r ≡ last_rank (edges_in bs)
    last_here r h =
        last-append r (edges_in (take n bs)) (edges_of b.rows) h ∙ ap last_rank (sym (whole_in ∙ ap (λ l. edges_in (take n bs) ++ (edges_of b.rows ++ l)) none ∙ ap (λ l. edges_in (take n bs) ++ l) (append-nil (edges_of b.rows))))

    pub last_before : None ≡ last_rank (edges_of b.rows) → edges_in (drop n bs) ≡ []
    last_before h = left_in ∙ (λ i. last-none (edges_of b.rows) h i ++ none i)
