-- What is kept once the edges below a punctuation are released.
use Rattle.std.specs.Prelude.{◌≡◌, ℕ, zero, suc, ◌+◌, ◌<◌, ◌≤◌, ◌⊎◌, All, List, [], ◌∷◌, ◌++◌, length, get_or, map, filter, take, refl}
use Rattle.std.proofs.Common.{sym, ◌∙◌, ap, subst, arith, inl, inr}
use Rattle.std.proofs.lemmas.Bool.{cases_lt}
use Rattle.std.proofs.lemmas.Bool.Decides.{nat_tests}
use Rattle.std.proofs.lemmas.List.{get_or_past, length-append, length-map, take_more}
use Rattle.std.proofs.lemmas.List.Elements.{All-nil, All-cons, All-tail, All-append}
use Rattle.tw_rows.specs.Instant.{inf}
use Rattle.tw_rows.specs.Bag.{total, SameBag}
use Rattle.tw_rows.specs.Cells.{ArePlaced}
use Rattle.tw_rows.specs.declared.edge.Edge.{Edge}
use Rattle.tw_rows.specs.declared.kind.Kind.{Kind}
use Rattle.tw_rows.proofs.Bags.{total-append, SameBag-refl}
use Rattle.edge_history.specs.Order.{failing, is_below, is_from, Rises}
use Rattle.edge_history.specs.History.{CellEvent}
use Rattle.edge_stream.specs.Listing.{EdgeListView}
use Rattle.plan_laws.specs.Places.{EdgesArePlaced}
use Rattle.plan_laws.proofs.Answers.{answer_placed}
use Rattle.admission.specs.Admission.{Admission}
use Rattle.ingress.specs.Held.{IsHeld}
use Rattle.ingress.specs.Keeping.{cell_rows}
use Rattle.ingress.specs.OpenKeys.{starts_in}
use Rattle.edge_stream.specs.Lists.{edges_at, longer}
use Rattle.ingress.specs.Admits.{SameFixed, IsStored, AreReleased, Follows}
use Rattle.ingress.specs.declared.ingress.Ingress.{Ingress}
use Rattle.ingress.proofs.Holding.{given_held, held_stands}
use Rattle.ingress.specs.Fits.{HasShape, is_fit}
use Rattle.tw_rows.specs.Kinds.{cell_kind_of}
use Rattle.ingress.specs.Streams.{bound_in, mark_in}
use Rattle.ingress.proofs.Reading.{rows_placed}
use Rattle.edge_history.proofs.Sums.{failing-filter, failing-kept, failing-same}

-- the edges on both sides of a time are all edges, and those of a side are on it
both_sides : (t : ℕ) (w : Edge → ℕ) (es : List Edge) → total w es ≡ total w (filter (is_below t) es) + total w (filter (is_from t) es)
both_sides t w [] = refl
both_sides t w (e ∷ es) = go (cases_lt e.sync t) (both_sides t w es)
  where
    go : (e.sync < t) ⊎ (t ≤ e.sync) → total w es ≡ total w (filter (is_below t) es) + total w (filter (is_from t) es) →
        w e + total w es ≡ total w (filter (is_below t) (e ∷ es)) + total w (filter (is_from t) (e ∷ es))
    go (inl before) rest = grind (arith, nat_tests)
    go (inr after) rest = grind (arith, nat_tests)

-- the lists of the first n streams
pub record ReleasedTo (t n rows : ℕ) (kinds : List (List Kind)) (waiting : List (List Edge)) (lists : List EdgeListView) : Type 0 where
  pub long : length lists ≡ n
  pub edges : (s : ℕ) → s < n → SameBag (edges_at lists s) (filter (is_below t) (get_or waiting s []))
  pub order : (s : ℕ) → s < n → Rises 0 (edges_at lists s)
  pub kinds_so_far : map (λ l. l.kinds) lists ≡ take n kinds
  pub capacity : All (λ l. l.capacity ≡ rows) lists

edges_left : (ls : List EdgeListView) (l : EdgeListView) (s : ℕ) → s < length ls → edges_at (ls ++ l ∷ []) s ≡ edges_at ls s
edges_left [] l s low = absurd (omega (arith, low))
edges_left (x ∷ ls) l zero low = refl
edges_left (x ∷ ls) l (suc s) low = edges_left ls l s (omega (arith, low))

edges_last : (ls : List EdgeListView) (l : EdgeListView) → edges_at (ls ++ l ∷ []) (length ls) ≡ l.edges
edges_last [] l = refl
edges_last (x ∷ ls) l = edges_last ls l

edges_past : (ls : List EdgeListView) (s : ℕ) → length ls ≤ s → edges_at ls s ≡ []
edges_past [] s low = refl
edges_past (x ∷ ls) zero low = absurd (omega (arith, low))
edges_past (x ∷ ls) (suc s) low = edges_past ls s (omega (arith, low))

map_last : (ls : List EdgeListView) (l : EdgeListView) → map (λ x. x.kinds) (ls ++ l ∷ []) ≡ map (λ x. x.kinds) ls ++ l.kinds ∷ []
map_last [] l = refl
map_last (x ∷ ls) l = ap (λ k. x.kinds ∷ k) (map_last ls l)

module _ (t rows : ℕ) (kinds : List (List Kind)) (waiting : List (List Edge)) where
  pub released_first : ReleasedTo t 0 rows kinds waiting []
  released_first = record {
    long = refl;
    edges = λ s low. absurd (omega (arith, low));
    order = λ s low. absurd (omega (arith, low));
    kinds_so_far = refl;
    capacity = All-nil (λ (l : EdgeListView). l.capacity ≡ rows);
  }

  pub released_next : (n : ℕ) (lists after : List EdgeListView) (l : EdgeListView) → after ≡ lists ++ l ∷ [] → n < length kinds → l.kinds ≡ get_or kinds n [] → l.capacity ≡ rows →
      SameBag l.edges (filter (is_below t) (get_or waiting n [])) → Rises 0 l.edges → ReleasedTo t n rows kinds waiting lists → ReleasedTo t (n + 1) rows kinds waiting after
  released_next n lists after l is low own_kinds own_rows own_edges own_order r = subst (ReleasedTo t (n + 1) rows kinds waiting) (sym is) (record {
    long = (let a = length-append lists (l ∷ []) in let b = r.long in omega (arith, a, b));
    edges = λ s less. edges_of s less (cases_lt s n);
    order = λ s less. order_of s less (cases_lt s n);
    kinds_so_far = map_last lists l ∙ ap (λ k. k ++ l.kinds ∷ []) r.kinds_so_far ∙ ap (λ k. take n kinds ++ k ∷ []) own_kinds ∙ sym (take_more kinds n [] low);
    capacity = All-append (λ x. x.capacity ≡ rows) lists (l ∷ []) r.capacity (All-cons (λ x. x.capacity ≡ rows) l [] own_rows (All-nil (λ x. x.capacity ≡ rows)));
  })
    where
      last : (s : ℕ) → s < n + 1 → n ≤ s → edges_at (lists ++ l ∷ []) s ≡ l.edges
      last s less more = (let e : s ≡ length lists = (let b = r.long in omega (arith, b, less, more)) in ap (edges_at (lists ++ l ∷ [])) e ∙ edges_last lists l)

      edges_of : (s : ℕ) → s < n + 1 → (s < n) ⊎ (n ≤ s) → SameBag (edges_at (lists ++ l ∷ []) s) (filter (is_below t) (get_or waiting s []))
      edges_of s less (inl before) = subst (λ x. SameBag x (filter (is_below t) (get_or waiting s []))) (sym (edges_left lists l s (let b = r.long in omega (arith, b, before)))) (r.edges s before)
      edges_of s less (inr more) =
          let e : n ≡ s = omega (arith, less, more) in
          subst (λ x. SameBag x (filter (is_below t) (get_or waiting s []))) (sym (last s less more)) (subst (λ k. SameBag l.edges (filter (is_below t) (get_or waiting k []))) e own_edges)

      order_of : (s : ℕ) → s < n + 1 → (s < n) ⊎ (n ≤ s) → Rises 0 (edges_at (lists ++ l ∷ []) s)
      order_of s less (inl before) = subst (Rises 0) (sym (edges_left lists l s (let b = r.long in omega (arith, b, before)))) (r.order s before)
      order_of s less (inr more) = subst (Rises 0) (sym (last s less more)) own_order

  pub released_each : (n : ℕ) (lists : List EdgeListView) → length waiting ≤ n → ReleasedTo t n rows kinds waiting lists → AreReleased t waiting lists
  released_each n lists long r = record {
    edges = λ s. edges_of s (cases_lt s n);
    order = λ s. order_of s (cases_lt s n);
  }
    where
      edges_of : (s : ℕ) → (s < n) ⊎ (n ≤ s) → SameBag (edges_at lists s) (filter (is_below t) (get_or waiting s []))
      edges_of s (inl less) = r.edges s less
      edges_of s (inr more) = subst (λ x. SameBag x (filter (is_below t) (get_or waiting s []))) (sym (edges_past lists s (let b = r.long in omega (arith, b, more))))
          (subst (λ x. SameBag [] (filter (is_below t) x)) (sym (get_or_past waiting s [] (omega (arith, long, more)))) (SameBag-refl []))

      order_of : (s : ℕ) → (s < n) ⊎ (n ≤ s) → Rises 0 (edges_at lists s)
      order_of s (inl less) = r.order s less
      order_of s (inr more) = subst (Rises 0) (sym (edges_past lists s (let b = r.long in omega (arith, b, more)))) tt

released_keeps : (p q : ℕ) (waiting after : List (List Edge)) (lists : List EdgeListView) → p ≤ q → AreReleased q waiting lists →
    ((s : ℕ) → get_or after s [] ≡ filter (is_from q) (get_or waiting s [])) → (s : ℕ) (told : List Edge) (rows : List CellEvent) →
    IsHeld p told (get_or waiting s []) rows → IsHeld q (told ++ edges_at lists s) (get_or after s []) rows
released_keeps p q waiting after lists le r left s told rows h =
    let held = get_or waiting s [] in
    given_held p q told held (edges_at lists s) (get_or after s []) rows le h
    (record {
      weigh = λ w.
          let a = both_sides q w held in
          let b = total-append w (edges_at lists s) (get_or after s []) in
          let c = (r.edges s).weigh w in
          let d = ap (total w) (left s) in
          omega (arith, a, b, c, d);
    })
    (r.order s)
    (failing-same (is_below q) (edges_at lists s) (filter (is_below q) held) (r.edges s) (failing-kept (is_below q) held))
    (ap (failing (is_from q)) (left s) ∙ failing-kept (is_from q) held)

none_weighs : (es : List Edge) → SameBag es [] → es ≡ []
none_weighs [] same = refl
none_weighs (e ∷ es) same = let a = same.weigh (λ x. 1) in absurd (omega (arith, a))

back_of : (texts : List (List ℕ)) (xs ys : List Edge) → EdgesArePlaced texts (xs ++ ys) → EdgesArePlaced texts ys
back_of texts [] ys h = h
back_of texts (x ∷ xs) ys h = back_of texts xs ys (All-tail (λ (e : Edge). ArePlaced texts e.cells) x (xs ++ ys) h)

module _ (old : Ingress) (q : ℕ) (lists : List EdgeListView) (texts : List (List ℕ)) (a : Admission) (given : ℕ → List Edge)
    (released : AreReleased q old.held.waiting.items lists) (f : Follows texts a given old) where
  waits_long : length old.held.waiting.items ≡ length old.kinds.items
  waits_long = old.shape.waiting ∙ length-map old.kinds.items _

  pub none_past : (s : ℕ) → length old.kinds.items ≤ s → edges_at lists s ≡ []
  none_past s past = none_weighs (edges_at lists s) (subst (λ x. SameBag (edges_at lists s) (filter (is_below q) x)) (get_or_past old.held.waiting.items s [] (let l = waits_long in omega (arith, l, past))) (released.edges s))

  pub released_follows : (new : Ingress) → old.released ≤ q → q ≤ inf → SameFixed old new → new.watermarks ≡ old.watermarks → new.released ≡ q →
      ((s : ℕ) → get_or new.held.waiting.items s [] ≡ filter (is_from q) (get_or old.held.waiting.items s [])) →
      length new.held.waiting.items ≡ length old.held.waiting.items → new.held.opens ≡ old.held.opens → Follows texts a (longer given (edges_at lists)) new
  released_follows new le low fixed marks is left long opens = record {
    instant = omega (arith, is, low);
    bounds = λ s less. f.bounds s (fewer s less) ∙ sym (ap (λ m. bound_in m.streams.items s) marks);
    marks = λ s less. f.marks s (fewer s less) ∙ sym (ap (λ m. mark_in m.streams.items s) marks);
    made = f.made;
    opens = f.opens;
    reads_made = f.reads_made;
    reads_opens = f.reads_opens;
    made_placed = f.made_placed;
    opens_placed = f.opens_placed;
    keeps = record {
      held = λ s less. subst (λ n. IsHeld n (given s ++ edges_at lists s) (get_or new.held.waiting.items s []) (cell_rows f.made f.opens s)) (sym is)
          (released_keeps old.released q old.held.waiting.items new.held.waiting.items lists le released left s (given s) (cell_rows f.made f.opens s) (f.keeps.held s (omega (arith, less, long))));
      queued = λ k. ap (λ o. starts_in o.starts k) opens ∙ f.keeps.queued k;
    };
    declared = subst (λ n. All (λ o. o.key.stream < n) f.opens) (sym (ap (λ k. length k.items) fixed.kinds)) f.declared;
    stored = subst (λ cells. All (IsStored cells) f.opens) (sym (ap (λ k. map (λ x. map cell_kind_of x) (map (λ x. x.items) k.items)) fixed.kinds)) f.stored;
    none_made = λ s past. f.none_made s (more s past);
    none_given = λ s past. ap (λ l. l ++ edges_at lists s) (f.none_given s (more s past)) ∙ none_past s (more s past);
  }
    where
      fewer : (s : ℕ) → s < length new.kinds.items → s < length old.kinds.items
      fewer s less = (let e = ap (λ k. length k.items) fixed.kinds in omega (arith, e, less))

      more : (s : ℕ) → length new.kinds.items ≤ s → length old.kinds.items ≤ s
      more s past = (let e = ap (λ k. length k.items) fixed.kinds in omega (arith, e, past))

  pub released_later : (s : ℕ) → failing (is_from old.released) (edges_at lists s) ≡ 0
  released_later s = go (cases_lt s (length old.kinds.items))
    where
      go : (s < length old.kinds.items) ⊎ (length old.kinds.items ≤ s) → failing (is_from old.released) (edges_at lists s) ≡ 0
      go (inl less) =
          failing-same (is_from old.released) (edges_at lists s) (filter (is_below q) (get_or old.held.waiting.items s [])) (released.edges s)
          (failing-filter (is_below q) (is_from old.released) (get_or old.held.waiting.items s []) (f.keeps.held s (let l = waits_long in omega (arith, l, less))).from)
      go (inr past) = ap (failing (is_from old.released)) (none_past s past)

  -- the cells of the edges released have their places in the table
  pub released_placed : (after : List (List Edge)) → old.released ≤ q → q ≤ inf → ((s : ℕ) → get_or after s [] ≡ filter (is_from q) (get_or old.held.waiting.items s [])) →
      (s : ℕ) → EdgesArePlaced texts (edges_at lists s)
  released_placed after le low left s = go (cases_lt s (length old.kinds.items))
    where
      go : (s < length old.kinds.items) ⊎ (length old.kinds.items ≤ s) → EdgesArePlaced texts (edges_at lists s)
      go (inl less) =
          let rows = cell_rows f.made f.opens s in
          let h = released_keeps old.released q old.held.waiting.items after lists le released left s (given s) rows (f.keeps.held s (let l = waits_long in omega (arith, l, less))) in
          back_of texts (given s) (edges_at lists s)
          (answer_placed texts q (given s ++ edges_at lists s) rows (held_stands q (given s ++ edges_at lists s) (get_or after s []) rows low h)
          (rows_placed texts f.made f.opens s (f.made_placed s) f.opens_placed))
      go (inr past) = subst (EdgesArePlaced texts) (sym (none_past s past)) (All-nil (λ (e : Edge). ArePlaced texts e.cells))

pub shape_left : (q : ℕ) (kinds : List (List Kind)) (capacity count : ℕ) (held after : List (List Edge)) → ((s : ℕ) → get_or after s [] ≡ filter (is_from q) (get_or held s [])) →
    length after ≡ length held → HasShape kinds capacity count held → HasShape kinds capacity count after
shape_left q kinds capacity count held after left long h = record {
  marks = h.marks;
  waiting = long ∙ h.waiting;
  room = h.room;
  width = h.width;
  fit = λ s.
      let ks = get_or (map (λ k. map cell_kind_of k) kinds) s [] in
      ap (failing (is_fit ks)) (left s) ∙ failing-filter (is_from q) (is_fit ks) (get_or held s []) (h.fit s);
}
