-- Edges that fit the columns of their stream, and pools of which columns are taken.
use Rattle.std.specs.Prelude.{◌≡◌, ◌≢◌, ℕ, zero, suc, ◌+◌, ◌-◌, ◌<◌, ◌≤◌, ◌⊎◌, nat_eq, Bool, true, false, ◌&&◌, cond, IsTrue, Result, Ok, Err, OnOk, OnErr, List, [], ◌∷◌, ◌++◌, length, get_or, map, filter, take, drop, refl}
use Rattle.std.proofs.Common.{sym, ◌∙◌, ap, subst, arith, inl, inr}
use Rattle.std.proofs.lemmas.Bool.{and_parts, eqb-true, cases_lt}
use Rattle.std.proofs.lemmas.Bool.Decides.{Decides-eqb}
use Rattle.std.proofs.lemmas.List.{take_more, take-append-drop, append_assoc, get_or_past}
use Rattle.tw_rows.specs.Instant.{inf}
use Rattle.tw_rows.specs.Cells.{datum_kind}
use Rattle.tw_rows.specs.declared.cells.Datum.{Datum}
use Rattle.tw_rows.specs.declared.cells.Datum.TheVariants.{Int as IntDatum, Bool as FlagDatum, Text as PlaceDatum}
use Rattle.tw_rows.specs.declared.edge.Edge.{Edge}
use Rattle.tw_rows.specs.declared.kind.CellKind.{CellKind}
use Rattle.tw_rows.specs.declared.kind.CellKind.TheVariants.{Whole, Bit, Place}
use Rattle.tw_rows.specs.Bag.{SameBag}
use Rattle.batch.specs.PoolsView.{PoolsView, IsPartTaken}
use Rattle.edge_history.specs.Order.{rank, failing, is_real, is_from, Rises, KeepsOrder}
use Rattle.edge_history.proofs.Keeping.{KeepsOrder-front}
use Rattle.edge_history.proofs.Rising.{Rises-less}
use Rattle.edge_history.proofs.Sums.{weaker, failing-parts}
use Rattle.edge_stream.specs.Listing.{EdgeListView, cells_of, appended, SameShape}
use Rattle.edge_stream.specs.Taking.{room_taken, batches_taken, AreBatchesTaken}
use Rattle.edge_stream.proofs.Filling.{room_taken-capacity, batches_taken-capacity, taken_after, appended-kinds, appended-capacity}
use Rattle.edge_stream.proofs.Pools.{part-capacity, part-limit, room_taken-limit, some-capacity, some-limit, batches_taken-limit}
use Rattle.ingress.specs.Fits.{is_stored, are_stored, is_fit, AreFit}
use Rattle.ingress.specs.Keeping.{Changed}
use Rattle.ingress.proofs.Keep.{real_edge}
use Rattle.ingress.specs.Ranks.{SamePools, TakesBatches}

stored_one : (k : CellKind) (d : Datum) → is_stored k d ≡ true → datum_kind d ≡ k
stored_one Whole (IntDatum x) h = refl
stored_one Whole (FlagDatum b) h = absurd (cc)
stored_one Whole (PlaceDatum n) h = absurd (cc)
stored_one Bit (IntDatum x) h = absurd (cc)
stored_one Bit (FlagDatum b) h = refl
stored_one Bit (PlaceDatum n) h = absurd (cc)
stored_one Place (IntDatum x) h = absurd (cc)
stored_one Place (FlagDatum b) h = absurd (cc)
stored_one Place (PlaceDatum n) h = refl

pub stored_kinds : (ks : List CellKind) (ds : List Datum) → are_stored ks ds ≡ true → map datum_kind ds ≡ ks
stored_kinds [] [] h = refl
stored_kinds [] (d ∷ ds) h = absurd (cc)
stored_kinds (k ∷ ks) [] h = absurd (cc)
stored_kinds (k ∷ ks) (d ∷ ds) h =
    let p = and_parts (is_stored k d) (are_stored ks ds) h in
    let a = stored_one k d p.0 in
    let b = stored_kinds ks ds p.1 in
    λ i. a i ∷ b i

both_true : (a b : Bool) → a ≡ true → b ≡ true → (a && b) ≡ true
both_true a b h k = ap (λ x. x && b) h ∙ k

stored_itself : (d : Datum) → is_stored (datum_kind d) d ≡ true
stored_itself (IntDatum x) = refl
stored_itself (FlagDatum b) = refl
stored_itself (PlaceDatum n) = refl

all_stored : (ds : List Datum) → are_stored (map datum_kind ds) ds ≡ true
all_stored [] = refl
all_stored (d ∷ ds) = both_true (is_stored (datum_kind d) d) (are_stored (map datum_kind ds) ds) (stored_itself d) (all_stored ds)

pub kinds_stored : (ks : List CellKind) (ds : List Datum) → map datum_kind ds ≡ ks → are_stored ks ds ≡ true
kinds_stored ks ds is = subst (λ k. are_stored k ds ≡ true) is (all_stored ds)

-- where no item fails, each passes
pub none_fails_at : {X : Type 0} (p : X → Bool) (xs : List X) (i : ℕ) (d : X) → failing p xs ≡ 0 → i < length xs → p (get_or xs i d) ≡ true
none_fails_at p [] i d h low = absurd (omega arith)
none_fails_at p (x ∷ xs) zero d h low = go (p x) h
  where
    go : (b : Bool) → cond b 0 1 + failing p xs ≡ 0 → b ≡ true
    go true k = refl
    go false k = absurd (omega (arith, k))
none_fails_at p (x ∷ xs) (suc i) d h low = none_fails_at p xs i d (omega (arith, h)) (omega (arith, low))

weigh_true : (b : Bool) (n : ℕ) → b ≡ true → n ≡ 0 → cond b 0 1 + n ≡ 0
weigh_true true n h none = omega (arith, none)
weigh_true false n h none = absurd (cc)

pub fit_real : (ks : List CellKind) (es : List Edge) → failing (is_fit ks) es ≡ 0 → failing is_real es ≡ 0
fit_real ks es h = weaker (is_fit ks) is_real es (λ e k. (and_parts (is_real e) (are_stored ks e.cells) k).0) h

pub fit_kinds : (ks : List CellKind) (es : List Edge) (i : ℕ) (d e : Edge) → e ≡ get_or es i d → i < length es → failing (is_fit ks) es ≡ 0 → map datum_kind e.cells ≡ ks
fit_kinds ks es i d e is low h =
    let f : is_fit ks e ≡ true = ap (is_fit ks) is ∙ none_fails_at (is_fit ks) es i d h low in
    stored_kinds ks e.cells (and_parts (is_real e) (are_stored ks e.cells) f).1

pub rises_filter : (p : Edge → Bool) (r : ℕ) (es : List Edge) → Rises r es → Rises r (filter p es)
rises_filter p r [] h = tt
rises_filter p r (e ∷ es) h = go (p e) (rises_filter p (rank e) es h.1)
  where
    go : (b : Bool) → Rises (rank e) (filter p es) → Rises r (cond b (e ∷ filter p es) (filter p es))
    go true rest = (h.0, rest)
    go false rest = Rises-less (rank e) r (filter p es) h.0 rest

pub front_keeps : (xs ys zs all : List Edge) → xs ++ (ys ++ zs) ≡ all → KeepsOrder all → KeepsOrder (xs ++ ys)
front_keeps xs ys zs all is h = KeepsOrder-front (xs ++ ys) zs (subst KeepsOrder (sym (append_assoc xs ys zs ∙ is)) h)

pub front_fits : (ks : List CellKind) (xs ys all : List Edge) → all ≡ xs ++ ys → failing (is_fit ks) all ≡ 0 → failing (is_fit ks) xs ≡ 0
front_fits ks xs ys all is h = (failing-parts (is_fit ks) xs ys (ap (failing (is_fit ks)) (sym is) ∙ h)).0

pub back_fits : (ks : List CellKind) (xs ys all : List Edge) → all ≡ xs ++ ys → failing (is_fit ks) all ≡ 0 → failing (is_fit ks) ys ≡ 0
back_fits ks xs ys all is h = (failing-parts (is_fit ks) xs ys (ap (failing (is_fit ks)) (sym is) ∙ h)).1

-- the list with its next edge
pub next_keeps : (xs now es : List Edge) (i : ℕ) (d e : Edge) → e ≡ get_or es i d → i < length es → now ≡ xs ++ take i es → KeepsOrder (xs ++ es) → KeepsOrder (now ++ e ∷ [])
next_keeps xs now es i d e is low so_far h =
    let one : now ++ e ∷ [] ≡ xs ++ take (i + 1) es =
    ap (λ l. l ++ e ∷ []) so_far ∙ append_assoc xs (take i es) (e ∷ [])
    ∙ ap (λ l. xs ++ l) (ap (λ x. take i es ++ x ∷ []) is ∙ sym (take_more es i d low)) in
    subst KeepsOrder (sym one)
    (front_keeps xs (take (i + 1) es) (drop (i + 1) es) (xs ++ es) (ap (λ l. xs ++ l) (take-append-drop (i + 1) es)) h)

pub next_edges : (xs now after es : List Edge) (i : ℕ) (d e : Edge) → e ≡ get_or es i d → i < length es → now ≡ xs ++ take i es → after ≡ now ++ e ∷ [] → after ≡ xs ++ take (i + 1) es
next_edges xs now after es i d e is low so_far one =
    one ∙ ap (λ l. l ++ e ∷ []) so_far ∙ append_assoc xs (take i es) (e ∷ [])
    ∙ ap (λ l. xs ++ l) (ap (λ x. take i es ++ x ∷ []) is ∙ sym (take_more es i d low))

pub pools_again : (a b c : PoolsView) → SamePools a b → SamePools b c → SamePools a c
pools_again a b c p q = record { capacity = q.capacity ∙ p.capacity; limit = q.limit ∙ p.limit }

pub pools_same : (a : PoolsView) → SamePools a a
pools_same a = record { capacity = refl; limit = refl }

pub pools_next : (first before after : PoolsView) (l : EdgeListView) → SamePools first before → after ≡ room_taken l before → SamePools first after
pools_next first before after l so_far one = record {
  capacity = ap (λ s. s.capacity) one ∙ room_taken-capacity l before ∙ so_far.capacity;
  limit = ap (λ s. s.limit) one ∙ room_taken-limit l before ∙ so_far.limit;
}

pub pools_part : (first before after : PoolsView) (ks : List CellKind) → SamePools first before → IsPartTaken before after ks → SamePools first after
pools_part first before after ks so_far part = record {
  capacity = part-capacity before after ks part ∙ so_far.capacity;
  limit = part-limit before after ks part ∙ so_far.limit;
}

-- what an edge that was put last took, or was to take
pub pools_put : {T E : Type 0} (r : Result T E) (before after : PoolsView) (l : EdgeListView) → OnOk r (after ≡ room_taken l before) → OnErr r (IsPartTaken before after (cells_of l)) → SamePools before after
pools_put (Ok x) before after l took part = pools_next before before after l (pools_same before) took
pools_put (Err x) before after l took part = pools_part before before after (cells_of l) (pools_same before) part

-- and what a list that was copied took
pub pools_copied : {T E : Type 0} (r : Result T E) (before after : PoolsView) (n : ℕ) (ks : List CellKind) → OnOk r (after ≡ batches_taken n before ks) → OnErr r (AreBatchesTaken before after ks) →
    SamePools before after
pools_copied (Ok x) before after n ks took some = record {
  capacity = ap (λ s. s.capacity) took ∙ batches_taken-capacity n before ks;
  limit = ap (λ s. s.limit) took ∙ batches_taken-limit n before ks;
}
pools_copied (Err x) before after n ks took some = record { capacity = some-capacity before after ks some; limit = some-limit before after ks some }

pub takes_copied : (old new : EdgeListView) (before after : PoolsView) (ks : List CellKind) → cells_of old ≡ ks → old.batches ≤ new.batches →
    after ≡ batches_taken (new.batches - old.batches) before ks → TakesBatches old before new after
takes_copied old new before after ks of more took first kinds same so_far =
    let whole : (n : ℕ) → n - 0 ≡ n = λ n. omega arith in
    taken_after 0 old.batches new.batches first before after kinds ks (omega arith) more (sym of ∙ same) (so_far ∙ ap (λ n. batches_taken n first kinds) (sym (whole old.batches))) took
    ∙ ap (λ n. batches_taken n first kinds) (whole new.batches)

pub shape_next : (first before after : EdgeListView) (e : Edge) → SameShape first before → after ≡ appended before e → SameShape first after
shape_next first before after e so_far one = record {
  kinds = ap (λ v. v.kinds) one ∙ appended-kinds before e ∙ so_far.kinds;
  capacity = ap (λ v. v.capacity) one ∙ appended-capacity before e ∙ so_far.capacity;
}

pub shape_again : (a b c : EdgeListView) → SameShape a b → SameShape b c → SameShape a c
shape_again a b c p q = record { kinds = q.kinds ∙ p.kinds; capacity = q.capacity ∙ p.capacity }

pub shape_same : (a b : EdgeListView) → b ≡ a → SameShape a b
shape_same a b is = record { kinds = ap (λ v. v.kinds) is; capacity = ap (λ v. v.capacity) is }

-- an edge of a row with a life fits as the row's cells do
pub edge_fits : (ks : List CellKind) (cells : List Datum) (sync other : ℕ) → sync < inf → other ≤ inf → other ≢ sync → map datum_kind cells ≡ ks →
    is_fit ks (record { sync = sync; other = other; cells = cells }) ≡ true
edge_fits ks cells sync other a b c is =
    both_true (is_real (record { sync = sync; other = other; cells = cells })) (are_stored ks cells) (real_edge cells sync other a b c) (kinds_stored ks cells is)

module _ (kinds : List (List CellKind)) (s : ℕ) (before after : List (List Edge)) (changed : Changed s before after) (fit : AreFit kinds before) where
  other_fits : (k : ℕ) → k ≢ s → failing (is_fit (get_or kinds k [])) (get_or after k []) ≡ 0
  other_fits k apart = ap (failing (is_fit (get_or kinds k []))) (changed.others k apart) ∙ fit k

  own_fits : failing (is_fit (get_or kinds s [])) (get_or after s []) ≡ 0 → AreFit kinds after
  own_fits own = λ k. go k (nat_eq k s) refl
    where
      go : (k : ℕ) (b : Bool) → nat_eq k s ≡ b → failing (is_fit (get_or kinds k [])) (get_or after k []) ≡ 0
      go k true is = subst (λ n. failing (is_fit (get_or kinds n [])) (get_or after n []) ≡ 0) (sym (eqb-true k s is)) own
      go k false is = other_fits k (λ e. absurd (let t = (Decides-eqb k s).1 e in cc))

  pub same_fits : get_or after s [] ≡ get_or before s [] → AreFit kinds after
  same_fits is = own_fits (ap (failing (is_fit (get_or kinds s []))) is ∙ fit s)

  pub put_fits : {T E : Type 0} (r : Result T E) (e : Edge) → OnOk r (SameBag (get_or after s []) (e ∷ get_or before s [])) → OnErr r (get_or after s [] ≡ get_or before s []) →
      is_fit (get_or kinds s []) e ≡ true → AreFit kinds after
  put_fits (Ok x) e ok err own = own_fits (
      ok.weigh (λ x. cond (is_fit (get_or kinds s []) x) 0 1)
      ∙ weigh_true (is_fit (get_or kinds s []) e) (failing (is_fit (get_or kinds s [])) (get_or before s [])) own (fit s))
  put_fits (Err x) e ok err own = same_fits err

  pub out_fits : (b : Bool) (e : Edge) → (IsTrue b → SameBag (e ∷ get_or after s []) (get_or before s [])) → (b ≡ false → get_or after s [] ≡ get_or before s []) → AreFit kinds after
  out_fits true e taken kept =
      let a = (taken refl).weigh (λ x. cond (is_fit (get_or kinds s []) x) 0 1) in
      let b = fit s in
      own_fits (omega (arith, a, b))
  out_fits false e taken kept = same_fits (kept refl)

-- the lists of the first n streams have lost their edges before t
pub record DroppedTo (t n : ℕ) (first now : List (List Edge)) : Type 0 where
  pub long : length now ≡ length first
  pub done : (s : ℕ) → s < n → get_or now s [] ≡ filter (is_from t) (get_or first s [])
  pub rest : (s : ℕ) → n ≤ s → get_or now s [] ≡ get_or first s []

pub dropped_first : (t : ℕ) (first : List (List Edge)) → DroppedTo t 0 first first
dropped_first t first = record { long = refl; done = λ s low. absurd (omega (arith, low)); rest = λ s low. refl }

pub dropped_next : (t n : ℕ) (first now after : List (List Edge)) → Changed n now after → get_or after n [] ≡ filter (is_from t) (get_or now n []) →
    DroppedTo t n first now → DroppedTo t (n + 1) first after
dropped_next t n first now after changed own d = record {
  long = changed.long ∙ d.long;
  done = λ s low. go s low (cases_lt s n);
  rest = λ s low. changed.others s (λ e. omega (arith, e, low)) ∙ d.rest s (omega (arith, low));
}
  where
    go : (s : ℕ) → s < n + 1 → (s < n) ⊎ (n ≤ s) → get_or after s [] ≡ filter (is_from t) (get_or first s [])
    go s low (inl less) = changed.others s (λ e. omega (arith, e, less)) ∙ d.done s less
    go s low (inr more) =
        let e : s ≡ n = omega (arith, low, more) in
        ap (λ k. get_or after k []) e ∙ own ∙ ap (filter (is_from t)) (d.rest n (omega arith)) ∙ ap (λ k. filter (is_from t) (get_or first k [])) (sym e)

pub dropped_each : (t n : ℕ) (first now : List (List Edge)) → length first ≤ n → DroppedTo t n first now → (s : ℕ) → get_or now s [] ≡ filter (is_from t) (get_or first s [])
dropped_each t n first now long d s = go (cases_lt s n)
  where
    go : (s < n) ⊎ (n ≤ s) → get_or now s [] ≡ filter (is_from t) (get_or first s [])
    go (inl less) = d.done s less
    go (inr more) =
        let past : get_or first s [] ≡ [] = get_or_past first s [] (omega (arith, long, more)) in
        d.rest s more ∙ past ∙ ap (filter (is_from t)) (sym past)
