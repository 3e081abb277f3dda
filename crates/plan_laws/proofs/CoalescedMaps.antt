-- Rows replaced, in coalesced events, in tops and in followed events.
use Rattle.std.specs.Prelude.{◌≡◌, ℕ, zero, suc, ◌+◌, ◌-◌, nat_lt, ℤ, int_lt, Bool, true, false, cond, not, ◌&&◌, List, [], ◌∷◌, ◌++◌, map, flat_map, replicate, refl}
use Rattle.std.specs.List.{list_any}
use Rattle.std.proofs.Common.{sym, ◌∙◌, ap}
use Rattle.std.proofs.lemmas.List.{map-append}
use Rattle.tw_rows.specs.Instant.{inf, later}
use Rattle.tw_rows.specs.Event.{Event, alive}
use Rattle.tw_rows.proofs.Bags.{total-map, total_same}
use Rattle.key_nodes.specs.Groups.{distinct}
use Rattle.key_nodes.specs.Coalesced.{how_often, rows_before, rise_times, fall_times, paired_times, row_events, rows_below, coalesced}
use Rattle.key_nodes.specs.Tops.{greater, top_rows, top}
use Rattle.key_nodes.specs.Follows.{starts_within, starts_next, followed_one, followed}
use Rattle.plan_model.specs.Nodes.{event_to, events_to}
use Rattle.plan_laws.proofs.Maps.{flat_map_to, filter_to, any_to, distinct_to, alive_to}

paired_times_to : {R S : Type 0} (f : R → S) (r : R) (starts ends : List ℕ) → paired_times (f r) starts ends ≡ events_to f (paired_times r starts ends)
paired_times_to f r [] ends = refl
paired_times_to f r (s ∷ starts) [] = ap (λ l. record { row = f r; start = s; end = inf } ∷ l) (paired_times_to f r starts [])
paired_times_to f r (s ∷ starts) (e ∷ ends) = ap (λ l. record { row = f r; start = s; end = e } ∷ l) (paired_times_to f r starts ends)

-- the rows of each instant, and those that are made of them
module _ {R S : Type 0} (f : R → S) (same : R → R → Bool) (same' : S → S → Bool) (alike : (a b : R) → same' (f a) (f b) ≡ same a b)
    (rows : ℕ → List R) (made : ℕ → List S) (each : (t : ℕ) → made t ≡ map f (rows t)) where
  often_to : (r : R) (xs : List R) → how_often same' (f r) (map f xs) ≡ how_often same r xs
  often_to r xs = total-map (λ x. cond (same' (f r) x) 1 0) f xs ∙ total_same _ _ xs (λ x. ap (λ b. cond b 1 0) (alike r x))

  at_to : (r : R) (t : ℕ) → how_often same' (f r) (made t) ≡ how_often same r (rows t)
  at_to r t = ap (how_often same' (f r)) (each t) ∙ often_to r (rows t)

  before_to : (r : R) (t : ℕ) → how_often same' (f r) (rows_before made t) ≡ how_often same r (rows_before rows t)
  before_to r zero = refl
  before_to r (suc t) = at_to r t

  rise_times_to : (r : R) (n : ℕ) → rise_times same' made (f r) n ≡ rise_times same rows r n
  rise_times_to r zero = refl
  rise_times_to r (suc t) =
      ap (λ l. l ++ replicate (how_often same' (f r) (made t) - how_often same' (f r) (rows_before made t)) t) (rise_times_to r t)
      ∙ (ap (λ m. rise_times same rows r t ++ replicate (m - how_often same' (f r) (rows_before made t)) t) (at_to r t)
      ∙ ap (λ m. rise_times same rows r t ++ replicate (how_often same r (rows t) - m) t) (before_to r t))

  fall_times_to : (r : R) (n : ℕ) → fall_times same' made (f r) n ≡ fall_times same rows r n
  fall_times_to r zero = refl
  fall_times_to r (suc t) =
      ap (λ l. l ++ replicate (how_often same' (f r) (rows_before made t) - how_often same' (f r) (made t)) t) (fall_times_to r t)
      ∙ (ap (λ m. fall_times same rows r t ++ replicate (how_often same' (f r) (rows_before made t) - m) t) (at_to r t)
      ∙ ap (λ m. fall_times same rows r t ++ replicate (m - how_often same r (rows t)) t) (before_to r t))

  row_events_to : (n : ℕ) (r : R) → row_events same' made n (f r) ≡ events_to f (row_events same rows n r)
  row_events_to n r =
      ap (λ l. paired_times (f r) l (fall_times same' made (f r) n)) (rise_times_to r n)
      ∙ (ap (paired_times (f r) (rise_times same rows r n)) (fall_times_to r n) ∙ paired_times_to f r (rise_times same rows r n) (fall_times same rows r n))

  below_to : (n : ℕ) → rows_below made n ≡ map f (rows_below rows n)
  below_to zero = refl
  below_to (suc t) = ap (λ l. l ++ made t) (below_to t) ∙ (ap (λ l. map f (rows_below rows t) ++ l) (each t) ∙ sym (map-append f (rows_below rows t) (rows t)))

  pub coalesced_to : coalesced same' made ≡ events_to f (coalesced same rows)
  coalesced_to =
      ap (flat_map (row_events same' made inf)) (ap (distinct same') (below_to inf) ∙ distinct_to f same same' alike (rows_below rows inf))
      ∙ flat_map_to f (event_to f) (row_events same rows inf) (row_events same' made inf) (row_events_to inf) (distinct same (rows_below rows inf))

module _ {R S : Type 0} (f : R → S) (meets : R → R → Bool) (meets' : S → S → Bool) (value : R → ℤ) (value' : S → ℤ)
    (em : (a b : R) → meets' (f a) (f b) ≡ meets a b) (ev : (a : R) → value' (f a) ≡ value a) where
  greater_to : (rows : List R) (r : R) → greater meets' value' (map f rows) (f r) ≡ greater meets value rows r
  greater_to rows r =
      total-map (λ x. cond (meets' (f r) x && int_lt (value' (f r)) (value' x)) 1 0) f rows
      ∙ total_same _ _ rows (λ x.
      ap (λ b. cond (b && int_lt (value' (f r)) (value' (f x))) 1 0) (em r x)
      ∙ (ap (λ i. cond (meets r x && int_lt i (value' (f x))) 1 0) (ev r) ∙ ap (λ i. cond (meets r x && int_lt (value r) i) 1 0) (ev x)))

  pub top_rows_to : (count : ℕ) (rows : List R) → top_rows meets' value' count (map f rows) ≡ map f (top_rows meets value count rows)
  top_rows_to count rows = filter_to f _ _ (λ r. ap (λ n. nat_lt n count) (greater_to rows r)) rows

  pub top_to : (same : R → R → Bool) (same' : S → S → Bool) → ((a b : R) → same' (f a) (f b) ≡ same a b) → (count : ℕ) (es : List (Event R)) →
      top same' meets' value' count (events_to f es) ≡ events_to f (top same meets value count es)
  top_to same same' alike count es =
      coalesced_to f same same' alike (λ t. top_rows meets value count (alive es t)) (λ t. top_rows meets' value' count (alive (events_to f es) t))
      (λ t. ap (top_rows meets' value' count) (alive_to f es t) ∙ top_rows_to count (alive es t))

module _ {L R P L' R' P' : Type 0} (f : L → L') (g : R → R') (k : P → P') (meets : L → R → Bool) (meets' : L' → R' → Bool) (pair : L → R → P) (pair' : L' → R' → P')
    (em : (a : L) (b : R) → meets' (f a) (g b) ≡ meets a b) (ep : (a : L) (b : R) → pair' (f a) (g b) ≡ k (pair a b)) where
  within_to : (within : ℕ) (a : Event L) (b : Event R) → starts_within meets' within (event_to f a) (event_to g b) ≡ starts_within meets within a b
  within_to within a b = ap (λ m. m && (nat_lt a.start b.start && nat_lt b.start (a.start + within))) (em a.row b.row)

  next_to : (within : ℕ) (rs : List (Event R)) (a : Event L) (b : Event R) → starts_next meets' within (events_to g rs) (event_to f a) (event_to g b) ≡ starts_next meets within rs a b
  next_to within rs a b =
      ap (λ m. m && not (list_any (λ c. starts_within meets' within (event_to f a) c && nat_lt c.start b.start) (events_to g rs))) (within_to within a b)
      ∙ ap (λ m. starts_within meets within a b && not m)
      (any_to (event_to g) (λ c. starts_within meets within a c && nat_lt c.start b.start) (λ c. starts_within meets' within (event_to f a) c && nat_lt c.start b.start)
      (λ c. ap (λ m. m && nat_lt c.start b.start) (within_to within a c)) rs)

  one_to : (within : ℕ) (rs : List (Event R)) (a : Event L) (b : Event R) → followed_one meets' pair' within (events_to g rs) (event_to f a) (event_to g b) ≡ map (event_to k) (followed_one meets pair within rs a b)
  one_to within rs a b =
      ap (λ m. cond m (record { row = pair' (f a.row) (g b.row); start = b.start; end = later within a.start } ∷ []) []) (next_to within rs a b)
      ∙ (ap (λ r. cond (starts_next meets within rs a b) (record { row = r; start = b.start; end = later within a.start } ∷ []) []) (ep a.row b.row)
      ∙ out (starts_next meets within rs a b))
    where
      out : (m : Bool) → cond m (record { row = k (pair a.row b.row); start = b.start; end = later within a.start } ∷ []) [] ≡ map (event_to k) (cond m (record { row = pair a.row b.row; start = b.start; end = later within a.start } ∷ []) [])
      out true = refl
      out false = refl

  pub followed_to : (within : ℕ) (ls : List (Event L)) (rs : List (Event R)) → followed meets' pair' within (events_to f ls) (events_to g rs) ≡ events_to k (followed meets pair within ls rs)
  followed_to within ls rs =
      flat_map_to (event_to f) (event_to k) (λ a. flat_map (followed_one meets pair within rs a) rs) (λ a. flat_map (followed_one meets' pair' within (events_to g rs) a) (events_to g rs))
      (λ a. flat_map_to (event_to g) (event_to k) (followed_one meets pair within rs a) (followed_one meets' pair' within (events_to g rs) (event_to f a)) (one_to within rs a) rs) ls
