-- Groups: the rows of one key at an instant, taken together into one row.
use Rattle.std.specs.Prelude.{◌≡◌, Bool, cond, Option, None, option_to_list, List, [], ◌∷◌, map, filter, flat_map}
use Rattle.std.specs.List.{list_any}
use Rattle.tw_rows.specs.Instant.{inf}
use Rattle.tw_rows.specs.Bag.{SameBag}
use Rattle.tw_rows.specs.Event.{Event, alive}
use Rattle.key_nodes.specs.Runs.{runs}

-- each key of the list, once
abbrev pub distinct : {K : Type 0} → (K → K → Bool) → List K → List K
distinct same [] = []
distinct same (k ∷ ks) = cond (list_any (same k) ks) (distinct same ks) (k ∷ distinct same ks)

-- the row has the key
abbrev pub has_key : {R K : Type 0} → (R → K) → (K → K → Bool) → K → R → Bool
has_key key same k r = same k (key r)

-- what is asked of a function from a key and rows to the row of the group: it depends on the rows of the key alone, in
-- whatever order, and a key that no row has gets no row
pub record IsGroupRow {R K S : Type 0} (key : R → K) (same : K → K → Bool) (tell : K → List R → Option S) : Type 0 where
  pub by_rows_of_key : (k : K) (xs ys : List R) →
      SameBag (filter (has_key key same k) xs) (filter (has_key key same k) ys) → tell k xs ≡ tell k ys
  pub none_without_rows : (k : K) (rows : List R) → filter (has_key key same k) rows ≡ [] → tell k rows ≡ None

-- one row for each key that has a row
abbrev pub grouped_rows : {R K S : Type 0} → (R → K) → (K → K → Bool) → (K → List R → Option S) → List R → List S
grouped_rows key same tell rows = flat_map (λ k. option_to_list (tell k rows)) (distinct same (map key rows))

-- one event for each key and each maximal run of instants at which its group has the same row
abbrev pub grouped : {R K S : Type 0} → (R → K) → (K → K → Bool) → (S → S → Bool) → (K → List R → Option S) →
    List (Event R) → List (Event S)
grouped key same same_row tell es =
    flat_map (λ k. runs same_row (λ t. tell k (alive es t)) inf) (distinct same (map (λ e. key e.row) es))
