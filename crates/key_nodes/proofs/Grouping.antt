-- The events of groups.
use Rattle.std.specs.Prelude.{◌≡◌, ℕ, ◌<◌, ◌≤◌, Bool, false, cond, Option, None, option_to_list, List, [], map, filter}
use Rattle.std.specs.List.{list_any}
use Rattle.std.proofs.Common.{sym, ◌∙◌, ap, arith}
use Rattle.std.proofs.lemmas.Bool.{false_from_ne_true}
use Rattle.tw_rows.specs.Instant.{inf}
use Rattle.tw_rows.specs.Bag.{total, SameBag}
use Rattle.tw_rows.specs.Event.{Event, lives_at, alive, AreEvents, cut_one, cut, Known}
use Rattle.tw_rows.proofs.Bags.{SameBag-refl, SameBag-filter, total-flat_map, total_same}
use Rattle.tw_rows.proofs.Lives.{total-alive, total-cut, alive_known}
use Rattle.key_nodes.specs.Runs.{Tells, runs}
use Rattle.key_nodes.specs.Groups.{distinct, has_key, IsGroupRow, grouped_rows, grouped}
use Rattle.key_nodes.proofs.Bags.{any_map, any_of_same, filter_none, sum_distinct}
use Rattle.key_nodes.proofs.Lives.{AreEvents-flat_map, any_alive, any_alive_known, any_cut}
use Rattle.key_nodes.proofs.RunSteps.{runs_valid, runs_known, runs_none, cut_runs, weight_of, weight_of_list, alive_runs}

module _ {R K S : Type 0} (key : R → K) (same : K → K → Bool) (tell : K → List R → Option S) where
  abbrev keys : List (Event R) → List K
  keys es = map (λ e. key e.row) es

  any_key : (es : List (Event R)) (k : K) → list_any (same k) (keys es) ≡ list_any (λ e. has_key key same k e.row) es
  any_key es k = any_map (same k) (λ e. key e.row) es

  -- a key that no row has
  pub none_told : IsGroupRow key same tell → (k : K) (rows : List R) → list_any (has_key key same k) rows ≡ false →
      tell k rows ≡ None
  none_told is k rows none = is.none_without_rows k rows (filter_none (has_key key same k) rows none)

  same_told : IsGroupRow key same tell → (k : K) (xs ys : List R) → SameBag xs ys → tell k xs ≡ tell k ys
  same_told is k xs ys h = is.by_rows_of_key k xs ys (SameBag-filter (has_key key same k) xs ys h)

  -- the rows of groups as a multiset
  pub grouped_rows_same : Tells same → IsGroupRow key same tell → (xs ys : List R) → SameBag xs ys →
      SameBag (grouped_rows key same tell xs) (grouped_rows key same tell ys)
  grouped_rows_same tells is xs ys h = record {
    weigh = λ w.
        let g : K → ℕ = λ k. weight_of w (tell k ys) in
        total-flat_map w (λ k. option_to_list (tell k xs)) (distinct same (map key xs))
        ∙ (total_same _ g (distinct same (map key xs))
        (λ k. weight_of_list w (tell k xs) ∙ ap (weight_of w) (same_told is k xs ys h))
        ∙ (sum_distinct same tells g (map key xs) (map key ys)
        (λ k none. ap (weight_of w) (none_told is k ys (sym (any_map (same k) key ys) ∙ none)))
        (λ k some. any_map (same k) key xs
        ∙ (any_of_same (has_key key same k) xs ys h ∙ (sym (any_map (same k) key ys) ∙ some)))
        ∙ sym (total-flat_map w (λ k. option_to_list (tell k ys)) (distinct same (map key ys))
        ∙ total_same _ g (distinct same (map key ys)) (λ k. weight_of_list w (tell k ys)))));
  }

module _ {R K S : Type 0} (key : R → K) (same : K → K → Bool) (same_row : S → S → Bool)
    (tell : K → List R → Option S) where
  abbrev told : List (Event R) → K → ℕ → Option S
  told es k t = tell k (alive es t)

  pub grouped_valid : (es : List (Event R)) → AreEvents (grouped key same same_row tell es)
  grouped_valid es =
      AreEvents-flat_map (λ k. runs same_row (told es k) inf) (distinct same (keys key same tell es))
      (λ k. runs_valid same_row (told es k) inf (omega arith))

  pub alive_grouped : Tells same → Tells same_row → IsGroupRow key same tell →
      (es : List (Event R)) (rows : List R) (t : ℕ) → t < inf → SameBag (alive es t) rows →
      SameBag (alive (grouped key same same_row tell es) t) (grouped_rows key same tell rows)
  alive_grouped tells tells_rows is es rows t low h = record {
    weigh = λ w.
        let g : K → ℕ = λ k. weight_of w (tell k rows) in
        let at : Event S → ℕ = λ e. cond (lives_at t e) (w e.row) 0 in
        total-alive w (grouped key same same_row tell es) t
        ∙ (total-flat_map at (λ k. runs same_row (told es k) inf) (distinct same (keys key same tell es))
        ∙ (total_same _ g (distinct same (keys key same tell es)) (λ k.
        sym (total-alive w (runs same_row (told es k) inf) t)
        ∙ (alive_runs same_row w (told es k) inf t tells_rows low
        ∙ ap (weight_of w) (same_told key same tell is k (alive es t) rows h)))
        ∙ (sum_distinct same tells g (keys key same tell es) (map key rows)
        (λ k none. ap (weight_of w) (none_told key same tell is k rows (sym (any_map (same k) key rows) ∙ none)))
        (λ k some. any_key key same tell es k
        ∙ any_alive (has_key key same k) es t
        (any_of_same (has_key key same k) (alive es t) rows h ∙ (sym (any_map (same k) key rows) ∙ some)))
        ∙ sym (total-flat_map w (λ k. option_to_list (tell k rows)) (distinct same (map key rows))
        ∙ total_same _ g (distinct same (map key rows)) (λ k. weight_of_list w (tell k rows))))));
  }

  -- what is known below c of the events of a key
  weight_known : List (Event R) → ℕ → (Event S → ℕ) → K → ℕ
  weight_known es c w k = total w (cut c (runs same_row (told es k) inf))

  by_known : (is : IsGroupRow key same tell) (w : Event S → ℕ) (c : ℕ) (es b : List (Event R)) → c ≤ inf →
      SameBag (cut c es) (cut c b) →
      total w (cut c (grouped key same same_row tell es))
      ≡ total (weight_known b c w) (distinct same (keys key same tell es))
  unfolding weight_known
  by_known is w c es b high h =
      total-cut w c (grouped key same same_row tell es)
      ∙ (total-flat_map (λ e. total w (cut_one c e)) (λ k. runs same_row (told es k) inf)
      (distinct same (keys key same tell es))
      ∙ total_same _ _ (distinct same (keys key same tell es)) (λ k.
      sym (total-cut w c (runs same_row (told es k) inf))
      ∙ ap (total w)
      (runs_known same_row (told es k) (told b k) c inf high
      (λ u low. same_told key same tell is k (alive es u) (alive b u) (alive_known c u es b low high h)))))

  none_known : (is : IsGroupRow key same tell) (w : Event S → ℕ) (c : ℕ) (b : List (Event R)) → c ≤ inf → (k : K) →
      list_any (same k) (keys key same tell (cut c b)) ≡ false → weight_known b c w k ≡ 0
  unfolding weight_known
  none_known is w c b high k none =
      ap (total w) (cut_runs same_row (told b k) c inf high
      ∙ ap (cut c) (runs_none same_row (told b k) c (λ u low.
      none_told key same tell is k (alive b u) (false_from_ne_true (list_any (has_key key same k) (alive b u)) (λ some.
      let z = any_key key same tell (cut c b) k ∙ any_alive_known (has_key key same k) b c u low high some in
      absurd (cc))))))

  to_known : (tells : Tells same) (is : IsGroupRow key same tell) (w : Event S → ℕ) (c : ℕ) (es b : List (Event R)) →
      c ≤ inf → SameBag (cut c es) (cut c b) →
      total w (cut c (grouped key same same_row tell es))
      ≡ total (weight_known b c w) (distinct same (keys key same tell (cut c b)))
  to_known tells is w c es b high h =
      by_known is w c es b high h
      ∙ sum_distinct same tells (weight_known b c w) (keys key same tell es) (keys key same tell (cut c b))
      (none_known is w c b high)
      (λ k some. any_key key same tell es k
      ∙ any_cut (has_key key same k) es c
      (any_of_same (λ e. has_key key same k e.row) (cut c es) (cut c b) h
      ∙ (sym (any_key key same tell (cut c b) k) ∙ some)))

  pub grouped_known : Tells same → IsGroupRow key same tell → (c : ℕ) (a b : List (Event R)) → Known c a b →
      Known c (grouped key same same_row tell a) (grouped key same same_row tell b)
  grouped_known tells is c a b h = record {
    low = h.low;
    left_valid = grouped_valid a;
    right_valid = grouped_valid b;
    same = record {
      weigh = λ w. to_known tells is w c a b h.low h.same
          ∙ sym (to_known tells is w c b b h.low (SameBag-refl (cut c b)));
    };
  }

-- what is made of the rows of the key, in whatever order
pub group_row_of : {R K S : Type 0} (key : R → K) (same : K → K → Bool) (make : K → List R → Option S) →
    ((k : K) (xs ys : List R) → SameBag xs ys → make k xs ≡ make k ys) → ((k : K) → make k [] ≡ None) →
    IsGroupRow key same (λ k rows. make k (filter (has_key key same k) rows))
group_row_of key same make order none = record {
  by_rows_of_key = λ k xs ys h. order k (filter (has_key key same k) xs) (filter (has_key key same k) ys) h;
  none_without_rows = λ k rows h. ap (make k) h ∙ none k;
}
