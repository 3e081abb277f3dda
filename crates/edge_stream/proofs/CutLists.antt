-- Lists of batches that are cut at a time.
use Rattle.std.proofs.Common.{◌≡◌, ◌≤◌, ◌<◌, ℕ, zero, suc, true, false, List, [], ◌∷◌, ◌++◌, length, get_or, take, drop, set, refl, ap, sym, ◌∙◌, subst, arith}
use Rattle.std.specs.Prelude.{filter, slice_get, Some}
use Rattle.std.specs.List.{list_all}
use Rattle.std.proofs.lemmas.Option.{get_or_from_slice_get, slice_get-get_or}
use Rattle.batch.specs.Rows.{Table, edges_of}
use Rattle.edge_history.specs.Order.{Rises, is_below, is_from}
use Rattle.edge_stream.specs.Listing.{edges_in}
use Rattle.edge_stream.proofs.Rising.{lower_clean, upper_clean, lower_parted, upper_parted, rest_from}
use Rattle.edge_stream.proofs.Cutting.{edges_in-push, edges_in-parts, edges_in-at, take-set, drop-set}

drop-end : (n : ℕ) (xs : List Table) → length xs ≤ n → drop n xs ≡ []
drop-end zero [] le = refl
drop-end (suc n) [] le = refl
drop-end zero (b ∷ bs) le = absurd (omega arith)
drop-end (suc n) (b ∷ bs) le = drop-end n bs (omega arith)

-- a front part of whole batches, and a rest
module _ (t : ℕ) (xs : List Table) (n : ℕ) (low : list_all (is_below t) (edges_in (take n xs)) ≡ true) where
  module _ (high : list_all (is_from t) (edges_in (drop n xs)) ≡ true) where
    pub whole_lower : edges_in (take n xs) ≡ filter (is_below t) (edges_in xs)
    whole_lower = lower_clean t (edges_in (take n xs)) (edges_in (drop n xs)) low high ∙ ap (filter (is_below t)) (edges_in-parts n xs)

    pub whole_upper : edges_in (drop n xs) ≡ filter (is_from t) (edges_in xs)
    whole_upper = upper_clean t (edges_in (take n xs)) (edges_in (drop n xs)) low high ∙ ap (filter (is_from t)) (edges_in-parts n xs)

  pub none_left : length xs ≤ n → list_all (is_from t) (edges_in (drop n xs)) ≡ true
  none_left le = ap (λ l. list_all (is_from t) (edges_in l)) (drop-end n xs le)

  module _ (b : Table) (lt : n < length xs) (is : b ≡ get_or xs n b) (rises : Rises 0 (edges_in xs)) (some : list_all (is_below t) (edges_of b.rows) ≡ false) where
    at : edges_in (drop n xs) ≡ edges_of b.rows ++ edges_in (drop (suc n) xs)
    at = edges_in-at n xs b lt ∙ ap (λ x. edges_of x.rows ++ edges_in (drop (suc n) xs)) (sym is)

    whole : edges_in xs ≡ edges_in (take n xs) ++ (edges_of b.rows ++ edges_in (drop (suc n) xs))
    whole = sym (edges_in-parts n xs) ∙ ap (λ l. edges_in (take n xs) ++ l) at

    rises' : Rises 0 (edges_in (take n xs) ++ (edges_of b.rows ++ edges_in (drop (suc n) xs)))
    rises' = subst (Rises 0) whole rises

    -- the batch at the place holds none of the front part
    pub rest_is_from : list_all (is_from t) (edges_of b.rows) ≡ true → list_all (is_from t) (edges_in (drop n xs)) ≡ true
    rest_is_from here = ap (list_all (is_from t)) at ∙ rest_from t (edges_in (take n xs)) (edges_of b.rows) (edges_in (drop (suc n) xs)) rises' low some here

    -- the batch at the place is parted, and its later part stays there
    pub parted_lower : (low' up : Table) → edges_of low'.rows ≡ filter (is_below t) (edges_of b.rows) → edges_in (take n (set xs n up) ++ low' ∷ []) ≡ filter (is_below t) (edges_in xs)
    parted_lower low' up lower =
        ap (λ l. edges_in (l ++ low' ∷ [])) (take-set xs n up)
        ∙ edges_in-push (take n xs) low'
        ∙ ap (λ l. edges_in (take n xs) ++ l) lower
        ∙ lower_parted t (edges_in (take n xs)) (edges_of b.rows) (edges_in (drop (suc n) xs)) rises' low some
        ∙ ap (filter (is_below t)) (sym whole)

    pub parted_upper : (up : Table) → edges_of up.rows ≡ filter (is_from t) (edges_of b.rows) → edges_in (drop n (set xs n up)) ≡ filter (is_from t) (edges_in xs)
    parted_upper up upper =
        ap edges_in (drop-set xs n up lt)
        ∙ ap (λ l. l ++ edges_in (drop (suc n) xs)) upper
        ∙ upper_parted t (edges_in (take n xs)) (edges_of b.rows) (edges_in (drop (suc n) xs)) rises' low some
        ∙ ap (filter (is_from t)) (sym whole)

-- what is said of the batch at a place, of the one that was found there
pub at_place : (P : Table → Type 0) (xs : List Table) (n : ℕ) (b : Table) → n < length xs → b ≡ get_or xs n b → P b → (c : Table) → slice_get xs n ≡ Some c → P c
at_place P xs n b lt is p c found = subst P (is ∙ get_or_from_slice_get xs n c b found) p

pub found_at : (xs : List Table) (n : ℕ) (b : Table) → n < length xs → b ≡ get_or xs n b → slice_get xs n ≡ Some b
found_at xs n b lt is = slice_get-get_or xs n b lt ∙ ap Some (sym is)

-- a place holds one item
pub same_item : (xs : List Table) (n : ℕ) (b c : Table) → n < length xs → b ≡ get_or xs n b → c ≡ get_or xs n c → c ≡ b
same_item xs n b c lt is_b is_c = is_c ∙ get_or_from_slice_get xs n (get_or xs n b) c (slice_get-get_or xs n b lt) ∙ sym is_b
