-- How many edges of lists come below a time, and where slices of them end.
use Rattle.std.specs.Prelude.{◌≡◌, ◌⊎◌, ℕ, suc, ◌+◌, ◌<◌, ◌≤◌, List, [], ◌∷◌, cond, length, map, take, get_or, refl}
use Rattle.std.proofs.Common.{sym, ◌∙◌, ap, subst, arith, inl, inr, add-one}
use Rattle.std.proofs.lemmas.Bool.{cases_lt}
use Rattle.std.proofs.lemmas.List.{take-map, get_or-map, length-map}
use Rattle.tw_rows.specs.declared.edge.Edge.{Edge}
use Rattle.tw_rows.proofs.Bags.{total-append}
use Rattle.edge_history.specs.Order.{failing, is_below}
use Rattle.edge_stream.specs.Listing.{EdgeListView}
use Rattle.ingress.specs.Slices.{edges_of, count_below, all_below, IsLastWithin, slice_end}
use Rattle.ingress.proofs.SliceEnds.{counts_rise, slice_all, slice_at, slice_second, slice_last}
use Rattle.ingress.proofs.Below.{none_below_zero, all_more, all_past}

edges_each : List EdgeListView → List (List Edge)
edges_each lists = map (λ l. l.edges) lists

lists_sum : (x : ℕ) (lists : List EdgeListView) → count_below x (edges_of lists) ≡ all_below x (edges_each lists)
unfolding edges_each
lists_sum x [] = refl
lists_sum x (l ∷ ls) = let a = lists_sum x ls in let b = total-append (λ e. cond (is_below x e) 1 0) l.edges (edges_of ls) in omega (arith, a, b)

first_sum : (x i : ℕ) (lists : List EdgeListView) → count_below x (edges_of (take i lists)) ≡ all_below x (take i (edges_each lists))
unfolding edges_each
first_sum x i lists = lists_sum x (take i lists) ∙ ap (all_below x) (sym (take-map (λ l. l.edges) i lists))

module _ (x z : ℕ) (lists : List EdgeListView) (i : ℕ) (l : EdgeListView) (room rest : ℕ) (low : i < length lists) (is : l ≡ get_or lists i l)
    (so_far : count_below z (edges_of (take i lists)) + rest ≡ count_below x (edges_of (take i lists)) + room) where
  each_low : i < length (edges_each lists)
  unfolding edges_each
  each_low = let a = length-map lists (λ l. l.edges) in omega (arith, a, low)

  each_is : l.edges ≡ get_or (edges_each lists) i l.edges
  unfolding edges_each
  each_is = ap (λ l. l.edges) is ∙ sym (get_or-map (λ l. l.edges) lists i l l.edges low)

  each_so_far : all_below z (take i (edges_each lists)) + rest ≡ all_below x (take i (edges_each lists)) + room
  each_so_far = let a = first_sum z i lists in let b = first_sum x i lists in omega (arith, a, b, so_far)

  -- one list more, while no more comes than there is room for
  pub list_more : (left : ℕ) → count_below z l.edges + left ≡ count_below x l.edges + rest →
      count_below z (edges_of (take (i + 1) lists)) + left ≡ count_below x (edges_of (take (i + 1) lists)) + room
  list_more left one =
      let a = first_sum z (i + 1) lists in let b = first_sum x (i + 1) lists in
      let c = all_more x z (edges_each lists) i l.edges room rest left each_low each_is each_so_far one in
      omega (arith, a, b, c)

  -- and where more comes
  pub list_past : x ≤ z → count_below x l.edges + rest < count_below z l.edges → count_below x (edges_of lists) + room < count_below z (edges_of lists)
  list_past le more =
      let a = lists_sum z lists in let b = lists_sum x lists in
      let c = all_past x z (edges_each lists) i l.edges room rest each_low each_is le each_so_far more in
      omega (arith, a, b, c)

-- a time with more below it comes later
pub comes_later : (x z : ℕ) (es : List Edge) → count_below x es < count_below z es → x < z
comes_later x z es more = go (cases_lt x z)
  where
    go : (x < z) ⊎ (z ≤ x) → x < z
    go (inl less) = less
    go (inr le) = absurd (let a = counts_rise z x es le in omega (arith, a, more))

module _ (es : List Edge) (batch p last : ℕ) (found : IsLastWithin batch 0 p es last) where
  few_there : count_below last es ≤ batch
  few_there = let a = none_below_zero es in let b = found.few in omega (arith, a, b)

  pub end_whole : p ≤ last → last ≡ slice_end batch p es
  end_whole le =
      let at : last ≡ p = (let h = found.high in omega (arith, h, le)) in
      at ∙ sym (slice_all es batch p (subst (λ t. count_below t es ≤ batch) at few_there))

  module _ (early : last < p) where
    more_next : batch < count_below (suc last) es
    more_next =
        let a = none_below_zero es in
        let b = found.more early in
        let c : batch < count_below (last + 1) es = omega (arith, a, b) in
        subst (λ t. batch < count_below t es) (add-one last) c

    many : batch < count_below p es
    many = let a = counts_rise (suc last) p es early in let b = more_next in omega (arith, a, b)

    pub end_between : count_below 0 es + 0 < count_below last es → last ≡ slice_end batch p es
    end_between some = sym (slice_at es batch p many last (omega (arith, some)) few_there more_next)

    -- where none comes below it: the next time from which some come
    pub end_next : count_below last es ≤ count_below 0 es + 0 → failing (is_below p) es ≡ 0 → (k z : ℕ) → k ≡ last + 1 → IsLastWithin 0 k p es z → z ≡ slice_end batch p es
    end_next none below k z is second = sym (go (cases_lt z p))
      where
        next : k ≡ suc last
        next = is ∙ add-one last

        from : suc last ≤ z
        from = let a = second.low in omega (arith, next, a)

        zero_there : count_below last es ≡ 0
        zero_there = let a = none_below_zero es in omega (arith, a, none)

        alike : count_below z es ≡ count_below (suc last) es
        alike =
            let a = counts_rise (suc last) z es from in
            let b = ap (λ t. count_below t es) next in
            let c = second.few in
            omega (arith, a, b, c)

        go : (z < p) ⊎ (p ≤ z) → slice_end batch p es ≡ z
        go (inl less) =
            let a = second.more less in
            let b = ap (λ t. count_below t es) (add-one z) in
            let c = ap (λ t. count_below t es) next in
            let d = alike in
            slice_second es batch p many last z zero_there more_next from alike (omega (arith, a, b, c, d))
        go (inr le) = slice_last es batch p many last z zero_there more_next from alike (let h = second.high in omega (arith, le, h)) below
