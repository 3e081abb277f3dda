-- The end of a slice, found by counts of what waits.
use Rattle.std.specs.Prelude.{◌≡◌, ℕ, suc, ◌+◌, ◌<◌, ◌≤◌, ◌⊎◌, List, [], length, get_or}
use Rattle.std.proofs.Common.{sym, ◌∙◌, ap, subst, arith, inl, inr, add-one}
use Rattle.std.proofs.lemmas.Bool.{cases_lt}
use Rattle.std.proofs.lemmas.List.{get_or_past}
use Rattle.tw_rows.specs.declared.edge.Edge.{Edge}
use Rattle.edge_history.specs.Order.{failing, is_below, is_from}
use Rattle.ingress.specs.Admits.{Follows}
use Rattle.ingress.specs.Slices.{count_below, all_below, slice_end}
use Rattle.ingress.specs.declared.ingress.Ingress.{Ingress}
use Rattle.ingress.proofs.Below.{all_rise, none_of_lists}
use Rattle.ingress.proofs.SliceEnds.{slice_all, slice_at, slice_second, slice_last}
use Rattle.admission.specs.Admission.{Admission}

module _ (waiting : List (List Edge)) where
  -- a time with no more below it than another comes no later
  pub comes_before : (x z n : ℕ) → all_below x waiting ≤ n → n < all_below z waiting → x < z
  comes_before x z n few more = go (cases_lt x z)
    where
      go : (x < z) ⊎ (z ≤ x) → x < z
      go (inl less) = less
      go (inr le) = absurd (let a = all_rise z x waiting le in omega (arith, a, few, more))

  module _ (batch p : ℕ) (edges : List Edge) (below : failing (is_below p) edges ≡ 0) (same : (x : ℕ) → x ≤ p → count_below x edges ≡ all_below x waiting) where
    pub end_all : all_below p waiting ≤ batch → p ≡ slice_end batch p edges
    end_all few = sym (slice_all edges batch p (let s = same p (omega arith) in omega (arith, s, few)))

    module _ (many : batch < all_below p waiting) where
      many_edges : batch < count_below p edges
      many_edges = let s = same p (omega arith) in omega (arith, s, many)

      next_count : (y : ℕ) → y < p → batch < all_below (y + 1) waiting → batch < count_below (suc y) edges
      next_count y low more =
          let s = same (suc y) (omega (arith, low)) in
          let m = subst (λ n. batch < all_below n waiting) (add-one y) more in
          omega (arith, s, m)

      pub end_at : (last : ℕ) → 0 < all_below last waiting → all_below last waiting ≤ batch → batch < all_below (last + 1) waiting → last ≡ slice_end batch p edges
      end_at last some few more =
          let low = comes_before last p batch few many in
          let s = same last (omega (arith, low)) in
          sym (slice_at edges batch p many_edges last (omega (arith, s, some)) (omega (arith, s, few)) (next_count last low more))

      pub end_second : (first k z : ℕ) → k ≡ first + 1 → all_below first waiting ≡ 0 → batch < all_below (first + 1) waiting → k ≤ z → z ≤ p → all_below z waiting ≡ all_below k waiting →
          (z < p → all_below z waiting < all_below (z + 1) waiting) → z ≡ slice_end batch p edges
      end_second first k z is none more low high alike some =
          let early = comes_before first p batch (omega (arith, none)) many in
          let f = same first (omega (arith, early)) in
          let from : suc first ≤ z = omega (arith, is, low) in
          let n : count_below first edges ≡ 0 = omega (arith, f, none) in
          let c = next_count first early more in
          let a : count_below z edges ≡ count_below (suc first) edges =
          same z high ∙ alike ∙ ap (λ t. all_below t waiting) (is ∙ add-one first) ∙ sym (same (suc first) (omega (arith, early))) in
          go from n c a (cases_lt z p)
        where
          go : suc first ≤ z → count_below first edges ≡ 0 → batch < count_below (suc first) edges → count_below z edges ≡ count_below (suc first) edges → (z < p) ⊎ (p ≤ z) → z ≡ slice_end batch p edges
          go from n c a (inr le) = sym (slice_last edges batch p many_edges first z n c from a (omega (arith, le, high)) below)
          go from n c a (inl less) =
              let s = same z high in
              let t = same (suc z) (omega (arith, less)) in
              let m = subst (λ n. all_below z waiting < all_below n waiting) (add-one z) (some less) in
              sym (slice_second edges batch p many_edges first z n c from a (omega (arith, s, t, m)))

-- no edge waits that comes before the last release
pub none_before_release : (i : Ingress) (texts : List (List ℕ)) (a : Admission) (given : ℕ → List Edge) → Follows texts a given i → all_below i.released i.held.waiting.items ≡ 0
none_before_release i texts a given f = none_of_lists i.released i.held.waiting.items (λ s. go s (cases_lt s (length i.held.waiting.items)))
  where
    go : (s : ℕ) → (s < length i.held.waiting.items) ⊎ (length i.held.waiting.items ≤ s) → failing (is_from i.released) (get_or i.held.waiting.items s []) ≡ 0
    go s (inl low) = (f.keeps.held s low).from
    go s (inr past) = ap (failing (is_from i.released)) (get_or_past i.held.waiting.items s [] past)
