-- The edges that are released at a time, and those that stay.
use Rattle.std.specs.Prelude.{◌≡◌, ℕ, suc, ◌+◌, ◌*◌, ◌<◌, ◌≤◌, ◌⊎◌, Bool, true, false, cond, Option, Some, None, IsSome, IfSome, slice_get, List, [], ◌∷◌, ◌++◌, filter, Vec, refl}
use Rattle.std.specs.BTreeMap.Range.{range_contains, entries_between}
use Rattle.std.specs.declared.ops.Bound.TheVariants.{Excluded, Unbounded}
use Rattle.std.specs.Ordering.{nat_cmp}
use Rattle.std.proofs.Common.{sym, ◌∙◌, ap, subst, arith, inl, inr}
use Rattle.std.proofs.lemmas.Bool.{cases_lt}
use Rattle.std.proofs.lemmas.Bool.Decides.{nat_tests}
use Rattle.std.proofs.lemmas.List.Elements.{filter-append}
use Rattle.tw_rows.specs.declared.edge.Edge.{Edge}
use Rattle.edge_history.specs.Order.{failing, is_below, is_from}
use Rattle.ingress.specs.Ranks.{AreRanked, edges_at, IsShorterBelow, StartsFrom}
use Rattle.ingress.proofs.Ranked.{all_below, all_from, first_from, later_ranked, rank_in}

-- where no item fails, all are kept
pub kept_all : {X : Type 0} (p : X → Bool) (xs : List X) → failing p xs ≡ 0 → filter p xs ≡ xs
kept_all p [] h = refl
kept_all p (x ∷ xs) h = go (p x) (kept_all p xs) h
  where
    go : (b : Bool) → (failing p xs ≡ 0 → filter p xs ≡ xs) → cond b 0 1 + failing p xs ≡ 0 → cond b (x ∷ filter p xs) (filter p xs) ≡ x ∷ xs
    go true rest k = ap (λ l. x ∷ l) (rest (omega (arith, k)))
    go false rest k = absurd (omega (arith, k))

pub none_from : (t : ℕ) (es : List Edge) → failing (is_below t) es ≡ 0 → filter (is_from t) es ≡ []
none_from t [] h = refl
none_from t (e ∷ es) h = let rest = none_from t es in grind (arith, nat_tests)

pub none_below : (t : ℕ) (es : List Edge) → failing (is_from t) es ≡ 0 → filter (is_below t) es ≡ []
none_below t [] h = refl
none_below t (e ∷ es) h = let rest = none_below t es in grind (arith, nat_tests)

in_range : (b r : ℕ) → r < b → range_contains nat_cmp Unbounded (Excluded b) r ≡ true
in_range b r low = grind (arith, nat_tests)

past_range : (b r : ℕ) → b ≤ r → range_contains nat_cmp Unbounded (Excluded b) r ≡ false
past_range b r low = grind (arith, nat_tests)

module _ {S : Type 0} where
  -- the ranks below that of the ends at t have the edges below t
  pub ranks_below : (t low : ℕ) (es : List (ℕ × Vec Edge S)) → AreRanked low es → edges_at (entries_between nat_cmp Unbounded (Excluded (2 * t)) es) ≡ filter (is_below t) (edges_at es)
  ranks_below t low [] h = refl
  ranks_below t low (x ∷ es) h = go (cases_lt x.0 (2 * t)) (ranks_below t (suc x.0) es h.2)
    where
      others : List (ℕ × Vec Edge S)
      others = entries_between nat_cmp Unbounded (Excluded (2 * t)) es

      go : (x.0 < 2 * t) ⊎ (2 * t ≤ x.0) → edges_at (entries_between nat_cmp Unbounded (Excluded (2 * t)) es) ≡ filter (is_below t) (edges_at es) →
          edges_at (entries_between nat_cmp Unbounded (Excluded (2 * t)) (x ∷ es)) ≡ filter (is_below t) (x.1.items ++ edges_at es)
      go (inl less) rest =
          ap (λ b. edges_at (cond b (x ∷ entries_between nat_cmp Unbounded (Excluded (2 * t)) es) (entries_between nat_cmp Unbounded (Excluded (2 * t)) es))) (in_range (2 * t) x.0 less)
          ∙ ap (λ l. x.1.items ++ l) rest
          ∙ ap (λ l. l ++ filter (is_below t) (edges_at es)) (sym (kept_all (is_below t) x.1.items (all_below x.0 t x.1.items less h.1)))
          ∙ sym (filter-append (is_below t) x.1.items (edges_at es))
      go (inr more) rest =
          ap (λ b. edges_at (cond b (x ∷ entries_between nat_cmp Unbounded (Excluded (2 * t)) es) (entries_between nat_cmp Unbounded (Excluded (2 * t)) es))) (past_range (2 * t) x.0 more)
          ∙ rest
          ∙ ap (λ l. l ++ filter (is_below t) (edges_at es)) (sym (none_below t x.1.items (all_from x.0 t x.1.items more h.1)))
          ∙ sym (filter-append (is_below t) x.1.items (edges_at es))

  -- of the edges of `first`, those from t on are the edges that are left from t on
  pub record Dropping (t : ℕ) (first left : List (ℕ × Vec Edge S)) : Type 0 where
    pub ranked : AreRanked 0 left
    pub same : filter (is_from t) (edges_at left) ≡ filter (is_from t) (edges_at first)

  pub dropping_next : (t end : ℕ) (first left after : List (ℕ × Vec Edge S)) → end ≡ 2 * t → Dropping t first left → IsShorterBelow end left after → Dropping t first after
  dropping_next t end first left after is d s =
      let ranked : AreRanked 0 (s.first ∷ after) = subst (AreRanked 0) s.is d.ranked in
      record {
        ranked = later_ranked (suc s.first.0) 0 after (omega arith) ranked.2;
        same =
            ap (λ l. l ++ filter (is_from t) (edges_at after)) (sym (none_from t s.first.1.items (all_below s.first.0 t s.first.1.items (let b = s.below in omega (arith, b, is)) ranked.1)))
            ∙ sym (filter-append (is_from t) s.first.1.items (edges_at after))
            ∙ ap (λ l. filter (is_from t) (edges_at l)) (sym s.is)
            ∙ d.same;
      }

  starts_from : (t end : ℕ) (es : List (ℕ × Vec Edge S)) → end ≡ 2 * t → AreRanked 0 es → StartsFrom end es → failing (is_from t) (edges_at es) ≡ 0
  starts_from t end [] is h s = refl
  starts_from t end (x ∷ es) is h s = first_from t x es (omega (arith, is, s)) h

  pub dropped_all : (t end : ℕ) (first left : List (ℕ × Vec Edge S)) → end ≡ 2 * t → Dropping t first left → StartsFrom end left → edges_at left ≡ filter (is_from t) (edges_at first)
  dropped_all t end first left is d s = sym (kept_all (is_from t) (edges_at left) (starts_from t end left is d.ranked s)) ∙ d.same

  -- the first rank is taken out, and is below the end
  pub short_below : (end : ℕ) (old new : List (ℕ × Vec Edge S)) (o : Option (ℕ × Vec Edge S)) (r : ℕ) (q : Vec Edge S) → IsSome o → IfSome o (λ p. old ≡ p ∷ new) →
      slice_get old 0 ≡ Some (r, q) → r < end → IsShorterBelow end old new
  short_below end old new None r q some removed first low = absurd (cc)
  short_below end old new (Some p) r q some removed first low =
      let e : p.0 ≡ r = ap rank_in (sym (ap (λ l. slice_get l 0) removed) ∙ first) in
      record { first = p; is = removed; below = omega (arith, e, low) }
