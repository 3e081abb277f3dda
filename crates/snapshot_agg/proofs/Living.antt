-- Rows that are kept with their ends, as their end edges come and go.
use Rattle.std.specs.Prelude.{◌≡◌, ◌⊎◌, nat_le, suc, ℕ, ◌+◌, ◌<◌, ◌≤◌, true, cond, Option, Some, None, IfSome, IfNone, List, [], ◌∷◌, ◌++◌, map, length, get_or, drop, refl}
use Rattle.std.proofs.lemmas.Bool.{cases_lt}
use Rattle.std.proofs.lemmas.Bool.Decides.{nat_tests}
use Rattle.std.proofs.Common.{inl, inr, sym, ◌∙◌, ap, subst, arith}
use Rattle.tw_rows.specs.Bag.{total}
use Rattle.tw_rows.specs.declared.edge.Edge.{Edge}
use Rattle.tw_rows.specs.declared.edge.HeldRow.{HeldRow}
use Rattle.tw_rows.proofs.Bags.{total-append, total-map}
use Rattle.edge_history.specs.Order.{failing, is_end, is_from}
use Rattle.sweep_laws.specs.Sweeps.{SyncsRise, IsPast, StartsAt}
use Rattle.snapshot_agg.specs.KeptRows.{row_ended}
use Rattle.snapshot_agg.proofs.Answering.{passes, first_passes}
use Rattle.snapshot_agg.proofs.PuttingOff.{pushed}
use Rattle.snapshot_agg.proofs.Queueing.{all_later}

-- one more end edge, behind the others
module _ (ends ends2 : List Edge) (e : Edge) (more : ends2 ≡ ends ++ e ∷ []) where
  pub ends_more : is_end e ≡ true → failing is_end ends ≡ 0 → failing is_end ends2 ≡ 0
  ends_more is h =
      let a = pushed (λ x. cond {A = ℕ} (is_end x) 0 1) ends ends2 e more in
      let z = passes (is_end e) is in
      omega (arith, a, z, h)

  pub held_more : (w : HeldRow → ℕ) (others : List HeldRow) → total w (others ++ map row_ended ends2) ≡ total w (others ++ map row_ended ends) + w (row_ended e)
  held_more w others =
      let a = total-append w others (map row_ended ends) in
      let b = total-append w others (map row_ended ends2) in
      let c = total-map w row_ended ends in
      let d = total-map w row_ended ends2 in
      let f = pushed (λ x. w (row_ended x)) ends ends2 e more in
      omega (arith, a, b, c, d, f)

-- one row more among the others
pub others_more : (w : HeldRow → ℕ) (others others2 rows : List HeldRow) (x : HeldRow) → total w others2 ≡ total w others + w x → total w (others2 ++ rows) ≡ total w (others ++ rows) + w x
others_more w others others2 rows x h =
    let a = total-append w others rows in
    let b = total-append w others2 rows in
    omega (arith, a, b, h)

-- the first end edge is taken out
module _ (ends ends2 : List Edge) (e : Edge) (first : ends ≡ e ∷ ends2) where
  pub held_less : (w : HeldRow → ℕ) (others : List HeldRow) → total w (others ++ map row_ended ends) ≡ total w (others ++ map row_ended ends2) + w (row_ended e)
  held_less w others =
      let a = ap (λ l. total w (others ++ map row_ended l)) first in
      let b = total-append w others (map row_ended (e ∷ ends2)) in
      let c = total-append w others (map row_ended ends2) in
      omega (arith, a, b, c)

  pub rises_less : SyncsRise 0 ends → SyncsRise 0 ends2
  rises_less h = go ends2 (subst (SyncsRise 0) first h).1
    where
      go : (xs : List Edge) → SyncsRise e.sync xs → SyncsRise 0 xs
      go [] k = tt
      go (x ∷ xs) k = (omega arith, k.1)

  pub first_ends : failing is_end ends ≡ 0 → is_end e ≡ true
  first_ends h = first_passes (is_end e) (failing is_end ends2) (sym (ap (failing is_end) first) ∙ h)

  pub ends_less : failing is_end ends ≡ 0 → failing is_end ends2 ≡ 0
  ends_less h = let a = ap (failing is_end) first in omega (arith, a, h)

-- what stands first
pub first_out : (xs rest : List Edge) (x : Edge) → 0 < length xs → x ≡ get_or xs 0 x → rest ≡ drop 1 xs → xs ≡ x ∷ rest
first_out [] rest x low is gone = absurd (omega (arith, low))
first_out (y ∷ xs) rest x low is gone = ap (λ z. z ∷ xs) (sym is) ∙ ap (λ l. x ∷ l) (sym gone)

pub not_at : (t : ℕ) (xs : List Edge) (x : Edge) → 0 < length xs → x ≡ get_or xs 0 x → (x.sync ≡ t → ⊥) → IsPast t xs
not_at t [] x low is h = tt
not_at t (y ∷ xs) x low is h = λ e. h (ap (λ z. z.sync) is ∙ e)

pub none_at : (t : ℕ) (xs : List Edge) → (0 < length xs → ⊥) → IsPast t xs
none_at t [] h = tt
none_at t (x ∷ xs) h = absurd (h (omega arith))

pub first_at : (xs : List Edge) (x : Edge) → 0 < length xs → x ≡ get_or xs 0 x → StartsAt x.sync xs
first_at [] x low is = absurd (omega (arith, low))
first_at (y ∷ xs) x low is = ap (λ z. z.sync) (sym is)

pub all_from : (xs : List Edge) (x : Edge) → 0 < length xs → x ≡ get_or xs 0 x → SyncsRise 0 xs → failing (is_from x.sync) xs ≡ 0
all_from [] x low is h = refl
all_from (y ∷ xs) x low is h = all_later x.sync y.sync (y ∷ xs) (let e = ap (λ z. z.sync) is in omega (arith, e)) (omega arith, h.1)

pub none_from : (t : ℕ) (xs : List Edge) → (0 < length xs → ⊥) → failing (is_from t) xs ≡ 0
none_from t [] h = refl
none_from t (x ∷ xs) h = absurd (h (omega arith))

pub none_held : (xs : List Edge) (rows : List HeldRow) → xs ≡ [] → rows ++ map row_ended xs ≡ rows ++ []
none_held xs rows is = ap (λ l. rows ++ map row_ended l) is

-- what is left of the line of end edges, whether the first was taken out or not
pub popped_fine : {D : Type 0} (P : Type 0) (items : D → List Edge) (o : Option Edge) (t : ℕ) (d d2 : D) → IfSome o (λ e. (items d ≡ e ∷ items d2) × (e.sync ≡ t)) → IfNone o ((d2 ≡ d) × P) →
    SyncsRise 0 (items d) × (failing is_end (items d) ≡ 0) → SyncsRise 0 (items d2) × (failing is_end (items d2) ≡ 0)
popped_fine P items (Some e) t d d2 some none h = (rises_less (items d) (items d2) e some.0 h.0, ends_less (items d) (items d2) e some.0 h.1)
popped_fine P items None t d d2 some none h = subst (λ x. SyncsRise 0 (items x) × (failing is_end (items x) ≡ 0)) (sym none.0) h

pub popped_held : (o : Option Edge) (t : ℕ) (ends ends2 : List Edge) (others held : List HeldRow) → IfSome o (λ e. (ends ≡ e ∷ ends2) × (e.sync ≡ t)) → others ++ map row_ended ends ≡ held →
    IfSome o (λ e. (w : HeldRow → ℕ) → total w held ≡ total w (others ++ map row_ended ends2) + w (row_ended e))
popped_held (Some e) t ends ends2 others held some is = λ w. sym (ap (total w) is) ∙ held_less ends ends2 e some.0 w others
popped_held None t ends ends2 others held some is = tt

-- no end edge comes at the time, and none before
pub late_ends : (t : ℕ) (xs : List Edge) → SyncsRise 0 xs → IsPast t xs → failing (is_from t) xs ≡ 0 → failing (is_from (suc t)) xs ≡ 0
late_ends t [] up past h = refl
late_ends t (x ∷ xs) up past h =
    all_later (suc t) x.sync (x ∷ xs) (above t x.sync past (first_passes (is_from t x) (failing (is_from t) xs) h)) (omega arith, up.1)
  where
    above : (t s : ℕ) → (s ≡ t → ⊥) → nat_le t s ≡ true → suc t ≤ s
    above t s other low = pick (cases_lt t s)
      where
        pick : (t < s) ⊎ (s ≤ t) → suc t ≤ s
        pick (inl h) = h
        pick (inr h) = absurd (other (at_most h))
          where
            at_most : s ≤ t → s ≡ t
            at_most h = grind (arith, nat_tests)

pub popped_late : {D : Type 0} (P : Type 0) (items : D → List Edge) (o : Option Edge) (t : ℕ) (d : D) → IfNone o (P × IsPast t (items d)) → SyncsRise 0 (items d) →
    IfNone o (failing (is_from t) (items d) ≡ 0 → failing (is_from (suc t)) (items d) ≡ 0)
popped_late P items (Some e) t d none up = tt
popped_late P items None t d none up = late_ends t (items d) up none.1
