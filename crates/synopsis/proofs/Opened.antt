-- The open starts of rows in a map, where those of one row are set.
use Rattle.std.specs.Prelude.{◌≡◌, ◌≤◌, ℕ, zero, suc, Bool, true, false, cond, Option, Some, None, List, [], ◌∷◌, ◌++◌, length, drop, replicate, refl}
use Rattle.std.specs.declared.collections.VecDeque.{VecDeque}
use Rattle.std.proofs.Common.{sym, ◌∙◌, ap, arith}
use Rattle.indexmap.specs.IndexMap.{IndexMap, get}
use Rattle.tw_rows.specs.declared.cells.Datum.{Datum}
use Rattle.tw_rows.specs.SameCells.{same_cells, cells_are_same}
use Rattle.synopsis.specs.Kept.{times_if, since_at, EachIsOpen}

pub none_left : (xs : List ℕ) → length xs ≡ 0 → xs ≡ []
none_left [] e = refl
none_left (x ∷ xs) e = absurd (omega (arith, e))

module _ {S H : Type 0} (m n : IndexMap (List Datum) (VecDeque ℕ S) H) (k : List Datum) where
  pub set_since : (f : List ℕ → List ℕ) (o : Option (VecDeque ℕ S)) →
      ((q : List Datum) → get same_cells n q ≡ cond (same_cells k q) o (get same_cells m q)) → times_if o ≡ f (since_at m k) →
      (r : List Datum) → since_at n r ≡ cond (same_cells k r) (f (since_at m r)) (since_at m r)
  set_since f o set is r = ap times_if (set r) ∙ pick (same_cells k r) refl
    where
      pick : (b : Bool) → same_cells k r ≡ b → times_if (cond b o (get same_cells m r)) ≡ cond b (f (since_at m r)) (since_at m r)
      pick true e = is ∙ ap (λ x. f (since_at m x)) (cells_are_same k r e)
      pick false e = refl

  -- a row that has no open starts
  pub none_since : (count : ℕ) → get same_cells m k ≡ None → n ≡ m →
      (r : List Datum) → since_at n r ≡ cond (same_cells k r) (drop count (since_at m r)) (since_at m r)
  none_since count none same r = ap (λ x. since_at x r) same ∙ pick (same_cells k r) refl
    where
      nothing : (i : ℕ) → [] ≡ drop {A = ℕ} i []
      nothing zero = refl
      nothing (suc i) = refl

      pick : (b : Bool) → same_cells k r ≡ b → since_at m r ≡ cond b (drop count (since_at m r)) (since_at m r)
      pick true e =
          let empty : since_at m r ≡ [] = ap (since_at m) (sym (cells_are_same k r e)) ∙ ap times_if none in
          empty ∙ nothing count ∙ ap (drop count) (sym empty)
      pick false e = refl

  pub none_taken : (count : ℕ) → get same_cells m k ≡ None → ((q : List Datum) → get same_cells n q ≡ cond (same_cells k q) None (get same_cells m q)) →
      (r : List Datum) → since_at n r ≡ cond (same_cells k r) (drop count (since_at m r)) (since_at m r)
  none_taken count none set = set_since (drop count) None set (nothing count ∙ ap (λ o. drop count (times_if o)) (sym none))
    where
      nothing : (i : ℕ) → [] ≡ drop {A = ℕ} i []
      nothing zero = refl
      nothing (suc i) = refl

  module _ (d : VecDeque ℕ S) (found : Some d ≡ get same_cells m k) where
    pub times_are : d.items ≡ since_at m k
    times_are = ap times_if found

    pub ended_since : (count : ℕ) (d2 : VecDeque ℕ S) → d2.items ≡ drop count d.items →
        ((q : List Datum) → get same_cells n q ≡ cond (same_cells k q) (Some d2) (get same_cells m q)) →
        (r : List Datum) → since_at n r ≡ cond (same_cells k r) (drop count (since_at m r)) (since_at m r)
    ended_since count d2 e set = set_since (drop count) (Some d2) set (e ∙ ap (drop count) times_are)

    pub started_since : (count at : ℕ) (d2 : VecDeque ℕ S) → d2.items ≡ d.items ++ replicate count at →
        ((q : List Datum) → get same_cells n q ≡ cond (same_cells k q) (Some d2) (get same_cells m q)) →
        (r : List Datum) → since_at n r ≡ cond (same_cells k r) (since_at m r ++ replicate count at) (since_at m r)
    started_since count at d2 e set = set_since (λ l. l ++ replicate count at) (Some d2) set (e ∙ ap (λ l. l ++ replicate count at) times_are)

    -- a row that was taken out, all of whose open starts are ended
    pub all_ended : (count : ℕ) (d2 : VecDeque ℕ S) → d2.items ≡ drop count d.items → d2.items ≡ [] →
        ((q : List Datum) → get same_cells n q ≡ cond (same_cells k q) None (get same_cells m q)) →
        (r : List Datum) → since_at n r ≡ cond (same_cells k r) (drop count (since_at m r)) (since_at m r)
    all_ended count d2 e empty set = set_since (drop count) None set (sym empty ∙ e ∙ ap (drop count) times_are)

  pub new_since : (count at : ℕ) (d d2 : VecDeque ℕ S) → get same_cells m k ≡ None → d.items ≡ [] → d2.items ≡ d.items ++ replicate count at →
      (m2 : IndexMap (List Datum) (VecDeque ℕ S) H) → m2 ≡ m →
      ((q : List Datum) → get same_cells n q ≡ cond (same_cells k q) (Some d2) (get same_cells m2 q)) →
      (r : List Datum) → since_at n r ≡ cond (same_cells k r) (since_at m r ++ replicate count at) (since_at m r)
  new_since count at d d2 none empty e m2 same set = set_since (λ l. l ++ replicate count at) (Some d2)
      (λ q. set q ∙ ap (λ x. cond (same_cells k q) (Some d2) (get same_cells x q)) same)
      (e ∙ ap (λ l. l ++ replicate count at) (empty ∙ sym (ap times_if none)))

-- a row that was taken out and is put back with what is left
pub some_ended : {S H : Type 0} (m n n2 : IndexMap (List Datum) (VecDeque ℕ S) H) (k kept : List Datum) (d d2 : VecDeque ℕ S) → Some d ≡ get same_cells m k → kept ≡ k →
    (count : ℕ) → d2.items ≡ drop count d.items →
    ((q : List Datum) → get same_cells n q ≡ cond (same_cells k q) None (get same_cells m q)) →
    ((q : List Datum) → get same_cells n2 q ≡ cond (same_cells kept q) (Some d2) (get same_cells n q)) →
    (r : List Datum) → since_at n2 r ≡ cond (same_cells k r) (drop count (since_at m r)) (since_at m r)
some_ended m n n2 k kept d d2 found is count e gone set =
    set_since m n2 k (drop count) (Some d2) (λ q. set q ∙ ap (λ c. cond (same_cells c q) (Some d2) (get same_cells n q)) is ∙ pick q (same_cells k q) refl)
    (e ∙ ap (λ o. drop count (times_if o)) found)
  where
    pick : (q : List Datum) (b : Bool) → same_cells k q ≡ b → cond b (Some d2) (get same_cells n q) ≡ cond b (Some d2) (get same_cells m q)
    pick q true f = refl
    pick q false f = gone q ∙ ap (λ c. cond c None (get same_cells m q)) f

-- nothing is ended
pub none_ended : (b : Bool) (l : List ℕ) (count : ℕ) → count ≡ 0 → l ≡ cond b (drop count l) l
none_ended true l count e = ap (λ n. drop n l) (sym e)
none_ended false l count e = refl

-- no row is kept that has no open start
module _ {S H : Type 0} (m n : IndexMap (List Datum) (VecDeque ℕ S) H) (k : List Datum) where
  pub removed_open : ((q : List Datum) → get same_cells n q ≡ cond (same_cells k q) None (get same_cells m q)) → EachIsOpen m → EachIsOpen n
  removed_open set h q none = pick (same_cells k q) refl
    where
      pick : (b : Bool) → same_cells k q ≡ b → get same_cells n q ≡ None
      pick true e = set q ∙ ap (λ b. cond b None (get same_cells m q)) e
      pick false e =
          let is : get same_cells n q ≡ get same_cells m q = set q ∙ ap (λ b. cond b None (get same_cells m q)) e in
          is ∙ h q (sym (ap times_if is) ∙ none)

  pub set_open : (d : VecDeque ℕ S) → 1 ≤ length d.items → ((q : List Datum) → get same_cells n q ≡ cond (same_cells k q) (Some d) (get same_cells m q)) → EachIsOpen m → EachIsOpen n
  set_open d some set h q none = pick (same_cells k q) refl
    where
      pick : (b : Bool) → same_cells k q ≡ b → get same_cells n q ≡ None
      pick true e =
          let is : get same_cells n q ≡ Some d = set q ∙ ap (λ b. cond b (Some d) (get same_cells m q)) e in
          let z = ap length (sym (ap times_if is) ∙ none) in
          absurd (omega (arith, some, z))
      pick false e =
          let is : get same_cells n q ≡ get same_cells m q = set q ∙ ap (λ b. cond b (Some d) (get same_cells m q)) e in
          is ∙ h q (sym (ap times_if is) ∙ none)

  -- one that is kept, and has no fewer starts
  pub longer_open : (d d2 : VecDeque ℕ S) → Some d ≡ get same_cells m k → length d.items ≤ length d2.items →
      ((q : List Datum) → get same_cells n q ≡ cond (same_cells k q) (Some d2) (get same_cells m q)) → EachIsOpen m → EachIsOpen n
  longer_open d d2 found low set h = set_open d2 (more d.items refl) set h
    where
      more : (xs : List ℕ) → d.items ≡ xs → 1 ≤ length d2.items
      more [] e = let z : Some d ≡ None = found ∙ h k (sym (ap times_if found) ∙ e) in absurd (cc)
      more (x ∷ xs) e = let z = ap length e in omega (arith, z, low)
