-- What is told of the rows that stay, where the right rows change one by one.
use Rattle.std.specs.Prelude.{◌≡◌, ℕ, ◌+◌, ◌≤◌, nat_eq, not, ◌&&◌, Bool, true, false, cond, Option, Some, None, List, [], ◌++◌, map, filter, flat_map, refl}
use Rattle.std.proofs.Common.{sym, ◌∙◌, ap, arith}
use Rattle.std.proofs.lemmas.Bool.Decides.{nat_tests}
use Rattle.tw_rows.specs.Bag.{total}
use Rattle.tw_rows.specs.SameCells.{same_cells, cells_are_same}
use Rattle.tw_rows.specs.declared.cells.Datum.{Datum}
use Rattle.tw_rows.specs.declared.edge.Edge.{Edge}
use Rattle.tw_rows.specs.declared.edge.HeldRow.{HeldRow}
use Rattle.tw_rows.proofs.Bags.{total-filter, total-map, total-flat_map, total-add, total-append, total_same, total_zero}
use Rattle.edge_history.specs.Order.{many}
use Rattle.synopsis.specs.Held.{key_of, is_of_key}
use Rattle.sweep_laws.specs.Moves.{Adds}
use Rattle.sweep_laws.specs.Antijoining.{flip_end, flip_start}
use Rattle.sweep_laws.proofs.Adding.{adds_none, adds_then, adds_bag}
use Rattle.anti_join.specs.Free.{is_free_key, free_since, status_of, other_since, told_since}
use Rattle.anti_join.proofs.Keys.{same_sym}

-- of right rows of which there are no fewer, a key that is free was free
pub still_free : (m n : ℕ) → m ≤ n → nat_eq n 0 ≡ true → nat_eq m 0 ≡ true
still_free m n low h = grind (arith, nat_tests)

-- an edge of these parts
pub told_is : (since : Option ℕ) (t : ℕ) (r : HeldRow) (other : ℕ) (cells : List Datum) → other ≡ other_since since r.start → cells ≡ r.cells →
    record { sync = t; other = other; cells = cells } ≡ told_since since t r
told_is since t r other cells o k = λ i. record { sync = t; other = o i; cells = k i }

-- what is told of the rows of one key, which is all that is told
pub adds_key : (key : List ℕ) (k : List Datum) (left : List HeldRow) (e : HeldRow → Edge) (f : HeldRow → List Edge) (before after : List Edge) →
    after ≡ before ++ map e (filter (is_of_key key k) left) → ((w : Edge → ℕ) (r : HeldRow) → total w (f r) ≡ cond (is_of_key key k r) (w (e r)) 0) → Adds before after (flat_map f left)
adds_key key k left e f before after is each = record {
  added = map e (filter (is_of_key key k) left);
  is = is;
  bag = record {
    weigh = λ w. total-map w e (filter (is_of_key key k) left) ∙ total-filter (λ r. w (e r)) (is_of_key key k) left
        ∙ sym (total-flat_map w f left ∙ total_same _ _ left (λ r. each w r));
  };
}

-- nothing is told of any row
pub adds_nothing : (left : List HeldRow) (f : HeldRow → List Edge) (answer : List Edge) → ((w : Edge → ℕ) (r : HeldRow) → total w (f r) ≡ 0) → Adds answer answer (flat_map f left)
adds_nothing left f answer each =
    adds_bag answer answer [] (flat_map f left) (adds_none answer)
    (record { weigh = λ w. sym (total-flat_map w f left ∙ total_same (λ r. total w (f r)) (λ r. 0) left (λ r. each w r) ∙ total_zero left) })

-- what is told of the rows in two parts
pub adds_both : (left : List HeldRow) (f g h : HeldRow → List Edge) (a b c : List Edge) → Adds a b (flat_map f left) → Adds b c (flat_map g left) →
    ((w : Edge → ℕ) (r : HeldRow) → total w (h r) ≡ total w (f r) + total w (g r)) → Adds a c (flat_map h left)
adds_both left f g h a b c x y each =
    adds_bag a c (flat_map f left ++ flat_map g left) (flat_map h left) (adds_then a b c _ _ x y)
    (record {
      weigh = λ w.
          let p = total-append w (flat_map f left) (flat_map g left) in
          let q = total-flat_map w f left in
          let r = total-flat_map w g left in
          let s = total-flat_map w h left in
          let t = total_same (λ r. total w (h r)) (λ r. total w (f r) + total w (g r)) left (λ r. each w r) in
          let u = total-add (λ r. total w (f r)) (λ r. total w (g r)) left in
          omega (arith, p, q, r, s, t, u);
    })

-- the ends, where keys become less and less free: the rows told of before are told of no more
pub ends_both : (w : Edge → ℕ) (free0 free1 free2 : Bool) (s t : ℕ) (r : HeldRow) → (free1 ≡ true → free0 ≡ true) → (free2 ≡ true → free1 ≡ true) →
    total w (flip_end free2 (cond free0 (Some s) None) t r) ≡ total w (flip_end free1 (cond free0 (Some s) None) t r) + total w (flip_end free2 (cond free1 (Some s) None) t r)
ends_both w true true true s t r h k = refl
ends_both w true true false s t r h k = omega arith
ends_both w true false false s t r h k = omega arith
ends_both w false false false s t r h k = refl
ends_both w false true f s t r h k = absurd (let e = h refl in cc)
ends_both w a false true s t r h k = absurd (let e = k refl in cc)

-- the starts, where keys become more and more free
pub starts_both : (w : Edge → ℕ) (free0 free1 free2 : Bool) (s0 s1 t : ℕ) (r : HeldRow) → (free0 ≡ true → free1 ≡ true) → (free1 ≡ true → free2 ≡ true) →
    total w (flip_start free2 (cond free0 (Some s0) None) t r) ≡ total w (flip_start free1 (cond free0 (Some s0) None) t r) + total w (flip_start free2 (cond free1 (Some s1) None) t r)
starts_both w true true true s0 s1 t r h k = refl
starts_both w false true true s0 s1 t r h k = omega arith
starts_both w false false true s0 s1 t r h k = omega arith
starts_both w false false false s0 s1 t r h k = refl
starts_both w true false f s0 s1 t r h k = absurd (let e = h refl in cc)
starts_both w a true false s0 s1 t r h k = absurd (let e = k refl in cc)

none_free : (m n : ℕ) → m ≡ n + 1 → nat_eq m 0 ≡ false
none_free m n h = grind (arith, nat_tests)

as_free : (m n : ℕ) → m ≡ n + 0 → nat_eq m 0 ≡ nat_eq n 0
as_free m n h = ap (λ x. nat_eq x 0) (let e : m ≡ n = omega (arith, h) in e)

-- what is told of a row, by whether its key was free and is
end_told : (w : Edge → ℕ) (f0 f1 : Bool) (s s2 t : ℕ) (r : HeldRow) → f0 ≡ true → f1 ≡ false → s ≡ s2 → total w (flip_end f1 (cond f0 (Some s2) None) t r) ≡ w (told_since (Some s) t r)
end_told w f0 f1 s s2 t r free gone same =
    let a = ap (λ f. total w (flip_end f (cond f0 (Some s2) None) t r)) gone in
    let b = ap (λ f. total w (flip_end false (cond f (Some s2) None) t r)) free in
    let c = ap (λ n. w (told_since (Some n) t r)) same in
    omega (arith, a, b, c)

no_end : (w : Edge → ℕ) (f0 f1 : Bool) (s t : ℕ) (r : HeldRow) → f0 ≡ false → total w (flip_end f1 (cond f0 (Some s) None) t r) ≡ 0
no_end w false true s t r h = refl
no_end w false false s t r h = refl
no_end w true f s t r h = absurd (cc)

pub same_end : (w : Edge → ℕ) (f0 f1 : Bool) (s t : ℕ) (r : HeldRow) → f1 ≡ f0 → total w (flip_end f1 (cond f0 (Some s) None) t r) ≡ 0
same_end w true true s t r h = refl
same_end w false false s t r h = refl
same_end w true false s t r h = absurd (cc)
same_end w false true s t r h = absurd (cc)

start_told : (w : Edge → ℕ) (f0 f1 : Bool) (s t : ℕ) (r : HeldRow) → f0 ≡ false → f1 ≡ true → total w (flip_start f1 (cond f0 (Some s) None) t r) ≡ w (told_since None t r)
start_told w f0 f1 s t r was is =
    let a = ap (λ f. total w (flip_start f (cond f0 (Some s) None) t r)) is in
    let b = ap (λ f. total w (flip_start true (cond f (Some s) None) t r)) was in
    omega (arith, a, b)

no_start : (w : Edge → ℕ) (f0 f1 : Bool) (s t : ℕ) (r : HeldRow) → f1 ≡ false → total w (flip_start f1 (cond f0 (Some s) None) t r) ≡ 0
no_start w true false s t r h = refl
no_start w false false s t r h = refl
no_start w f true s t r h = absurd (cc)

pub same_start : (w : Edge → ℕ) (f0 f1 : Bool) (s t : ℕ) (r : HeldRow) → f1 ≡ f0 → total w (flip_start f1 (cond f0 (Some s) None) t r) ≡ 0
same_start w true true s t r h = refl
same_start w false false s t r h = refl
same_start w true false s t r h = absurd (cc)
same_start w false true s t r h = absurd (cc)

-- right rows, one of a key more or fewer
pub record OneMore (right_key : List ℕ) (k : List Datum) (fewer more : List HeldRow) : Type 0 where
  pub count : (l : List Datum) → many (is_of_key right_key l) more ≡ many (is_of_key right_key l) fewer + cond (same_cells k l) 1 0

module _ (left_key right_key : List ℕ) (k : List Datum) (fewer more : List HeldRow) (one : OneMore right_key k fewer more) where
  here : (l : List Datum) → same_cells l k ≡ true → is_free_key right_key more l ≡ false
  here l h =
      let c = one.count l in
      let e = ap (λ b. cond {A = ℕ} b 1 0) (same_sym k l ∙ h) in
      none_free (many (is_of_key right_key l) more) (many (is_of_key right_key l) fewer) (omega (arith, c, e))

  elsewhere : (l : List Datum) → same_cells l k ≡ false → is_free_key right_key more l ≡ is_free_key right_key fewer l
  elsewhere l h =
      let c = one.count l in
      let e = ap (λ b. cond {A = ℕ} b 1 0) (same_sym k l ∙ h) in
      as_free (many (is_of_key right_key l) more) (many (is_of_key right_key l) fewer) (omega (arith, c, e))

  -- a right row comes, and its key was free: the ends of its key's runs are told
  pub end_of_key : (times : List HeldRow) (t s : ℕ) (w : Edge → ℕ) (r : HeldRow) → is_free_key right_key fewer k ≡ true → s ≡ free_since left_key times k →
      total w (flip_end (is_free_key right_key more (key_of left_key r.cells)) (status_of left_key right_key fewer times (key_of left_key r.cells)) t r)
      ≡ cond (is_of_key left_key k r) (w (told_since (Some s) t r)) 0
  end_of_key times t s w r free since = go (same_cells (key_of left_key r.cells) k) refl
    where
      go : (b : Bool) → same_cells (key_of left_key r.cells) k ≡ b →
          total w (flip_end (is_free_key right_key more (key_of left_key r.cells)) (status_of left_key right_key fewer times (key_of left_key r.cells)) t r)
          ≡ cond b (w (told_since (Some s) t r)) 0
      go true h =
          let e = cells_are_same (key_of left_key r.cells) k h in
          end_told w _ _ s (free_since left_key times (key_of left_key r.cells)) t r (ap (is_free_key right_key fewer) e ∙ free) (here (key_of left_key r.cells) h)
          (since ∙ ap (free_since left_key times) (sym e))
      go false h = same_end w _ _ (free_since left_key times (key_of left_key r.cells)) t r (elsewhere (key_of left_key r.cells) h)

  -- its key was not free: nothing is told
  pub end_of_none : (times : List HeldRow) (t : ℕ) (w : Edge → ℕ) (r : HeldRow) → is_free_key right_key fewer k ≡ false →
      total w (flip_end (is_free_key right_key more (key_of left_key r.cells)) (status_of left_key right_key fewer times (key_of left_key r.cells)) t r) ≡ 0
  end_of_none times t w r blocked = go (same_cells (key_of left_key r.cells) k) refl
    where
      go : (b : Bool) → same_cells (key_of left_key r.cells) k ≡ b →
          total w (flip_end (is_free_key right_key more (key_of left_key r.cells)) (status_of left_key right_key fewer times (key_of left_key r.cells)) t r) ≡ 0
      go true h = no_end w _ _ (free_since left_key times (key_of left_key r.cells)) t r (ap (is_free_key right_key fewer) (cells_are_same (key_of left_key r.cells) k h) ∙ blocked)
      go false h = same_end w _ _ (free_since left_key times (key_of left_key r.cells)) t r (elsewhere (key_of left_key r.cells) h)

  -- a right row goes, and its key is free then: starts are told
  pub start_of_key : (times : List HeldRow) (t : ℕ) (w : Edge → ℕ) (r : HeldRow) → is_free_key right_key fewer k ≡ true →
      total w (flip_start (is_free_key right_key fewer (key_of left_key r.cells)) (status_of left_key right_key more times (key_of left_key r.cells)) t r)
      ≡ cond (is_of_key left_key k r) (w (told_since None t r)) 0
  start_of_key times t w r free = go (same_cells (key_of left_key r.cells) k) refl
    where
      go : (b : Bool) → same_cells (key_of left_key r.cells) k ≡ b →
          total w (flip_start (is_free_key right_key fewer (key_of left_key r.cells)) (status_of left_key right_key more times (key_of left_key r.cells)) t r)
          ≡ cond b (w (told_since None t r)) 0
      go true h =
          start_told w _ _ (free_since left_key times (key_of left_key r.cells)) t r (here (key_of left_key r.cells) h)
          (ap (is_free_key right_key fewer) (cells_are_same (key_of left_key r.cells) k h) ∙ free)
      go false h = same_start w _ _ (free_since left_key times (key_of left_key r.cells)) t r (sym (elsewhere (key_of left_key r.cells) h))

  -- its key is not free then either
  pub start_of_none : (times : List HeldRow) (t : ℕ) (w : Edge → ℕ) (r : HeldRow) → is_free_key right_key fewer k ≡ false →
      total w (flip_start (is_free_key right_key fewer (key_of left_key r.cells)) (status_of left_key right_key more times (key_of left_key r.cells)) t r) ≡ 0
  start_of_none times t w r blocked = go (same_cells (key_of left_key r.cells) k) refl
    where
      go : (b : Bool) → same_cells (key_of left_key r.cells) k ≡ b →
          total w (flip_start (is_free_key right_key fewer (key_of left_key r.cells)) (status_of left_key right_key more times (key_of left_key r.cells)) t r) ≡ 0
      go true h = no_start w _ _ (free_since left_key times (key_of left_key r.cells)) t r (ap (is_free_key right_key fewer) (cells_are_same (key_of left_key r.cells) k h) ∙ blocked)
      go false h = same_start w _ _ (free_since left_key times (key_of left_key r.cells)) t r (sym (elsewhere (key_of left_key r.cells) h))

  -- the times: a key that becomes free is so since then
  pub since_then : (l : List Datum) (t s s2 : ℕ) → is_free_key right_key fewer k ≡ true → s2 ≡ cond (same_cells k l) t s →
      s2 ≡ cond (not (is_free_key right_key more l) && is_free_key right_key fewer l) t s
  since_then l t s s2 free is = go (same_cells l k) refl
    where
      go : (b : Bool) → same_cells l k ≡ b → s2 ≡ cond (not (is_free_key right_key more l) && is_free_key right_key fewer l) t s
      go true h =
          is ∙ ap (λ b. cond b t s) (same_sym k l ∙ h)
          ∙ sym (ap (λ b. cond (not b && is_free_key right_key fewer l) t s) (here l h) ∙ ap (λ b. cond b t s) (ap (is_free_key right_key fewer) (cells_are_same l k h) ∙ free))
      go false h =
          is ∙ ap (λ b. cond b t s) (same_sym k l ∙ h) ∙ sym (ap (λ b. cond (not b && is_free_key right_key fewer l) t s) (elsewhere l h) ∙ neither (is_free_key right_key fewer l))
        where
          neither : (b : Bool) → cond (not b && b) t s ≡ s
          neither true = refl
          neither false = refl

  pub since_as : (l : List Datum) (t s : ℕ) → (same_cells l k ≡ true → is_free_key right_key fewer k ≡ false) →
      s ≡ cond (not (is_free_key right_key more l) && is_free_key right_key fewer l) t s
  since_as l t s blocked = go (same_cells l k) refl
    where
      go : (b : Bool) → same_cells l k ≡ b → s ≡ cond (not (is_free_key right_key more l) && is_free_key right_key fewer l) t s
      go true h =
          sym (ap (λ b. cond (not b && is_free_key right_key fewer l) t s) (here l h) ∙ ap (λ b. cond b t s) (ap (is_free_key right_key fewer) (cells_are_same l k h) ∙ blocked h))
      go false h = sym (ap (λ b. cond (not b && is_free_key right_key fewer l) t s) (elsewhere l h) ∙ neither (is_free_key right_key fewer l))
        where
          neither : (b : Bool) → cond (not b && b) t s ≡ s
          neither true = refl
          neither false = refl
