-- The rows of a list in row order: each once, and no other.
use Rattle.std.specs.Prelude.{◌≡◌, Bool, true, false, ◌||◌, List, [], ◌∷◌, ◌++◌, flat_map, refl}
use Rattle.std.specs.List.{list_any}
use Rattle.std.specs.Ordering.{eq_by_cmp, is_eq, ordering_reverse}
use Rattle.std.specs.Cmp.{Equal-is, tied_itself}
use Rattle.std.specs.declared.cmp.Ordering.{Ordering}
use Rattle.std.specs.declared.cmp.Ordering.TheVariants.{Less, Equal, Greater}
use Rattle.std.proofs.Common.{inl, inr, sym, ◌∙◌, ap, subst}
use Rattle.std.proofs.lemmas.Bool.{or_cases}
use Rattle.tw_rows.specs.Rows.{Row, row_cmp}
use Rattle.tw_rows.specs.RowOrder.{row_cmp_total, row_cmp-IsAntisymmetric}
use Rattle.key_nodes.specs.Runs.{Tells}
use Rattle.plan_model.specs.Keys.{rows_equal}
use Rattle.plan_model.specs.Changes.{place, insert_row, in_row_order}

-- whether the list has the row
abbrev pub member : Row → List Row → Bool
member q rows = list_any (eq_by_cmp row_cmp q) rows

-- each row is below those after it
abbrev pub Rises : List Row → Type 0
Rises [] = Unit {0}
Rises (x ∷ xs) = ((q : Row) → member q xs ≡ true → row_cmp x q ≡ Less) × Rises xs

pub same_row : (q x : Row) → eq_by_cmp row_cmp q x ≡ true → q ≡ x
same_row q x e = row_cmp-IsAntisymmetric q x ((Equal-is (row_cmp q x)).0 e)

pub row_itself : (q : Row) → eq_by_cmp row_cmp q q ≡ true
row_itself q = ap is_eq (tied_itself row_cmp_total q)

-- the test of rows tells them apart
pub rows_equal_tells : Tells rows_equal
rows_equal_tells a b = (same_row a b, λ same. subst (λ r. rows_equal a r ≡ true) same (row_itself a))

pub or_left : (b c : Bool) → b ≡ true → (b || c) ≡ true
or_left true c h = refl
or_left false c h = absurd (cc)

pub or_right : (b c : Bool) → c ≡ true → (b || c) ≡ true
or_right true c h = refl
or_right false c h = h

pub member_first : (q : Row) (xs : List Row) → member q (q ∷ xs) ≡ true
member_first q xs = or_left (eq_by_cmp row_cmp q q) (member q xs) (row_itself q)

pub member_later : (q x : Row) (xs : List Row) → member q xs ≡ true → member q (x ∷ xs) ≡ true
member_later q x xs h = or_right (eq_by_cmp row_cmp q x) (member q xs) h

or_swap : (a b c : Bool) → (a || (b || c)) ≡ (b || (a || c))
or_swap true true c = refl
or_swap true false c = refl
or_swap false b c = refl

or_twice : (a c : Bool) → (a || c) ≡ (a || (a || c))
or_twice true c = refl
or_twice false c = refl

member_place : (o : Ordering) (q r x : Row) (xs ys : List Row) → row_cmp r x ≡ o → member q ys ≡ (eq_by_cmp row_cmp q r || member q xs) →
    member q (place o (r ∷ x ∷ xs) (x ∷ xs) (x ∷ ys)) ≡ (eq_by_cmp row_cmp q r || (eq_by_cmp row_cmp q x || member q xs))
member_place Less q r x xs ys e h = refl
member_place Equal q r x xs ys e h =
    or_twice (eq_by_cmp row_cmp q x) (member q xs)
    ∙ ap (λ y. eq_by_cmp row_cmp q y || (eq_by_cmp row_cmp q x || member q xs)) (sym (row_cmp-IsAntisymmetric r x e))
member_place Greater q r x xs ys e h = ap (λ b. eq_by_cmp row_cmp q x || b) h ∙ or_swap (eq_by_cmp row_cmp q x) (eq_by_cmp row_cmp q r) (member q xs)

member-insert_row : (q r : Row) (xs : List Row) → member q (insert_row r xs) ≡ (eq_by_cmp row_cmp q r || member q xs)
member-insert_row q r [] = refl
member-insert_row q r (x ∷ xs) = member_place (row_cmp r x) q r x xs (insert_row r xs) refl (member-insert_row q r xs)

-- the rows in order are the rows of the list
pub member-in_row_order : (q : Row) (rows : List Row) → member q (in_row_order rows) ≡ member q rows
member-in_row_order q [] = refl
member-in_row_order q (r ∷ rows) = member-insert_row q r (in_row_order rows) ∙ ap (λ b. eq_by_cmp row_cmp q r || b) (member-in_row_order q rows)

below_first : (r x : Row) (xs : List Row) → row_cmp r x ≡ Less → ((q : Row) → member q xs ≡ true → row_cmp x q ≡ Less) → (q : Row) → member q (x ∷ xs) ≡ true → row_cmp r q ≡ Less
below_first r x xs e h q m = elim (or_cases (eq_by_cmp row_cmp q x) (member q xs) m) [
  | inl t ↦ ap (row_cmp r) (same_row q x t) ∙ e
  | inr t ↦ row_cmp_total.trans r x q e (h q t)
]

below_inserted : (r x : Row) (xs : List Row) → row_cmp r x ≡ Greater → ((q : Row) → member q xs ≡ true → row_cmp x q ≡ Less) → (q : Row) → member q (insert_row r xs) ≡ true → row_cmp x q ≡ Less
below_inserted r x xs e h q m = elim (or_cases (eq_by_cmp row_cmp q r) (member q xs) (sym (member-insert_row q r xs) ∙ m)) [
  | inl t ↦ ap (row_cmp x) (same_row q r t) ∙ row_cmp_total.antisymm x r ∙ ap ordering_reverse e
  | inr t ↦ h q t
]

Rises-place : (o : Ordering) (r x : Row) (xs : List Row) → row_cmp r x ≡ o → Rises (x ∷ xs) → Rises (insert_row r xs) → Rises (place o (r ∷ x ∷ xs) (x ∷ xs) (x ∷ insert_row r xs))
Rises-place Less r x xs e h k = (below_first r x xs e h.0, h)
Rises-place Equal r x xs e h k = h
Rises-place Greater r x xs e h k = (below_inserted r x xs e h.0, k)

Rises-insert_row : (r : Row) (xs : List Row) → Rises xs → Rises (insert_row r xs)
Rises-insert_row r [] h = (λ q m. absurd (cc), tt)
Rises-insert_row r (x ∷ xs) h = Rises-place (row_cmp r x) r x xs refl h (Rises-insert_row r xs h.1)

pub Rises-in_row_order : (rows : List Row) → Rises (in_row_order rows)
Rises-in_row_order [] = tt
Rises-in_row_order (r ∷ rows) = Rises-insert_row r (in_row_order rows) (Rises-in_row_order rows)

-- rows that rise, gone over among others that rise: the others give nothing
pub record IsWithin {X : Type 0} (f : Row → List X) (xs ys : List Row) : Type 0 where
  pub within : (q : Row) → member q xs ≡ true → member q ys ≡ true
  pub none : (q : Row) → member q ys ≡ true → member q xs ≡ false → f q ≡ []

not_member : (q x : Row) (xs : List Row) → eq_by_cmp row_cmp q x ≡ false → member q xs ≡ false → member q (x ∷ xs) ≡ false
not_member q x xs e h = rw (e, h) refl

differs : (x q : Row) → row_cmp x q ≡ Less → eq_by_cmp row_cmp q x ≡ false
differs x q e = ap is_eq (row_cmp_total.antisymm q x ∙ ap ordering_reverse e)

above_all : (y x : Row) (xs : List Row) → row_cmp y x ≡ Less → ((q : Row) → member q xs ≡ true → row_cmp x q ≡ Less) → member y (x ∷ xs) ≡ false
above_all y x xs e h = pick (member y (x ∷ xs)) refl
  where
    pick : (b : Bool) → member y (x ∷ xs) ≡ b → b ≡ false
    pick false t = refl
    pick true t = let z = below_first y x xs e h y t in let w = tied_itself row_cmp_total y in absurd (cc)

module _ {X : Type 0} (f : Row → List X) where
  none_left : (ys : List Row) → ((q : Row) → member q ys ≡ true → f q ≡ []) → [] ≡ flat_map f ys
  none_left [] h = refl
  none_left (y ∷ ys) h = none_left ys (λ q m. h q (member_later q y ys m)) ∙ ap (λ l. l ++ flat_map f ys) (sym (h y (member_first y ys)))

  within_step : (o : Ordering) (x y : Row) (xs ys : List Row) → row_cmp x y ≡ o → Rises (x ∷ xs) → Rises (y ∷ ys) → IsWithin f (x ∷ xs) (y ∷ ys) →
      ((zs : List Row) → Rises zs → IsWithin f zs ys → flat_map f zs ≡ flat_map f ys) → flat_map f (x ∷ xs) ≡ flat_map f (y ∷ ys)
  within_step Less x y xs ys e h k w rest = absurd (let a = above_all x y ys e k.0 in let b = w.within x (member_first x xs) in cc)
  within_step Equal x y xs ys e h k w rest =
      let same : x ≡ y = row_cmp-IsAntisymmetric x y e in
      ap (λ r. f r ++ flat_map f xs) same
      ∙ ap (λ l. f y ++ l) (rest xs h.1 (record {
        within = λ q m. elim (or_cases (eq_by_cmp row_cmp q y) (member q ys) (w.within q (member_later q x xs m))) [
          | inl t ↦ absurd (let a = h.0 q m in let b = same_row q y t in let c = tied_itself row_cmp_total x in cc)
          | inr t ↦ t
        ];
        none = λ q m n. w.none q (member_later q y ys m) (not_member q x xs (ap (eq_by_cmp row_cmp q) same ∙ differs y q (k.0 q m)) n);
      }))
  within_step Greater x y xs ys e h k w rest =
      let less : row_cmp y x ≡ Less = row_cmp_total.antisymm y x ∙ ap ordering_reverse e in
      rest (x ∷ xs) h (record {
        within = λ q m. elim (or_cases (eq_by_cmp row_cmp q y) (member q ys) (w.within q m)) [
          | inl t ↦ absurd (let a = above_all y x xs less h.0 in let b = same_row q y t in let c : member y (x ∷ xs) ≡ true = ap (λ r. member r (x ∷ xs)) (sym b) ∙ m in cc)
          | inr t ↦ t
        ];
        none = λ q m n. w.none q (member_later q y ys m) n;
      })
      ∙ ap (λ l. l ++ flat_map f ys) (sym (w.none y (member_first y ys) (above_all y x xs less h.0)))

  pub flat_map_within : (ys xs : List Row) → Rises ys → Rises xs → IsWithin f xs ys → flat_map f xs ≡ flat_map f ys
  flat_map_within [] [] k h w = refl
  flat_map_within [] (x ∷ xs) k h w = absurd (let a = w.within x (member_first x xs) in cc)
  flat_map_within (y ∷ ys) [] k h w = none_left (y ∷ ys) (λ q m. w.none q m refl)
  flat_map_within (y ∷ ys) (x ∷ xs) k h w = within_step (row_cmp x y) x y xs ys refl h k w (λ zs r v. flat_map_within ys zs k.1 r v)
