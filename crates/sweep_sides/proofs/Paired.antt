-- The columns of the pairs of a left row and a right row.
use Rattle.std.specs.Prelude.{◌≡◌, ℕ, zero, suc, ◌+◌, ◌<◌, nat_eq, Bool, true, false, cond, List, [], ◌∷◌, ◌++◌, map, length, get_or, take, refl}
use Rattle.std.specs.List.{list_any}
use Rattle.std.proofs.Common.{sym, ◌∙◌, ap, arith, append_assoc}
use Rattle.std.proofs.lemmas.List.{append-nil, map-append, get_or_default}
use Rattle.plan_model.specs.Keys.{outside_from, outside_key, paired_row}

-- the columns that stand in no key, one more of them
pub outside_next : {X : Type 0} (c : ℕ) (key : List ℕ) (xs : List X) (i : ℕ) (x : X) → i < length xs → x ≡ get_or xs i x →
    outside_from c key (take (suc i) xs) ≡ outside_from c key (take i xs) ++ cond (list_any (nat_eq (c + i)) key) [] (x ∷ [])
outside_next c key [] i x low is = absurd (omega (arith, low))
outside_next c key (y ∷ xs) zero x low is =
    ap (λ n. cond (list_any (nat_eq n) key) [] (y ∷ [])) (let e : c ≡ c + 0 = omega arith in e) ∙ ap (λ z. cond (list_any (nat_eq (c + 0)) key) [] (z ∷ [])) (sym is)
outside_next {X} c key (y ∷ xs) (suc i) x low is =
    go (list_any (nat_eq c) key)
    (outside_next (suc c) key xs i x (omega (arith, low)) is ∙ ap (λ n. outside_from (suc c) key (take i xs) ++ cond (list_any (nat_eq n) key) [] (x ∷ [])) (let e : suc c + i ≡ c + suc i = omega arith in e))
  where
    go : (t : Bool) → outside_from (suc c) key (take (suc i) xs) ≡ outside_from (suc c) key (take i xs) ++ cond (list_any (nat_eq (c + suc i)) key) [] (x ∷ []) →
        cond t (outside_from (suc c) key (take (suc i) xs)) (y ∷ outside_from (suc c) key (take (suc i) xs))
        ≡ cond t (outside_from (suc c) key (take i xs)) (y ∷ outside_from (suc c) key (take i xs)) ++ cond (list_any (nat_eq (c + suc i)) key) [] (x ∷ [])
    go true h = h
    go false h = ap (λ l. y ∷ l) h

-- a pair's row, one more column of the right row
pub pair_next : {X : Type 0} (key : List ℕ) (left right row row2 : List X) (i : ℕ) (x : X) → i < length right → x ≡ get_or right i x → row ≡ left ++ outside_from 0 key (take i right) →
    row2 ≡ row ++ cond (list_any (nat_eq i) key) [] (x ∷ []) → row2 ≡ left ++ outside_from 0 key (take (i + 1) right)
pair_next {X} key left right row row2 i x low is before pushed =
    let z : 0 + i ≡ i = omega arith in
    let o : suc i ≡ i + 1 = omega arith in
    pushed ∙ (ap (λ (l : List X). l ++ cond (list_any (nat_eq i) key) [] (x ∷ [])) before ∙ (append_assoc left (outside_from 0 key (take i right)) (cond (list_any (nat_eq i) key) [] (x ∷ []))
    ∙ ap (λ (l : List X). left ++ l) (ap (λ n. outside_from 0 key (take i right) ++ cond (list_any (nat_eq n) key) [] (x ∷ [])) (sym z)
    ∙ (sym (outside_next 0 key right i x low is) ∙ ap (λ n. outside_from 0 key (take n right)) o))))

pub pair_next_at : {X : Type 0} (key : List ℕ) (left right row row2 : List X) (i : ℕ) (d : X) → i < length right → row ≡ left ++ outside_from 0 key (take i right) →
    row2 ≡ row ++ cond (list_any (nat_eq i) key) [] (get_or right i d ∷ []) → row2 ≡ left ++ outside_from 0 key (take (i + 1) right)
pair_next_at key left right row row2 i d low before pushed =
    pair_next key left right row row2 i (get_or right i d) low (get_or_default right i d (get_or right i d) low) before pushed

pub same_if_among : {X : Type 0} (b : Bool) (row : List X) (x : X) → b ≡ true → row ≡ row ++ cond b [] (x ∷ [])
same_if_among b row x h = sym (append-nil row) ∙ ap (λ c. row ++ cond c [] (x ∷ [])) (sym h)

pub more_if_outside : {X : Type 0} (b : Bool) (row : List X) (x : X) → b ≡ false → row ++ x ∷ [] ≡ row ++ cond b [] (x ∷ [])
more_if_outside b row x h = ap (λ c. row ++ cond c [] (x ∷ [])) (sym h)

-- a function of each column commutes with pairing
module _ {X Y : Type 0} (f : X → Y) where
  outside_mapped : (i : ℕ) (key : List ℕ) (row : List X) → outside_from i key (map f row) ≡ map f (outside_from i key row)
  outside_mapped i key [] = refl
  outside_mapped i key (x ∷ row) = ap (λ l. cond (list_any (nat_eq i) key) l (f x ∷ l)) (outside_mapped (suc i) key row) ∙ out (list_any (nat_eq i) key)
    where
      out : (b : Bool) → cond b (map f (outside_from (suc i) key row)) (f x ∷ map f (outside_from (suc i) key row)) ≡ map f (cond b (outside_from (suc i) key row) (x ∷ outside_from (suc i) key row))
      out true = refl
      out false = refl

  pub pair_mapped : (key : List ℕ) (a b : List X) → paired_row key (map f a) (map f b) ≡ map f (paired_row key a b)
  pair_mapped key a b = ap (λ l. map f a ++ l) (outside_mapped 0 key b) ∙ sym (map-append f a (outside_key key b))
