-- Collecting what all of a list give: what is found so far and what the rest gives is the whole.
use Rattle.std.proofs.Common.{◌≡◌, ℕ, ◌+◌, ◌<◌, ◌≤◌, Option, Some, None, List, [], ◌∷◌, ◌++◌, map, length, drop, get_or, refl, ap, sym, ◌∙◌, append_assoc}
use Rattle.std.proofs.lemmas.List.{append-nil, drop_more, drop_all}
use Rattle.query_plan.specs.Names.{all_of}

-- what is found, then the rest
abbrev pub with_rest : {Y : Type 0} → List Y → Option (List Y) → Option (List Y)
with_rest found None = None
with_rest found (Some ys) = Some (found ++ ys)

-- i of the list gave what is found
pub record IsSoFar {X Y : Type 0} (f : X → Option Y) (xs : List X) (i : ℕ) (found : List Y) : Type 0 where
  pub same : with_rest found (all_of (map f (drop i xs))) ≡ all_of (map f xs)

with_rest-nil : {Y : Type 0} (rest : Option (List Y)) → with_rest [] rest ≡ rest
with_rest-nil None = refl
with_rest-nil (Some ys) = refl

with_rest-more : {Y : Type 0} (found : List Y) (y : Y) (rest : List (Option Y)) (r : Option (List Y)) → all_of rest ≡ r → with_rest (found ++ y ∷ []) (all_of rest) ≡ with_rest found (all_of (Some y ∷ rest))
with_rest-more found y rest None e = rw e refl
with_rest-more found y rest (Some ys) e = rw e (ap Some (append_assoc found (y ∷ []) ys))

pub so_far_none : {X Y : Type 0} (f : X → Option Y) (xs : List X) (found : List Y) → found ≡ [] → IsSoFar f xs 0 found
so_far_none f xs found e = record { same = ap (λ l. with_rest l (all_of (map f xs))) e ∙ with_rest-nil (all_of (map f xs)) }

next : {X Y : Type 0} (f : X → Option Y) (xs : List X) (i : ℕ) (x : X) → i < length xs → x ≡ get_or xs i x → map f (drop i xs) ≡ f x ∷ map f (drop (i + 1) xs)
next f xs i x low is = ap (map f) (drop_more xs i x low) ∙ ap (λ z. f z ∷ map f (drop (i + 1) xs)) (sym is)

pub so_far_more : {X Y : Type 0} (f : X → Option Y) (xs : List X) (i : ℕ) (x : X) (y : Y) (o : Option Y) (found new : List Y) → IsSoFar f xs i found → i < length xs → x ≡ get_or xs i x → o ≡ f x → o ≡ Some y → new ≡ found ++ y ∷ [] → IsSoFar f xs (i + 1) new
so_far_more f xs i x y o found new h low is of gives pushed =
    let rest = map f (drop (i + 1) xs) in
    record {
      same = ap (λ l. with_rest l (all_of rest)) pushed
          ∙ with_rest-more found y rest (all_of rest) refl
          ∙ ap (λ p. with_rest found (all_of (p ∷ rest))) (sym gives ∙ of)
          ∙ ap (λ l. with_rest found (all_of l)) (sym (next f xs i x low is))
          ∙ h.same;
    }

pub so_far_stop : {X Y : Type 0} (f : X → Option Y) (xs : List X) (i : ℕ) (x : X) (o : Option Y) (found : List Y) → IsSoFar f xs i found → i < length xs → x ≡ get_or xs i x → o ≡ f x → o ≡ None → None ≡ all_of (map f xs)
so_far_stop f xs i x o found h low is of gives =
    let rest = map f (drop (i + 1) xs) in
    ap (λ p. with_rest found (all_of (p ∷ rest))) (sym gives ∙ of)
    ∙ ap (λ l. with_rest found (all_of l)) (sym (next f xs i x low is))
    ∙ h.same

pub so_far_all : {X Y : Type 0} (f : X → Option Y) (xs : List X) (i : ℕ) (found : List Y) → IsSoFar f xs i found → length xs ≤ i → Some found ≡ all_of (map f xs)
so_far_all f xs i found h past =
    ap Some (sym (append-nil found)) ∙ ap (λ l. with_rest found (all_of (map f l))) (sym (drop_all i xs past)) ∙ h.same
