-- What is left of a list where all items pass a test, or none does.
use Rattle.std.proofs.Common.{◌≡◌, ◌≤◌, suc, ◌&&◌, Bool, true, false, List, [], ◌∷◌, length, cond, Result, Ok, Err, OnOk, refl, ap, sym, subst, arith}
use Rattle.std.specs.Prelude.{filter}
use Rattle.std.specs.Bool.{OnTrue}
use Rattle.std.specs.Result.{is_ok}
use Rattle.std.specs.List.{list_all}

module _ {X : Type 0} (p : X → Bool) where
  pub filter-all : (xs : List X) → list_all p xs ≡ true → filter p xs ≡ xs
  filter-all [] h = refl
  filter-all (x ∷ xs) h = pick (p x) h (filter-all xs)
    where
      pick : (b : Bool) → (b && list_all p xs) ≡ true → (list_all p xs ≡ true → filter p xs ≡ xs) → cond b (x ∷ filter p xs) (filter p xs) ≡ x ∷ xs
      pick true k rest = ap (λ l. x ∷ l) (rest k)
      pick false k rest = absurd (cc)

  -- where one test excludes the other
  pub filter-none : (q : X → Bool) → ((x : X) → p x ≡ true → q x ≡ false) → (xs : List X) → list_all p xs ≡ true → filter q xs ≡ []
  filter-none q apart [] h = refl
  filter-none q apart (x ∷ xs) h = pick (p x) refl h (filter-none q apart xs)
    where
      pick : (b : Bool) → p x ≡ b → (b && list_all p xs) ≡ true → (list_all p xs ≡ true → filter q xs ≡ []) → cond (q x) (x ∷ filter q xs) (filter q xs) ≡ []
      pick true is k rest =
          let out : q x ≡ false = apart x is in
          rw out (rest k)
      pick false is k rest = absurd (cc)

  pub filter_twice : (xs : List X) → filter p (filter p xs) ≡ filter p xs
  filter_twice [] = refl
  filter_twice (x ∷ xs) = pick (p x) refl (filter_twice xs)
    where
      pick : (b : Bool) → p x ≡ b → filter p (filter p xs) ≡ filter p xs → filter p (cond b (x ∷ filter p xs) (filter p xs)) ≡ cond b (x ∷ filter p xs) (filter p xs)
      pick true is rest = rw is (ap (λ l. x ∷ l) rest)
      pick false is rest = rest

  pub length-filter-le : (xs : List X) → length (filter p xs) ≤ length xs
  length-filter-le [] = omega arith
  length-filter-le (x ∷ xs) = pick (p x) (length-filter-le xs)
    where
      pick : (b : Bool) → length (filter p xs) ≤ length xs → length (cond b (x ∷ filter p xs) (filter p xs)) ≤ suc (length xs)
      pick true le = omega (arith, le)
      pick false le = omega (arith, le)

-- what a call that succeeded ensures
pub on_true : {T E : Type 0} (r : Result T E) (b : Bool) (P Q : Type 0) → b ≡ is_ok r → OnOk r P → (P → Q) → OnTrue b Q
on_true (Ok x) b P Q e p f = subst (λ v. OnTrue v Q) (sym e) (f p)
on_true (Err x) b P Q e p f = subst (λ v. OnTrue v Q) (sym e) tt

pub from_ok : {T E : Type 0} (r : Result T E) (b : Bool) (P : Type 0) → b ≡ is_ok r → b ≡ true → OnOk r P → P
from_ok (Ok x) b P e is p = p
from_ok (Err x) b P e is p = absurd (cc)
