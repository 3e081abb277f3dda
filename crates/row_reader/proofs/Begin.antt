-- What was there before stands at the front, step after step.
use Rattle.std.proofs.Common.{◌≡◌, ℕ, List, [], ◌∷◌, ◌++◌, length, take, refl, sym, ◌∙◌, ap, append_assoc}
use Rattle.std.proofs.lemmas.List.{append-nil}
use Rattle.row_reader.specs.RecordTexts.{Begins}

pub Begins-same : (xs ys : List ℕ) → ys ≡ xs → Begins xs ys
Begins-same xs ys e = record { more = []; is = e ∙ sym (append-nil xs) }

pub Begins-more : (xs a ys : List ℕ) → ys ≡ xs ++ a → Begins xs ys
Begins-more xs a ys e = record { more = a; is = e }

pub Begins-trans : (xs ys zs : List ℕ) → Begins xs ys → Begins ys zs → Begins xs zs
Begins-trans xs ys zs b c = record { more = b.more ++ c.more; is = c.is ∙ ap (λ (l : List ℕ). l ++ c.more) b.is ∙ append_assoc xs b.more c.more }

pub Begins-after : (xs a ys zs : List ℕ) → ys ≡ xs ++ a → Begins ys zs → Begins xs zs
Begins-after xs a ys zs e b = Begins-trans xs ys zs (Begins-more xs a ys e) b

take-front : (xs more : List ℕ) → take (length xs) (xs ++ more) ≡ xs
take-front [] more = refl
take-front (x ∷ xs) more = ap (λ (l : List ℕ). x ∷ l) (take-front xs more)

pub Begins_take : (xs ys : List ℕ) → Begins xs ys → take (length xs) ys ≡ xs
Begins_take xs ys b = ap (take (length xs)) b.is ∙ take-front xs b.more

pub ruleset begin_steps = (Begins-same, Begins-after)
