-- Lines that are printed one behind the other.
use Rattle.std.proofs.Common.{◌≡◌, ◌++◌, ℕ, List, [], ◌∷◌, sym, ◌∙◌, ap, append_assoc, append-nil}
use Rattle.checkpoint.specs.Writing.{bytes_of}

-- one line more was printed
pub line_pushed : (old new line all : List ℕ) (left rest : List (List ℕ)) → left ≡ line ∷ rest → new ≡ old ++ (line ++ 10 ∷ []) → old ++ bytes_of left ≡ all → new ++ bytes_of rest ≡ all
line_pushed old new line all left rest next is h =
    ap (λ x. x ++ bytes_of rest) is ∙ (append_assoc old (line ++ 10 ∷ []) (bytes_of rest) ∙ (ap (λ ls. old ++ bytes_of ls) (sym next) ∙ h))

-- and none was left
pub none_pushed : (old new all : List ℕ) (left : List (List ℕ)) → left ≡ [] → new ≡ old → old ++ bytes_of left ≡ all → new ≡ all
none_pushed old new all left none is h = is ∙ (sym (append-nil old) ∙ (ap (λ ls. old ++ bytes_of ls) (sym none) ∙ h))

-- two lines were printed
pub places_pushed : (a b c d e i o : List ℕ) → b ≡ a ++ i → c ≡ b ++ 10 ∷ [] → d ≡ c ++ o → e ≡ d ++ 10 ∷ [] → e ≡ a ++ ((i ++ 10 ∷ []) ++ ((o ++ 10 ∷ []) ++ []))
places_pushed a b c d e i o p q r s =
    s ∙ (ap (λ x. x ++ 10 ∷ []) r ∙ (append_assoc c o (10 ∷ []) ∙ (ap (λ x. x ++ (o ++ 10 ∷ [])) (q ∙ (ap (λ x. x ++ 10 ∷ []) p ∙ append_assoc a i (10 ∷ [])))
    ∙ (append_assoc a (i ++ 10 ∷ []) (o ++ 10 ∷ []) ∙ ap (λ x. a ++ ((i ++ 10 ∷ []) ++ x)) (sym (append-nil (o ++ 10 ∷ [])))))))

-- two texts were printed into an empty buffer
pub both_pushed : (a b c x y : List ℕ) → c ≡ b ++ y → b ≡ a ++ x → a ≡ [] → c ≡ x ++ y
both_pushed a b c x y p q r = p ∙ ap (λ z. z ++ y) (q ∙ ap (λ z. z ++ x) r)
