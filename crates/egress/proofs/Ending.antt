-- The lines of the ends and starts of one row, line by line.
use Rattle.std.specs.Prelude.{◌≡◌, ℕ, ◌+◌, List, [], ◌∷◌, ◌++◌, map, replicate}
use Rattle.std.proofs.Common.{sym, ◌∙◌, ap}
use Rattle.std.proofs.lemmas.List.{append_assoc, append-nil, map-append, replicate_more}
use Rattle.std.proofs.lemmas.List.Concat.{flat_map-append}
use Rattle.tw_rows.specs.declared.kind.Kind.{Kind}
use Rattle.plan_model.specs.Changes.{Line}
use Rattle.egress.specs.Print.{line_text, print}

module _ (kinds : List Kind) where
  pub mapped_more : {X : Type 0} (f : X → Line) (before now after : List ℕ) (xs ys : List X) (x : X) → ys ≡ xs ++ x ∷ [] →
      now ≡ before ++ print kinds (map f xs) → after ≡ now ++ line_text kinds (f x) → after ≡ before ++ print kinds (map f ys)
  mapped_more f before now after xs ys x e h k =
      k ∙ ap (λ l. l ++ line_text kinds (f x)) h
      ∙ append_assoc before (print kinds (map f xs)) (line_text kinds (f x))
      ∙ ap (λ l. before ++ l) (
      ap (λ l. print kinds (map f xs) ++ l) (sym (append-nil (line_text kinds (f x))))
      ∙ sym (flat_map-append (line_text kinds) (map f xs) (f x ∷ []))
      ∙ ap (print kinds) (sym (map-append f xs (x ∷ [])) ∙ ap (map f) (sym e)))

  pub replicated_more : (line : Line) (before now after : List ℕ) (n : ℕ) →
      now ≡ before ++ print kinds (replicate n line) → after ≡ now ++ line_text kinds line → after ≡ before ++ print kinds (replicate (n + 1) line)
  replicated_more line before now after n h k =
      k ∙ ap (λ l. l ++ line_text kinds line) h
      ∙ append_assoc before (print kinds (replicate n line)) (line_text kinds line)
      ∙ ap (λ l. before ++ l) (
      ap (λ l. print kinds (replicate n line) ++ l) (sym (append-nil (line_text kinds line)))
      ∙ sym (flat_map-append (line_text kinds) (replicate n line) (line ∷ []))
      ∙ ap (print kinds) (replicate_more n line))
