-- The results of rows, block by block.
use Rattle.std.proofs.Common.{◌≡◌, ℕ, suc, ◌+◌, ◌-◌, ◌*◌, ◌<◌, ◌≤◌, ◌⊎◌, inl, inr, Bool, false, List, [], ◌∷◌, ◌++◌, map, length, get_or, below_more, refl, ap, ap₂, sym, ◌∙◌, subst, arith}
use Rattle.std.proofs.lemmas.Bool.{cases_lt}
use Rattle.std.proofs.lemmas.List.{get_or_append_left, get_or_push, length_push}
use Rattle.tw_rows.specs.declared.cells.Datum.{Datum}
use Rattle.plan_model.specs.declared.expr.ExprNode.{ExprNode}
use Rattle.batch.specs.Rows.{Row}
use Rattle.lane_expr.specs.Running.{no_row}
use Rattle.lane_expr.specs.Kernels.{IsResult, AreResults}

-- what holds at each place of a list, and of n places more, holds at each place of the longer list
pub grown : {X : Type 0} (P : ℕ → X → Type 0) (d : X) (old new : List X) (n : ℕ) → ((i : ℕ) → i < length old → get_or new i d ≡ get_or old i d) → ((i : ℕ) → i < length old → P i (get_or old i d))
    → ((j : ℕ) → j < n → P (length old + j) (get_or new (length old + j) d)) → (i : ℕ) → i < length old + n → P i (get_or new i d)
grown P d old new n same held more i lt = at (cases_lt i (length old))
  where
    at : (i < length old) ⊎ (length old ≤ i) → P i (get_or new i d)
    at (inl h) = subst (P i) (sym (same i h)) (held i h)
    at (inr h) =
        let e : length old + (i - length old) ≡ i = omega arith in
        subst (λ k. P k (get_or new k d)) e (more (i - length old) (omega arith))

pub results_all : {X : Type 0} (f : X → Datum) (d : X) (texts : List (List ℕ)) (expr : List ExprNode) (rows : List Row) (xs : List X) → length xs ≡ length rows
    → ((i : ℕ) → i < length rows → IsResult texts expr (get_or rows i no_row) (f (get_or xs i d))) → AreResults texts expr rows (map f xs)
results_all f d texts expr [] [] e h = tt
results_all f d texts expr [] (x ∷ xs) e h = absurd (omega (arith, e))
results_all f d texts expr (r ∷ rs) [] e h = absurd (omega (arith, e))
results_all f d texts expr (r ∷ rs) (x ∷ xs) e h = (h 0 (omega arith), results_all f d texts expr rs xs (omega (arith, e)) (λ i lt. h (suc i) (omega arith)))

pub bits_all : (g : Row → Bool) (rows : List Row) (bits : List Bool) → length bits ≡ length rows → ((i : ℕ) → i < length rows → get_or bits i false ≡ g (get_or rows i no_row)) → bits ≡ map g rows
bits_all g [] [] e h = refl
bits_all g [] (b ∷ bs) e h = absurd (omega (arith, e))
bits_all g (r ∷ rs) [] e h = absurd (omega (arith, e))
bits_all g (r ∷ rs) (b ∷ bs) e h = ap₂ (λ x xs. x ∷ xs) (h 0 (omega arith)) (bits_all g rs bs (omega (arith, e)) (λ i lt. h (suc i) (omega arith)))

-- an item more is stored behind the n that were
module _ {X : Type 0} (d : X) (f : ℕ → X) (old now new : List X) (x : X) (n : ℕ) (long : length now ≡ length old + n) (pushed : new ≡ now ++ x ∷ []) (is : x ≡ f n) where
  pub next_before : ((i : ℕ) → i < length old → get_or now i d ≡ get_or old i d) → (i : ℕ) → i < length old → get_or new i d ≡ get_or old i d
  next_before h i lt = let low : i < length now = omega arith in ap (λ l. get_or l i d) pushed ∙ get_or_append_left now (x ∷ []) d i low ∙ h i lt

  pub next_long : length new ≡ length old + (n + 1)
  next_long = let e = ap length pushed ∙ length_push now x in omega (arith, e)

  pub next_values : ((j : ℕ) → j < n → get_or now (length old + j) d ≡ f j) → (j : ℕ) → j < n + 1 → get_or new (length old + j) d ≡ f j
  next_values h = below_more _ _
      (λ j lt. let low : length old + j < length now = omega arith in ap (λ l. get_or l (length old + j) d) pushed ∙ get_or_append_left now (x ∷ []) d (length old + j) low ∙ h j lt)
      (ap (λ l. get_or l (length old + n) d) pushed ∙ get_or_push now x d (length old + n) long ∙ is)

-- the results of one block more, where `cells` has those of its rows
pub results_more : {X : Type 0} (f : X → Datum) (d : X) (texts : List (List ℕ)) (expr : List ExprNode) (rows : List Row) (old new : List X) (block n : ℕ) (cells : ℕ → Datum) → length old ≡ 64 * block
    → ((i : ℕ) → i < length old → get_or new i d ≡ get_or old i d) → ((i : ℕ) → i < length old → IsResult texts expr (get_or rows i no_row) (f (get_or old i d)))
    → ((j : ℕ) → j < n → f (get_or new (length old + j) d) ≡ cells j) → ((j : ℕ) → j < n → IsResult texts expr (get_or rows (64 * block + j) no_row) (cells j))
    → (i : ℕ) → i < length old + n → IsResult texts expr (get_or rows i no_row) (f (get_or new i d))
results_more f d texts expr rows old new block n cells long same held is results =
    grown (λ i x. IsResult texts expr (get_or rows i no_row) (f x)) d old new n same held
    (λ j lt. subst (IsResult texts expr (get_or rows (length old + j) no_row)) (sym (is j lt)) (subst (λ m. IsResult texts expr (get_or rows (m + j) no_row) (cells j)) (sym long) (results j lt)))
