-- The order of an answer that grows at its end.
use Rattle.std.specs.Prelude.{◌≡◌, ℕ, ◌≤◌, nat_eq, nat_le, true, cond, List, [], ◌∷◌, ◌++◌, refl}
use Rattle.std.proofs.Common.{sym, ap, subst, arith, append_assoc}
use Rattle.std.proofs.lemmas.Bool.Decides.{nat_tests}
use Rattle.tw_rows.proofs.Bags.{total-append}
use Rattle.tw_rows.specs.declared.edge.Edge.{Edge}
use Rattle.edge_history.specs.Order.{failing, rank, Rises}
use Rattle.edge_history.proofs.Sums.{weaker, failing-same}
use Rattle.sweep_laws.specs.Sweeps.{InOrder}
use Rattle.sweep_laws.specs.Moves.{Adds}

rises_push : (q r : ℕ) (es : List Edge) (e : Edge) → q ≤ r → Rises q es → failing (λ x. nat_le (rank x) r) es ≡ 0 → r ≤ rank e → Rises q (es ++ (e ∷ []))
rises_push q r [] e low h b k = (omega arith, tt)
rises_push q r (x ∷ es) e low h b k = (h.0, rises_push (rank x) r es e (one x r (omega (arith, b))) h.1 (omega (arith, b)) k)
  where
    one : (x : Edge) (r : ℕ) → cond {A = ℕ} (nat_le (rank x) r) 0 1 ≡ 0 → rank x ≤ r
    one x r z = grind (arith, nat_tests)

le_self : (n r : ℕ) → n ≡ r → cond {A = ℕ} (nat_le n r) 0 1 ≡ 0
le_self n r h = grind (arith, nat_tests)

le_more : (n r s : ℕ) → r ≤ s → nat_le n r ≡ true → nat_le n s ≡ true
le_more n r s low h = grind (arith, nat_tests)

pub order_later : (r s : ℕ) (es : List Edge) → r ≤ s → InOrder r es → InOrder s es
order_later r s es low h = record { rises = h.rises; below = weaker (λ x. nat_le (rank x) r) (λ x. nat_le (rank x) s) es (λ x k. le_more (rank x) r s low k) h.below }

pub order_push : (r : ℕ) (es : List Edge) (e : Edge) → rank e ≡ r → InOrder r es → InOrder r (es ++ (e ∷ []))
order_push r es e is h = record {
  rises = rises_push 0 r es e (omega arith) h.rises h.below (omega (arith, is));
  below = let a = total-append (λ x. cond {A = ℕ} (nat_le (rank x) r) 0 1) es (e ∷ []) in let b = h.below in let z = le_self (rank e) r is in omega (arith, a, b, z);
}

grown : (r : ℕ) (a xs : List Edge) → failing (λ e. nat_eq (rank e) r) xs ≡ 0 → InOrder r a → InOrder r (a ++ xs)
grown r a [] h up = subst (InOrder r) (sym (none a)) up
  where
    none : (es : List Edge) → es ++ [] ≡ es
    none [] = refl
    none (e ∷ es) = ap (λ l. e ∷ l) (none es)
grown r a (x ∷ xs) h up = subst (InOrder r) (append_assoc a (x ∷ []) xs) (grown r (a ++ (x ∷ [])) xs (omega (arith, h)) (order_push r a x (one x r (omega (arith, h))) up))
  where
    one : (x : Edge) (r : ℕ) → cond {A = ℕ} (nat_eq (rank x) r) 0 1 ≡ 0 → rank x ≡ r
    one x r z = grind (arith, nat_tests)

pub adds_order : (r : ℕ) (a b xs : List Edge) → Adds a b xs → failing (λ e. nat_eq (rank e) r) xs ≡ 0 → InOrder r a → InOrder r b
adds_order r a b xs h k up = subst (InOrder r) (sym h.is) (grown r a h.added (failing-same (λ e. nat_eq (rank e) r) h.added xs h.bag k) up)
