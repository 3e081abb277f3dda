-- An end line names the first start of its row that no end line before it has named.
use Rattle.std.specs.Prelude.{◌≡◌, ℕ, ◌<◌, ◌≤◌, nat_lt, Bool, true, false, cond, List, [], ◌∷◌, ◌++◌, take, drop, refl}
use Rattle.std.specs.Ordering.{eq_by_cmp, is_lt, nat_cmp, ordering_then}
use Rattle.std.specs.declared.cmp.Ordering.TheVariants.{Less}
use Rattle.std.proofs.Common.{sym, ◌∙◌, ap, subst, arith}
use Rattle.std.proofs.lemmas.Bool.Decides.{nat_tests}
use Rattle.std.proofs.lemmas.Bool.{ltb-true, ltb-false}
use Rattle.std.proofs.lemmas.List.{append_assoc, take-append-drop}
use Rattle.std.proofs.lemmas.List.Concat.{flat_map-append}
use Rattle.tw_rows.specs.Instant.{instants}
use Rattle.tw_rows.specs.Rows.{Row, row_cmp}
use Rattle.plan_model.specs.Opens.{starts_before, ends_before}
use Rattle.plan_model.specs.Changes.{Line, Started, Ended, changes_at, changes}
use Rattle.plan_model.specs.ChangeWords.{time_of, row_of, kind_of, line_cmp, start_time, named_time, start_times, named_times, IsFirstOpen}
use Rattle.plan_model.proofs.InOrder.{row_itself}
use Rattle.plan_model.proofs.Each.{Each, Pairs, each_split, each_more, each_flat_map, each_all, pairs_split}
use Rattle.plan_model.proofs.Counting.{starts_below, names_below}
use Rattle.plan_model.proofs.LineOrder.{Follows, NamesBefore, all_in_order, ends_name_before}

nat_less : (a b : ℕ) → a < b → nat_cmp a b ≡ Less
nat_less a b h = grind (arith, nat_tests)

pub not_earlier : (x y : Line) → Follows x y → time_of x ≤ time_of y
not_earlier x y h = pick (nat_lt (time_of y) (time_of x)) refl
  where
    pick : (b : Bool) → nat_lt (time_of y) (time_of x) ≡ b → time_of x ≤ time_of y
    pick false e = ltb-false (time_of y) (time_of x) e
    pick true e = absurd (
        let z : is_lt (line_cmp y x) ≡ true = ap (λ o. is_lt (ordering_then o (ordering_then (nat_cmp (kind_of y) (kind_of x)) (row_cmp (row_of y) (row_of x))))) (nat_less (time_of y) (time_of x) (ltb-true (time_of y) (time_of x) e)) in
        cc)

start_not_earlier : (r : Row) (t : ℕ) (l : Line) → t ≤ time_of l → Each (λ s. t ≤ s) (start_time r l)
start_not_earlier r t (Started u q) h = pick (eq_by_cmp row_cmp r q)
  where
    pick : (b : Bool) → Each (λ s. t ≤ s) (cond b (u ∷ []) [])
    pick true = (h, tt)
    pick false = tt
start_not_earlier r t (Ended u s q) h = tt

-- two ways to part a list: what is early stands in the early part
early_part : (t s : ℕ) (A B N C : List ℕ) → A ++ B ≡ N ++ s ∷ C → Each (λ x. t ≤ x) B → s < t → (rest : List ℕ) × (A ≡ N ++ s ∷ rest)
early_part t s [] B N C e late early = absurd (let z : t ≤ s = each_split (λ x. t ≤ x) N s C (subst (Each (λ x. t ≤ x)) e late) in omega (arith, z, early))
early_part t s (a ∷ A) B [] C e late early = (A, let z : a ≡ s = cc in ap (λ x. x ∷ A) z)
early_part t s (a ∷ A) B (n ∷ N) C e late early =
    let first : a ≡ n = cc in
    let tail : A ++ B ≡ N ++ s ∷ C = cc in
    let h = early_part t s A B N C tail late early in
    (h.0, ap (λ x. x ∷ A) first ∙ ap (λ l. n ∷ l) h.1)

own_name : (r : Row) (s : ℕ) (b : Bool) (rest : List ℕ) → b ≡ true → cond b (s ∷ []) [] ++ rest ≡ s ∷ rest
own_name r s true rest e = refl
own_name r s false rest e = absurd (cc)

each_named : (rows : ℕ → List Row) (n : ℕ) → Each NamesBefore (changes rows 0 n)
unfolding changes
each_named rows n = each_flat_map NamesBefore (changes_at rows) (instants 0 n) (each_all _ (instants 0 n) (ends_name_before rows))

pub first_open : (rows : ℕ → List Row) (n : ℕ) (done after : List Line) (t s : ℕ) (r : Row) → changes rows 0 n ≡ done ++ Ended t s r ∷ after → IsFirstOpen r done t s
first_open rows n done after t s r e =
    let late : Each (λ x. t ≤ x) (start_times r after) =
    each_flat_map (λ x. t ≤ x) (start_time r) after
    (each_more (Follows (Ended t s r)) _ after (λ l h. start_not_earlier r t l (not_earlier (Ended t s r) l h))
    (pairs_split Follows done (Ended t s r) after (subst (Pairs Follows) e (all_in_order rows 0 n)))) in
    let early : s < t = each_split NamesBefore done (Ended t s r) after (subst (Each NamesBefore) e (each_named rows n)) in
    let starts : start_times r done ++ start_times r after ≡ starts_before rows r n =
    sym (flat_map-append (start_time r) done (Ended t s r ∷ after)) ∙ (ap (start_times r) (sym e) ∙ starts_below rows r n) in
    let names : named_times r done ++ s ∷ named_times r after ≡ take (ends_before rows r n) (starts_before rows r n) =
    ap (λ l. named_times r done ++ l) (sym (own_name r s (eq_by_cmp row_cmp r r) (named_times r after) (row_itself r)))
    ∙ (sym (flat_map-append (named_time r) done (Ended t s r ∷ after)) ∙ (ap (named_times r) (sym e) ∙ names_below rows r n)) in
    let both : start_times r done ++ start_times r after ≡ named_times r done ++ s ∷ (named_times r after ++ drop (ends_before rows r n) (starts_before rows r n)) =
    starts
    ∙ (sym (take-append-drop (ends_before rows r n) (starts_before rows r n))
    ∙ (ap (λ l. l ++ drop (ends_before rows r n) (starts_before rows r n)) (sym names)
    ∙ append_assoc (named_times r done) (s ∷ named_times r after) (drop (ends_before rows r n) (starts_before rows r n)))) in
    let h = early_part t s (start_times r done) (start_times r after) (named_times r done) (named_times r after ++ drop (ends_before rows r n) (starts_before rows r n)) both late early in
    record { rest = h.0; first = h.1; earlier = early }
