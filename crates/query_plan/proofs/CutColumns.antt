-- What is known of a column by which a node is cut.
use Rattle.std.specs.Prelude.{◌≡◌, ℕ, suc, ◌+◌, ◌<◌, ◌⊎◌, nat_eq, Bool, true, false, cond, ◌&&◌, ◌||◌, List, [], ◌∷◌, length, map, filter, slice_index_or, All, refl}
use Rattle.std.proofs.Common.{inl, inr, sym, ◌∙◌, ap, subst, arith}
use Rattle.std.proofs.lemmas.Bool.{and_parts, or_cases, or_right, eqb-true, eq-eqb}
use Rattle.std.proofs.lemmas.List.Elements.{All-head, All-tail}
use Rattle.tw_rows.specs.Rows.{Row}
use Rattle.tw_rows.specs.declared.row.Value.{Value}
use Rattle.plan_model.specs.declared.expr.ExprNode.{ExprNode}
use Rattle.plan_model.specs.declared.expr.ExprNode.TheVariants.{Column}
use Rattle.plan_model.specs.Expr.{zero_value}
use Rattle.plan_model.specs.Keys.{key_values}
use Rattle.query_plan.specs.Cuts.{is_among, passing_from, is_cut_column, in_both_keys}

-- a column among those that pass a test is one of all, and passes
pub among_filter : (p : ℕ → Bool) (xs : List ℕ) (c : ℕ) → is_among (filter p xs) c ≡ true →
    (is_among xs c ≡ true) × (p c ≡ true)
among_filter p [] c h = absurd (cc)
among_filter p (x ∷ xs) c h =
    pick (p x) refl
    (λ k. let r = among_filter p xs c k in (or_right (nat_eq c x) (is_among xs c) r.0, r.1)) h
  where
    one : p x ≡ true → (is_among (filter p xs) c ≡ true → ((is_among (x ∷ xs) c ≡ true) × (p c ≡ true))) →
        (nat_eq c x ≡ true) ⊎ (is_among (filter p xs) c ≡ true) → ((is_among (x ∷ xs) c ≡ true) × (p c ≡ true))
    one pass later (inl e) = (ap (λ b. b || is_among xs c) e, ap p (eqb-true c x e) ∙ pass)
    one pass later (inr k) = later k

    pick : (b : Bool) → p x ≡ b → (is_among (filter p xs) c ≡ true → ((is_among (x ∷ xs) c ≡ true) × (p c ≡ true))) →
        is_among (cond b (x ∷ filter p xs) (filter p xs)) c ≡ true → ((is_among (x ∷ xs) c ≡ true) × (p c ≡ true))
    pick true pass later k = one pass later (or_cases (nat_eq c x) (is_among (filter p xs) c) k)
    pick false pass later k = later k

-- a column among those of a key has what all of them have
pub among_has : (P : ℕ → Type 0) (key : List ℕ) (c : ℕ) → All P key → is_among key c ≡ true → P c
among_has P [] c all h = absurd (cc)
among_has P (k ∷ key) c all h =
    elim (or_cases (nat_eq c k) (is_among key c) h) [
      | inl e ↦ subst P (sym (eqb-true c k e)) (All-head P k key all)
      | inr rest ↦ among_has P key c (All-tail P k key all) rest
    ]

-- a column of one key by which rows are cut: two rows with equal keys have the same value there
pub key_has : (key : List ℕ) (c : ℕ) → is_among key c ≡ true → (a b : Row) → key_values key a ≡ key_values key b →
    slice_index_or a c zero_value ≡ slice_index_or b c zero_value
key_has [] c h a b e = absurd (cc)
key_has (k ∷ key) c h a b e =
    let heads : slice_index_or a k zero_value ≡ slice_index_or b k zero_value = cc in
    let tails : key_values key a ≡ key_values key b = cc in
    elim (or_cases (nat_eq c k) (is_among key c) h) [
      | inl here ↦ subst (λ x. slice_index_or a x zero_value ≡ slice_index_or b x zero_value) (sym (eqb-true c k here)) heads
      | inr rest ↦ key_has key c rest a b tails
    ]

-- a column of the left key by which the left rows are cut, with one of the right key by which the right rows are: rows with
-- equal keys have the same value in these two
pub record InBoth (left_key right_key left right : List ℕ) (c : ℕ) : Type 0 where
  pub other : ℕ
  pub named : is_among left_key c ≡ true
  pub on_left : is_among left c ≡ true
  pub on_right : is_among right other ≡ true
  pub alike : (a b : Row) → key_values left_key a ≡ key_values right_key b →
      slice_index_or a c zero_value ≡ slice_index_or b other zero_value

pub among_both : (left_key right_key left right : List ℕ) (c : ℕ) →
    is_among (in_both_keys left_key right_key left right) c ≡ true → InBoth left_key right_key left right c
among_both [] right_key left right c h = absurd (cc)
among_both (l ∷ left_key) [] left right c h = absurd (cc)
among_both (l ∷ left_key) (r ∷ right_key) left right c h =
    pick (is_among left l && is_among right r) refl
    (λ k. let rest = among_both left_key right_key left right c k in record {
      other = rest.other;
      named = or_right (nat_eq c l) (is_among left_key c) rest.named;
      on_left = rest.on_left;
      on_right = rest.on_right;
      alike = λ a b e. let tails : key_values left_key a ≡ key_values right_key b = cc in rest.alike a b tails;
    }) h
  where
    here : (is_among left l && is_among right r) ≡ true → c ≡ l → (InBoth (l ∷ left_key) (r ∷ right_key) left right c)
    here both e =
        let parts = and_parts (is_among left l) (is_among right r) both in
        record {
          other = r;
          named = ap (λ b. b || is_among left_key c) (eq-eqb c l e);
          on_left = ap (is_among left) e ∙ parts.0;
          on_right = parts.1;
          alike = λ a b k.
              let heads : slice_index_or a l zero_value ≡ slice_index_or b r zero_value = cc in
              ap (λ x. slice_index_or a x zero_value) e ∙ heads;
        }

    one : (is_among left l && is_among right r) ≡ true → ((is_among (in_both_keys left_key right_key left right) c ≡ true) → (InBoth (l ∷ left_key) (r ∷ right_key) left right c)) → (nat_eq c l ≡ true) ⊎ (is_among (in_both_keys left_key right_key left right) c ≡ true) → (InBoth (l ∷ left_key) (r ∷ right_key) left right c)
    one both later (inl e) = here both (eqb-true c l e)
    one both later (inr k) = later k

    pick : (b : Bool) → (is_among left l && is_among right r) ≡ b → ((is_among (in_both_keys left_key right_key left right) c ≡ true) → (InBoth (l ∷ left_key) (r ∷ right_key) left right c)) →
        is_among (cond b (l ∷ in_both_keys left_key right_key left right) (in_both_keys left_key right_key left right)) c ≡ true →
        (InBoth (l ∷ left_key) (r ∷ right_key) left right c)
    pick true both later k = one both later (or_cases (nat_eq c l) (is_among (in_both_keys left_key right_key left right) c) k)
    pick false both later k = later k

-- the place of an item that passes a test: what is made of the items has there what is made of that item
pub record PassingAt {X : Type 0} (test : X → Bool) (from place : ℕ) (xs : List X) : Type 0 where
  pub after : ℕ
  pub is : place ≡ from + after
  pub low : after < length xs
  pub item : X
  pub passes : test item ≡ true
  pub reads : (f : X → Value) → slice_index_or (map f xs) after zero_value ≡ f item

pub passing_at : {X : Type 0} (test : X → Bool) (from place : ℕ) (xs : List X) →
    is_among (passing_from test from xs) place ≡ true → PassingAt test from place xs
passing_at test from place [] h = absurd (cc)
passing_at test from place (x ∷ xs) h =
    pick (test x) refl
    (λ k. let rest = passing_at test (suc from) place xs k in record {
      after = suc rest.after;
      is = omega (arith, rest.is);
      low = omega (arith, rest.low);
      item = rest.item;
      passes = rest.passes;
      reads = rest.reads;
    }) h
  where
    here : test x ≡ true → place ≡ from → (PassingAt test from place (x ∷ xs))
    here pass e = record {
      after = 0;
      is = omega (arith, e);
      low = omega arith;
      item = x;
      passes = pass;
      reads = λ f. refl;
    }

    one : test x ≡ true → ((is_among (passing_from test (suc from) xs) place ≡ true) → (PassingAt test from place (x ∷ xs))) → (nat_eq place from ≡ true) ⊎ (is_among (passing_from test (suc from) xs) place ≡ true) → (PassingAt test from place (x ∷ xs))
    one pass later (inl e) = here pass (eqb-true place from e)
    one pass later (inr k) = later k

    pick : (b : Bool) → test x ≡ b → ((is_among (passing_from test (suc from) xs) place ≡ true) → (PassingAt test from place (x ∷ xs))) →
        is_among (cond b (from ∷ passing_from test (suc from) xs) (passing_from test (suc from) xs)) place ≡ true → (PassingAt test from place (x ∷ xs))
    pick true pass later k = one pass later (or_cases (nat_eq place from) (is_among (passing_from test (suc from) xs) place) k)
    pick false pass later k = later k

-- an item that is just a column by which rows are cut
pub record IsCutColumn (places : List ℕ) (item : List ExprNode) : Type 0 where
  pub column : ℕ
  pub is : item ≡ Column column ∷ []
  pub cut : is_among places column ≡ true

pub cut_column : (places : List ℕ) (item : List ExprNode) → is_cut_column places item ≡ true → IsCutColumn places item
cut_column places (Column column ∷ []) h = record { column = column; is = refl; cut = h }
cut_column places item h = absurd (cc)
