-- A list of rules with distinct ids, of which each has a property.
use Rattle.std.proofs.Common.{◌≡◌, ◌∙◌, ◌&&◌, Bool, true, false, not, inl, inr, refl, sym, ap, subst, true≢false, List, [], ◌∷◌}
use Rattle.std.specs.List.{fold, list_all}
use Rattle.std.specs.Str.{bytes_eq}
use Rattle.std.proofs.lemmas.Slice.Eq.{bytes_eq-Decides}
use Rattle.clap.specs.Walk.{Row, Rule, Text, has_row, with_default}
use Rattle.clap.proofs.WalkLemmas.{both}
use Rattle.command_line.proofs.Kept.{IsIn}
use Rattle.command_line.proofs.Rows.{default_has, default_keeps_row}

-- each rule of the list
abbrev pub Each : (Rule → Type 0) → List Rule → Type 0
Each P [] = Unit {0}
Each P (a ∷ xs) = P a × Each P xs

pub each_in : (P : Rule → Type 0) (xs : List Rule) (a : Rule) → IsIn a xs → Each P xs → P a
each_in P [] a of each = absurd of
each_in P (x ∷ xs) a (inl e) each = subst P (sym e) each.0
each_in P (x ∷ xs) a (inr of) each = each_in P xs a of each.1

-- no rule of the list has the id of this one
abbrev pub is_apart : Rule → List Rule → Bool
is_apart a xs = list_all (λ b. not (bytes_eq a.id b.id)) xs

abbrev pub are_distinct : List Rule → Bool
are_distinct [] = true
are_distinct (a ∷ xs) = is_apart a xs && are_distinct xs

not_false : (b : Bool) → not b ≡ true → b ≡ false
not_false true e = absurd (true≢false (sym e))
not_false false e = refl

apart_from : (a b : Rule) (xs : List Rule) → is_apart a xs ≡ true → IsIn b xs → a.id ≡ b.id → ⊥
apart_from a b [] e of same = absurd of
apart_from a b (x ∷ xs) e (inl is) same =
    let differs = not_false (bytes_eq a.id x.id) (both (not (bytes_eq a.id x.id)) (is_apart a xs) e).0 in
    true≢false (sym ((bytes_eq-Decides a.id x.id).1 (same ∙ ap (λ (r : Rule). r.id) is)) ∙ differs)
apart_from a b (x ∷ xs) e (inr of) same = apart_from a b xs (both (not (bytes_eq a.id x.id)) (is_apart a xs) e).1 of same

-- rules of one id are one
pub one_of_id : (xs : List Rule) → are_distinct xs ≡ true → (a b : Rule) → IsIn a xs → IsIn b xs → a.id ≡ b.id → a ≡ b
one_of_id [] d a b of of' same = absurd of
one_of_id (x ∷ xs) d a b (inl e) (inl f) same = e ∙ sym f
one_of_id (x ∷ xs) d a b (inl e) (inr of') same = absurd (apart_from x b xs (both (is_apart x xs) (are_distinct xs) d).0 of' (sym (ap (λ (r : Rule). r.id) e) ∙ same))
one_of_id (x ∷ xs) d a b (inr of) (inl f) same = absurd (apart_from x a xs (both (is_apart x xs) (are_distinct xs) d).0 of (sym (ap (λ (r : Rule). r.id) f) ∙ sym same))
one_of_id (x ∷ xs) d a b (inr of) (inr of') same = one_of_id xs (both (is_apart x xs) (are_distinct xs) d).1 a b of of' same

-- a fact of rows that each default keeps
pub defaults_keep : (K : List Row → Type 0) (xs : List Rule) → Each (λ a. (rows : List Row) → K rows → K (with_default rows a)) xs → (rows : List Row) → K rows → K (fold with_default rows xs)
defaults_keep K [] each rows k = k
defaults_keep K (a ∷ xs) each rows k = defaults_keep K xs each.1 (with_default rows a) (each.0 rows k)

row_stays : (id : Text) (xs : List Rule) (rows : List Row) → has_row id rows ≡ true → has_row id (fold with_default rows xs) ≡ true
row_stays id [] rows h = h
row_stays id (a ∷ xs) rows h = row_stays id xs (with_default rows a) (default_keeps_row id a rows h)

-- an option with a default has a row after all defaults
pub row_by_default : (a : Rule) (v : Text) → a.defaults ≡ v ∷ [] → bytes_eq a.id a.id ≡ true → (xs : List Rule) → IsIn a xs → (rows : List Row) → has_row a.id (fold with_default rows xs) ≡ true
row_by_default a v default same [] of rows = absurd of
row_by_default a v default same (x ∷ xs) (inl e) rows =
    row_stays a.id xs (with_default rows x) (subst (λ (r : Rule). has_row a.id (with_default rows r) ≡ true) e (default_has a v default same rows))
row_by_default a v default same (x ∷ xs) (inr of) rows = row_by_default a v default same xs of (with_default rows x)
