-- The pieces of a record, one after the other.
use Rattle.std.proofs.Common.{◌≡◌, ◌<◌, ◌≤◌, ◌+◌, ℕ, zero, suc, List, [], ◌∷◌, ◌++◌, length, drop, get_or, refl, sym, ◌∙◌, ap, arith, append_assoc, inl, inr}
use Rattle.std.specs.Prelude.{codes, ◌⊎◌}
use Rattle.std.proofs.lemmas.List.{append-nil}
use Rattle.csv.specs.Writing.{default_writer, field_text, fields_text, is_blank}
use Rattle.tw_rows.specs.Instant.{inf}
use Rattle.tw_rows.specs.Cells.{IsPlaced, ArePlaced}
use Rattle.tw_rows.specs.declared.cells.Datum.{Datum}
use Rattle.tw_rows.specs.declared.kind.Kind.{Kind}
use Rattle.tw_rows.specs.declared.row.Value.{Value}
use Rattle.row_reader.specs.FieldTexts.{form_text, time_text, value_text, row_texts, event_fields, start_fields, end_fields, punctuation_fields}
use Rattle.row_reader.specs.RecordTexts.{record_text, EndsLine}
use Rattle.row_reader.specs.declared.form.Form.{Form}
use Rattle.row_reader.specs.declared.form.Form.TheVariants as forms
use Rattle.row_reader.proofs.Plain.{field_text-plain, time_plain}

punctuation_pieces : (a b c d e w x x' : List ℕ) → b ≡ a ++ w → c ≡ b ++ codes ",punct," → d ≡ c ++ x → e ≡ d ++ 10 ∷ [] → x' ≡ x →
    e ≡ a ++ ((w ++ (44 ∷ (codes "punct" ++ (44 ∷ (x' ++ []))))) ++ ([] ++ 10 ∷ []))
punctuation_pieces a b c d e w x x' p q r s k = rw (s, r, q, p, k) (simp (append_assoc, append-nil) refl)

pub punctuation_text : (name : List ℕ) (time : ℕ) (a b c d e : List ℕ) → b ≡ a ++ field_text default_writer name → c ≡ b ++ codes ",punct," → d ≡ c ++ time_text time →
    e ≡ d ++ 10 ∷ [] → e ≡ a ++ record_text (punctuation_fields name time)
unfolding fields_text is_blank
punctuation_text name time a b c d e p q r s =
    punctuation_pieces a b c d e (field_text default_writer name) (time_text time) _ p q r s (field_text-plain (time_text time) (time_plain time))

pub fields_text-append : (xs ys : List (List ℕ)) → fields_text default_writer (xs ++ ys) ≡ fields_text default_writer xs ++ fields_text default_writer ys
unfolding fields_text
fields_text-append [] ys = refl
fields_text-append (x ∷ xs) ys = ap (λ (l : List ℕ). 44 ∷ (field_text default_writer x ++ l)) (fields_text-append xs ys)
    ∙ ap (λ (l : List ℕ). 44 ∷ l) (sym (append_assoc (field_text default_writer x) (fields_text default_writer xs) (fields_text default_writer ys)))

next_value : (ks : List Kind) (vs : List Value) (n : ℕ) (k : Kind) (v : Value) → n < length ks → n < length vs → k ≡ get_or ks n k → v ≡ get_or vs n v →
    fields_text default_writer (row_texts (drop n ks) (drop n vs)) ≡ (44 ∷ field_text default_writer (value_text k v)) ++ fields_text default_writer (row_texts (drop (n + 1) ks) (drop (n + 1) vs))
unfolding fields_text
next_value [] vs n k v h g p q = absurd (omega arith)
next_value (x ∷ ks) [] n k v h g p q = absurd (omega arith)
next_value (x ∷ ks) (y ∷ vs) zero k v h g p q = rw (← p, ← q) refl
next_value (x ∷ ks) (y ∷ vs) (suc n) k v h g p q = let z : suc n + 1 ≡ suc (n + 1) = omega arith in rw z (next_value ks vs n k v (omega arith) (omega arith) p q)

-- the values so far, and those that are still to come
pub values_more : (ks : List Kind) (vs : List Value) (n : ℕ) (k : Kind) (v : Value) (out comma after all : List ℕ) → n < length ks → n < length vs → k ≡ get_or ks n k → v ≡ get_or vs n v →
    out ++ fields_text default_writer (row_texts (drop n ks) (drop n vs)) ≡ all → comma ≡ out ++ 44 ∷ [] → after ≡ comma ++ field_text default_writer (value_text k v) →
    after ++ fields_text default_writer (row_texts (drop (n + 1) ks) (drop (n + 1) vs)) ≡ all
values_more ks vs n k v out comma after all h g p q e r s =
    let rest = fields_text default_writer (row_texts (drop (n + 1) ks) (drop (n + 1) vs)) in
    let f = field_text default_writer (value_text k v) in
    ap (λ (l : List ℕ). l ++ rest) (s ∙ ap (λ (l : List ℕ). l ++ f) r ∙ append_assoc out (44 ∷ []) f) ∙ append_assoc out (44 ∷ f) rest ∙ ap (λ (l : List ℕ). out ++ l) (sym (next_value ks vs n k v h g p q)) ∙ e

no_values : (ks : List Kind) → fields_text default_writer (row_texts ks []) ≡ []
unfolding fields_text
no_values [] = refl
no_values (k ∷ ks) = refl

drop_past : (ks : List Kind) (vs : List Value) (n : ℕ) → (length ks ≤ n) ⊎ (length vs ≤ n) → fields_text default_writer (row_texts (drop n ks) (drop n vs)) ≡ []
unfolding fields_text
drop_past [] vs zero h = refl
drop_past [] vs (suc n) h = refl
drop_past (x ∷ ks) [] zero h = refl
drop_past (x ∷ ks) [] (suc n) h = no_values (drop n ks)
drop_past (x ∷ ks) (y ∷ vs) zero (inl h) = absurd (omega arith)
drop_past (x ∷ ks) (y ∷ vs) zero (inr h) = absurd (omega arith)
drop_past (x ∷ ks) (y ∷ vs) (suc n) (inl h) = drop_past ks vs n (inl (omega arith))
drop_past (x ∷ ks) (y ∷ vs) (suc n) (inr h) = drop_past ks vs n (inr (omega arith))

pub values_all : (ks : List Kind) (vs : List Value) (n : ℕ) (out all : List ℕ) → (length ks ≤ n) ⊎ (length vs ≤ n) →
    out ++ fields_text default_writer (row_texts (drop n ks) (drop n vs)) ≡ all → out ≡ all
values_all ks vs n out all h e = sym (append-nil out) ∙ ap (λ (l : List ℕ). out ++ l) (sym (drop_past ks vs n h)) ∙ e

pub placed_at : (texts : List (List ℕ)) (cells : List Datum) (i : ℕ) (d : Datum) → ArePlaced texts cells → i < length cells → IsPlaced texts (get_or cells i d)
placed_at texts [] i d h low = absurd (omega (arith, low))
placed_at texts (c ∷ cs) zero d h low = h.0
placed_at texts (c ∷ cs) (suc i) d h low = placed_at texts cs i d h.1 (omega (arith, low))

event_pieces : (a b c d e n l v : List ℕ) → b ≡ a ++ n → c ≡ b ++ l → d ≡ c ++ v → e ≡ d ++ 10 ∷ [] → e ≡ a ++ ((n ++ (l ++ v)) ++ ([] ++ 10 ∷ []))
event_pieces a b c d e n l v p q r s = rw (s, r, q, p) (simp append_assoc refl)

-- the name, the life, the values and the end of the line
pub event_text : (kinds : List Kind) (name : List ℕ) (form : Form) (sync other : ℕ) (row : List Value) (a b c d e : List ℕ) → b ≡ a ++ field_text default_writer name →
    c ≡ b ++ fields_text default_writer (form_text form ∷ time_text sync ∷ time_text other ∷ []) → d ≡ c ++ fields_text default_writer (row_texts kinds row) → e ≡ d ++ 10 ∷ [] →
    e ≡ a ++ record_text (event_fields kinds name form sync other row)
unfolding is_blank
event_text kinds name form sync other row a b c d e p q r s =
    let life = form_text form ∷ time_text sync ∷ time_text other ∷ [] in
    event_pieces a b c d e (field_text default_writer name) (fields_text default_writer life) (fields_text default_writer (row_texts kinds row)) p q r s
    ∙ ap (λ (l : List ℕ). a ++ ((field_text default_writer name ++ l) ++ ([] ++ 10 ∷ []))) (sym (fields_text-append life (row_texts kinds row)))

start_pieces : (a b c d x x' : List ℕ) → b ≡ a ++ codes "out,start," → c ≡ b ++ x → d ≡ c ++ codes ",inf" → x' ≡ x →
    d ≡ (a ++ codes "out") ++ (44 ∷ (codes "start" ++ (44 ∷ (x' ++ (44 ∷ (codes "inf" ++ []))))))
start_pieces a b c d x x' p q r k = rw (r, q, p, k) (simp (append_assoc, append-nil) refl)

end_pieces : (a b c d e x y x' y' : List ℕ) → b ≡ a ++ codes "out,end," → c ≡ b ++ x → d ≡ c ++ 44 ∷ [] → e ≡ d ++ y → x' ≡ x → y' ≡ y →
    e ≡ (a ++ codes "out") ++ (44 ∷ (codes "end" ++ (44 ∷ (x' ++ (44 ∷ (y' ++ []))))))
end_pieces a b c d e x y x' y' p q r s k l = rw (s, r, q, p, k, l) (simp (append_assoc, append-nil) refl)

rest_pieces : (d e v : List ℕ) → e ≡ d ++ (v ++ 10 ∷ []) → e ≡ (d ++ v) ++ 10 ∷ []
rest_pieces d e v p = p ∙ sym (append_assoc d v (10 ∷ []))

-- the beginning of the line in one piece, the time, its infinite end, and the values
pub start_text : (kinds : List Kind) (at : ℕ) (row : List Value) (a b c d e : List ℕ) → b ≡ a ++ codes "out,start," → c ≡ b ++ time_text at → d ≡ c ++ codes ",inf" →
    EndsLine kinds row d e → e ≡ a ++ record_text (start_fields kinds at row)
unfolding fields_text inf
start_text kinds at row a b c d e p q r s =
    event_text kinds (codes "out") forms.Start at inf row a (a ++ codes "out") d (d ++ fields_text default_writer (row_texts kinds row)) e refl
    (start_pieces a b c d (time_text at) _ p q r (field_text-plain (time_text at) (time_plain at))) refl
    (rest_pieces d e (fields_text default_writer (row_texts kinds row)) s)

pub end_text : (kinds : List Kind) (at start : ℕ) (row : List Value) (a b c d e f : List ℕ) → b ≡ a ++ codes "out,end," → c ≡ b ++ time_text at → d ≡ c ++ 44 ∷ [] →
    e ≡ d ++ time_text start → EndsLine kinds row e f → f ≡ a ++ record_text (end_fields kinds at start row)
unfolding fields_text
end_text kinds at start row a b c d e f p q r s t =
    event_text kinds (codes "out") forms.End at start row a (a ++ codes "out") e (e ++ fields_text default_writer (row_texts kinds row)) f refl
    (end_pieces a b c d e (time_text at) (time_text start) _ _ p q r s (field_text-plain (time_text at) (time_plain at)) (field_text-plain (time_text start) (time_plain start))) refl
    (rest_pieces e f (fields_text default_writer (row_texts kinds row)) t)
