-- What is printed of an event or of a punctuation is read as that.
use Rattle.std.proofs.Common.{◌≡◌, ◌<◌, inl, inr, ℕ, suc, ◌+◌, List, [], ◌∷◌, length, drop, Bool, true, false, cond, Option, Some, Ok, refl, ◌∙◌, ap, arith, subst}
use Rattle.std.specs.Prelude.{◌⊎◌, ◌^◌, ◌==◌, nat_lt, codes, decimal}
use Rattle.std.specs.Str.Parse.{AllDigits}
use Rattle.std.proofs.lemmas.Bool.Decides.{nat_tests, Decides-ltb, eqb_tells}
use Rattle.std.proofs.lemmas.Fmt.{digits_decimal}
use Rattle.csv.specs.Records.{field_at}
use Rattle.tw_rows.specs.Instant.{inf}
use Rattle.tw_rows.specs.Rows.{Row}
use Rattle.tw_rows.specs.Kinds.{FitsKind}
use Rattle.tw_rows.specs.declared.kind.Kind.{Kind}
use Rattle.tw_rows.specs.declared.kind.Kind.TheVariants as kinds
use Rattle.tw_rows.specs.declared.row.Value.{Value}
use Rattle.tw_rows.specs.declared.row.Value.TheVariants.{Int, Bool as Flag, Text}
use Rattle.tw_rows.specs.declared.schema.ColumnDef.{ColumnDef}
use Rattle.row_reader.specs.NumberTexts.{number_text}
use Rattle.row_reader.specs.FieldTexts.{value_text, row_texts, time_text, form_text, event_fields}
use Rattle.row_reader.specs.declared.form.Form.{Form}
use Rattle.row_reader.specs.declared.form.Form.TheVariants as forms
use Rattle.row_reader.proofs.Digits.{own}
use Rattle.row_reader.specs.declared.entry.Entry.TheVariants.{Punct, Event}
use Rattle.row_reader.specs.Number.{same_text}
use Rattle.row_reader.specs.Record.{field_of}
use Rattle.row_reader.specs.Values.{time_of, end_of, inf_of, form_of, times_of, is_alive, value_of}
use Rattle.row_reader.specs.Entry.{row_of, event, punctuation}
use Rattle.row_reader.specs.Printed.{kinds_of, IsValue, IsRowOf, IsEnd, AreTimes}
use Rattle.row_reader.proofs.Numbers.{number_of-spelled, same_text-Decides}
use Rattle.row_reader.proofs.Places.{units_of-spelled}

pub inf-is : inf ≡ 2 ^ 61
unfolding inf
inf-is = refl

pub text_below : (t : ℕ) → t < 2 ^ 60 → time_text t ≡ decimal t
text_below t h = let low : nat_lt t inf ≡ true = (Decides-ltb t inf).1 (omega (arith, inf-is, h)) in rw low refl

pub text_inf : time_text inf ≡ codes "inf"
text_inf = let high : nat_lt inf inf ≡ false = grind (arith, nat_tests) in rw high refl

no_digit : AllDigits 10 (codes "inf") → ⊥
no_digit h = absurd (omega (arith, h.0))

not_inf : (n : ℕ) → n < 2 ^ 60 → same_text (decimal n) (codes "inf") ≡ true → ⊥
not_inf n low same = no_digit (subst (AllDigits 10) ((same_text-Decides _ _).0 same) (digits_decimal own n (omega arith)))

time_back : (t : ℕ) → t < 2 ^ 60 → time_of (time_text t) ≡ Some t
time_back t h = ap time_of (text_below t h) ∙ number_of-spelled (2 ^ 60) t (decimal t) h (omega arith) refl

end_by : (b : Bool) (n : ℕ) → n < 2 ^ 60 → same_text (decimal n) (codes "inf") ≡ b → cond b (Some inf) (time_of (decimal n)) ≡ Some n
end_by true n low same = absurd (not_inf n low same)
end_by false n low same = number_of-spelled (2 ^ 60) n (decimal n) low (omega arith) refl

end_back : (t : ℕ) → (t < 2 ^ 60) ⊎ (t ≡ inf) → end_of (time_text t) ≡ Some t
unfolding end_of
end_back t (inl low) = rw (text_below t low) (end_by (same_text (decimal t) (codes "inf")) t low refl)
end_back t (inr is) = rw (is, text_inf) refl

inf_back : (t : ℕ) → t ≡ inf → inf_of (time_text t) ≡ Some t
unfolding inf_of
inf_back t is = rw (is, text_inf) refl

form_back : (form : Form) → form_of (form_text form) ≡ Some form
unfolding form_of
form_back forms.Interval = refl
form_back forms.Start = refl
form_back forms.End = refl

pub times_back : (form : Form) (sync other : ℕ) → AreTimes form sync other → times_of form (time_text sync) (time_text other) ≡ Some (sync, other)
unfolding times_of
times_back forms.Interval sync other h = rw (time_back sync h.0, end_back other h.1) refl
times_back forms.Start sync other h = rw (time_back sync h.0, inf_back other h.1) refl
times_back forms.End sync other h = rw (time_back sync h.0, time_back other (omega (arith, h.0, h.1))) refl

pub alive_back : (form : Form) (sync other : ℕ) → AreTimes form sync other → is_alive form sync other ≡ true
alive_back forms.Interval sync other h = (Decides-ltb sync other).1 h.2
alive_back forms.Start sync other h = (Decides-ltb sync other).1 (omega (arith, inf-is, h.0, h.1))
alive_back forms.End sync other h = (Decides-ltb other sync).1 h.1

value_back : (k : Kind) (v : Value) → FitsKind v k → IsValue v → value_of k (value_text k v) ≡ Some v
unfolding value_of
value_back kinds.Int (Int x) f h = rw (units_of-spelled 0 (number_text 0 x) x h refl) refl
value_back (kinds.Dec k) (Int x) f h = rw (units_of-spelled k (number_text k x) x h refl) refl
value_back kinds.Bool (Int x) f h = absurd (cc)
value_back kinds.Text (Int x) f h = absurd (cc)
value_back kinds.Int (Flag b) f h = absurd (cc)
value_back (kinds.Dec k) (Flag b) f h = absurd (cc)
value_back kinds.Bool (Flag true) f h = refl
value_back kinds.Bool (Flag false) f h = refl
value_back kinds.Text (Flag b) f h = absurd (cc)
value_back kinds.Int (Text t) f h = absurd (cc)
value_back (kinds.Dec k) (Text t) f h = absurd (cc)
value_back kinds.Bool (Text t) f h = absurd (cc)
value_back kinds.Text (Text t) f h = refl

pub row_back : (row : Row) (columns : List ColumnDef) (n : ℕ) → IsRowOf columns row → row_of n columns (row_texts (kinds_of columns) row) ≡ Ok row
unfolding row_of field_of field_at
row_back [] [] n h = refl
row_back (v ∷ vs) [] n h = absurd h
row_back [] (c ∷ cs) n h = absurd h
row_back (v ∷ vs) (c ∷ cs) n h = rw (value_back c.kind v h.0 h.1, row_back vs cs (suc n) h.2) refl

as_many : (row : Row) (columns : List ColumnDef) → IsRowOf columns row → length (row_texts (kinds_of columns) row) ≡ length columns
as_many [] [] h = refl
as_many (v ∷ vs) [] h = absurd h
as_many [] (c ∷ cs) h = absurd h
as_many (v ∷ vs) (c ∷ cs) h = ap suc (as_many vs cs h.2)

same_number : (a b : ℕ) → a ≡ b → (a == b) ≡ true
same_number a b e = elim (eqb_tells a b) [ inl t ↦ t.0 | inr t ↦ absurd (t.1 e) ]

pub events_read_back : (stream : ℕ) (columns : List ColumnDef) (name : List ℕ) (form : Form) (sync other : ℕ) (row : Row) → IsRowOf columns row → AreTimes form sync other →
    event stream columns (drop 1 (event_fields (kinds_of columns) name form sync other row)) ≡ Ok (Event stream form sync other row)
unfolding event field_of field_at
events_read_back stream columns name form sync other row h t =
    let fields = drop 1 (event_fields (kinds_of columns) name form sync other row) in
    let many : (length fields == length columns + 3) ≡ true = same_number (length fields) (length columns + 3) (omega (arith, as_many row columns h)) in
    rw (form_back form, many, times_back form sync other t, alive_back form sync other t, row_back row columns 1 h) refl

pub punctuations_read_back : (stream : Option ℕ) (time : ℕ) → IsEnd time → punctuation stream (codes "punct" ∷ time_text time ∷ []) ≡ Ok (Punct stream time)
unfolding punctuation field_of field_at
punctuations_read_back stream time h = rw (end_back time h) refl
