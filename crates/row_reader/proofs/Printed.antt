-- The fields that are read as an event, or as a punctuation, are those that are printed of it.
use Rattle.std.proofs.Common.{◌≡◌, ◌<◌, inl, inr, ℕ, ℤ, suc, ◌+◌, List, [], ◌∷◌, length, drop, Bool, true, false, cond, Option, Some, None, Result, Ok, Err, refl, sym, ◌∙◌, ap, arith, subst}
use Rattle.std.specs.Prelude.{◌⊎◌, ◌^◌, ◌==◌, ◌↔◌, not, codes, option_map}
use Rattle.std.proofs.lemmas.Bool.Decides.{Decides-ltb}
use Rattle.csv.specs.Records.{field_at}
use Rattle.tw_rows.specs.Instant.{inf}
use Rattle.tw_rows.specs.Rows.{Row}
use Rattle.tw_rows.specs.Kinds.{FitsKind}
use Rattle.tw_rows.specs.declared.kind.Kind.{Kind}
use Rattle.tw_rows.specs.declared.kind.Kind.TheVariants as kinds
use Rattle.tw_rows.specs.declared.row.Value.{Value}
use Rattle.tw_rows.specs.declared.row.Value.TheVariants.{Int, Bool as Flag, Text}
use Rattle.tw_rows.specs.declared.schema.ColumnDef.{ColumnDef}
use Rattle.row_reader.specs.FieldTexts.{value_text, row_texts, time_text, form_text, event_fields, punctuation_fields}
use Rattle.row_reader.specs.declared.form.Form.{Form}
use Rattle.row_reader.specs.declared.form.Form.TheVariants as forms
use Rattle.row_reader.specs.declared.entry.BadLine.{BadLine}
use Rattle.row_reader.specs.declared.entry.BadLine.TheVariants.{UnknownKind, WrongFields, BadTime, BadLife}
use Rattle.row_reader.specs.declared.entry.Entry.{Entry}
use Rattle.row_reader.specs.declared.entry.Entry.TheVariants.{Punct, Event}
use Rattle.row_reader.specs.Number.{same_text, units_of}
use Rattle.row_reader.specs.Record.{field_of}
use Rattle.row_reader.specs.Values.{time_of, end_of, inf_of, form_of, times_of, is_alive, value_of, both}
use Rattle.row_reader.specs.Entry.{Read, row_of, event, punctuation, or_bad, with_row, with_value}
use Rattle.row_reader.specs.Printed.{kinds_of, IsValue, IsRowOf, IsEnd, AreTimes}
use Rattle.row_reader.proofs.Numbers.{number_of-is, same_text-Decides}
use Rattle.row_reader.proofs.Places.{units_of-is}
use Rattle.row_reader.proofs.ReadBack.{text_below, text_inf, events_read_back}
use Rattle.row_reader.proofs.Whole.{equal}

-- a text that is a value of a kind is what is printed of it
abbrev Prints : Kind → List ℕ → Value → Type 0
Prints k text v = FitsKind v k × IsValue v × (text ≡ value_text k v)

number_is : (k : ℕ) (text : List ℕ) (o : Option ℤ) → units_of k text ≡ o → (v : Value) → option_map Int o ≡ Some v → (z : ℤ) × (Int z ≡ v) × (units_of k text ≡ Some z)
number_is k text None e v h = absurd (cc)
number_is k text (Some z) e v h = (z, cc, e)

truth_is : (text : List ℕ) (p q : Bool) → same_text text (codes "true") ≡ p → same_text text (codes "false") ≡ q → (v : Value) →
    cond p (Some (Flag true)) (cond q (Some (Flag false)) None) ≡ Some v → Prints kinds.Bool text v
truth_is text true q e f v h = let is : Flag true ≡ v = cc in subst (Prints kinds.Bool text) is (refl, tt, (same_text-Decides _ _).0 e)
truth_is text false true e f v h = let is : Flag false ≡ v = cc in subst (Prints kinds.Bool text) is (refl, tt, (same_text-Decides _ _).0 f)
truth_is text false false e f v h = absurd (cc)

value_is : (k : Kind) (text : List ℕ) (v : Value) → value_of k text ≡ Some v → Prints k text v
unfolding value_of
value_is kinds.Int text v h = let n = number_is 0 text (units_of 0 text) refl v h in let p = units_of-is 0 text n.0 n.2 in subst (Prints kinds.Int text) n.1 (refl, p.0, p.1)
value_is (kinds.Dec k) text v h = let n = number_is k text (units_of k text) refl v h in let p = units_of-is k text n.0 n.2 in subst (Prints (kinds.Dec k) text) n.1 (refl, p.0, p.1)
value_is kinds.Bool text v h = truth_is text (same_text text (codes "true")) (same_text text (codes "false")) refl refl v h
value_is kinds.Text text v h = let is : Text text ≡ v = cc in subst (Prints kinds.Text text) is (refl, tt, refl)

time_is : (text : List ℕ) (t : ℕ) → time_of text ≡ Some t → (t < 2 ^ 60) × (text ≡ time_text t)
time_is text t h = let p = number_of-is (2 ^ 60) text t h in (p.0, p.1 ∙ sym (text_below t p.0))

end_by : (b : Bool) (text : List ℕ) (t : ℕ) → same_text text (codes "inf") ≡ b → cond b (Some inf) (time_of text) ≡ Some t → ((t < 2 ^ 60) ⊎ (t ≡ inf)) × (text ≡ time_text t)
end_by true text t e h = let is : inf ≡ t = cc in (inr (sym is), (same_text-Decides _ _).0 e ∙ sym text_inf ∙ ap time_text is)
end_by false text t e h = let p = time_is text t h in (inl p.0, p.1)

end_is : (text : List ℕ) (t : ℕ) → end_of text ≡ Some t → ((t < 2 ^ 60) ⊎ (t ≡ inf)) × (text ≡ time_text t)
unfolding end_of
end_is text t h = end_by (same_text text (codes "inf")) text t refl h

inf_by : (b : Bool) (text : List ℕ) (t : ℕ) → same_text text (codes "inf") ≡ b → cond b (Some inf) None ≡ Some t → (t ≡ inf) × (text ≡ time_text t)
inf_by true text t e h = let is : inf ≡ t = cc in (sym is, (same_text-Decides _ _).0 e ∙ sym text_inf ∙ ap time_text is)
inf_by false text t e h = absurd (cc)

inf_is : (text : List ℕ) (t : ℕ) → inf_of text ≡ Some t → (t ≡ inf) × (text ≡ time_text t)
unfolding inf_of
inf_is text t h = inf_by (same_text text (codes "inf")) text t refl h

form_by : (text : List ℕ) (form : Form) (p q r : Bool) → same_text text (codes "interval") ≡ p → same_text text (codes "start") ≡ q → same_text text (codes "end") ≡ r →
    cond p (Some forms.Interval) (cond q (Some forms.Start) (cond r (Some forms.End) None)) ≡ Some form → text ≡ form_text form
form_by text form true q r e f g h = let is : forms.Interval ≡ form = cc in (same_text-Decides _ _).0 e ∙ ap form_text is
form_by text form false true r e f g h = let is : forms.Start ≡ form = cc in (same_text-Decides _ _).0 f ∙ ap form_text is
form_by text form false false true e f g h = let is : forms.End ≡ form = cc in (same_text-Decides _ _).0 g ∙ ap form_text is
form_by text form false false false e f g h = absurd (cc)

form_is : (text : List ℕ) (form : Form) → form_of text ≡ Some form → text ≡ form_text form
unfolding form_of
form_is text form h = form_by text form (same_text text (codes "interval")) (same_text text (codes "start")) (same_text text (codes "end")) refl refl refl h

both_are : (a b : Option ℕ) (x y : ℕ) → both a b ≡ Some (x, y) → (a ≡ Some x) × (b ≡ Some y)
both_are None b x y h = absurd (cc)
both_are (Some a) None x y h = absurd (cc)
both_are (Some a) (Some b) x y h = let p : (a, b) ≡ (x, y) = cc in (ap (λ (q : ℕ × ℕ). Some q.0) p, ap (λ (q : ℕ × ℕ). Some q.1) p)

times_are : (form : Form) (a b : List ℕ) (sync other : ℕ) → times_of form a b ≡ Some (sync, other) → is_alive form sync other ≡ true → AreTimes form sync other × (a ≡ time_text sync) × (b ≡ time_text other)
unfolding times_of
times_are forms.Interval a b sync other h alive =
    let p = both_are (time_of a) (end_of b) sync other h in let s = time_is a sync p.0 in let o = end_is b other p.1 in ((s.0, o.0, (Decides-ltb sync other).0 alive), s.1, o.1)
times_are forms.Start a b sync other h alive =
    let p = both_are (time_of a) (inf_of b) sync other h in let s = time_is a sync p.0 in let o = inf_is b other p.1 in ((s.0, o.0), s.1, o.1)
times_are forms.End a b sync other h alive =
    let p = both_are (time_of a) (time_of b) sync other h in let s = time_is a sync p.0 in let o = time_is b other p.1 in ((s.0, (Decides-ltb other sync).0 alive), s.1, o.1)

with_value-is : (n : ℕ) (o : Option Value) (r : Result Row ℕ) (row : Row) → with_value n o r ≡ Ok row → (v : Value) × (vs : Row) × (o ≡ Some v) × (r ≡ Ok vs) × (row ≡ v ∷ vs)
with_value-is n None r row h = absurd (cc)
with_value-is n (Some v) (Ok vs) row h = (v, vs, refl, refl, cc)
with_value-is n (Some v) (Err m) row h = absurd (cc)

row_is : (columns : List ColumnDef) (texts : List (List ℕ)) (n : ℕ) (row : Row) → length texts ≡ length columns → row_of n columns texts ≡ Ok row →
    (texts ≡ row_texts (kinds_of columns) row) × IsRowOf columns row
unfolding row_of field_of field_at
row_is [] [] n row l h = let is : [] ≡ row = cc in subst (λ (row : Row). ([] ≡ row_texts [] row) × IsRowOf [] row) is (refl, tt)
row_is [] (t ∷ ts) n row l h = absurd (omega (arith, l))
row_is (c ∷ cs) [] n row l h = absurd (omega (arith, l))
row_is (c ∷ cs) (t ∷ ts) n row l h =
    let w = with_value-is n (value_of c.kind t) (row_of (suc n) cs ts) row h in
    let k = value_is c.kind t w.0 w.2 in
    let later = row_is cs ts (suc n) w.1 (omega (arith, l)) w.3 in
    let first : t ≡ value_text c.kind w.0 = k.2 in
    let others : ts ≡ row_texts (kinds_of cs) w.1 = later.0 in
    let all : t ∷ ts ≡ value_text c.kind w.0 ∷ row_texts (kinds_of cs) w.1 = cc in
    subst (λ (row : Row). (t ∷ ts ≡ row_texts (kinds_of (c ∷ cs)) row) × IsRowOf (c ∷ cs) row) (sym w.4) (all, (k.0, k.1, later.1))

pub or_bad-is : {A : Type 0} (cause : BadLine) (o : Option A) (more : A → Read) (e : Entry) → or_bad cause o more ≡ Ok e → (x : A) × (o ≡ Some x) × (more x ≡ Ok e)
or_bad-is cause None more e h = absurd (cc)
or_bad-is cause (Some x) more e h = (x, refl, h)

pub passed : (b : Bool) (cause : BadLine) (read : Read) (e : Entry) → cond (not b) (Err cause) read ≡ Ok e → (b ≡ true) × (read ≡ Ok e)
passed true cause read e h = (refl, h)
passed false cause read e h = absurd (cc)

pub with_row-is : (r : Result Row ℕ) (more : Row → Read) (e : Entry) → with_row r more ≡ Ok e → (row : Row) × (r ≡ Ok row) × (more row ≡ Ok e)
with_row-is (Err n) more e h = absurd (cc)
with_row-is (Ok row) more e h = (row, refl, h)

record Parts (columns : List ColumnDef) (fields : List (List ℕ)) (form : Form) (sync other : ℕ) (row : Row) : Type 0 where
  form_is : form_of (field_of fields 0) ≡ Some form
  many : length fields ≡ length columns + 3
  times : times_of form (field_of fields 1) (field_of fields 2) ≡ Some (sync, other)
  alive : is_alive form sync other ≡ true
  values : row_of 1 columns (drop 3 fields) ≡ Ok row

moved : (columns : List ColumnDef) (fields : List (List ℕ)) (stream number : ℕ) (f form : Form) (s sync o other : ℕ) (r row : Row) → Parts columns fields f s o r →
    ◌≡◌ {A = Read} (Ok (Event stream f s o r)) (Ok (Event number form sync other row)) → (stream ≡ number) × Parts columns fields form sync other row
moved columns fields stream number f form s sync o other r row p h =
    let same_stream : stream ≡ number = cc in
    let same_form : f ≡ form = cc in
    let same_sync : s ≡ sync = cc in
    let same_other : o ≡ other = cc in
    let same_row : r ≡ row = cc in
    (same_stream, rw (← same_form, ← same_sync, ← same_other, ← same_row) p)

parts : (stream number : ℕ) (columns : List ColumnDef) (fields : List (List ℕ)) (form : Form) (sync other : ℕ) (row : Row) → event stream columns fields ≡ Ok (Event number form sync other row) →
    (stream ≡ number) × Parts columns fields form sync other row
unfolding event
parts stream number columns fields form sync other row h =
    let a = or_bad-is UnknownKind (form_of (field_of fields 0)) _ _ h in
    let b = passed (length fields == length columns + 3) WrongFields _ _ a.2 in
    let c = or_bad-is BadTime (times_of a.0 (field_of fields 1) (field_of fields 2)) _ _ b.1 in
    let d = passed (is_alive a.0 c.0.0 c.0.1) BadLife _ _ c.2 in
    let r = with_row-is (row_of 1 columns (drop 3 fields)) _ _ d.1 in
    moved columns fields stream number a.0 form c.0.0 sync c.0.1 other r.0 row (record { form_is = a.1; many = equal _ _ b.0; times = c.1; alive = d.0; values = r.1 }) r.2

-- the fields behind a name are those that are printed of an event
abbrev pub IsPrinted : List ColumnDef → List ℕ → List (List ℕ) → Form → ℕ → ℕ → Row → Type 0
IsPrinted columns name fields form sync other row = (name ∷ fields ≡ event_fields (kinds_of columns) name form sync other row) × IsRowOf columns row × AreTimes form sync other

printed : (columns : List ColumnDef) (name : List ℕ) (fields : List (List ℕ)) (form : Form) (sync other : ℕ) (row : Row) → Parts columns fields form sync other row → IsPrinted columns name fields form sync other row
unfolding field_of field_at
printed columns name [] form sync other row p = absurd (omega (arith, p.many))
printed columns name (f ∷ []) form sync other row p = absurd (omega (arith, p.many))
printed columns name (f ∷ a ∷ []) form sync other row p = absurd (omega (arith, p.many))
printed columns name (f ∷ a ∷ b ∷ texts) form sync other row p =
    let word : f ≡ form_text form = form_is f form p.form_is in
    let t = times_are form a b sync other p.times p.alive in
    let r = row_is columns texts 1 row (omega (arith, p.many)) p.values in
    let first : a ≡ time_text sync = t.1 in
    let second : b ≡ time_text other = t.2 in
    let others : texts ≡ row_texts (kinds_of columns) row = r.0 in
    (cc, r.1, t.0)

-- what fields are read as is an event of that stream, and they are printed of it
pub event_is : (stream number : ℕ) (columns : List ColumnDef) (name : List ℕ) (fields : List (List ℕ)) (form : Form) (sync other : ℕ) (row : Row) →
    event stream columns fields ≡ Ok (Event number form sync other row) → (stream ≡ number) × IsPrinted columns name fields form sync other row
event_is stream number columns name fields form sync other row h =
    let p = parts stream number columns fields form sync other row h in
    (p.0, printed columns name fields form sync other row p.1)

pub events_are_printed : (stream : ℕ) (columns : List ColumnDef) (name : List ℕ) (fields : List (List ℕ)) (form : Form) (sync other : ℕ) (row : Row) →
    (event stream columns fields ≡ Ok (Event stream form sync other row)) ↔ ((name ∷ fields ≡ event_fields (kinds_of columns) name form sync other row) × IsRowOf columns row × AreTimes form sync other)
events_are_printed stream columns name fields form sync other row = (
  λ h. (event_is stream stream columns name fields form sync other row h).1,
  λ p. ap (λ (l : List (List ℕ)). event stream columns (drop 1 l)) p.0 ∙ events_read_back stream columns name form sync other row p.1 p.2,
)

-- what is read as a punctuation is the punctuation of that stream at a time that may stand there, and is printed of it
pub punctuation_is : (stream number : Option ℕ) (name : List ℕ) (fields : List (List ℕ)) (time : ℕ) → same_text (field_of fields 0) (codes "punct") ≡ true →
    punctuation stream fields ≡ Ok (Punct number time) → (stream ≡ number) × (name ∷ fields ≡ punctuation_fields name time) × IsEnd time
unfolding punctuation field_of field_at
punctuation_is stream number name [] time w h = absurd (cc)
punctuation_is stream number name (f ∷ []) time w h = absurd (cc)
punctuation_is stream number name (f ∷ a ∷ b ∷ more) time w h = absurd (let e = passed (length (f ∷ a ∷ b ∷ more) == 2) WrongFields _ _ h in let n = equal _ _ e.0 in omega (arith, n))
punctuation_is stream number name (f ∷ a ∷ []) time w h =
    let c = or_bad-is BadTime (end_of a) _ _ h in
    let word : f ≡ codes "punct" = (same_text-Decides _ _).0 w in
    let same : stream ≡ number = cc in
    let at : c.0 ≡ time = cc in
    let t = end_is a time (c.1 ∙ ap (λ (n : ℕ). Some n) at) in
    let text : a ≡ time_text time = t.1 in
    (same, cc, t.0)
