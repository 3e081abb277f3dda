-- What the fields say, field by field.
use Rattle.std.proofs.Common.{◌≡◌, ◌<◌, ◌+◌, ℕ, zero, suc, List, [], ◌∷◌, length, take, drop, Bool, true, false, cond, Option, Some, None, Result, Ok, Err, refl, sym, ◌∙◌, ap, arith, inl, inr}
use Rattle.std.specs.Prelude.{◌≢◌, ◌==◌, not}
use Rattle.std.specs.List.{All, list_any}
use Rattle.std.specs.Str.{IsUtf8, is_utf8}
use Rattle.std.proofs.lemmas.Bool.Decides.{eqb_tells}
use Rattle.std.proofs.lemmas.Str.{is_utf8-from_IsUtf8}
use Rattle.std.proofs.lemmas.List.{length-drop}
use Rattle.csv.specs.Records.{field_at}
use Rattle.tw_rows.specs.Rows.{Row}
use Rattle.tw_rows.specs.Cells.{ArePlaced, read_cells, with_row as table_with}
use Rattle.tw_rows.specs.declared.cells.Datum.{Datum}
use Rattle.tw_rows.specs.declared.schema.ColumnDef.{ColumnDef}
use Rattle.tw_rows.specs.declared.schema.StreamDef.{StreamDef}
use Rattle.row_reader.specs.declared.form.Form.{Form}
use Rattle.row_reader.specs.declared.entry.Entry.TheVariants.{Skip, Punct, Event}
use Rattle.row_reader.specs.declared.entry.Said.TheVariants.{Event as SaidEvent}
use Rattle.row_reader.specs.declared.entry.BadLine.TheVariants.{NotUtf8, StrayReturn, OddQuotes, UnknownStream, UnknownKind, WrongFields, BadTime, BadLife, BadValue}
use Rattle.row_reader.specs.Line.{has_mark}
use Rattle.row_reader.specs.Quotes.{odd_quotes}
use Rattle.row_reader.specs.Record.{record_of, field_of}
use Rattle.row_reader.specs.Values.{end_of, form_of, times_of, is_alive}
use Rattle.row_reader.specs.Entry.{Read, text_fault, unless_bad, event, row_of, with_row, punctuation, record_entry, text_entry}
use Rattle.row_reader.specs.Answers.{IsCause, unless_wrong, bad_value, values_of}
use Rattle.row_reader.specs.Interned.{row_read, IsReadIn}
use Rattle.row_reader.specs.TextRead.{ReadsText}
use Rattle.row_reader.specs.declared.entry.BadLine.{BadLine}
use Rattle.row_reader.specs.declared.entry.RowFault.{RowFault}
use Rattle.row_reader.specs.declared.entry.RowFault.TheVariants.{Bad, Memory}
use Rattle.row_reader.proofs.Celled.{same_table}
use Rattle.row_reader.proofs.Spells.{no_return_found, not_empty}

-- a bad line leaves the table as it was
pub bad_read : (texts : List (List ℕ)) (row : List Datum) (cause : BadLine) (read : Read) → read ≡ Err cause → IsReadIn texts texts row (Err (Bad cause)) read
bad_read texts row cause read h = record { entry = h; texts = refl }

-- fields that are taken off
pub drop_again : {A : Type 0} (n : ℕ) (fs : List A) → drop 1 (drop n fs) ≡ drop (n + 1) fs
drop_again zero [] = refl
drop_again zero (f ∷ fs) = refl
drop_again (suc n) [] = let z : suc n + 1 ≡ suc (n + 1) = omega arith in rw z refl
drop_again (suc n) (f ∷ fs) = let z : suc n + 1 ≡ suc (n + 1) = omega arith in rw z (drop_again n fs)

field_at-drop : (n : ℕ) (fs : List (List ℕ)) → field_at (drop n fs) 0 ≡ field_at fs n
unfolding field_at
field_at-drop zero [] = refl
field_at-drop zero (f ∷ fs) = refl
field_at-drop (suc n) [] = refl
field_at-drop (suc n) (f ∷ fs) = field_at-drop n fs

pub field_of-drop : (n : ℕ) (fs : List (List ℕ)) → field_of (drop n fs) 0 ≡ field_of fs n
unfolding field_of
field_of-drop n fs = rw (field_at-drop n fs) refl

field_at-some : (fs : List (List ℕ)) (n : ℕ) (f : List ℕ) → Some f ≡ field_at fs n → drop n fs ≡ f ∷ drop (n + 1) fs
unfolding field_at
field_at-some [] n f h = absurd (cc)
field_at-some (g ∷ fs) zero f h = ap (λ (x : List ℕ). x ∷ fs) (let same : g ≡ f = cc in same)
field_at-some (g ∷ fs) (suc n) f h = let z : suc n + 1 ≡ suc (n + 1) = omega arith in rw z (field_at-some fs n f h)

pub next_some : (fs now : List (List ℕ)) (n : ℕ) (f : List ℕ) → now ≡ drop n fs → Some f ≡ field_at fs n → now ≡ f ∷ drop (n + 1) fs
next_some fs now n f e h = e ∙ field_at-some fs n f h

nothing : (fs : List (List ℕ)) → None ≡ field_at fs 0 → fs ≡ []
unfolding field_at
nothing [] h = refl
nothing (f ∷ fs) h = absurd (cc)

pub next_none : (fs : List (List ℕ)) (n : ℕ) → None ≡ field_at fs n → drop n fs ≡ []
next_none fs n h = nothing (drop n fs) (h ∙ sym (field_at-drop n fs))

-- a field that is taken off is the first, or empty where no field is left
pub taken_off : (fs rest : List (List ℕ)) (f : List ℕ) → fs ≡ f ∷ rest → (f ≡ field_of fs 0) × (rest ≡ drop 1 fs)
unfolding field_of field_at
taken_off fs rest f e = (rw e refl, rw e refl)

pub none_taken : (fs rest : List (List ℕ)) → fs ≡ [] → rest ≡ [] → ([] ≡ field_of fs 0) × (rest ≡ drop 1 fs)
unfolding field_of field_at
none_taken fs rest e r = (rw e refl, rw (e, r) refl)

same : (a b : ℕ) → a ≡ b → (a == b) ≡ true
same a b e = elim (eqb_tells a b) [ inl t ↦ t.0 | inr t ↦ absurd (t.1 e) ]

-- so many fields stand where so many less one stand behind the first
behind : (fs rest : List (List ℕ)) (n : ℕ) → rest ≡ drop 1 fs → length rest ≡ suc n → length fs ≡ suc (suc n)
behind fs rest n e h = omega (arith, length-drop 1 fs, ap (λ (l : List (List ℕ)). length l) e, h)

not_behind : (fs rest : List (List ℕ)) (n : ℕ) → rest ≡ drop 1 fs → length rest ≢ suc n → length fs ≢ suc (suc n)
not_behind fs rest n e h m = h (omega (arith, length-drop 1 fs, ap (λ (l : List (List ℕ)). length l) e, m))

differs : (a b : ℕ) → a ≢ b → (a == b) ≡ false
differs a b h = elim (eqb_tells a b) [ inl t ↦ absurd (h t.1) | inr t ↦ t.0 ]

second : (fs rest : List (List ℕ)) (f : List ℕ) → rest ≡ drop 1 fs → f ≡ field_of rest 0 → f ≡ field_of fs 1
second fs rest f e h = h ∙ ap (λ (l : List (List ℕ)). field_of l 0) e ∙ field_of-drop 1 fs

-- a punctuation
pub punctuation_read : (stream : Option ℕ) (fs rest : List (List ℕ)) (f : List ℕ) (time : ℕ) → rest ≡ drop 1 fs → length rest ≡ 1 → f ≡ field_of rest 0 → end_of f ≡ Some time →
    Ok (Punct stream time) ≡ punctuation stream fs
unfolding punctuation
punctuation_read stream fs rest f time e n g h = rw (same (length fs) 2 (behind fs rest 0 e n), ← second fs rest f e g, h) refl

pub punctuation_bad : (stream : Option ℕ) (fs rest : List (List ℕ)) (f : List ℕ) → rest ≡ drop 1 fs → length rest ≡ 1 → f ≡ field_of rest 0 → end_of f ≡ None →
    Err BadTime ≡ punctuation stream fs
unfolding punctuation
punctuation_bad stream fs rest f e n g h = rw (same (length fs) 2 (behind fs rest 0 e n), ← second fs rest f e g, h) refl

pub punctuation_odd : (stream : Option ℕ) (fs rest : List (List ℕ)) → rest ≡ drop 1 fs → length rest ≢ 1 → Err WrongFields ≡ punctuation stream fs
unfolding punctuation
punctuation_odd stream fs rest e n = rw (differs (length fs) 2 (not_behind fs rest 0 e n)) refl

-- the fields of an event: its form is read, both times are taken off, and these are left
pub record AreHeads (fs : List (List ℕ)) (form : Form) (sync other : List ℕ) (rest : List (List ℕ)) : Type 0 where
  has_form : form_of (field_of fs 0) ≡ Some form
  has_sync : sync ≡ field_of fs 1
  has_other : other ≡ field_of fs 2
  leaves : rest ≡ drop 3 fs
  many : length fs ≡ length rest + 3

pub heads : (fs f0 f1 f2 : List (List ℕ)) (word sync other : List ℕ) (form : Form) → word ≡ field_of fs 0 → f0 ≡ drop 1 fs → form_of word ≡ Some form → f0 ≡ sync ∷ f1 → f1 ≡ other ∷ f2 →
    AreHeads fs form sync other f2
unfolding field_of field_at
heads [] f0 f1 f2 word sync other form w e k a b = absurd (let none : [] ≡ sync ∷ f1 = sym e ∙ a in omega (arith, ap (λ (l : List (List ℕ)). length l) none))
heads (g ∷ gs) f0 f1 f2 word sync other form w e k a b =
    let all : gs ≡ sync ∷ other ∷ f2 = sym e ∙ a ∙ ap (λ (l : List (List ℕ)). sync ∷ l) b in record {
      has_form = ap form_of (sym w) ∙ k;
      has_sync = rw all refl;
      has_other = rw all refl;
      leaves = rw all refl;
      many = omega (arith, ap (λ (l : List (List ℕ)). length l) all);
    }

shifted : (a b c : ℕ) → a ≡ c + 3 → (a == b + 3) ≡ (c == b)
shifted a b c e = elim (eqb_tells c b) [
  | inl t ↦ same a (b + 3) (omega (arith, e, t.1)) ∙ sym t.0
  | inr t ↦ differs a (b + 3) (λ q. t.1 (omega (arith, e, q))) ∙ sym t.0
]

times_read : (fs : List (List ℕ)) (form : Form) (sync other : List ℕ) (times : Option (ℕ × ℕ)) → sync ≡ field_of fs 1 → other ≡ field_of fs 2 → times_of form sync other ≡ times →
    times_of form (field_of fs 1) (field_of fs 2) ≡ times
times_read fs form sync other times a b h = rw (← a, ← b) h

-- an event
pub event_no_form : (stream : ℕ) (columns : List ColumnDef) (fs : List (List ℕ)) (word : List ℕ) → word ≡ field_of fs 0 → form_of word ≡ None → event stream columns fs ≡ Err UnknownKind
unfolding event
event_no_form stream columns fs word w k = rw (← w, k) refl

pub event_odd : (stream : ℕ) (columns : List ColumnDef) (fs rest : List (List ℕ)) (word : List ℕ) (form : Form) → word ≡ field_of fs 0 → rest ≡ drop 1 fs → form_of word ≡ Some form →
    length rest < 2 → event stream columns fs ≡ Err WrongFields
unfolding event
event_odd stream columns fs rest word form w e k n =
    rw (← w, k, differs (length fs) (length columns + 3) (λ m. omega (arith, m, n, length-drop 1 fs, ap (λ (l : List (List ℕ)). length l) e))) refl

by_wanted : (t : Bool) (cause : BadLine) → cond {A = Read} (not t) (Err WrongFields) (Err cause) ≡ Err (cond t cause WrongFields)
by_wanted true cause = refl
by_wanted false cause = refl

pub event_bad_time : (stream : ℕ) (columns : List ColumnDef) (fs rest : List (List ℕ)) (form : Form) (sync other : List ℕ) → AreHeads fs form sync other rest →
    times_of form sync other ≡ None → event stream columns fs ≡ Err (unless_wrong (length columns) rest BadTime)
unfolding event
event_bad_time stream columns fs rest form sync other h t =
    rw (h.has_form, shifted (length fs) (length columns) (length rest) h.many, times_read fs form sync other None h.has_sync h.has_other t) (by_wanted (length rest == length columns) BadTime)

pub event_bad_life : (stream : ℕ) (columns : List ColumnDef) (fs rest : List (List ℕ)) (form : Form) (a b : List ℕ) (sync other : ℕ) → AreHeads fs form a b rest →
    times_of form a b ≡ Some (sync, other) → is_alive form sync other ≡ false → event stream columns fs ≡ Err (unless_wrong (length columns) rest BadLife)
unfolding event
event_bad_life stream columns fs rest form a b sync other h t l =
    rw (h.has_form, shifted (length fs) (length columns) (length rest) h.many, times_read fs form a b (Some (sync, other)) h.has_sync h.has_other t, l)
    (by_wanted (length rest == length columns) BadLife)

pub wanted_is : (columns items : List ColumnDef) (rest : List (List ℕ)) (cause told : BadLine) → items ≡ columns → told ≡ unless_wrong (length items) rest cause →
    unless_wrong (length columns) rest cause ≡ told
wanted_is columns items rest cause told e t = ap (λ (l : List ColumnDef). unless_wrong (length l) rest cause) (sym e) ∙ sym t

-- an event whose times are read says what its values say
abbrev with_values : Result Row BadLine → (Row → Read) → Read
with_values (Err cause) more = Err cause
with_values (Ok row) more = more row

by_values : (t : Bool) (row : Result Row ℕ) (more : Row → Read) → cond (not t) (Err WrongFields) (with_row row more) ≡ with_values (cond t (bad_value row) (Err WrongFields)) more
by_values true (Ok row) more = refl
by_values true (Err n) more = refl
by_values false row more = refl

event_row : (stream : ℕ) (columns : List ColumnDef) (fs rest : List (List ℕ)) (form : Form) (a b : List ℕ) (sync other : ℕ) → AreHeads fs form a b rest →
    times_of form a b ≡ Some (sync, other) → is_alive form sync other ≡ true →
    event stream columns fs ≡ with_values (values_of columns rest) (λ row. Ok (Event stream form sync other row))
unfolding event
event_row stream columns fs rest form a b sync other h t l =
    rw (h.has_form, shifted (length fs) (length columns) (length rest) h.many, times_read fs form a b (Some (sync, other)) h.has_sync h.has_other t, l, ← h.leaves)
    (by_values (length rest == length columns) (row_of 1 columns rest) (λ row. Ok (Event stream form sync other row)))

by_tests : (p q : Bool) (read : Read) → unless_bad (cond p (Some OddQuotes) (cond q (Some UnknownStream) None)) read ≡ cond p (Err OddQuotes) (cond q (Err UnknownStream) read)
by_tests true q read = refl
by_tests false true read = refl
by_tests false false read = refl

-- the values are read, or there are none
pub event_ok : (old new : List (List ℕ)) (stream : ℕ) (columns : List ColumnDef) (fs rest : List (List ℕ)) (form : Form) (a b : List ℕ) (sync other : ℕ) (row : Row) (cells : List Datum) → AreHeads fs form a b rest →
    times_of form a b ≡ Some (sync, other) → is_alive form sync other ≡ true → values_of columns rest ≡ Ok row → read_cells new cells ≡ row → ArePlaced new cells → new ≡ table_with old row →
    IsReadIn old new cells (Ok (SaidEvent stream form sync other)) (event stream columns fs)
event_ok old new stream columns fs rest form a b sync other row cells h t l r is placed table =
    let says = event_row stream columns fs rest form a b sync other h t l ∙ ap (λ (x : Result Row BadLine). with_values x (λ v. Ok (Event stream form sync other v))) r in
    record {
      entry = (says ∙ ap (λ (v : Row). Ok (Event stream form sync other v)) (sym is), placed);
      texts = table ∙ ap (λ (x : Read). table_with old (row_read x)) (sym says);
    }

pub event_memory : (old new : List (List ℕ)) (cells : List Datum) (stream : ℕ) (columns : List ColumnDef) (fs rest : List (List ℕ)) (form : Form) (a b : List ℕ) (sync other : ℕ) (row : Row) → AreHeads fs form a b rest →
    times_of form a b ≡ Some (sync, other) → is_alive form sync other ≡ true → values_of columns rest ≡ Ok row → (n : ℕ) × (new ≡ table_with old (take n row)) →
    IsReadIn old new cells (Err Memory) (event stream columns fs)
event_memory old new cells stream columns fs rest form a b sync other row h t l r table =
    let says = event_row stream columns fs rest form a b sync other h t l ∙ ap (λ (x : Result Row BadLine). with_values x (λ v. Ok (Event stream form sync other v))) r in
    record { entry = tt; texts = (table.0, table.1 ∙ ap (λ (x : Read). table_with old (take table.0 (row_read x))) (sym says)) }

pub event_err : (texts : List (List ℕ)) (cells : List Datum) (stream : ℕ) (columns : List ColumnDef) (fs rest : List (List ℕ)) (form : Form) (a b : List ℕ) (sync other : ℕ) (fault : RowFault) → AreHeads fs form a b rest →
    times_of form a b ≡ Some (sync, other) → is_alive form sync other ≡ true → IsCause fault (values_of columns rest) → IsReadIn texts texts cells (Err fault) (event stream columns fs)
event_err texts cells stream columns fs rest form a b sync other (Bad cause) h t l r =
    bad_read texts cells cause (event stream columns fs) (event_row stream columns fs rest form a b sync other h t l ∙ ap (λ (x : Result Row BadLine). with_values x (λ v. Ok (Event stream form sync other v))) r)
event_err texts cells stream columns fs rest form a b sync other Memory h t l r = record { entry = tt; texts = (0, refl) }

-- the values of an event
pub values_short : (columns : List ColumnDef) (fs : List (List ℕ)) → length fs ≢ length columns → values_of columns fs ≡ Err WrongFields
values_short columns fs h = rw (differs (length fs) (length columns) h) refl

by_count : (t : Bool) (row : Result Row ℕ) (n : ℕ) → row ≡ Err n → cond t (bad_value row) (Err WrongFields) ≡ Err (cond t (BadValue n) WrongFields)
by_count true row n e = ap (λ (r : Result Row ℕ). bad_value r) e
by_count false row n e = refl

pub values_bad : (columns : List ColumnDef) (fs rest : List (List ℕ)) (n wanted : ℕ) → row_of 1 columns fs ≡ Err n → (length fs == length columns) ≡ (length rest == wanted) →
    values_of columns fs ≡ Err (unless_wrong wanted rest (BadValue n))
values_bad columns fs rest n wanted e t = by_count (length fs == length columns) (row_of 1 columns fs) n e ∙ ap (λ (b : Bool). Err (cond b (BadValue n) WrongFields)) t

pub values_read : (columns : List ColumnDef) (fs : List (List ℕ)) (row : Row) → length fs ≡ length columns → row_of 1 columns fs ≡ Ok row → values_of columns fs ≡ Ok row
values_read columns fs row n e = rw (same (length fs) (length columns) n) (ap (λ (r : Result Row ℕ). bad_value r) e)

pub as_many : (a b c d : ℕ) → ((a ≡ b) → c ≡ d) → ((c ≡ d) → a ≡ b) → (a == b) ≡ (c == d)
as_many a b c d f g = elim (eqb_tells c d) [
  | inl t ↦ same a b (g t.1) ∙ sym t.0
  | inr t ↦ differs a b (λ q. t.1 (f q)) ∙ sym t.0
]

-- a text without a fault
pub no_fault : (text : List ℕ) → IsUtf8 text → All (λ b. b ≢ 13) text → odd_quotes text ≡ false → has_mark text ≡ false → text_fault text ≡ None
unfolding text_fault
no_fault text u r even unmarked = rw (is_utf8-from_IsUtf8 text u, no_return_found text r, even, unmarked) refl

-- a text with a fault leaves the table as it was
pub refused : (streams : List StreamDef) (text : List ℕ) (texts : List (List ℕ)) (row : List Datum) (cause : BadLine) → text_entry streams text ≡ Err cause → ReadsText streams text texts texts row (Err (Bad cause))
refused streams text texts row cause h = record { entry = bad_read texts row cause _ h; begins = same_table texts; memory = λ is. absurd (cc) }

-- and so does one for whose fields there is no memory
pub out_of_memory : (streams : List StreamDef) (text : List ℕ) (texts : List (List ℕ)) (row : List Datum) → text_fault text ≡ None → ReadsText streams text texts texts row (Err Memory)
out_of_memory streams text texts row sound = record { entry = record { entry = tt; texts = (0, refl) }; begins = same_table texts; memory = λ _. sound }

-- a text
pub empty_text : (streams : List StreamDef) (text : List ℕ) → length text ≡ 0 → text_entry streams text ≡ Ok Skip
unfolding text_entry
empty_text streams text e = rw (same (length text) 0 e) refl

pub no_text : (streams : List StreamDef) (text : List ℕ) → length text ≢ 0 → is_utf8 text ≡ false → text_entry streams text ≡ Err NotUtf8
unfolding text_entry text_fault
no_text streams text some u = rw (not_empty text some, u) refl

pub return_left : (streams : List StreamDef) (text : List ℕ) → length text ≢ 0 → is_utf8 text ≡ true → list_any (λ b. b == 13) text ≡ true → text_entry streams text ≡ Err StrayReturn
unfolding text_entry text_fault
return_left streams text some u r = rw (not_empty text some, u, r) refl

pub text_is : (streams : List StreamDef) (text : List ℕ) → 0 < length text → IsUtf8 text → All (λ b. b ≢ 13) text →
    text_entry streams text ≡ cond (odd_quotes text) (Err OddQuotes) (cond (has_mark text) (Err UnknownStream) (record_entry streams (record_of text)))
unfolding text_entry text_fault
text_is streams text some u r =
    rw (not_empty text (λ e. omega (arith, e, some)), is_utf8-from_IsUtf8 text u, no_return_found text r) (by_tests (odd_quotes text) (has_mark text) (record_entry streams (record_of text)))
