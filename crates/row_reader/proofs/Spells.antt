-- A line is read as an event, or as a punctuation, exactly where it spells it.
use Rattle.std.proofs.Common.{◌≡◌, ◌<◌, ◌≤◌, ◌+◌, ◌^◌, inl, inr, ℕ, suc, List, [], ◌∷◌, length, drop, Bool, true, false, cond, Option, Some, None, Ok, Err, refl, sym, ◌∙◌, ap, arith, subst}
use Rattle.std.specs.Prelude.{◌≢◌, ◌==◌, ◌↔◌, IfSome, not, codes}
use Rattle.std.specs.List.{All, list_any}
use Rattle.std.specs.Str.{is_utf8}
use Rattle.std.proofs.lemmas.Bool.Decides.{eqb_tells}
use Rattle.std.proofs.lemmas.List.{length-append}
use Rattle.std.proofs.lemmas.List.Elements.{All-nil, All-cons}
use Rattle.std.proofs.lemmas.List.Folds.{list_any_none}
use Rattle.std.proofs.lemmas.Str.{IsUtf8-from_is_utf8, is_utf8-from_IsUtf8}
use Rattle.csv.specs.Records.{field_at}
use Rattle.tw_rows.specs.Instant.{inf}
use Rattle.tw_rows.specs.Rows.{Row}
use Rattle.tw_rows.specs.declared.schema.ColumnDef.{ColumnDef}
use Rattle.tw_rows.specs.declared.schema.StreamDef.{StreamDef}
use Rattle.row_reader.specs.FieldTexts.{form_text, event_fields, punctuation_fields}
use Rattle.row_reader.specs.declared.form.Form.{Form}
use Rattle.row_reader.specs.declared.form.Form.TheVariants as forms
use Rattle.row_reader.specs.declared.entry.BadLine.{BadLine}
use Rattle.row_reader.specs.declared.entry.BadLine.TheVariants.{NotUtf8, StrayReturn, OddQuotes, UnknownStream, UnknownKind, WrongFields, BadTime, BadLife}
use Rattle.row_reader.specs.declared.entry.Entry.{Entry}
use Rattle.row_reader.specs.declared.entry.Entry.TheVariants.{Skip, Punct, Event}
use Rattle.row_reader.specs.Number.{same_text}
use Rattle.row_reader.specs.Line.{text_of, has_mark}
use Rattle.row_reader.specs.Quotes.{odd_quotes}
use Rattle.row_reader.specs.Record.{record_of, field_of}
use Rattle.row_reader.specs.Values.{end_of, form_of, times_of, is_alive}
use Rattle.row_reader.specs.Spelled.{SpellsFields}
use Rattle.row_reader.specs.Printed.{kinds_of, IsEnd, AreTimes}
use Rattle.row_reader.specs.Entry.{Read, or_bad, row_of, text_fault, named, event, punctuation, is_punct, of_all, of_stream, record_entry, unless_bad, text_entry, entry}
use Rattle.row_reader.specs.Spells.{SpellsText, SpellsEvent, SpellsPunctuation, IsPunctuated}
use Rattle.row_reader.proofs.Records.{other}
use Rattle.row_reader.proofs.Numbers.{same_text-Decides}
use Rattle.row_reader.proofs.Lines.{without_text_of}
use Rattle.row_reader.proofs.Spelling.{even_quotes_spell, fields_are_read}
use Rattle.row_reader.proofs.ReadBack.{inf-is, events_read_back, punctuations_read_back}
use Rattle.row_reader.proofs.Printed.{IsPrinted, or_bad-is, passed, with_row-is, event_is, punctuation_is}

positive : (n : ℕ) → (n == 0) ≡ false → 0 < n
positive n e = elim (eqb_tells n 0) [
  | inl t ↦ absurd (let f : (n == 0) ≡ true = t.0 in cc)
  | inr t ↦ omega (arith, t.1)
]

not_same_by : (a b : List ℕ) (t : Bool) → same_text a b ≡ t → a ≢ b → same_text a b ≡ false
not_same_by a b true e h = absurd (h ((same_text-Decides a b).0 e))
not_same_by a b false e h = e

not_same : (a b : List ℕ) → a ≢ b → same_text a b ≡ false
not_same a b h = not_same_by a b (same_text a b) refl h

no_returns : (xs : List ℕ) → list_any (λ b. b == 13) xs ≡ false → All (λ b. b ≢ 13) xs
no_returns [] h = All-nil (λ b. b ≢ 13)
no_returns (x ∷ xs) h = elim (eqb_tells x 13) [
  | inl t ↦ absurd (let e : true ≡ false = rw t.0 at h in cc)
  | inr t ↦ All-cons (λ b. b ≢ 13) x xs t.1 (no_returns xs (rw t.0 at h))
]

pub no_return_found : (xs : List ℕ) → All (λ b. b ≢ 13) xs → list_any (λ b. b == 13) xs ≡ false
no_return_found xs h = list_any_none (λ b. b == 13) xs (λ k d l. other _ 13 (h k d l))

-- the text has none of the faults that are told before any field is looked at
record IsSound (text : List ℕ) : Type 0 where
  utf8 : is_utf8 text ≡ true
  returns : list_any (λ b. b == 13) text ≡ false
  quotes : odd_quotes text ≡ false
  mark : has_mark text ≡ false

sound_by : (text : List ℕ) (p q r s : Bool) → is_utf8 text ≡ p → list_any (λ b. b == 13) text ≡ q → odd_quotes text ≡ r → has_mark text ≡ s →
    cond (not p) (Some NotUtf8) (cond q (Some StrayReturn) (cond r (Some OddQuotes) (cond s (Some UnknownStream) None))) ≡ None → IsSound text
sound_by text false q r s e f g h k = absurd (cc)
sound_by text true true r s e f g h k = absurd (cc)
sound_by text true false true s e f g h k = absurd (cc)
sound_by text true false false true e f g h k = absurd (cc)
sound_by text true false false false e f g h k = record { utf8 = e; returns = f; quotes = g; mark = h }

sound : (text : List ℕ) → text_fault text ≡ None → IsSound text
unfolding text_fault
sound text h = sound_by text (is_utf8 text) (list_any (λ b. b == 13) text) (odd_quotes text) (has_mark text) refl refl refl refl h

no_fault : (text : List ℕ) → IsSound text → text_fault text ≡ None
unfolding text_fault
no_fault text s = rw (s.utf8, s.returns, s.quotes, s.mark) refl

unless_bad-is : (o : Option BadLine) (read : Read) (e : Entry) → unless_bad o read ≡ Ok e → (o ≡ None) × (read ≡ Ok e)
unless_bad-is None read e h = (refl, h)
unless_bad-is (Some cause) read e h = absurd (cc)

-- the text spells fields that are read as the entry
record IsRead (streams : List StreamDef) (text : List ℕ) (e : Entry) : Type 0 where
  fields : List (List ℕ)
  is_text : SpellsText text fields
  reads : record_entry streams fields ≡ Ok e

read_by : (streams : List StreamDef) (text : List ℕ) (b : Bool) (e : Entry) → All (λ b. b ≢ 10) text → Skip ≢ e → (length text == 0) ≡ b →
    ◌≡◌ {A = Read} (cond b (Ok Skip) (unless_bad (text_fault text) (record_entry streams (record_of text)))) (Ok e) → IsRead streams text e
read_by streams text true e n k l h = absurd (k (let same : Skip ≡ e = cc in same))
read_by streams text false e n k l h =
    let p = unless_bad-is (text_fault text) (record_entry streams (record_of text)) e h in
    let s = sound text p.0 in
    let r = no_returns text s.returns in
    let f = (even_quotes_spell text r n).0 s.quotes in
    let same : record_of text ≡ f.0 = fields_are_read text f.0 (positive (length text) l) r n f.1 in record {
      fields = f.0;
      is_text = record { is_text = IsUtf8-from_is_utf8 text s.utf8; no_return = r; no_mark = s.mark; spelled = f.1 };
      reads = ap (record_entry streams) (sym same) ∙ p.1;
    }

read : (streams : List StreamDef) (text : List ℕ) (e : Entry) → All (λ b. b ≢ 10) text → Skip ≢ e → text_entry streams text ≡ Ok e → IsRead streams text e
unfolding text_entry
read streams text e n k h = read_by streams text (length text == 0) e n k refl h

pub not_empty : (text : List ℕ) → length text ≢ 0 → (length text == 0) ≡ false
not_empty text h = elim (eqb_tells (length text) 0) [ inl t ↦ absurd (h t.1) | inr t ↦ t.0 ]

some_bytes : (text name field : List ℕ) (fields : List (List ℕ)) → SpellsFields text (name ∷ field ∷ fields) → (length text == 0) ≡ false
some_bytes text name field fields h =
    elim (eqb_tells (length text) 0) [
      | inl t ↦ absurd (omega (arith, t.1, ap length h.2, length-append h.0 (44 ∷ h.1)))
      | inr t ↦ t.0
    ]

-- fields that are read are read so of a text that spells them
entry_back : (streams : List StreamDef) (text : List ℕ) (name field : List ℕ) (fields : List (List ℕ)) (e : Entry) → All (λ b. b ≢ 10) text → SpellsText text (name ∷ field ∷ fields) →
    record_entry streams (name ∷ field ∷ fields) ≡ Ok e → text_entry streams text ≡ Ok e
unfolding text_entry
entry_back streams text name field fields e n s h =
    let some = some_bytes text name field fields s.spelled in
    let even : odd_quotes text ≡ false = (even_quotes_spell text s.no_return n).1 (name ∷ field ∷ fields, s.spelled) in
    let is_sound : IsSound text = record { utf8 = is_utf8-from_IsUtf8 text s.is_text; returns = no_return_found text s.no_return; quotes = even; mark = s.no_mark } in
    let same : record_of text ≡ name ∷ field ∷ fields = fields_are_read text (name ∷ field ∷ fields) (positive (length text) some) s.no_return n s.spelled in
    rw (some, no_fault text is_sound, same) h

no_event : (stream : Option ℕ) (fields : List (List ℕ)) (number : ℕ) (form : Form) (sync other : ℕ) (row : Row) → punctuation stream fields ≡ Ok (Event number form sync other row) → ⊥
unfolding punctuation
no_event stream fields number form sync other row h =
    let b = passed (length fields == 2) WrongFields _ _ h in
    let c = or_bad-is BadTime (end_of (field_of fields 1)) _ _ b.1 in
    let d : ◌≡◌ {A = Read} (Ok (Punct stream c.0)) (Ok (Event number form sync other row)) = c.2 in cc

apart : (stream : ℕ) (form : Form) (sync other : ℕ) (row : Row) (number : Option ℕ) (time : ℕ) → ◌≡◌ {A = Read} (Ok (Event stream form sync other row)) (Ok (Punct number time)) → ⊥
apart stream form sync other row number time e = absurd (cc)

no_punctuation : (stream : ℕ) (columns : List ColumnDef) (fields : List (List ℕ)) (number : Option ℕ) (time : ℕ) → event stream columns fields ≡ Ok (Punct number time) → ⊥
unfolding event
no_punctuation stream columns fields number time h =
    let a = or_bad-is UnknownKind (form_of (field_of fields 0)) _ _ h in
    let b = passed (length fields == length columns + 3) WrongFields _ _ a.2 in
    let c = or_bad-is BadTime (times_of a.0 (field_of fields 1) (field_of fields 2)) _ _ b.1 in
    let d = passed (is_alive a.0 c.0.0 c.0.1) BadLife _ _ c.2 in
    let r : (row : Row) × (row_of 1 columns (drop 3 fields) ≡ Ok row) × (◌≡◌ {A = Read} (Ok (Event stream a.0 c.0.0 c.0.1 row)) (Ok (Punct number time))) = with_row-is (row_of 1 columns (drop 3 fields)) _ _ d.1 in
    apart stream a.0 c.0.0 c.0.1 r.0 number time r.2

not_star : (name : List ℕ) → same_text name (codes "*") ≡ false → name ≢ codes "*"
not_star name e s = let t = (same_text-Decides name (codes "*")).1 s in absurd (cc)

-- the name in the first field is that of the stream, and the fields are printed of the event
record IsNamedEvent (streams : List StreamDef) (name : List ℕ) (fields : List (List ℕ)) (number : ℕ) (form : Form) (sync other : ℕ) (row : Row) : Type 0 where
  definition : StreamDef
  named_is : named 0 streams name ≡ Some (number, definition)
  no_star : name ≢ codes "*"
  is_printed : IsPrinted definition.schema name fields form sync other row

of_stream_by : (number : ℕ) (definition : StreamDef) (name : List ℕ) (fields : List (List ℕ)) (b : Bool) (stream : ℕ) (form : Form) (sync other : ℕ) (row : Row) →
    cond b (punctuation (Some number) fields) (event number definition.schema fields) ≡ Ok (Event stream form sync other row) →
    (number ≡ stream) × IsPrinted definition.schema name fields form sync other row
of_stream_by number definition name fields true stream form sync other row h = absurd (no_event (Some number) fields stream form sync other row h)
of_stream_by number definition name fields false stream form sync other row h = event_is number stream definition.schema name fields form sync other row h

of_all_by : (fields : List (List ℕ)) (b : Bool) (stream : ℕ) (form : Form) (sync other : ℕ) (row : Row) →
    cond b (punctuation None fields) (Err UnknownKind) ≡ Ok (Event stream form sync other row) → ⊥
of_all_by fields true stream form sync other row h = no_event None fields stream form sync other row h
of_all_by fields false stream form sync other row h = absurd (cc)

event_by : (streams : List StreamDef) (name : List ℕ) (fields : List (List ℕ)) (b : Bool) (number : ℕ) (form : Form) (sync other : ℕ) (row : Row) → same_text name (codes "*") ≡ b →
    cond b (of_all fields) (or_bad UnknownStream (named 0 streams name) (λ found. of_stream found.0 found.1.schema fields)) ≡ Ok (Event number form sync other row) →
    IsNamedEvent streams name fields number form sync other row
event_by streams name fields true number form sync other row e h = absurd (of_all_by fields (is_punct fields) number form sync other row h)
event_by streams name fields false number form sync other row e h =
    let a = or_bad-is UnknownStream (named 0 streams name) _ _ h in
    let p = of_stream_by a.0.0 a.0.1 name fields (is_punct fields) number form sync other row a.2 in record {
      definition = a.0.1;
      named_is = a.1 ∙ ap (λ n. Some (n, a.0.1)) p.0;
      no_star = not_star name e;
      is_printed = p.1;
    }

named_event : (streams : List StreamDef) (name : List ℕ) (fields : List (List ℕ)) (number : ℕ) (form : Form) (sync other : ℕ) (row : Row) →
    record_entry streams (name ∷ fields) ≡ Ok (Event number form sync other row) → IsNamedEvent streams name fields number form sync other row
unfolding record_entry field_of field_at
named_event streams name fields number form sync other row h = event_by streams name fields (same_text name (codes "*")) number form sync other row refl h

spells_by : (streams : List StreamDef) (text : List ℕ) (fields : List (List ℕ)) (number : ℕ) (form : Form) (sync other : ℕ) (row : Row) → SpellsText text fields →
    record_entry streams fields ≡ Ok (Event number form sync other row) → SpellsEvent streams text number form sync other row
spells_by streams text [] number form sync other row s h = absurd s.spelled
spells_by streams text (name ∷ fields) number form sync other row s h =
    let n = named_event streams name fields number form sync other row h in record {
      name = name;
      definition = n.definition;
      named_is = n.named_is;
      no_star = n.no_star;
      is_text = subst (SpellsText text) n.is_printed.0 s;
      row_is = n.is_printed.1;
      times = n.is_printed.2;
    }

spells : (streams : List StreamDef) (text : List ℕ) (number : ℕ) (form : Form) (sync other : ℕ) (row : Row) → All (λ b. b ≢ 10) text →
    text_entry streams text ≡ Ok (Event number form sync other row) → SpellsEvent streams text number form sync other row
spells streams text number form sync other row n h =
    let r = read streams text _ n (λ e. absurd (cc)) h in spells_by streams text r.fields number form sync other row r.is_text r.reads

no_punct : (form : Form) → same_text (form_text form) (codes "punct") ≡ false
no_punct forms.Interval = refl
no_punct forms.Start = refl
no_punct forms.End = refl

record_back : (streams : List StreamDef) (text : List ℕ) (number : ℕ) (form : Form) (sync other : ℕ) (row : Row) (s : SpellsEvent streams text number form sync other row) →
    record_entry streams (event_fields (kinds_of s.definition.schema) s.name form sync other row) ≡ Ok (Event number form sync other row)
unfolding record_entry field_of field_at
record_back streams text number form sync other row s =
    let no_star : same_text s.name (codes "*") ≡ false = not_same s.name (codes "*") s.no_star in
    rw (no_star, s.named_is, no_punct form) (events_read_back number s.definition.schema s.name form sync other row s.row_is s.times)

back : (streams : List StreamDef) (text : List ℕ) (number : ℕ) (form : Form) (sync other : ℕ) (row : Row) → All (λ b. b ≢ 10) text →
    SpellsEvent streams text number form sync other row → text_entry streams text ≡ Ok (Event number form sync other row)
back streams text number form sync other row n s = entry_back streams text _ _ _ _ n s.is_text (record_back streams text number form sync other row s)

pub lines_say_events : (streams : List StreamDef) (first : Bool) (line : List ℕ) (number : ℕ) (form : Form) (sync other : ℕ) (row : Row) → All (λ b. b ≢ 10) line →
    (entry streams first line ≡ Ok (Event number form sync other row)) ↔ SpellsEvent streams (text_of first line) number form sync other row
lines_say_events streams first line number form sync other row n =
    let m : All (λ b. b ≢ 10) (text_of first line) = without_text_of 10 first line n in
    (λ h. spells streams (text_of first line) number form sync other row m h, λ s. back streams (text_of first line) number form sync other row m s)

pub texts_spell_one : (streams : List StreamDef) (text : List ℕ) (s t : ℕ) (f g : Form) (a b c d : ℕ) (row other : Row) → All (λ b. b ≢ 10) text →
    SpellsEvent streams text s f a b row → SpellsEvent streams text t g c d other → Event s f a b row ≡ Event t g c d other
texts_spell_one streams text s t f g a b c d row other n p q =
    let x = back streams text s f a b row n p in
    let y = back streams text t g c d other n q in
    let e : ◌≡◌ {A = Read} (Ok (Event s f a b row)) (Ok (Event t g c d other)) = sym x ∙ y in cc

-- punctuations
punctuation_of_all : (streams : List StreamDef) (name : List ℕ) (fields : List (List ℕ)) (b : Bool) (stream : Option ℕ) (time : ℕ) → name ≡ codes "*" → is_punct fields ≡ b →
    cond b (punctuation None fields) (Err UnknownKind) ≡ Ok (Punct stream time) → IsPunctuated streams stream name × (name ∷ fields ≡ punctuation_fields name time) × IsEnd time
punctuation_of_all streams name fields true stream time s e h =
    let p = punctuation_is None stream name fields time e h in (subst (λ (o : Option ℕ). IsPunctuated streams o name) p.0 s, p.1, p.2)
punctuation_of_all streams name fields false stream time s e h = absurd (cc)

punctuation_of_stream : (streams : List StreamDef) (name : List ℕ) (fields : List (List ℕ)) (number : ℕ) (definition : StreamDef) (b : Bool) (stream : Option ℕ) (time : ℕ) → name ≢ codes "*" →
    named 0 streams name ≡ Some (number, definition) → is_punct fields ≡ b → cond b (punctuation (Some number) fields) (event number definition.schema fields) ≡ Ok (Punct stream time) →
    IsPunctuated streams stream name × (name ∷ fields ≡ punctuation_fields name time) × IsEnd time
punctuation_of_stream streams name fields number definition true stream time s n e h =
    let p = punctuation_is (Some number) stream name fields time e h in (subst (λ (o : Option ℕ). IsPunctuated streams o name) p.0 (s, (definition, n)), p.1, p.2)
punctuation_of_stream streams name fields number definition false stream time s n e h = absurd (no_punctuation number definition.schema fields stream time h)

punctuation_by : (streams : List StreamDef) (name : List ℕ) (fields : List (List ℕ)) (b : Bool) (stream : Option ℕ) (time : ℕ) → same_text name (codes "*") ≡ b →
    cond b (of_all fields) (or_bad UnknownStream (named 0 streams name) (λ found. of_stream found.0 found.1.schema fields)) ≡ Ok (Punct stream time) →
    IsPunctuated streams stream name × (name ∷ fields ≡ punctuation_fields name time) × IsEnd time
punctuation_by streams name fields true stream time e h = punctuation_of_all streams name fields (is_punct fields) stream time ((same_text-Decides _ _).0 e) refl h
punctuation_by streams name fields false stream time e h =
    let a = or_bad-is UnknownStream (named 0 streams name) _ _ h in
    punctuation_of_stream streams name fields a.0.0 a.0.1 (is_punct fields) stream time (not_star name e) a.1 refl a.2

named_punctuation : (streams : List StreamDef) (name : List ℕ) (fields : List (List ℕ)) (stream : Option ℕ) (time : ℕ) → record_entry streams (name ∷ fields) ≡ Ok (Punct stream time) →
    IsPunctuated streams stream name × (name ∷ fields ≡ punctuation_fields name time) × IsEnd time
unfolding record_entry field_of field_at
named_punctuation streams name fields stream time h = punctuation_by streams name fields (same_text name (codes "*")) stream time refl h

spells_punctuation_by : (streams : List StreamDef) (text : List ℕ) (fields : List (List ℕ)) (stream : Option ℕ) (time : ℕ) → SpellsText text fields →
    record_entry streams fields ≡ Ok (Punct stream time) → SpellsPunctuation streams text stream time
spells_punctuation_by streams text [] stream time s h = absurd s.spelled
spells_punctuation_by streams text (name ∷ fields) stream time s h =
    let p = named_punctuation streams name fields stream time h in record { name = name; punctuated = p.0; is_text = subst (SpellsText text) p.1 s; is_time = p.2 }

punctuation_back : (streams : List StreamDef) (stream : Option ℕ) (name : List ℕ) (time : ℕ) → IsPunctuated streams stream name → IsEnd time →
    record_entry streams (punctuation_fields name time) ≡ Ok (Punct stream time)
unfolding record_entry field_of field_at
punctuation_back streams None name time p t = rw p (punctuations_read_back None time t)
punctuation_back streams (Some number) name time p t =
    let no_star : same_text name (codes "*") ≡ false = not_same name (codes "*") p.0 in
    rw (no_star, p.1.1) (punctuations_read_back (Some number) time t)

pub lines_say_punctuations : (streams : List StreamDef) (first : Bool) (line : List ℕ) (stream : Option ℕ) (time : ℕ) → All (λ b. b ≢ 10) line →
    (entry streams first line ≡ Ok (Punct stream time)) ↔ SpellsPunctuation streams (text_of first line) stream time
lines_say_punctuations streams first line stream time n =
    let m : All (λ b. b ≢ 10) (text_of first line) = without_text_of 10 first line n in (
      λ h. (let r = read streams (text_of first line) _ m (λ e. absurd (cc)) h in spells_punctuation_by streams (text_of first line) r.fields stream time r.is_text r.reads),
      λ s. entry_back streams (text_of first line) _ _ _ _ m s.is_text (punctuation_back streams stream s.name time s.punctuated s.is_time),
    )

-- streams and times
abbrev number_in : Option (ℕ × StreamDef) → ℕ
number_in None = 0
number_in (Some p) = p.0

below_by : (b : Bool) (streams : List StreamDef) (n : ℕ) (name : List ℕ) (m : ℕ) (d s : StreamDef) → (named (suc n) streams name ≡ Some (m, d) → m < suc n + length streams) →
    cond b (Some (n, s)) (named (suc n) streams name) ≡ Some (m, d) → m < n + suc (length streams)
below_by true streams n name m d s more h = let e : n ≡ m = ap (λ (o : Option (ℕ × StreamDef)). number_in o) h in omega (arith, e)
below_by false streams n name m d s more h = omega (arith, more h)

named-below : (streams : List StreamDef) (n : ℕ) (name : List ℕ) (m : ℕ) (d : StreamDef) → named n streams name ≡ Some (m, d) → m < n + length streams
unfolding named
named-below [] n name m d h = absurd (cc)
named-below (s ∷ streams) n name m d h = below_by (same_text s.name name) streams n name m d s (λ e. named-below streams (suc n) name m d e) h

end-within : (t : ℕ) → IsEnd t → t ≤ inf
end-within t (inl h) = omega (arith, inf-is, h)
end-within t (inr h) = omega (arith, h)

times-within : (form : Form) (sync other : ℕ) → AreTimes form sync other → (sync < 2 ^ 60) × (other ≤ inf)
times-within forms.Interval sync other h = (h.0, end-within other h.1)
times-within forms.Start sync other h = (h.0, omega (arith, h.1))
times-within forms.End sync other h = (h.0, omega (arith, inf-is, h.0, h.1))

pub events_are_within : (streams : List StreamDef) (first : Bool) (line : List ℕ) (number : ℕ) (form : Form) (sync other : ℕ) (row : Row) → All (λ b. b ≢ 10) line →
    entry streams first line ≡ Ok (Event number form sync other row) → (number < length streams) × (sync < 2 ^ 60) × (other ≤ inf)
events_are_within streams first line number form sync other row n h =
    let s = (lines_say_events streams first line number form sync other row n).0 h in
    let t = times-within form sync other s.times in
    (omega (arith, named-below streams 0 s.name number s.definition s.named_is), t.0, t.1)

punctuated-below : (streams : List StreamDef) (stream : Option ℕ) (name : List ℕ) → IsPunctuated streams stream name → IfSome stream (λ s. s < length streams)
punctuated-below streams None name p = tt
punctuated-below streams (Some number) name p = omega (arith, named-below streams 0 name number p.1.0 p.1.1)

pub punctuations_are_within : (streams : List StreamDef) (first : Bool) (line : List ℕ) (stream : Option ℕ) (time : ℕ) → All (λ b. b ≢ 10) line →
    entry streams first line ≡ Ok (Punct stream time) → IfSome stream (λ s. s < length streams) × (time ≤ inf)
punctuations_are_within streams first line stream time n h =
    let s = (lines_say_punctuations streams first line stream time n).0 h in (punctuated-below streams stream s.name s.punctuated, end-within time s.is_time)
