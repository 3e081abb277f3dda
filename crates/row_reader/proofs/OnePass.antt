-- Intervals that are read in one pass.
use Rattle.std.proofs.Common.{◌≡◌, ◌<◌, ◌≤◌, ◌+◌, ◌*◌, ◌^◌, ℕ, ℤ, zero, suc, List, [], ◌∷◌, ◌++◌, length, take, drop, get_or, Option, Some, Ok, Err, refl, sym, ◌∙◌, ap, subst, arith, inl, inr}
use Rattle.std.specs.Prelude.{◌≢◌, ◌&&◌, Bool as Truth, true, false, slice_get, decimal, codes, pos, option_map, None, MatchOption, IfSome}
use Rattle.std.specs.Borrow.{Bor}
use Rattle.std.specs.Char.{digit_value}
use Rattle.std.specs.Str.Parse.{AllDigits, digits_value_after}
use Rattle.std.proofs.lemmas.Bool.Decides.{Decides-ltb, eqb_tells}
use Rattle.std.proofs.lemmas.Fmt.{decimal-digits_value}
use Rattle.std.proofs.lemmas.List.{take_more, length-take-le, take-append-drop, map-append}
use Rattle.std.proofs.lemmas.List.Sums.{fold-append}
use Rattle.std.proofs.lemmas.Option.{slice_get_within, get_or_from_slice_get}
use Rattle.std.proofs.Math.Seq.{take-length}
use Rattle.csv.specs.Records.{field_at, AllText}
use Rattle.tw_rows.specs.Cells.{ArePlaced, read_datum, read_cells, with_value, with_row}
use Rattle.tw_rows.proofs.TextTables.{interned-known}
use Rattle.tw_rows.specs.declared.cells.Datum.{Datum}
use Rattle.tw_rows.specs.declared.cells.Datum.TheVariants as data_of
use Rattle.tw_rows.specs.declared.kind.Kind.{Kind}
use Rattle.tw_rows.specs.declared.kind.Kind.TheVariants as kinds
use Rattle.tw_rows.specs.declared.row.Value.TheVariants.{Int, Text}
use Rattle.tw_rows.specs.declared.schema.ColumnDef.{ColumnDef}
use Rattle.row_reader.proofs.Digits.{own, value-append, AllDigits-append}
use Rattle.row_reader.specs.FieldTexts.{time_text}
use Rattle.row_reader.specs.declared.form.Form.TheVariants as forms
use Rattle.row_reader.specs.Fields.{commas}
use Rattle.row_reader.specs.Record.{field_of}
use Rattle.row_reader.specs.Values.{value_of, form_of, times_of}
use Rattle.row_reader.specs.Drafted.{value_in, row_in, IsFirst, IsInterval, IsKnown, AreKnown}
use Rattle.row_reader.proofs.Drafting.{pushed, ArePlaced-both}
use Rattle.row_reader.specs.Entry.{event, of_stream}
use Rattle.row_reader.specs.Interned.{IsReadIn}
use Rattle.row_reader.specs.declared.entry.Said.TheVariants.{Event as SaidEvent}
use Rattle.row_reader.specs.declared.entry.RowFault.TheVariants.{Memory}
use Rattle.row_reader.proofs.Commas.{NoComma, commas-bare, commas-more}
use Rattle.row_reader.proofs.Lines.{drop_at}
use Rattle.row_reader.proofs.Places.{units_of-spelled}
use Rattle.row_reader.proofs.ReadBack.{text_below, times_back, alive_back}
use Rattle.row_reader.proofs.Steps.{AreHeads, heads, event_ok, event_memory}
use Rattle.row_reader.proofs.TextFields.{texts_behind}
use Rattle.row_reader.proofs.Whole.{power_up_to}

-- one digit more
pub digit_more : (bs : List ℕ) (i n d : ℕ) → i < length bs → AllDigits 10 (take i bs) → digits_value_after 10 0 (take i bs) ≡ n → digit_value (get_or bs i 0) ≡ d → d < 10 →
    AllDigits 10 (take (i + 1) bs) × (digits_value_after 10 0 (take (i + 1) bs) ≡ n * 10 + d)
digit_more bs i n d low all value here digit =
    let more = take_more bs i 0 low in
    let next : digits_value_after 10 0 (take i bs) * 10 + digit_value (get_or bs i 0) ≡ n * 10 + d = omega (arith, value, here) in (
      subst (AllDigits 10) (sym more) (AllDigits-append (take i bs) (get_or bs i 0 ∷ []) all (omega (arith, here, digit), tt)),
      ap (digits_value_after 10 0) more ∙ value-append (take i bs) (get_or bs i 0 ∷ []) 0 ∙ next,
    )

-- so few digits are below an event time
pub below_few : (n i : ℕ) → n < 10 ^ i → i ≤ 18 → n < 2 ^ 60
below_few n i h low = omega (arith, power_up_to i 18 low, h)

head_kept : (bs : List ℕ) (k : ℕ) → 0 < k → get_or (take k bs) 0 0 ≡ get_or bs 0 0
head_kept bs zero h = absurd (omega arith)
head_kept [] (suc k) h = refl
head_kept (b ∷ bs) (suc k) h = refl

no_commas : (bs : List ℕ) → AllDigits 10 bs → NoComma bs
no_commas [] h = tt
no_commas (b ∷ bs) h = (
  elim (eqb_tells b 44) [ inl t ↦ absurd (let e : digit_value b ≡ 36 = ap digit_value t.1 in omega (arith, h.0, e)) | inr t ↦ t.0 ],
  no_commas bs h.1,
)

-- the digits with which a text begins, with no zero in front of others, and their number
pub record AreDigits (bs : List ℕ) (k n : ℕ) : Type 0 where
  pub within : k ≤ length bs
  pub some : 0 < k
  pub first : get_or bs 0 0 ≡ 48 → k ≡ 1
  pub digits : AllDigits 10 (take k bs)
  pub value : n ≡ digits_value_after 10 0 (take k bs)
  pub small : n < 2 ^ 60

digits_are : (bs : List ℕ) (k n : ℕ) → AreDigits bs k n → take k bs ≡ decimal n
digits_are bs k n h =
    let long : length (take k bs) ≡ k = length-take-le k bs h.within in
    sym (ap decimal h.value ∙ decimal-digits_value own (take k bs) h.digits (omega (arith, long, h.some)) (λ z. long ∙ h.first (sym (head_kept bs k h.some) ∙ z)) (omega (arith, h.value, h.small)))

pub number_last : (bs : List ℕ) (k n : ℕ) → AreDigits bs k n → k ≡ length bs → commas bs ≡ decimal n ∷ []
number_last bs k n h e =
    let same : take k bs ≡ bs = ap (λ j. take j bs) e ∙ take-length bs in
    commas-bare bs (subst NoComma same (no_commas (take k bs) h.digits)) ∙ ap (λ (f : List ℕ). f ∷ []) (sym same ∙ digits_are bs k n h)

pub number_before : (bs : List ℕ) (k n : ℕ) → AreDigits bs k n → k < length bs → get_or bs k 0 ≡ 44 → commas bs ≡ decimal n ∷ commas (drop (k + 1) bs)
number_before bs k n h low comma =
    let rest = drop (k + 1) bs in
    let cut : bs ≡ take k bs ++ 44 ∷ rest = sym (take-append-drop k bs) ∙ ap (λ l. take k bs ++ l) (drop_at bs k low ∙ ap (λ b. b ∷ rest) comma) in
    ap commas cut ∙ commas-more (take k bs) rest (no_commas (take k bs) h.digits) ∙ ap (λ (f : List ℕ). f ∷ commas rest) (digits_are bs k n h)

-- a text that the table has
pub known_text : (texts : List (List ℕ)) (field : List ℕ) (place : ℕ) → slice_get texts place ≡ Some field → IsKnown texts field (data_of.Text place)
known_text texts field place at =
    let low = slice_get_within texts place field at in
    record {
      placed = low;
      read = ap (λ t. Text t) (get_or_from_slice_get texts place field [] at);
      table = interned-known texts field (place, low, get_or_from_slice_get texts place field field at);
    }

-- the first value
pub int_first : (texts : List (List ℕ)) (kind : Kind) (fields rest : List (List ℕ)) (n : ℕ) (x : ℤ) → kind ≡ kinds.Int → fields ≡ decimal n ∷ rest → n < 2 ^ 60 → x ≡ pos n →
    IsFirst texts kind fields (data_of.Int x) true rest
unfolding value_of
int_first texts kind fields rest n x is e low same = record {
  field = decimal n;
  first = e;
  spells = ap (λ k. value_of k (decimal n)) is ∙ ap (option_map Int) (units_of-spelled 0 (decimal n) (pos n) ((Decides-ltb n (2 ^ 63)).1 (omega (arith, low))) refl) ∙ ap (λ z. Some (Int z)) (sym same);
  is_known = λ _. record { placed = tt; read = refl; table = refl };
}

pub value_first : (texts : List (List ℕ)) (kind : Kind) (fields rest : List (List ℕ)) (field : List ℕ) (read : Option Datum) (d datum : Datum) (known : Truth) → fields ≡ field ∷ rest →
    option_map (value_in field) read ≡ value_of kind field → read ≡ Some d → value_in field datum ≡ value_in field d → (known ≡ true → IsKnown texts field datum) → IsFirst texts kind fields datum known rest
value_first texts kind fields rest field read d datum known e told is same h = record {
  field = field;
  first = e;
  spells = sym told ∙ ap (option_map (value_in field)) is ∙ ap (λ v. Some v) (sym same);
  is_known = h;
}

-- the data of a row that are known
pub known_none : (texts fields : List (List ℕ)) (row : List Datum) → row ≡ [] → AreKnown texts fields row
unfolding row_in
known_none texts fields row e = rw e (record { placed = tt; read = refl; table = refl })

pub known_more : (texts fields rest : List (List ℕ)) (ds more : List Datum) (d : Datum) (f : List ℕ) → more ≡ ds ++ d ∷ [] → rest ≡ drop (length ds) fields → f ≡ field_of rest 0 →
    AreKnown texts fields ds → IsKnown texts f d → AreKnown texts fields more
known_more texts fields rest ds more d f is behind here h k =
    let row = pushed fields rest ds more d f is behind here in
    record {
      placed = subst (ArePlaced texts) (sym is) (ArePlaced-both texts ds (d ∷ []) h.placed (k.placed, tt));
      read = ap (read_cells texts) is ∙ map-append (read_datum texts) ds (d ∷ []) ∙ ap (λ r. r ++ read_datum texts d ∷ []) h.read ∙ ap (λ v. row_in fields ds ++ v ∷ []) k.read ∙ sym row;
      table = ap (with_row texts) row ∙ fold-append with_value texts (row_in fields ds) (value_in f d ∷ []) ∙ ap (λ t. with_value t (value_in f d)) h.table ∙ k.table;
    }

pub both_true : (a b : Truth) → (a && b) ≡ true → (a ≡ true) × (b ≡ true)
both_true true b e = (refl, e)
both_true false b e = absurd (cc)

-- the word of an interval
pub word_behind : (text rest : List ℕ) → text ≡ codes "interval," ++ rest → commas text ≡ codes "interval" ∷ commas rest
word_behind text rest e = ap commas e ∙ commas-more (codes "interval") rest (refl, (refl, (refl, (refl, (refl, (refl, (refl, (refl, tt))))))))

pub word_told : (text word : List ℕ) (r : Option (Bor (List ℕ))) → word ≡ codes "interval," → MatchOption r ((rest : List ℕ) → text ≢ word ++ rest) (λ x. text ≡ word ++ x.now) →
    IfSome r (λ rest. commas text ≡ codes "interval" ∷ commas rest.now)
word_told text word None is h = tt
word_told text word (Some x) is h = word_behind text x.now (h ∙ ap (λ l. l ++ x.now) is)

-- an interval is an event of its stream
is_event : (stream : ℕ) (columns : List ColumnDef) (fields rest : List (List ℕ)) → fields ≡ codes "interval" ∷ rest → of_stream stream columns fields ≡ event stream columns fields
unfolding field_of field_at
is_event stream columns fields rest e = rw e refl

word_is : (fields rest : List (List ℕ)) → fields ≡ codes "interval" ∷ rest → codes "interval" ≡ field_of fields 0
unfolding field_of field_at
word_is fields rest e = rw e refl

is_word : form_of (codes "interval") ≡ Some forms.Interval
unfolding form_of
is_word = refl

has_heads : (columns : List ColumnDef) (fields values : List (List ℕ)) (start stop : ℕ) (row : List Datum) → IsInterval columns fields start stop values row →
    AreHeads fields forms.Interval (decimal start) (decimal stop) values
has_heads columns fields values start stop row h =
    heads fields (decimal start ∷ decimal stop ∷ values) (decimal stop ∷ values) values (codes "interval") (decimal start) (decimal stop) forms.Interval (word_is fields _ h.spelled) (sym (ap (drop 1) h.spelled)) is_word refl refl

times_are : (start stop : ℕ) → start < stop → stop < 2 ^ 60 → times_of forms.Interval (decimal start) (decimal stop) ≡ Some (start, stop)
times_are start stop life low =
    let below : start < 2 ^ 60 = omega (arith, life, low) in
    ap (λ t. times_of forms.Interval t (decimal stop)) (sym (text_below start below)) ∙ ap (λ t. times_of forms.Interval (time_text start) t) (sym (text_below stop low))
    ∙ times_back forms.Interval start stop (below, inl low, life)

pub interval_texts : (columns : List ColumnDef) (fields values : List (List ℕ)) (start stop : ℕ) (row : List Datum) → IsInterval columns fields start stop values row → AllText fields → AllText values
interval_texts columns fields values start stop row h texts =
    texts_behind (decimal stop ∷ values) values (decimal stop) (texts_behind (decimal start ∷ decimal stop ∷ values) _ (decimal start) (texts_behind fields _ (codes "interval") texts h.spelled) refl) refl

pub interval_ok : (old new : List (List ℕ)) (stream : ℕ) (columns : List ColumnDef) (fields values : List (List ℕ)) (start stop : ℕ) (row cells : List Datum) → IsInterval columns fields start stop values row →
    read_cells new cells ≡ row_in values row → ArePlaced new cells → new ≡ with_row old (row_in values row) →
    IsReadIn old new cells (Ok (SaidEvent stream forms.Interval start stop)) (of_stream stream columns fields)
interval_ok old new stream columns fields values start stop row cells h is placed table =
    subst (IsReadIn old new cells (Ok (SaidEvent stream forms.Interval start stop))) (sym (is_event stream columns fields _ h.spelled))
    (event_ok old new stream columns fields values forms.Interval (decimal start) (decimal stop) start stop (row_in values row) cells (has_heads columns fields values start stop row h)
    (times_are start stop h.life h.instant) (alive_back forms.Interval start stop (omega (arith, h.life, h.instant), inl h.instant, h.life)) h.read is placed table)

pub interval_memory : (old new : List (List ℕ)) (cells : List Datum) (stream : ℕ) (columns : List ColumnDef) (fields values : List (List ℕ)) (start stop : ℕ) (row : List Datum) → IsInterval columns fields start stop values row →
    (n : ℕ) × (new ≡ with_row old (take n (row_in values row))) → IsReadIn old new cells (Err Memory) (of_stream stream columns fields)
interval_memory old new cells stream columns fields values start stop row h table =
    subst (IsReadIn old new cells (Err Memory)) (sym (is_event stream columns fields _ h.spelled))
    (event_memory old new cells stream columns fields values forms.Interval (decimal start) (decimal stop) start stop (row_in values row) (has_heads columns fields values start stop row h)
    (times_are start stop h.life h.instant) (alive_back forms.Interval start stop (omega (arith, h.life, h.instant), inl h.instant, h.life)) h.read table)
