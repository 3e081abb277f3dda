-- What the reading of a line keeps, step by step.
use Rattle.std.proofs.Common.{◌≡◌, ◌<◌, ◌≤◌, ℕ, zero, suc, ◌+◌, List, [], ◌∷◌, ◌++◌, length, drop, get_or, Bool, true, false, Option, Some, None, Result, Ok, Err, refl, sym, ◌∙◌, ap, arith, append_assoc}
use Rattle.std.specs.Str.{IsUtf8, is_utf8}
use Rattle.std.specs.Result.{MatchResult, is_ok}
use Rattle.std.proofs.lemmas.Str.{IsUtf8-from_is_utf8, is_utf8-from_IsUtf8}
use Rattle.std.proofs.lemmas.List.{append-nil}
use Rattle.tw_rows.specs.Rows.{Row}
use Rattle.tw_rows.specs.declared.row.Value.{Value}
use Rattle.tw_rows.specs.declared.schema.ColumnDef.{ColumnDef}
use Rattle.tw_rows.specs.declared.schema.StreamDef.{StreamDef}
use Rattle.row_reader.specs.Number.{same_text}
use Rattle.row_reader.specs.Values.{value_of}
use Rattle.row_reader.specs.Record.{field_of}
use Rattle.row_reader.specs.Entry.{named, row_of, with_value}

pub is_utf8-true : (bs : List ℕ) → IsUtf8 bs → is_utf8 bs ≡ true
is_utf8-true bs u = is_utf8-from_IsUtf8 bs u

by_test : (bs : List ℕ) (b : Bool) → is_utf8 bs ≡ b → ¬ (IsUtf8 bs) → is_utf8 bs ≡ false
by_test bs true e h = absurd (h (IsUtf8-from_is_utf8 bs e))
by_test bs false e h = e

pub is_utf8-false : (bs : List ℕ) → ¬ (IsUtf8 bs) → is_utf8 bs ≡ false
is_utf8-false bs h = by_test bs (is_utf8 bs) refl h

pub told_by_result : {T E : Type 0} (r : Result T E) (bs : List ℕ) (P : T → Type 0) (Q : E → Type 0) → MatchResult r (λ x. P x × IsUtf8 bs) (λ e. ¬ (IsUtf8 bs) × Q e) → is_ok r ≡ is_utf8 bs
told_by_result (Ok x) bs P Q h = sym (is_utf8-true bs h.1)
told_by_result (Err e) bs P Q h = sym (is_utf8-false bs h.0)

pub ruleset utf8_steps = (is_utf8-true, is_utf8-false)

-- the values before, and then the others
abbrev pub prepended : Row → Result Row ℕ → Result Row ℕ
prepended done (Ok row) = Ok (done ++ row)
prepended done (Err n) = Err n

prepended-push : (done : Row) (v : Value) (n : ℕ) (read : Result Row ℕ) → prepended done (with_value n (Some v) read) ≡ prepended (done ++ v ∷ []) read
prepended-push done v n (Ok row) = ap (λ (r : Row). Ok r) (sym (append_assoc done (v ∷ []) row))
prepended-push done v n (Err m) = refl

-- the values of the first n columns are read, and the fields of the others are left
abbrev pub AreRead : List (List ℕ) → List ColumnDef → ℕ → Row → List (List ℕ) → Type 0
AreRead fields columns n done rest = row_of 1 columns fields ≡ prepended done (row_of (n + 1) (drop n columns) rest)

prepended-nil : (read : Result Row ℕ) → read ≡ prepended [] read
prepended-nil (Ok row) = refl
prepended-nil (Err n) = refl

pub AreRead-none : (fields : List (List ℕ)) (columns : List ColumnDef) (done : Row) → done ≡ [] → AreRead fields columns 0 done fields
AreRead-none fields columns done e = rw e (prepended-nil (row_of 1 columns fields))

column_at : (rest : List (List ℕ)) (columns : List ColumnDef) (n m : ℕ) (c : ColumnDef) → n < length columns → c ≡ get_or columns n c →
    row_of m (drop n columns) rest ≡ with_value m (value_of c.kind (field_of rest 0)) (row_of (suc m) (drop (n + 1) columns) (drop 1 rest))
unfolding row_of
column_at rest [] n m c h e = absurd (omega arith)
column_at rest (d ∷ ds) zero m c h e = ap (λ (k : ColumnDef). with_value m (value_of k.kind (field_of rest 0)) (row_of (suc m) ds (drop 1 rest))) (sym e)
column_at rest (d ∷ ds) (suc n) m c h e = let z : suc n + 1 ≡ suc (n + 1) = omega arith in rw z (column_at rest ds n m c (omega arith) e)

read_here : (fields rest : List (List ℕ)) (columns : List ColumnDef) (n : ℕ) (c : ColumnDef) (o : Option Value) (done : Row) → AreRead fields columns n done rest → n < length columns →
    c ≡ get_or columns n c → o ≡ value_of c.kind (field_of rest 0) →
    row_of 1 columns fields ≡ prepended done (with_value (n + 1) o (row_of (n + 1 + 1) (drop (n + 1) columns) (drop 1 rest)))
read_here fields rest columns n c o done r h e q =
    let z : n + 1 + 1 ≡ suc (n + 1) = omega arith in
    r ∙ ap (prepended done) (column_at rest columns n (n + 1) c h e ∙ rw (q, z) refl)

pub AreRead-next : (fields rest after : List (List ℕ)) (columns : List ColumnDef) (n : ℕ) (c : ColumnDef) (v : Value) (o : Option Value) (done more : Row) → AreRead fields columns n done rest → n < length columns →
    c ≡ get_or columns n c → o ≡ value_of c.kind (field_of rest 0) → o ≡ Some v → more ≡ done ++ v ∷ [] → after ≡ drop 1 rest → AreRead fields columns (n + 1) more after
AreRead-next fields rest after columns n c v o done more r h e q s m a =
    read_here fields rest columns n c o done r h e q ∙ rw (s, m, a) (prepended-push done v (n + 1) (row_of (n + 1 + 1) (drop (n + 1) columns) (drop 1 rest)))

pub AreRead-bad : (fields rest : List (List ℕ)) (columns : List ColumnDef) (n : ℕ) (c : ColumnDef) (o : Option Value) (done : Row) → AreRead fields columns n done rest → n < length columns →
    c ≡ get_or columns n c → o ≡ value_of c.kind (field_of rest 0) → o ≡ None → row_of 1 columns fields ≡ Err (n + 1)
AreRead-bad fields rest columns n c o done r h e q s = read_here fields rest columns n c o done r h e q ∙ rw s refl

read_at_end : (rest : List (List ℕ)) (columns : List ColumnDef) (n m : ℕ) → length columns ≤ n → row_of m (drop n columns) rest ≡ Ok []
unfolding row_of
read_at_end rest [] zero m h = refl
read_at_end rest [] (suc n) m h = refl
read_at_end rest (d ∷ ds) zero m h = absurd (omega arith)
read_at_end rest (d ∷ ds) (suc n) m h = read_at_end rest ds n m (omega arith)

pub AreRead-end : (fields rest : List (List ℕ)) (columns : List ColumnDef) (n : ℕ) (done : Row) → AreRead fields columns n done rest → length columns ≤ n → row_of 1 columns fields ≡ Ok done
AreRead-end fields rest columns n done r h = r ∙ ap (prepended done) (read_at_end rest columns n (n + 1) h) ∙ ap (λ (x : Row). Ok x) (append-nil done)

-- the streams before are not of that name
pub named-past : (streams : List StreamDef) (i n : ℕ) (name : List ℕ) (s : StreamDef) → i < length streams → s ≡ get_or streams i s → same_text s.name name ≡ false →
    named n (drop i streams) name ≡ named (n + 1) (drop (i + 1) streams) name
unfolding named
named-past [] i n name s h e f = absurd (omega arith)
named-past (x ∷ xs) zero n name s h e f = let z : n + 1 ≡ suc n = omega arith in rw (z, ← e, f) refl
named-past (x ∷ xs) (suc i) n name s h e f = let z : suc i + 1 ≡ suc (i + 1) = omega arith in rw z (named-past xs i n name s (omega arith) e f)

pub named-here : (streams : List StreamDef) (i n : ℕ) (name : List ℕ) (s : StreamDef) → i < length streams → s ≡ get_or streams i s → same_text s.name name ≡ true →
    named n (drop i streams) name ≡ Some (n, s)
unfolding named
named-here [] i n name s h e t = absurd (omega arith)
named-here (x ∷ xs) zero n name s h e t = rw (← e, t) refl
named-here (x ∷ xs) (suc i) n name s h e t = named-here xs i n name s (omega arith) e t

pub named-end : (streams : List StreamDef) (i n : ℕ) (name : List ℕ) → length streams ≤ i → named n (drop i streams) name ≡ None
unfolding named
named-end [] zero n name h = refl
named-end [] (suc i) n name h = refl
named-end (x ∷ xs) zero n name h = absurd (omega arith)
named-end (x ∷ xs) (suc i) n name h = named-end xs i n name (omega arith)
