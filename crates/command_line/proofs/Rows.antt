-- Rows of which each has one value that passes, and the row of an option among them.
use Rattle.std.proofs.Common.{◌≡◌, ◌∙◌, ◌&&◌, ◌||◌, Bool, cond, true, false, not, suc, refl, sym, ap, ap₂, arith, true≢false, append-nil, List, [], ◌∷◌, ◌++◌, length, nat_le, Some, None, option_map}
use Rattle.std.specs.Prelude.{option_and_then, slice_get}
use Rattle.std.specs.List.{find}
use Rattle.std.specs.Option.{option_map_or}
use Rattle.std.specs.Str.{bytes_eq}
use Rattle.std.proofs.lemmas.Bool.Decides.{nat_tests}
use Rattle.std.proofs.lemmas.Slice.Eq.{bytes_eq-Decides}
use Rattle.clap.specs.Facts.{explicit_source}
use Rattle.clap.specs.Values.{read_as}
use Rattle.clap.specs.Walk.{Row, Rule, Text, at_row, default_rows, first_of, has_row, one_of, reading_by, row_text, used_as, values_or_missing, with_default, with_values, without}
use Rattle.clap.specs.Takes.{is_given, set_passes, value_passes}
use Rattle.clap.specs.declared.builder.action.ArgAction.TheVariants.{Set}
use Rattle.clap.specs.declared.parser.matches.ValueSource.{ValueSource}
use Rattle.clap.specs.declared.parser.matches.ValueSource.TheVariants.{CommandLine, DefaultValue}
use Rattle.clap.specs.declared.builder.value_parser.Reading.{Reading}
use Rattle.clap.specs.declared.builder.value_parser.Reading.TheVariants as reading
use Rattle.clap.proofs.WalkLemmas.{both}
use Rattle.command_line.proofs.Kept.{IsIn}

-- ---- where a row stands

pub no_row_left : (id : Text) (change : Row → List Row) (missing rows : List Row) → has_row id rows ≡ false → at_row id change missing rows ≡ rows ++ missing
no_row_left id change missing [] e = refl
no_row_left id change missing (r ∷ rows) e = go (bytes_eq r.id id) (no_row_left id change missing rows) e
  where
    go : (b : Bool) → (has_row id rows ≡ false → at_row id change missing rows ≡ rows ++ missing) → (b || has_row id rows) ≡ false
        → cond b (change r ++ rows) (r ∷ at_row id change missing rows) ≡ r ∷ (rows ++ missing)
    go true rec x = absurd (true≢false x)
    go false rec x = ap (λ t. r ∷ t) (rec x)

-- no row of an id is found where there is none
pub none_found : (id : Text) (rows : List Row) → has_row id rows ≡ false → find (λ r. bytes_eq r.id id) rows ≡ None
none_found id [] e = refl
none_found id (r ∷ rows) e = go (bytes_eq r.id id) (none_found id rows) e
  where
    go : (b : Bool) → (has_row id rows ≡ false → find (λ r. bytes_eq r.id id) rows ≡ None) → (b || has_row id rows) ≡ false → cond b (Some r) (find (λ r. bytes_eq r.id id) rows) ≡ None
    go true rec x = absurd (true≢false x)
    go false rec x = rec x

new_row : Text → Reading → ValueSource → List Text → Row
new_row id how s values = record { id = id; values = values; count = None; source = Some s; reading = how }

has_more : (id : Text) (rows more : List Row) → has_row id rows ≡ true → has_row id (rows ++ more) ≡ true
has_more id [] more e = absurd (true≢false (sym e))
has_more id (r ∷ rows) more e = go (bytes_eq r.id id) (has_more id rows more) e
  where
    go : (b : Bool) → (has_row id rows ≡ true → has_row id (rows ++ more) ≡ true) → (b || has_row id rows) ≡ true → (b || has_row id (rows ++ more)) ≡ true
    go true rec x = refl
    go false rec x = rec x

has_last : (id : Text) (rows : List Row) (r : Row) → bytes_eq r.id id ≡ true → has_row id (rows ++ r ∷ []) ≡ true
has_last id [] r e = rw e refl
has_last id (x ∷ rows) r e = go (bytes_eq x.id id) (has_last id rows r e)
  where
    go : (b : Bool) → has_row id (rows ++ r ∷ []) ≡ true → (b || has_row id (rows ++ r ∷ [])) ≡ true
    go true rec = refl
    go false rec = rec

pub given_has : (id : Text) (rows : List Row) → is_given id rows ≡ true → has_row id rows ≡ true
given_has id [] e = absurd (true≢false (sym e))
given_has id (r ∷ rows) e = go (bytes_eq r.id id) (given_has id rows) e
  where
    go : (b : Bool) → (is_given id rows ≡ true → has_row id rows ≡ true)
        → option_map_or (λ (x : Row). explicit_source x.source) (cond b (Some r) (find (λ x. bytes_eq x.id id) rows)) false ≡ true → (b || has_row id rows) ≡ true
    go true rec x = refl
    go false rec x = rec x

-- ---- rows that fit their rules

module _ (c : List Rule) where
  -- the row is of one of the rules, and has one value, which passes
  pub record Fits (r : Row) : Type 0 where
    pub rule : Rule
    pub of : IsIn rule c
    pub id : r.id ≡ rule.id
    pub reading : r.reading ≡ reading_by rule
    pub text : Text
    pub values : r.values ≡ text ∷ []
    pub passes : value_passes rule text ≡ true

  abbrev pub AllFit : List Row → Type 0
  AllFit [] = Unit {0}
  AllFit (r ∷ rows) = Fits r × AllFit rows

  one_more : (rows : List Row) (r : Row) → AllFit rows → Fits r → AllFit (rows ++ r ∷ [])
  one_more [] r k f = (f, tt)
  one_more (x ∷ rows) r k f = (k.0, one_more rows r k.1 f)

  new_fits : (a : Rule) → IsIn a c → (s : ValueSource) (v : Text) → value_passes a v ≡ true → Fits (record { id = a.id; values = v ∷ []; count = None; source = Some s; reading = reading_by a })
  new_fits a of s v p = record { rule = a; of = of; id = refl; reading = refl; text = v; values = refl; passes = p }

  -- a value of an option that has none yet
  pub fresh_value : (a : Rule) → IsIn a c → (s : ValueSource) (v : Text) (rows : List Row) → has_row a.id rows ≡ false → value_passes a v ≡ true
      → AllFit rows → AllFit (with_values a.id (reading_by a) s (v ∷ []) rows)
  fresh_value a of s v rows none p k = rw (no_row_left a.id _ _ rows none) (one_more rows _ k (new_fits a of s v p))

  pub first_use : (a : Rule) → IsIn a c → (v : Text) (rows : List Row) → (not (has_row a.id rows) || false) ≡ true → value_passes a v ≡ true
      → AllFit rows → AllFit (with_values a.id (reading_by a) CommandLine (v ∷ []) (without a.id rows))
  first_use a of v rows e p k =
      let none : has_row a.id rows ≡ false = is_false (has_row a.id rows) e in
      rw (no_row_left a.id (λ _. []) [] rows none, append-nil rows) (fresh_value a of CommandLine v rows none p k)
    where
      is_false : (b : Bool) → (not b || false) ≡ true → b ≡ false
      is_false true x = absurd (true≢false (sym x))
      is_false false x = refl

  -- a use of an option with one value, which may stand once
  pub set_use : (a : Rule) → IsIn a c → (vs : List Text) (rows : List Row)
      → (nat_le 1 (length vs) && (nat_le (length vs) 1 && set_passes false a (values_or_missing a vs) rows)) ≡ true
      → AllFit rows → AllFit (used_as Set a.id (reading_by a) (values_or_missing a vs) rows)
  set_use a of [] rows e k = absurd (true≢false (sym e))
  set_use a of (v ∷ []) rows e k =
      let parts = both (not (has_row a.id rows) || false) (value_passes a v && true) e in
      first_use a of v rows parts.0 (both (value_passes a v) true parts.1).0 k
  set_use a of (v ∷ w ∷ vs) rows e k =
      let least = both (nat_le 1 (length (v ∷ w ∷ vs))) _ e in
      let most = both (nat_le (length (v ∷ w ∷ vs)) 1) _ least.1 in
      absurd (too_many vs most.0)
    where
      too_many : (vs : List Text) → nat_le (suc (suc (length vs))) 1 ≡ true → ⊥
      too_many vs e = grind (arith, nat_tests)

  -- a use of a flag
  pub flag_use : (a : Rule) → IsIn a c → (v : Text) → a.missing ≡ v ∷ [] → value_passes a v ≡ true → (vs : List Text) (rows : List Row)
      → (nat_le 0 (length vs) && (nat_le (length vs) 0 && set_passes false a (values_or_missing a vs) rows)) ≡ true
      → AllFit rows → AllFit (used_as Set a.id (reading_by a) (values_or_missing a vs) rows)
  flag_use a of v missing p [] rows e k =
      let parts = both (not (has_row a.id rows) || false) _ e in
      rw missing (first_use a of v rows parts.0 p k)
  flag_use a of v missing p (w ∷ vs) rows e k =
      let least = both (nat_le 0 (length (w ∷ vs))) _ e in
      let most = both (nat_le (length (w ∷ vs)) 0) _ least.1 in
      absurd (too_many vs most.0)
    where
      too_many : (vs : List Text) → nat_le (suc (length vs)) 0 ≡ true → ⊥
      too_many vs e = grind (arith, nat_tests)

  -- a default
  pub default_fits : (a : Rule) → IsIn a c → (v : Text) → a.defaults ≡ v ∷ [] → value_passes a v ≡ true → (rows : List Row) → AllFit rows → AllFit (with_default rows a)
  default_fits a of v default p rows k = rw default (go (has_row a.id rows) refl)
    where
      go : (b : Bool) → has_row a.id rows ≡ b → AllFit (cond b rows (default_rows a.id (reading_by a) (v ∷ []) rows))
      go true e = k
      go false e = fresh_value a of DefaultValue v rows e p k

-- ---- an option that has a default has a row

pub default_has : (a : Rule) (v : Text) → a.defaults ≡ v ∷ [] → bytes_eq a.id a.id ≡ true → (rows : List Row) → has_row a.id (with_default rows a) ≡ true
default_has a v default same rows = rw default (go (has_row a.id rows) refl)
  where
    go : (b : Bool) → has_row a.id rows ≡ b → has_row a.id (cond b rows (default_rows a.id (reading_by a) (v ∷ []) rows)) ≡ true
    go true e = e
    go false e = rw (no_row_left a.id _ _ rows e) (has_last a.id rows _ same)

pub default_keeps_row : (id : Text) (a : Rule) (rows : List Row) → has_row id rows ≡ true → has_row id (with_default rows a) ≡ true
default_keeps_row id a rows h = go (has_row a.id rows) refl a.defaults
  where
    go : (b : Bool) → has_row a.id rows ≡ b → (vs : List Text) → has_row id (cond b rows (default_rows a.id (reading_by a) vs rows)) ≡ true
    go true e vs = h
    go false e [] = h
    go false e (v ∷ vs) = rw (no_row_left a.id _ _ rows e) (has_more id rows _ h)

pub no_default : (a : Rule) → a.defaults ≡ [] → (rows : List Row) → with_default rows a ≡ rows
no_default a none rows = rw none (go (has_row a.id rows))
  where
    go : (b : Bool) → cond b rows rows ≡ rows
    go true = refl
    go false = refl

-- ---- the row of an id

-- the row of an id, and that it fits
pub record Found (c : List Rule) (id : Text) (rows : List Row) : Type 0 where
  pub row : Row
  pub found : find (λ r. bytes_eq r.id id) rows ≡ Some row
  pub is : row.id ≡ id
  pub fits : Fits c row

pub row_found : (c : List Rule) (id : Text) (rows : List Row) → AllFit c rows → has_row id rows ≡ true → Found c id rows
row_found c id [] k h = absurd (true≢false (sym h))
row_found c id (r ∷ rows) k h = go (bytes_eq r.id id) refl (row_found c id rows k.1)
  where
    go : (b : Bool) → bytes_eq r.id id ≡ b → (has_row id rows ≡ true → Found c id rows) → Found c id (r ∷ rows)
    go true e rec = record { row = r; found = rw e refl; is = (bytes_eq-Decides r.id id).0 e; fits = k.0 }
    go false e rec =
        let f = rec (rw e at h) in
        record { row = f.row; found = rw e f.found; is = f.is; fits = f.fits }

-- the value of an id, as it is written and as it is read
pub record Reads (a : Rule) (id : Text) (rows : List Row) : Type 0 where
  pub text : Text
  pub first : first_of id rows ≡ Some text
  pub one : one_of id rows ≡ Some text
  pub passes : value_passes a text ≡ true

pub reads_of : (c : List Rule) (a : Rule) (id : Text) (rows : List Row) → ((x : Rule) → IsIn x c → x.id ≡ id → x ≡ a) → reading_by a ≡ reading.AsWritten
    → Found c id rows → Reads a id rows
reads_of c a id rows only plain f =
    let r = f.row in
    let is : f.fits.rule ≡ a = only f.fits.rule f.fits.of (sym f.fits.id ∙ f.is) in
    let how : r.reading ≡ reading.AsWritten = f.fits.reading ∙ ap reading_by is ∙ plain in
    record {
      text = f.fits.text;
      first = ap (option_and_then (λ (x : Row). slice_get x.values 0)) f.found ∙ ap (λ (vs : List Text). slice_get vs 0) f.fits.values;
      one = ap (option_and_then row_text) f.found ∙ ap₂ (λ (h : Reading) (vs : List Text). option_map (read_as h) (slice_get vs 0)) how f.fits.values;
      passes = ap (λ (x : Rule). value_passes x f.fits.text) (sym is) ∙ f.fits.passes;
    }
