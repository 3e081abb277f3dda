-- What cells stand for while the table of texts grows.
use Rattle.std.specs.Prelude.{◌≡◌, ℕ, ◌+◌, ◌<◌, List, [], ◌∷◌, ◌++◌, length, take, refl}
use Rattle.std.proofs.Common.{sym, ◌∙◌, ap, subst, arith, get_or}
use Rattle.std.proofs.lemmas.List.{length-append, get_or_append_left, map-append, take_more}
use Rattle.std.proofs.lemmas.List.Sums.{fold_push}
use Rattle.tw_rows.specs.declared.row.Value.{Value}
use Rattle.tw_rows.specs.declared.row.Value.TheVariants.{Int as IntValue, Bool as FlagValue, Text as TextValue}
use Rattle.tw_rows.specs.declared.cells.Datum.{Datum}
use Rattle.tw_rows.specs.declared.cells.Datum.TheVariants.{Int, Bool as Flag, Text}
use Rattle.tw_rows.specs.Rows.{Row}
use Rattle.tw_rows.specs.Texts.{BeginsWith}
use Rattle.tw_rows.specs.Kinds.{value_kind, cell_kind_of}
use Rattle.tw_rows.specs.Cells.{datum_kind, IsPlaced, ArePlaced, read_datum, read_cells, with_value, with_row}
use Rattle.tw_rows.proofs.TextTables.{BeginsWith-refl, BeginsWith-trans, BeginsWith-interned}

-- a datum keeps its place and its value where texts come after those of the table
pub IsPlaced-append : (texts more : List (List ℕ)) (d : Datum) → IsPlaced texts d → IsPlaced (texts ++ more) d
IsPlaced-append texts more (Int x) h = h
IsPlaced-append texts more (Flag b) h = h
IsPlaced-append texts more (Text id) h = let n = length-append texts more in omega (arith, h, n)

pub read_datum-append : (texts more : List (List ℕ)) (d : Datum) → IsPlaced texts d → read_datum (texts ++ more) d ≡ read_datum texts d
read_datum-append texts more (Int x) h = refl
read_datum-append texts more (Flag b) h = refl
read_datum-append texts more (Text id) h = ap TextValue (get_or_append_left texts more [] id h)

pub ArePlaced-append : (texts more : List (List ℕ)) (ds : List Datum) → ArePlaced texts ds → ArePlaced (texts ++ more) ds
ArePlaced-append texts more [] h = h
ArePlaced-append texts more (d ∷ ds) h = (IsPlaced-append texts more d h.0, ArePlaced-append texts more ds h.1)

pub read_cells-append : (texts more : List (List ℕ)) (ds : List Datum) → ArePlaced texts ds → read_cells (texts ++ more) ds ≡ read_cells texts ds
read_cells-append texts more [] h = refl
read_cells-append texts more (d ∷ ds) h = λ i. read_datum-append texts more d h.0 i ∷ read_cells-append texts more ds h.1 i

-- the same through a table that begins with this one
pub ArePlaced-begins : (new old : List (List ℕ)) (ds : List Datum) → BeginsWith new old → ArePlaced old ds → ArePlaced new ds
ArePlaced-begins new old ds b h = subst (λ t. ArePlaced t ds) (sym b.1) (ArePlaced-append old b.0 ds h)

pub read_cells-begins : (new old : List (List ℕ)) (ds : List Datum) → BeginsWith new old → ArePlaced old ds → read_cells new ds ≡ read_cells old ds
read_cells-begins new old ds b h = ap (λ t. read_cells t ds) b.1 ∙ read_cells-append old b.0 ds h

pub ArePlaced-push : (texts : List (List ℕ)) (ds : List Datum) (d : Datum) → ArePlaced texts ds → IsPlaced texts d → ArePlaced texts (ds ++ d ∷ [])
ArePlaced-push texts [] d h k = (k, tt)
ArePlaced-push texts (x ∷ xs) d h k = (h.0, ArePlaced-push texts xs d h.1 k)

-- the table grows at its end alone
pub BeginsWith-with_value : (texts : List (List ℕ)) (v : Value) → BeginsWith (with_value texts v) texts
BeginsWith-with_value texts (IntValue x) = BeginsWith-refl texts
BeginsWith-with_value texts (FlagValue b) = BeginsWith-refl texts
BeginsWith-with_value texts (TextValue t) = BeginsWith-interned texts t

pub BeginsWith-with_row : (texts : List (List ℕ)) (row : Row) → BeginsWith (with_row texts row) texts
BeginsWith-with_row texts [] = BeginsWith-refl texts
BeginsWith-with_row texts (v ∷ vs) = BeginsWith-trans texts (with_value texts v) (with_row texts (v ∷ vs)) (BeginsWith-with_row (with_value texts v) vs) (BeginsWith-with_value texts v)

-- the first n values of a row are cells
pub record IsTaken (old : List (List ℕ)) (row : Row) (n : ℕ) (texts : List (List ℕ)) (cells : List Datum) : Type 0 where
  pub table : texts ≡ with_row old (take n row)
  pub read : read_cells texts cells ≡ take n row
  pub placed : ArePlaced texts cells

pub with_row-next : (old : List (List ℕ)) (row : Row) (n : ℕ) (texts new : List (List ℕ)) (v : Value) → texts ≡ with_row old (take n row) → n < length row → v ≡ get_or row n v → new ≡ with_value texts v → new ≡ with_row old (take (n + 1) row)
with_row-next old row n texts new v table low at grown =
    grown ∙ ap (λ t. with_value t v) table ∙ sym (fold_push with_value old (take n row) v)
    ∙ ap (λ x. with_row old (take n row ++ x ∷ [])) at ∙ ap (with_row old) (sym (take_more row n v low))

pub IsTaken-next : (old : List (List ℕ)) (row : Row) (n : ℕ) (texts new : List (List ℕ)) (cells : List Datum) (v : Value) (d : Datum) → IsTaken old row n texts cells → n < length row → v ≡ get_or row n v → new ≡ with_value texts v → read_datum new d ≡ v → IsPlaced new d → IsTaken old row (n + 1) new (cells ++ d ∷ [])
IsTaken-next old row n texts new cells v d h low at grown is here =
    let begins : BeginsWith new texts = subst (λ t. BeginsWith t texts) (sym grown) (BeginsWith-with_value texts v) in
    record {
      table = with_row-next old row n texts new v h.table low at grown;
      read = map-append (read_datum new) cells (d ∷ []) ∙ ap (λ r. r ++ read_datum new d ∷ []) (read_cells-begins new texts cells begins h.placed ∙ h.read)
          ∙ ap (λ x. take n row ++ x ∷ []) (is ∙ at) ∙ sym (take_more row n v low);
      placed = ArePlaced-push new cells d (ArePlaced-begins new texts cells begins h.placed) here;
    }

-- a datum is stored as values of its kind are
pub datum_kind-read : (texts : List (List ℕ)) (d : Datum) → datum_kind d ≡ cell_kind_of (value_kind (read_datum texts d))
datum_kind-read texts (Int x) = refl
datum_kind-read texts (Flag b) = refl
datum_kind-read texts (Text id) = refl
