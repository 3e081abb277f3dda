-- Cells are got back from the row that they stand for, in a table without a text twice.
use Rattle.std.specs.Prelude.{◌≡◌, ℕ, ◌<◌, List, [], ◌∷◌, length, refl}
use Rattle.std.specs.Str.{bytes_eq}
use Rattle.std.specs.List.{position_or_len}
use Rattle.std.proofs.Common.{sym, ap, arith, get_or}
use Rattle.std.proofs.lemmas.Bool.{false_from_ne_true}
use Rattle.std.proofs.lemmas.List.Sums.{position_or_len_is}
use Rattle.std.proofs.lemmas.Slice.Eq.{bytes_eq-Decides}
use Rattle.tw_rows.specs.declared.cells.Datum.{Datum}
use Rattle.tw_rows.specs.declared.cells.Datum.TheVariants.{Int as IntDatum, Bool as FlagDatum, Text as PlaceDatum}
use Rattle.tw_rows.specs.Cells.{IsPlaced, ArePlaced, read_datum, read_cells}
use Rattle.plan_laws.specs.Places.{AreDistinct}
use Rattle.plan_laws.specs.RowCells.{datum_of, cells_of}

-- the place of a text of a distinct table is where it stands
place_again : (texts : List (List ℕ)) → AreDistinct texts → (i : ℕ) → i < length texts → position_or_len (bytes_eq (get_or texts i [])) texts ≡ i
place_again texts apart i low =
    position_or_len_is (bytes_eq (get_or texts i [])) texts i [] (omega (arith, low))
    (λ k before. false_from_ne_true (bytes_eq (get_or texts i []) (get_or texts k [])) (λ same. apart k i [] before low (sym ((bytes_eq-Decides (get_or texts i []) (get_or texts k [])).0 same))))
    (λ inside. (bytes_eq-Decides (get_or texts i []) (get_or texts i [])).1 refl)

datum_again : (texts : List (List ℕ)) → AreDistinct texts → (d : Datum) → IsPlaced texts d → datum_of texts (read_datum texts d) ≡ d
datum_again texts apart (IntDatum x) h = refl
datum_again texts apart (FlagDatum x) h = refl
datum_again texts apart (PlaceDatum x) h = ap PlaceDatum (place_again texts apart x h)

-- cells that were read are got back
pub cells_again : (texts : List (List ℕ)) → AreDistinct texts → (ds : List Datum) → ArePlaced texts ds → cells_of texts (read_cells texts ds) ≡ ds
cells_again texts apart [] h = refl
cells_again texts apart (d ∷ ds) h = let x = datum_again texts apart d h.0 in let y = cells_again texts apart ds h.1 in λ i. x i ∷ y i
