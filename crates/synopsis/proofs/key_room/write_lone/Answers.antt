use Rattle.std.proofs.Common.{◌≡◌, ℕ, List, [], ◌∷◌, length, slice_index_or, slice_set, refl, arith}
use Rattle.tw_rows.specs.declared.cells.Datum.{Datum}
use Rattle.synopsis.specs.Held.{key_of, cell_or_zero}
use Rattle.synopsis.proofs.key_room.write_lone.Goals as goal

one_over_one : (values : List Datum) (columns : List ℕ) (cells : List Datum) → length values ≡ 1 → length columns ≡ 1 →
    slice_set values 0 (cell_or_zero cells (slice_index_or columns 0 0)) ≡ key_of columns cells
one_over_one (v ∷ []) (k ∷ []) cells a b = refl
one_over_one [] columns cells a b = absurd (cc)
one_over_one (u ∷ v ∷ values) columns cells a b = absurd (omega (arith, a))
one_over_one (v ∷ []) [] cells a b = absurd (cc)
one_over_one (v ∷ []) (j ∷ k ∷ columns) cells a b = absurd (omega (arith, b))

pub returns : goal.returns
returns c = λ _. one_over_one c.args.values.now c.args.columns.now c.args.cells.now c.if-values-ne1.false c.if-columns-ne1.false
