use Rattle.std.proofs.Common.{◌≡◌, ℕ, Bool, true, false, List, [], take, drop, refl, sym}
use Rattle.std.specs.Prelude.{not}
use Rattle.std.specs.List.{list_all}
use Rattle.batch.specs.Rows.{Row, edges_of}
use Rattle.edge_history.specs.Order.{is_below, is_from}
use Rattle.edge_stream.proofs.Fronts.{some_high}
use Rattle.edge_stream.proofs.Gone.{all_low}
use Rattle.edge_stream.proofs.rest.is_passed.Goals as goal

-- whether an edge is left tells whether not all come before the time
passed : (t k : ℕ) (rows : List Row) (rest : Bool) → (rest ≡ true → edges_of (drop k rows) ≡ [] → ⊥) → (rest ≡ false → edges_of (drop k rows) ≡ []) →
    list_all (is_below t) (edges_of (take k rows)) ≡ true → list_all (is_from t) (edges_of (drop k rows)) ≡ true → not rest ≡ list_all (is_below t) (edges_of rows)
passed t k rows true some none low high = sym (some_high t k rows high (some refl))
passed t k rows false some none low high = sym (all_low t k rows low (none refl))

pub returns : goal.returns
returns c = λ rises.
    passed c.args.t c.row_from.result c.args.batch.now.rows c.has_rest.result c.has_rest.ensures.some c.has_rest.ensures.none (c.row_from.ensures.below rises) (c.row_from.ensures.from rises)
