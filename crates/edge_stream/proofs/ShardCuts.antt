-- The hash of a key, column by column, and the edges of a shard, edge by edge.
use Rattle.std.proofs.Common.{◌≡◌, ◌<◌, ℕ, ◌+◌, Bool, true, false, List, [], ◌∷◌, ◌++◌, map, length, take, get_or, refl, ap, sym, ◌∙◌}
use Rattle.std.specs.Prelude.{Some, fold, filter, slice_get, pos}
use Rattle.std.specs.Option.{option_map}
use Rattle.std.proofs.lemmas.List.{take_more, map-append}
use Rattle.std.proofs.lemmas.List.Sums.{fold-append}
use Rattle.std.proofs.lemmas.List.Elements.{All-filter}
use Rattle.std.proofs.lemmas.Option.{slice_get-map}
use Rattle.tw_rows.specs.Words.{word_of, mixed}
use Rattle.tw_rows.specs.declared.cells.Datum.{Datum}
use Rattle.tw_rows.specs.declared.cells.Datum.TheVariants.{Int}
use Rattle.tw_rows.specs.declared.edge.Edge.{Edge}
use Rattle.batch.specs.Rows.{Row, cell_column}
use Rattle.edge_history.specs.Order.{IsReal, KeepsOrder}
use Rattle.edge_history.proofs.Standing.{rises_filter}
use Rattle.edge_stream.specs.Shards.{key_cells, hash_of_key}

-- the cell of a row, read from its column
pub cell_is : (rows : List Row) (row column : ℕ) (d : Datum) (column_cells : List Datum) (r : Row) → column_cells ≡ cell_column rows column → slice_get column_cells row ≡ Some d →
    slice_get rows row ≡ Some r → d ≡ get_or r.cells column (Int (pos 0))
cell_is rows row column d column_cells r is at found =
    let cell : Row → Datum = λ q. get_or q.cells column (Int (pos 0)) in
    let there : slice_get (map cell rows) row ≡ option_map cell (Some r) = slice_get-map cell rows row ∙ ap (option_map cell) found in
    let both : Some d ≡ Some (cell r) = sym at ∙ ap (λ xs. slice_get xs row) is ∙ there in
    cc

-- one key column more is mixed in
pub hash_more : (key : List ℕ) (i : ℕ) (cells : List Datum) (hash word : ℕ) (d : Datum) → i < length key → hash ≡ hash_of_key (key_cells (take i key) cells) →
    word ≡ word_of d → d ≡ get_or cells (get_or key i 0) (Int (pos 0)) → mixed hash word ≡ hash_of_key (key_cells (take (i + 1) key) cells)
hash_more key i cells hash word d low before is at =
    let cell : ℕ → Datum = λ column. get_or cells column (Int (pos 0)) in
    let mix : ℕ → Datum → ℕ = λ h x. mixed h (word_of x) in
    let last = get_or key i 0 in
    (λ j. mixed (before j) (is j))
    ∙ ap (λ x. mix (hash_of_key (key_cells (take i key) cells)) x) at
    ∙ sym (fold-append mix 14695981039346656037 (map cell (take i key)) (cell last ∷ []))
    ∙ ap (fold mix 14695981039346656037) (sym (map-append cell (take i key) (last ∷ [])))
    ∙ ap (λ columns. hash_of_key (key_cells columns cells)) (sym (take_more key i 0 low))

module _ (p : Edge → Bool) where
  pub KeepsOrder-filter : (es : List Edge) → KeepsOrder es → KeepsOrder (filter p es)
  KeepsOrder-filter es h = record { rises = rises_filter p 0 es h.rises; real = All-filter p IsReal es h.real }

  filter-first : (e : Edge) (rest : List Edge) → p e ≡ true → filter p (e ∷ rest) ≡ e ∷ filter p rest
  filter-first e rest is = rw is refl

  filter-past : (e : Edge) (rest : List Edge) → p e ≡ false → filter p (e ∷ rest) ≡ filter p rest
  filter-past e rest is = rw is refl

  -- the next edge passes the test
  module _ (out es whole : List Edge) (e : Edge) (rest : List Edge) (is : es ≡ e ∷ rest) (left : out ++ filter p es ≡ filter p whole) where
    pub picked : p e ≡ true → out ++ e ∷ filter p rest ≡ filter p whole
    picked passes = ap (λ l. out ++ l) (sym (ap (filter p) is ∙ filter-first e rest passes)) ∙ left

    pub passed : p e ≡ false → out ++ filter p rest ≡ filter p whole
    passed fails = ap (λ l. out ++ l) (sym (ap (filter p) is ∙ filter-past e rest fails)) ∙ left
