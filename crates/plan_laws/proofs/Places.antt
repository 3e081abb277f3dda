-- Reading by a table of distinct texts: it is a reading of all data, on places of the table.
use Rattle.std.specs.Prelude.{◌≡◌, ℕ, zero, suc, ◌+◌, ◌<◌, ◌≤◌, nat_lt, Bool, true, false, cond, List, [], ◌∷◌, map, length, replicate, slice_index_or, refl}
use Rattle.std.specs.Bool.{Decides}
use Rattle.std.proofs.Common.{sym, ◌∙◌, ap, arith, get_or, inl, inr}
use Rattle.std.proofs.lemmas.List.{length-replicate}
use Rattle.std.proofs.lemmas.List.Elements.{All-cons, All-head, All-tail, All-nil}
use Rattle.std.proofs.lemmas.Bool.{cases_lt, lt-ltb, le-ltb}
use Rattle.std.proofs.lemmas.Bool.Decides.{nat_tests}
use Rattle.tw_rows.specs.Bag.{total}
use Rattle.tw_rows.specs.declared.row.Value.{Value}
use Rattle.tw_rows.specs.declared.row.Value.TheVariants.{Text}
use Rattle.tw_rows.specs.declared.cells.Datum.{Datum}
use Rattle.tw_rows.specs.declared.cells.Datum.TheVariants.{Int as IntDatum, Bool as FlagDatum, Text as PlaceDatum}
use Rattle.tw_rows.specs.Cells.{IsPlaced, ArePlaced, read_datum, read_cells}
use Rattle.plan_model.specs.declared.node.Node.{Node}
use Rattle.plan_model.specs.Keys.{rows_equal}
use Rattle.plan_model.specs.Meaning.{node_events}
use Rattle.plan_model.proofs.InOrder.{rows_equal_tells}
use Rattle.tw_rows.specs.SameCells.{same_cells}
use Rattle.edge_history.specs.History.{CellEvent}
use Rattle.tw_rows.specs.SameCells.{same_cells-Decides}
use Rattle.plan_model.specs.Nodes.{event_to, events_to, node_in}
use Rattle.plan_model.specs.Keys.{value_ops}
use Rattle.plan_model.specs.CellOps.{cell_ops, datum_int}
use Rattle.plan_laws.specs.Readings.{has_expressions, IsReading, value_by, AreApart}
use Rattle.plan_laws.specs.Places.{AreDistinct, read_events, EventsArePlaced}
use Rattle.plan_laws.proofs.Reading.{node_read}
use Rattle.plan_laws.specs.CellTests.{CellTest, CellSelect}

-- a text for each place: those of the table at their places, and for each place past it a text longer than any of the table,
-- another one for each
abbrev wide_text : List (List ℕ) → ℕ → List ℕ
wide_text texts id = cond (nat_lt id (length texts)) (slice_index_or texts id []) (replicate (suc (total length texts + id)) 0)

abbrev pub read_wide : List (List ℕ) → Datum → Value
read_wide texts d = value_by (wide_text texts) d

-- each place from n on one further, and none before it
abbrev shifted : ℕ → Datum → Datum
shifted n (IntDatum x) = IntDatum x
shifted n (FlagDatum b) = FlagDatum b
shifted n (PlaceDatum id) = PlaceDatum (cond (nat_lt id n) id (suc id))

-- two tests that are true together are the same
pub same_tests : (a b : Bool) → (a ≡ true → b ≡ true) → (b ≡ true → a ≡ true) → a ≡ b
same_tests true true h k = refl
same_tests true false h k = sym (h refl)
same_tests false true h k = k refl
same_tests false false h k = refl

-- an injective map of elements is injective on rows
pub map_injective : {X Y : Type 0} (f : X → Y) → ((x y : X) → f x ≡ f y → x ≡ y) → (xs ys : List X) → map f xs ≡ map f ys → xs ≡ ys
map_injective f one [] [] h = refl
map_injective f one [] (y ∷ ys) h = absurd (cc)
map_injective f one (x ∷ xs) [] h = absurd (cc)
map_injective f one (x ∷ xs) (y ∷ ys) h =
    let a : f x ≡ f y = cc in
    let b : map f xs ≡ map f ys = cc in
    let c = one x y a in
    let d = map_injective f one xs ys b in
    λ i. c i ∷ d i

-- an injective map of elements that keeps ints is a reading
pub same_read : {X Y : Type 0} (f : X → Y) → ((x y : X) → f x ≡ f y → x ≡ y) → (same : List X → List X → Bool) (same' : List Y → List Y → Bool) →
    ((a b : List X) → Decides (same a b) (a ≡ b)) → ((a b : List Y) → Decides (same' a b) (a ≡ b)) → (a b : List X) → same' (map f a) (map f b) ≡ same a b
same_read f one same same' t t' a b =
    same_tests (same' (map f a) (map f b)) (same a b)
    (λ h. (t a b).1 (map_injective f one a b ((t' (map f a) (map f b)).0 h)))
    (λ h. (t' (map f a) (map f b)).1 (ap (map f) ((t a b).0 h)))

at_most_total : (texts : List (List ℕ)) (i : ℕ) → length (get_or texts i []) ≤ total length texts
at_most_total [] i = omega arith
at_most_total (t ∷ texts) zero = omega arith
at_most_total (t ∷ texts) (suc i) = let h = at_most_total texts i in omega (arith, h)

-- the texts of different numbers differ
wide_injective : (texts : List (List ℕ)) → AreDistinct texts → (i j : ℕ) → wide_text texts i ≡ wide_text texts j → i ≡ j
wide_injective texts apart i j h = elim (cases_lt i (length texts)) [
  | inl p ↦ elim (cases_lt j (length texts)) [
    | inl q ↦ (
        let e : get_or texts i [] ≡ get_or texts j [] = sym (within i p) ∙ (h ∙ within j q) in
        let a = λ (l : i < j). apart i j [] l q e in
        let b = λ (l : j < i). apart j i [] l p (sym e) in
        grind (arith, a, b))
    | inr q ↦ (
        let e : length (get_or texts i []) ≡ length (replicate (suc (total length texts + j)) 0) = ap length (sym (within i p) ∙ (h ∙ past j q)) in
        let m = at_most_total texts i in
        let n = length-replicate {A = ℕ} (suc (total length texts + j)) 0 in
        absurd (omega (arith, e, m, n)))
  ]
  | inr p ↦ elim (cases_lt j (length texts)) [
    | inl q ↦ (
        let e : length (replicate (suc (total length texts + i)) 0) ≡ length (get_or texts j []) = ap length (sym (past i p) ∙ (h ∙ within j q)) in
        let m = at_most_total texts j in
        let n = length-replicate {A = ℕ} (suc (total length texts + i)) 0 in
        absurd (omega (arith, e, m, n)))
    | inr q ↦ (
        let e : length (replicate (suc (total length texts + i)) 0) ≡ length (replicate (suc (total length texts + j)) 0) = ap length (sym (past i p) ∙ (h ∙ past j q)) in
        let m = length-replicate {A = ℕ} (suc (total length texts + j)) 0 in
        let n = length-replicate {A = ℕ} (suc (total length texts + i)) 0 in
        omega (arith, e, m, n))
  ]
]
  where
    within : (k : ℕ) → k < length texts → wide_text texts k ≡ get_or texts k []
    within k l = ap (λ b. cond b (get_or texts k []) (replicate (suc (total length texts + k)) 0)) (lt-ltb k (length texts) l)

    past : (k : ℕ) → length texts ≤ k → wide_text texts k ≡ replicate (suc (total length texts + k)) 0
    past k l = ap (λ b. cond b (get_or texts k []) (replicate (suc (total length texts + k)) 0)) (le-ltb k (length texts) l)

by_injective : (text : ℕ → List ℕ) → AreApart text → (x y : Datum) → value_by text x ≡ value_by text y → x ≡ y
by_injective text apart (IntDatum x) (IntDatum y) h = cc
by_injective text apart (IntDatum x) (FlagDatum y) h = absurd (cc)
by_injective text apart (IntDatum x) (PlaceDatum y) h = absurd (cc)
by_injective text apart (FlagDatum x) (IntDatum y) h = absurd (cc)
by_injective text apart (FlagDatum x) (FlagDatum y) h = cc
by_injective text apart (FlagDatum x) (PlaceDatum y) h = absurd (cc)
by_injective text apart (PlaceDatum x) (IntDatum y) h = absurd (cc)
by_injective text apart (PlaceDatum x) (FlagDatum y) h = absurd (cc)
by_injective text apart (PlaceDatum x) (PlaceDatum y) h = let e : text x ≡ text y = cc in ap PlaceDatum (apart x y e)

by_int : (text : ℕ → List ℕ) (d : Datum) → value_ops.int_of (value_by text d) ≡ datum_int d
by_int text (IntDatum x) = refl
by_int text (FlagDatum x) = refl
by_int text (PlaceDatum x) = refl

shifted_injective : (n : ℕ) (x y : Datum) → shifted n x ≡ shifted n y → x ≡ y
shifted_injective n (IntDatum x) (IntDatum y) h = cc
shifted_injective n (IntDatum x) (FlagDatum y) h = absurd (cc)
shifted_injective n (IntDatum x) (PlaceDatum y) h = absurd (cc)
shifted_injective n (FlagDatum x) (IntDatum y) h = absurd (cc)
shifted_injective n (FlagDatum x) (FlagDatum y) h = cc
shifted_injective n (FlagDatum x) (PlaceDatum y) h = absurd (cc)
shifted_injective n (PlaceDatum x) (IntDatum y) h = absurd (cc)
shifted_injective n (PlaceDatum x) (FlagDatum y) h = absurd (cc)
shifted_injective n (PlaceDatum x) (PlaceDatum y) h = let e : cond (nat_lt x n) x (suc x) ≡ cond (nat_lt y n) y (suc y) = cc in ap PlaceDatum (one x y e)
  where
    one : (x y : ℕ) → cond (nat_lt x n) x (suc x) ≡ cond (nat_lt y n) y (suc y) → x ≡ y
    one x y e = grind (arith, nat_tests)

shifted_int : (n : ℕ) (d : Datum) → datum_int (shifted n d) ≡ datum_int d
shifted_int n (IntDatum x) = refl
shifted_int n (FlagDatum x) = refl
shifted_int n (PlaceDatum x) = refl

module _ (test : CellTest) (select : CellSelect) where
  pub value_by_reads : (text : ℕ → List ℕ) → AreApart text → IsReading (value_by text) (cell_ops test select) value_ops
  value_by_reads text apart = record {
    zero = refl;
    same = same_read (value_by text) (by_injective text apart) same_cells rows_equal same_cells-Decides rows_equal_tells;
    int_of = by_int text;
    of_int = λ z. refl;
  }

  pub wide_reads : (texts : List (List ℕ)) → AreDistinct texts → IsReading (read_wide texts) (cell_ops test select) value_ops
  wide_reads texts apart = value_by_reads (wide_text texts) (wide_injective texts apart)

  pub shifted_reads : (n : ℕ) → IsReading (shifted n) (cell_ops test select) (cell_ops test select)
  shifted_reads n = record {
    zero = refl;
    same = same_read (shifted n) (shifted_injective n) same_cells same_cells same_cells-Decides same_cells-Decides;
    int_of = shifted_int n;
    of_int = λ z. refl;
  }

-- on places of the table both readings are the same, and the move moves nothing
pub datum_wide : (texts : List (List ℕ)) (d : Datum) → IsPlaced texts d → read_wide texts d ≡ read_datum texts d
datum_wide texts (IntDatum x) h = refl
datum_wide texts (FlagDatum x) h = refl
datum_wide texts (PlaceDatum x) h = ap (λ b. Text (cond b (get_or texts x []) (replicate (suc (total length texts + x)) 0))) (lt-ltb x (length texts) h)

pub cells_wide : (texts : List (List ℕ)) (ds : List Datum) → ArePlaced texts ds → map (read_wide texts) ds ≡ read_cells texts ds
cells_wide texts [] h = refl
cells_wide texts (d ∷ ds) h = let a = datum_wide texts d h.0 in let b = cells_wide texts ds h.1 in λ i. a i ∷ b i

pub events_wide : (texts : List (List ℕ)) (es : List CellEvent) → EventsArePlaced texts es → events_to (map (read_wide texts)) es ≡ read_events texts es
events_wide texts [] h = refl
events_wide texts (e ∷ es) h =
    let a = cells_wide texts e.row (All-head (λ e. ArePlaced texts e.row) e es h) in
    let b = events_wide texts es (All-tail (λ e. ArePlaced texts e.row) e es h) in
    λ i. record { row = a i; start = e.start; end = e.end } ∷ b i

datum_stays : (texts : List (List ℕ)) (d : Datum) → IsPlaced texts d → shifted (length texts) d ≡ d
datum_stays texts (IntDatum x) h = refl
datum_stays texts (FlagDatum x) h = refl
datum_stays texts (PlaceDatum x) h = ap (λ b. PlaceDatum (cond b x (suc x))) (lt-ltb x (length texts) h)

cells_stay : (texts : List (List ℕ)) (ds : List Datum) → ArePlaced texts ds → map (shifted (length texts)) ds ≡ ds
cells_stay texts [] h = refl
cells_stay texts (d ∷ ds) h = let a = datum_stays texts d h.0 in let b = cells_stay texts ds h.1 in λ i. a i ∷ b i

events_stay : (texts : List (List ℕ)) (es : List CellEvent) → EventsArePlaced texts es → events_to (map (shifted (length texts))) es ≡ es
events_stay texts [] h = refl
events_stay texts (e ∷ es) h =
    let a = cells_stay texts e.row (All-head (λ e. ArePlaced texts e.row) e es h) in
    let b = events_stay texts es (All-tail (λ e. ArePlaced texts e.row) e es h) in
    λ i. record { row = a i; start = e.start; end = e.end } ∷ b i

-- what does not move has its place
datum_placed : (texts : List (List ℕ)) (d : Datum) → shifted (length texts) d ≡ d → IsPlaced texts d
datum_placed texts (IntDatum x) h = tt
datum_placed texts (FlagDatum x) h = tt
datum_placed texts (PlaceDatum x) h = let e : cond (nat_lt x (length texts)) x (suc x) ≡ x = cc in one x (length texts) e
  where
    one : (x n : ℕ) → cond (nat_lt x n) x (suc x) ≡ x → x < n
    one x n e = grind (arith, nat_tests)

cells_placed : (texts : List (List ℕ)) (ds : List Datum) → map (shifted (length texts)) ds ≡ ds → ArePlaced texts ds
cells_placed texts [] h = tt
cells_placed texts (d ∷ ds) h =
    let a : shifted (length texts) d ≡ d = cc in
    let b : map (shifted (length texts)) ds ≡ ds = cc in
    (datum_placed texts d a, cells_placed texts ds b)

events_placed : (texts : List (List ℕ)) (es : List CellEvent) → events_to (map (shifted (length texts))) es ≡ es → EventsArePlaced texts es
events_placed texts [] h = All-nil (λ e. ArePlaced texts e.row)
events_placed texts (e ∷ es) h =
    let a : event_to (map (shifted (length texts))) e ≡ e = cc in
    let b : events_to (map (shifted (length texts))) es ≡ es = cc in
    All-cons (λ e. ArePlaced texts e.row) e es (cells_placed texts e.row (ap (λ x. x.row) a)) (events_placed texts es b)

module _ (test : CellTest) (select : CellSelect) where
  -- a node of placed events has placed events
  pub node_placed : (texts : List (List ℕ)) (n : Node) (a b : List CellEvent) → has_expressions n ≡ false → EventsArePlaced texts a → EventsArePlaced texts b →
      EventsArePlaced texts (node_in (cell_ops test select) n a b)
  node_placed texts n a b by ha hb =
      let m : List Datum → List Datum = map (shifted (length texts)) in
      let law = node_read (shifted (length texts)) (cell_ops test select) (cell_ops test select) (shifted_reads test select (length texts)) n a b by in
      events_placed texts (node_in (cell_ops test select) n a b)
      (sym law ∙ (ap (λ x. node_in (cell_ops test select) n x (events_to m b)) (events_stay texts a ha) ∙ ap (node_in (cell_ops test select) n a) (events_stay texts b hb)))

  -- the place law, through a table of distinct texts, where all texts have their places
  pub place_law : (texts : List (List ℕ)) → AreDistinct texts → (n : Node) (a b : List CellEvent) → has_expressions n ≡ false → EventsArePlaced texts a → EventsArePlaced texts b →
      node_events n (read_events texts a) (read_events texts b) ≡ read_events texts (node_in (cell_ops test select) n a b)
  place_law texts apart n a b by ha hb =
      ap (λ x. node_in value_ops n x (read_events texts b)) (sym (events_wide texts a ha))
      ∙ (ap (node_in value_ops n (events_to (map (read_wide texts)) a)) (sym (events_wide texts b hb))
      ∙ (node_read (read_wide texts) (cell_ops test select) value_ops (wide_reads test select texts apart) n a b by
      ∙ events_wide texts (node_in (cell_ops test select) n a b) (node_placed texts n a b by ha hb)))
