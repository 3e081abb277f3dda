-- The rows that are kept in cells, read through the table.
use Rattle.std.specs.Prelude.{◌≡◌, ℕ, ◌<◌, ◌≤◌, ◌⊎◌, nat_eq, nat_lt, Bool, true, false, cond, All, List, [], ◌∷◌, ◌++◌, length, get_or, map, flat_map, refl}
use Rattle.std.proofs.Common.{sym, ◌∙◌, ap, subst, arith, inl, inr}
use Rattle.std.proofs.lemmas.Bool.{cases_lt, eqb-true}
use Rattle.std.proofs.lemmas.List.{map-append, length-map}
use Rattle.std.proofs.lemmas.List.Elements.{All-nil, All-cons, All-head, All-tail, All-append, All-weaker}
use Rattle.tw_rows.specs.Instant.{inf}
use Rattle.tw_rows.specs.Event.{AreEvents}
use Rattle.tw_rows.specs.Cells.{ArePlaced, read_cells}
use Rattle.tw_rows.specs.Texts.{BeginsWith}
use Rattle.tw_rows.specs.declared.edge.Edge.{Edge}
use Rattle.tw_rows.proofs.CellReads.{ArePlaced-begins, read_cells-begins}
use Rattle.edge_history.specs.History.{CellEvent}
use Rattle.edge_history.proofs.Retaining.{valid_from, AreEvents-from}
use Rattle.plan_laws.specs.Places.{read_event, read_events, EventsArePlaced}
use Rattle.plan_laws.specs.Standing.{StandsRead, SourcesStandRead}
use Rattle.plan_laws.proofs.Maps.{AreEvents-to}
use Rattle.plan_laws.proofs.Standing.{read_longer, stands_by, none_stand}
use Rattle.admission.specs.Admission.{Admission, open_event, rows}
use Rattle.ingress.specs.Keeping.{CellOpen, ended_row, row_of_open, cell_rows}
use Rattle.ingress.specs.Admits.{read_open, Follows, Admits}
use Rattle.ingress.specs.declared.ingress.Ingress.{Ingress}
use Rattle.ingress.proofs.Holding.{held_stands}

-- the rows of a stream have their places in the table
row_placed : (texts : List (List ℕ)) (s : ℕ) (o : CellOpen) → ArePlaced texts o.key.cells → EventsArePlaced texts (row_of_open s o)
row_placed texts s o placed = go (nat_eq o.key.stream s) o.state.dropped (nat_lt o.state.start inf)
  where
    row : CellEvent
    row = record { row = o.key.cells; start = o.state.start; end = inf }

    go : (b d l : Bool) → EventsArePlaced texts (cond b (cond d [] (cond l (record { row = o.key.cells; start = o.state.start; end = inf } ∷ []) [])) [])
    go true true l = All-nil (λ (e : CellEvent). ArePlaced texts e.row)
    go true false true = All-cons (λ (e : CellEvent). ArePlaced texts e.row) (record { row = o.key.cells; start = o.state.start; end = inf }) [] placed (All-nil (λ (e : CellEvent). ArePlaced texts e.row))
    go true false false = All-nil (λ (e : CellEvent). ArePlaced texts e.row)
    go false d l = All-nil (λ (e : CellEvent). ArePlaced texts e.row)

opens_placed : (texts : List (List ℕ)) (opens : List CellOpen) (s : ℕ) → All (λ o. ArePlaced texts o.key.cells) opens → EventsArePlaced texts (flat_map (row_of_open s) opens)
opens_placed texts [] s h = All-nil (λ (e : CellEvent). ArePlaced texts e.row)
opens_placed texts (o ∷ os) s h =
    All-append (λ e. ArePlaced texts e.row) (row_of_open s o) (flat_map (row_of_open s) os)
    (row_placed texts s o (All-head (λ (q : CellOpen). ArePlaced texts q.key.cells) o os h))
    (opens_placed texts os s (All-tail (λ (q : CellOpen). ArePlaced texts q.key.cells) o os h))

pub rows_placed : (texts : List (List ℕ)) (made : ℕ → List CellEvent) (opens : List CellOpen) (s : ℕ) → EventsArePlaced texts (made s) → All (λ o. ArePlaced texts o.key.cells) opens →
    EventsArePlaced texts (cell_rows made opens s)
rows_placed texts made opens s h k = All-append (λ e. ArePlaced texts e.row) (made s) (flat_map (row_of_open s) opens) h (opens_placed texts opens s k)

-- the events of the open starts, read, are those of the open starts that are read
open_read : (texts : List (List ℕ)) (s : ℕ) (o : CellOpen) → open_event s (read_open texts o) ≡ read_events texts (row_of_open s o)
open_read texts s o = go (nat_eq o.key.stream s) o.state.dropped (nat_lt o.state.start inf)
  where
    go : (b d l : Bool) →
        cond b (cond d [] (cond l (record { row = read_cells texts o.key.cells; start = o.state.start; end = inf } ∷ []) [])) []
        ≡ read_events texts (cond b (cond d [] (cond l (record { row = o.key.cells; start = o.state.start; end = inf } ∷ []) [])) [])
    go true true l = refl
    go true false true = refl
    go true false false = refl
    go false d l = refl

opens_read : (texts : List (List ℕ)) (s : ℕ) (opens : List CellOpen) → flat_map (open_event s) (map (read_open texts) opens) ≡ read_events texts (flat_map (row_of_open s) opens)
opens_read texts s [] = refl
opens_read texts s (o ∷ os) =
    ap (λ l. l ++ flat_map (open_event s) (map (read_open texts) os)) (open_read texts s o)
    ∙ ap (λ l. read_events texts (row_of_open s o) ++ l) (opens_read texts s os)
    ∙ sym (map-append (read_event texts) (row_of_open s o) (flat_map (row_of_open s) os))

pub rows_read : (texts : List (List ℕ)) (a : Admission) (given : ℕ → List Edge) (i : Ingress) (f : Follows texts a given i) (s : ℕ) → rows a s ≡ read_events texts (cell_rows f.made f.opens s)
rows_read texts a given i f s =
    ap (λ l. l ++ flat_map (open_event s) a.opens) (f.reads_made s)
    ∙ ap (λ l. read_events texts (f.made s) ++ flat_map (open_event s) l) f.reads_opens
    ∙ ap (λ l. read_events texts (f.made s) ++ l) (opens_read texts s f.opens)
    ∙ sym (map-append (read_event texts) (f.made s) (flat_map (row_of_open s) f.opens))

-- a stream that was not declared has no row
none_open : (n : ℕ) (s : ℕ) (opens : List CellOpen) → n ≤ s → All (λ o. o.key.stream < n) opens → flat_map (row_of_open s) opens ≡ []
none_open n s [] past h = refl
none_open n s (o ∷ os) past h =
    ap (λ l. l ++ flat_map (row_of_open s) os) (go (nat_eq o.key.stream s) refl) ∙ none_open n s os past (All-tail (λ (q : CellOpen). q.key.stream < n) o os h)
  where
    low : o.key.stream < n
    low = All-head (λ (q : CellOpen). q.key.stream < n) o os h

    go : (b : Bool) → nat_eq o.key.stream s ≡ b → cond b (ended_row inf o) [] ≡ []
    go true is = absurd (let e = eqb-true o.key.stream s is in let l = low in omega (arith, e, l, past))
    go false is = refl

-- the edges given stand, read, for the rows
pub follows_stand : (texts : List (List ℕ)) (a : Admission) (given : ℕ → List Edge) (i : Ingress) → Follows texts a given i → SourcesStandRead texts i.released (rows a) given
follows_stand texts a given i f s = go (cases_lt s (length i.held.waiting.items))
  where
    long : length i.held.waiting.items ≡ length i.kinds.items
    long = i.shape.waiting ∙ length-map i.kinds.items _

    go : (s < length i.held.waiting.items) ⊎ (length i.held.waiting.items ≤ s) → StandsRead texts i.released (given s) (rows a s)
    go (inl less) =
        let h = f.keeps.held s less in
        let held = get_or i.held.waiting.items s [] in
        let all = cell_rows f.made f.opens s in
        let valid : AreEvents all = AreEvents-from all (valid_from (given s ++ held) all h.real h.events) in
        stands_by texts i.released (given s) all (rows a s) f.instant (rows_read texts a given i f s) (rows_placed texts f.made f.opens s (f.made_placed s) f.opens_placed)
        (subst AreEvents (sym (rows_read texts a given i f s)) (AreEvents-to (read_cells texts) all valid))
        (held_stands i.released (given s) held all f.instant h)
    go (inr past) =
        let far : length i.kinds.items ≤ s = (let l = long in omega (arith, l, past)) in
        let none : rows a s ≡ [] = rows_read texts a given i f s ∙ ap (λ l. read_events texts (l ++ flat_map (row_of_open s) f.opens)) (f.none_made s far)
        ∙ ap (read_events texts) (none_open (length i.kinds.items) s f.opens far f.declared) in
        subst (λ l. StandsRead texts i.released (given s) l) (sym none)
        (subst (λ l. StandsRead texts i.released l []) (sym (f.none_given s far)) (none_stand texts i.released f.instant))

-- a table that grows changes nothing
opens_longer : (new old : List (List ℕ)) → BeginsWith new old → (opens : List CellOpen) → All (λ o. ArePlaced old o.key.cells) opens → map (read_open old) opens ≡ map (read_open new) opens
opens_longer new old b [] h = refl
opens_longer new old b (o ∷ os) h =
    let x = sym (read_cells-begins new old o.key.cells b (All-head (λ (q : CellOpen). ArePlaced old q.key.cells) o os h)) in
    let y = opens_longer new old b os (All-tail (λ (q : CellOpen). ArePlaced old q.key.cells) o os h) in
    λ i. record { stream = o.key.stream; row = x i; given = o.key.given; start = o.state.start; dropped = o.state.dropped } ∷ y i

pub follows_longer : (new old : List (List ℕ)) (a : Admission) (given : ℕ → List Edge) (i : Ingress) → BeginsWith new old → Follows old a given i → Follows new a given i
follows_longer new old a given i b f = record {
  instant = f.instant;
  bounds = f.bounds;
  marks = f.marks;
  made = f.made;
  opens = f.opens;
  reads_made = λ s. f.reads_made s ∙ sym (read_longer new old b (f.made s) (f.made_placed s));
  reads_opens = f.reads_opens ∙ opens_longer new old b f.opens f.opens_placed;
  made_placed = λ s. All-weaker (λ e. ArePlaced old e.row) (λ e. ArePlaced new e.row) (λ e k. ArePlaced-begins new old e.row b k) (f.made s) (f.made_placed s);
  opens_placed = All-weaker (λ o. ArePlaced old o.key.cells) (λ o. ArePlaced new o.key.cells) (λ o k. ArePlaced-begins new old o.key.cells b k) f.opens f.opens_placed;
  keeps = f.keeps;
  declared = f.declared;
  stored = f.stored;
  none_made = f.none_made;
  none_given = f.none_given;
}

pub admits_longer : (new old : List (List ℕ)) (a : Admission) (given : ℕ → List Edge) (i : Ingress) → BeginsWith new old → Admits old a given i → Admits new a given i
admits_longer new old a given i b k = record { follows = follows_longer new old a given i b k.follows; low = k.low }
