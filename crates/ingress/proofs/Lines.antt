-- What is kept after a line, and what admission says of it.
use Rattle.std.specs.Prelude.{◌≡◌, ℕ, ◌-◌, ◌<◌, ◌≤◌, ◌⊎◌, max, nat_eq, nat_lt, Bool, true, false, cond, ◌&&◌, Option, Some, None, option_map, All, List, [], ◌∷◌, ◌++◌, length, get_or, map, filter, refl}
use Rattle.std.proofs.Common.{sym, ◌∙◌, ap, subst, arith, inl, inr}
use Rattle.std.proofs.lemmas.Bool.{eqb-true}
use Rattle.std.proofs.lemmas.List.{map-append, length-map}
use Rattle.std.proofs.lemmas.List.Elements.{All-nil, All-cons, All-head, All-tail, All-append}
use Rattle.tw_rows.specs.Instant.{inf}
use Rattle.tw_rows.specs.Event.{Event as Lived}
use Rattle.tw_rows.specs.Rows.{Row}
use Rattle.tw_rows.specs.Cells.{ArePlaced, read_cells, read_datum, datum_kind}
use Rattle.tw_rows.specs.Kinds.{cell_kind_of}
use Rattle.tw_rows.specs.declared.kind.Kind.{Kind}
use Rattle.tw_rows.proofs.CellReads.{datum_kind-read}
use Rattle.tw_rows.specs.SameCells.{same_cells}
use Rattle.tw_rows.specs.declared.cells.Datum.{Datum}
use Rattle.tw_rows.specs.declared.edge.Edge.{Edge}
use Rattle.key_nodes.specs.Joins.{with_life}
use Rattle.edge_history.specs.History.{CellEvent}
use Rattle.row_reader.specs.declared.form.Form.{Form}
use Rattle.row_reader.specs.declared.form.Form.TheVariants.{Interval, Start, End}
use Rattle.plan_model.specs.Keys.{rows_equal}
use Rattle.plan_laws.specs.Places.{AreDistinct, read_event, read_events, EventsArePlaced}
use Rattle.plan_laws.proofs.Places.{wide_reads, cells_wide}
use Rattle.row_reader.specs.declared.entry.Entry.TheVariants.{Event}
use Rattle.admission.specs.Admission.{Admission, Open, raised, more_of, closes_open, first, without_first, ended_at, closed, enter, bounded, admit, Outcome, Taken, WasLate, Unmatched, refuses, drops}
use Rattle.admission.specs.Answers.{became_closed, event_answer, answer}
use Rattle.admission.specs.declared.policy.Admitted.{Admitted}
use Rattle.admission.specs.declared.policy.Policy.{Policy}
use Rattle.ingress.specs.Admits.{cells_of, read_open, IsStored, IsTaken, Follows, Admits}
use Rattle.ingress.specs.Entering.{key_of, HasClosed, HasEntered}
use Rattle.ingress.specs.Fits.{row_cells, AreFit, HasShape}
use Rattle.ingress.specs.Changes.{NamesStart}
use Rattle.ingress.specs.Keeping.{CellOpen, kept_of, is_named, first_of, without_first_of, ended_row, more_rows, Keeps}
use Rattle.ingress.specs.OpenKeys.{starts_in}
use Rattle.ingress.specs.declared.opens.OpenKey.{OpenKey}
use Rattle.ingress.specs.declared.opens.OpenStart.{OpenStart}
use Rattle.ingress.specs.Streams.{bound_in, mark_in}
use Rattle.ingress.specs.declared.entering.EventLine.{EventLine}
use Rattle.ingress.specs.declared.ingress.Ingress.{Ingress}

-- the cells of a row are stored as its values
pub cells_kinds : (texts : List (List ℕ)) (cells : List Datum) → map datum_kind cells ≡ row_cells (read_cells texts cells)
cells_kinds texts [] = refl
cells_kinds texts (d ∷ ds) = let a = datum_kind-read texts d in let b = cells_kinds texts ds in λ i. a i ∷ b i

pub cells_same : (old new : Ingress) → new.kinds ≡ old.kinds → cells_of new ≡ cells_of old
cells_same old new kinds = ap (λ k. map (λ x. map cell_kind_of x) (map (λ x. x.items) k.items)) kinds

-- times that are raised
pub raised_same : (s t : ℕ) (f g : ℕ → ℕ) (k : ℕ) → f k ≡ g k → raised s t f k ≡ raised s t g k
raised_same s t f g k is = ap (λ x. cond (nat_eq k s) (max x t) x) is

pub raised_above : (s t : ℕ) (f : ℕ → ℕ) (k : ℕ) → f k ≤ raised s t f k
raised_above s t f k = go (nat_eq k s)
  where
    go : (b : Bool) → f k ≤ cond b (max (f k) t) (f k)
    go true = omega arith
    go false = omega arith

-- the parts of what is kept, once some of them are others
module _ (texts : List (List ℕ)) (given : ℕ → List Edge) (a : Admission) (old : Ingress) (f : Follows texts a given old) where
  pub follows_from : (b : Admission) (new : Ingress) → new.kinds ≡ old.kinds → new.released ≡ old.released →
      ((s : ℕ) → s < length old.kinds.items → b.bound s ≡ bound_in new.watermarks.streams.items s) →
      ((s : ℕ) → s < length old.kinds.items → b.mark s ≡ mark_in new.watermarks.streams.items s) →
      (made : ℕ → List CellEvent) (opens : List CellOpen) → ((s : ℕ) → b.made s ≡ read_events texts (made s)) → b.opens ≡ map (read_open texts) opens →
      ((s : ℕ) → EventsArePlaced texts (made s)) → All (λ o. ArePlaced texts o.key.cells) opens →
      Keeps old.released new.held.waiting.items (starts_in new.held.opens.starts) made opens given →
      All (λ o. o.key.stream < length old.kinds.items) opens → All (IsStored (cells_of old)) opens → ((s : ℕ) → length old.kinds.items ≤ s → made s ≡ []) → Follows texts b given new
  follows_from b new kinds released bounds marks made opens read_made read_opens placed_made placed_opens keeps declared stored none = record {
    instant = subst (λ n. n ≤ inf) (sym released) f.instant;
    bounds = λ s less. bounds s (fewer s less);
    marks = λ s less. marks s (fewer s less);
    made = made;
    opens = opens;
    reads_made = read_made;
    reads_opens = read_opens;
    made_placed = placed_made;
    opens_placed = placed_opens;
    keeps = subst (λ n. Keeps n new.held.waiting.items (starts_in new.held.opens.starts) made opens given) (sym released) keeps;
    declared = subst (λ n. All (λ o. o.key.stream < n) opens) (sym (ap (λ k. length k.items) kinds)) declared;
    stored = subst (λ cells. All (IsStored cells) opens) (sym (cells_same old new kinds)) stored;
    none_made = λ s past. none s (more s past);
    none_given = λ s past. f.none_given s (more s past);
  }
    where
      fewer : (s : ℕ) → s < length new.kinds.items → s < length old.kinds.items
      fewer s less = (let e = ap (λ k. length k.items) kinds in omega (arith, e, less))

      more : (s : ℕ) → length new.kinds.items ≤ s → length old.kinds.items ≤ s
      more s past = (let e = ap (λ k. length k.items) kinds in omega (arith, e, past))

  -- bounds and marks alone are others
  pub follows_marks : (b : Admission) (new : Ingress) → new.kinds ≡ old.kinds → new.released ≡ old.released → new.held ≡ old.held →
      ((s : ℕ) → s < length old.kinds.items → b.bound s ≡ bound_in new.watermarks.streams.items s) →
      ((s : ℕ) → s < length old.kinds.items → b.mark s ≡ mark_in new.watermarks.streams.items s) →
      ((s : ℕ) → b.made s ≡ a.made s) → b.opens ≡ a.opens → Follows texts b given new
  follows_marks b new kinds released held bounds marks made opens =
      follows_from b new kinds released bounds marks f.made f.opens (λ s. made s ∙ f.reads_made s) (opens ∙ f.reads_opens) f.made_placed f.opens_placed
      (subst (λ h. Keeps old.released h.waiting.items (starts_in h.opens.starts) f.made f.opens given) (sym held) f.keeps) f.declared f.stored f.none_made

  -- what waits is kept otherwise, for the same lines
  pub follows_kept : (new : Ingress) → new.kinds ≡ old.kinds → new.released ≡ old.released → new.watermarks ≡ old.watermarks →
      Keeps old.released new.held.waiting.items (starts_in new.held.opens.starts) f.made f.opens given → Follows texts a given new
  follows_kept new kinds released marks keeps =
      follows_from a new kinds released (λ s less. f.bounds s less ∙ sym (ap (λ m. bound_in m.streams.items s) marks)) (λ s less. f.marks s less ∙ sym (ap (λ m. mark_in m.streams.items s) marks))
      f.made f.opens f.reads_made f.reads_opens f.made_placed f.opens_placed keeps f.declared f.stored f.none_made

and_assoc : (a b c : Bool) → (a && b && c) ≡ (a && (b && c))
and_assoc true b c = refl
and_assoc false b c = refl

rows_same : (texts : List (List ℕ)) → AreDistinct texts → (x y : List Datum) → ArePlaced texts x → ArePlaced texts y → rows_equal (read_cells texts x) (read_cells texts y) ≡ same_cells x y
rows_same texts distinct x y px py =
    (λ i. rows_equal (sym (cells_wide texts x px) i) (sym (cells_wide texts y py) i))
    ∙ (wide_reads (λ test row. false) (λ items row. row) texts distinct).same x y

-- the end line closes an open start, read, where it names it in cells
closes_same : (texts : List (List ℕ)) → AreDistinct texts → (s other : ℕ) (cells : List Datum) → ArePlaced texts cells → (o : CellOpen) → ArePlaced texts o.key.cells →
    closes_open s (read_cells texts cells) other (read_open texts o) ≡ is_named (key_of s other cells) o
closes_same texts distinct s other cells placed o p =
    ap (λ b. nat_eq o.key.stream s && nat_eq o.key.given other && b) (rows_same texts distinct o.key.cells cells p placed)
    ∙ and_assoc (nat_eq o.key.stream s) (nat_eq o.key.given other) (same_cells o.key.cells cells)

module _ (f : CellOpen → Open) (p : Open → Bool) (q : CellOpen → Bool) (P : CellOpen → Type 0) (same : (o : CellOpen) → P o → p (f o) ≡ q o) where
  first_read : (xs : List CellOpen) → All P xs → first p (map f xs) ≡ option_map f (first_of q xs)
  first_read [] h = refl
  first_read (x ∷ xs) h =
      ap (λ b. cond b (Some (f x)) (first p (map f xs))) (same x (All-head P x xs h))
      ∙ ap (λ r. cond (q x) (Some (f x)) r) (first_read xs (All-tail P x xs h))
      ∙ go (q x)
    where
      go : (b : Bool) → cond b (Some (f x)) (option_map f (first_of q xs)) ≡ option_map f (cond b (Some x) (first_of q xs))
      go true = refl
      go false = refl

  without_read : (xs : List CellOpen) → All P xs → without_first p (map f xs) ≡ map f (without_first_of q xs)
  without_read [] h = refl
  without_read (x ∷ xs) h =
      ap (λ b. cond b (map f xs) (f x ∷ without_first p (map f xs))) (same x (All-head P x xs h))
      ∙ ap (λ r. cond (q x) (map f xs) (f x ∷ r)) (without_read xs (All-tail P x xs h))
      ∙ go (q x)
    where
      go : (b : Bool) → cond b (map f xs) (f x ∷ map f (without_first_of q xs)) ≡ map f (cond b xs (x ∷ without_first_of q xs))
      go true = refl
      go false = refl

without_all : (q : CellOpen → Bool) (P : CellOpen → Type 0) (xs : List CellOpen) → All P xs → All P (without_first_of q xs)
without_all q P [] h = h
without_all q P (x ∷ xs) h = go (q x) (without_all q P xs (All-tail P x xs h))
  where
    go : (b : Bool) → All P (without_first_of q xs) → All P (cond b xs (x ∷ without_first_of q xs))
    go true rest = All-tail P x xs h
    go false rest = All-cons P x (without_first_of q xs) (All-head P x xs h) rest

open_or : CellOpen → Option CellOpen → CellOpen
open_or d None = d
open_or d (Some o) = o

found_all : (q : CellOpen → Bool) (P : CellOpen → Type 0) (xs : List CellOpen) (o : CellOpen) → All P xs → first_of q xs ≡ Some o → P o
unfolding open_or
found_all q P [] o h is = absurd (cc)
found_all q P (x ∷ xs) o h is = go (q x) is (found_all q P xs o (All-tail P x xs h))
  where
    go : (b : Bool) → cond b (Some x) (first_of q xs) ≡ Some o → (first_of q xs ≡ Some o → P o) → P o
    go true e rest = subst P (ap (open_or o) e) (All-head P x xs h)
    go false e rest = rest e

-- rows with a life, read and placed
life_read : (texts : List (List ℕ)) (cells : List Datum) (d : Bool) (start end : ℕ) → cond d [] (with_life (read_cells texts cells) start end) ≡ read_events texts (cond d [] (with_life cells start end))
life_read texts cells d start end = go d (nat_lt start end)
  where
    go : (d b : Bool) → cond d [] (cond b (record { row = read_cells texts cells; start = start; end = end } ∷ []) []) ≡ read_events texts (cond d [] (cond b (record { row = cells; start = start; end = end } ∷ []) []))
    go true b = refl
    go false true = refl
    go false false = refl

life_placed : (texts : List (List ℕ)) (cells : List Datum) (d : Bool) (start end : ℕ) → ArePlaced texts cells → EventsArePlaced texts (cond d [] (with_life cells start end))
life_placed texts cells d start end placed = go d (nat_lt start end)
  where
    go : (d b : Bool) → EventsArePlaced texts (cond d [] (cond b (record { row = cells; start = start; end = end } ∷ []) []))
    go true b = All-nil (λ (e : CellEvent). ArePlaced texts e.row)
    go false true = All-cons (λ (e : CellEvent). ArePlaced texts e.row) (record { row = cells; start = start; end = end }) [] placed (All-nil (λ (e : CellEvent). ArePlaced texts e.row))
    go false false = All-nil (λ (e : CellEvent). ArePlaced texts e.row)

module _ (texts : List (List ℕ)) (s : ℕ) (new : List CellEvent) (made : ℕ → List CellEvent) where
  more_read : (events : List (Lived Row)) (lists : ℕ → List (Lived Row)) → ((k : ℕ) → lists k ≡ read_events texts (made k)) → events ≡ read_events texts new →
      (k : ℕ) → more_of s events lists k ≡ read_events texts (more_rows s new made k)
  more_read events lists read is k = go (nat_eq k s)
    where
      go : (b : Bool) → cond b (lists k ++ events) (lists k) ≡ read_events texts (cond b (made k ++ new) (made k))
      go true = (λ i. read k i ++ is i) ∙ sym (map-append (read_event texts) (made k) new)
      go false = read k

  more_placed : ((k : ℕ) → EventsArePlaced texts (made k)) → EventsArePlaced texts new → (k : ℕ) → EventsArePlaced texts (more_rows s new made k)
  more_placed placed own k = go (nat_eq k s)
    where
      go : (b : Bool) → EventsArePlaced texts (cond b (made k ++ new) (made k))
      go true = All-append (λ (e : CellEvent). ArePlaced texts e.row) (made k) new (placed k) own
      go false = placed k

  more_none : (n : ℕ) → s < n → ((k : ℕ) → n ≤ k → made k ≡ []) → (k : ℕ) → n ≤ k → more_rows s new made k ≡ []
  more_none n low none k past = go (nat_eq k s) refl
    where
      go : (b : Bool) → nat_eq k s ≡ b → cond b (made k ++ new) (made k) ≡ []
      go true is = absurd (let e = eqb-true k s is in omega (arith, e, low, past))
      go false is = none k past

-- an event line that is not late, or not refused, is entered, and raises the bound
admit_entered : (policy : Policy) (a : Admission) (s : ℕ) (form : Form) (sync other : ℕ) (row : Row) (at : ℕ) (dropped : Bool) →
    (nat_lt sync (a.bound s) && refuses policy.late) ≡ false → at ≡ max sync (a.bound s) → dropped ≡ (nat_lt sync (a.bound s) && drops policy.late) →
    (o : Outcome) → enter a s form sync other row at dropped ≡ o → admit policy a (Event s form sync other row) ≡ bounded s (sync - policy.lateness) o
admit_entered policy a s form sync other row at dropped none is_at is_dropped o entered =
    ap (λ r. cond r (WasLate sync (a.bound s))
    (bounded s (sync - policy.lateness) (enter a s form sync other row (max sync (a.bound s)) (nat_lt sync (a.bound s) && drops policy.late)))) none
    ∙ (λ i. bounded s (sync - policy.lateness) (enter a s form sync other row (sym is_at i) (sym is_dropped i)))
    ∙ ap (bounded s (sync - policy.lateness)) entered

pub admit_refused : (policy : Policy) (a : Admission) (s : ℕ) (form : Form) (sync other : ℕ) (row : Row) (bound : ℕ) → a.bound s ≡ bound →
    (nat_lt sync bound && refuses policy.late) ≡ true → admit policy a (Event s form sync other row) ≡ WasLate sync bound
admit_refused policy a s form sync other row bound is refused =
    ap (λ r. cond r (WasLate sync (a.bound s))
    (bounded s (sync - policy.lateness) (enter a s form sync other row (max sync (a.bound s)) (nat_lt sync (a.bound s) && drops policy.late))))
    (ap (λ n. nat_lt sync n && refuses policy.late) is ∙ refused)
    ∙ ap (WasLate sync) is

-- a line was entered: admission after it, but for the bounds, with its rows and open starts in cells
pub record AfterLine (texts : List (List ℕ)) (given : ℕ → List Edge) (a : Admission) (old : Ingress) (waiting : List (List Edge)) (starts : OpenKey → List OpenStart) (outcome : Outcome) : Type 0 where
  pub made : ℕ → List CellEvent
  pub opens : List CellOpen
  pub made_after : ℕ → List (Lived Row)
  pub opens_after : List Open
  pub taken : outcome ≡ Taken (record a { made = made_after; opens = opens_after })
  pub reads_made : (s : ℕ) → made_after s ≡ read_events texts (made s)
  pub reads_opens : opens_after ≡ map (read_open texts) opens
  pub made_placed : (s : ℕ) → EventsArePlaced texts (made s)
  pub opens_placed : All (λ o. ArePlaced texts o.key.cells) opens
  pub keeps : Keeps old.released waiting starts made opens given
  pub declared : All (λ o. o.key.stream < length old.kinds.items) opens
  pub stored : All (IsStored (cells_of old)) opens
  pub none_made : (s : ℕ) → length old.kinds.items ≤ s → made s ≡ []

module _ (texts : List (List ℕ)) (distinct : AreDistinct texts) (given : ℕ → List Edge) (a : Admission) (old : Ingress) (f : Follows texts a given old)
    (waiting : List (List Edge)) (starts : OpenKey → List OpenStart)
    (line : EventLine) (cells : List Datum) (placed : ArePlaced texts cells) (low : line.stream < length old.kinds.items)
    (own_kinds : map datum_kind cells ≡ get_or (cells_of old) line.stream []) where
  abbrev row : Row
  row = read_cells texts cells

  -- what admission says of the line, by what is answered
  abbrev pub Says : Form → Option Admitted → Type 0
  Says form None = (enter a line.stream form line.sync line.other row line.at line.dropped ≡ Unmatched)
      × Keeps old.released waiting starts f.made f.opens given
  Says form (Some x) = AfterLine texts given a old waiting starts (enter a line.stream form line.sync line.other row line.at line.dropped)
      × (x ≡ event_answer a line.stream form line.other row line.at line.dropped)

  abbrev closes : Open → Bool
  closes = closes_open line.stream row line.other

  abbrev names : CellOpen → Bool
  names = is_named (key_of line.stream line.other cells)

  first_same : first closes a.opens ≡ option_map (read_open texts) (first_of names f.opens)
  first_same = ap (first closes) f.reads_opens
      ∙ first_read (read_open texts) closes names (λ o. ArePlaced texts o.key.cells) (closes_same texts distinct line.stream line.other cells placed) f.opens f.opens_placed

  after_end : (o : CellOpen) → first_of names f.opens ≡ Some o →
      Keeps old.released waiting starts (more_rows line.stream (ended_row line.at o) f.made) (without_first_of names f.opens) given →
      AfterLine texts given a old waiting starts (enter a line.stream End line.sync line.other row line.at line.dropped)
  after_end o is keeps = record {
    made = more_rows line.stream (ended_row line.at o) f.made;
    opens = without_first_of names f.opens;
    made_after = more_of line.stream (ended_at line.at (read_open texts o)) a.made;
    opens_after = without_first closes a.opens;
    taken = ap (closed line.stream line.at closes a) (first_same ∙ ap (option_map (read_open texts)) is);
    reads_made = more_read texts line.stream (ended_row line.at o) f.made (ended_at line.at (read_open texts o)) a.made f.reads_made (life_read texts o.key.cells o.state.dropped o.state.start line.at);
    reads_opens = ap (without_first closes) f.reads_opens
        ∙ without_read (read_open texts) closes names (λ o. ArePlaced texts o.key.cells) (closes_same texts distinct line.stream line.other cells placed) f.opens f.opens_placed;
    made_placed = more_placed texts line.stream (ended_row line.at o) f.made f.made_placed
        (life_placed texts o.key.cells o.state.dropped o.state.start line.at (found_all names (λ o. ArePlaced texts o.key.cells) f.opens o f.opens_placed is));
    opens_placed = without_all names (λ o. ArePlaced texts o.key.cells) f.opens f.opens_placed;
    keeps = keeps;
    declared = without_all names (λ o. o.key.stream < length old.kinds.items) f.opens f.declared;
    stored = without_all names (IsStored (cells_of old)) f.opens f.stored;
    none_made = more_none texts line.stream (ended_row line.at o) f.made (length old.kinds.items) low f.none_made;
  }

  says_end : (m : Option CellOpen) → first_of names f.opens ≡ m → (answer : Option Admitted) →
      HasClosed line.stream line.other line.at cells old.released waiting starts f.made f.opens given answer m → Says End answer
  says_end None is answer h =
      subst (Says End) (sym h.0) (ap (closed line.stream line.at closes a) (first_same ∙ ap (option_map (read_open texts)) is), h.1)
  says_end (Some o) is answer h =
      subst (Says End) (sym (h.0 (read_cells texts o.key.cells)))
      (after_end o is h.1, sym (ap (became_closed line.at) (first_same ∙ ap (option_map (read_open texts)) is)))

  pub says : (form : Form) (answer : Option Admitted) → HasEntered form line cells old.released waiting starts f.made f.opens given answer → Says form answer
  says Interval answer h = subst (Says Interval) (sym (h.0 row)) (
    record {
      made = more_rows line.stream (cond line.dropped [] (with_life cells line.at line.other)) f.made;
      opens = f.opens;
      made_after = more_of line.stream (cond line.dropped [] (with_life row line.at line.other)) a.made;
      opens_after = a.opens;
      taken = refl;
      reads_made = more_read texts line.stream (cond line.dropped [] (with_life cells line.at line.other)) f.made (cond line.dropped [] (with_life row line.at line.other)) a.made f.reads_made
          (life_read texts cells line.dropped line.at line.other);
      reads_opens = f.reads_opens;
      made_placed = more_placed texts line.stream (cond line.dropped [] (with_life cells line.at line.other)) f.made f.made_placed (life_placed texts cells line.dropped line.at line.other placed);
      opens_placed = f.opens_placed;
      keeps = h.1;
      declared = f.declared;
      stored = f.stored;
      none_made = more_none texts line.stream (cond line.dropped [] (with_life cells line.at line.other)) f.made (length old.kinds.items) low f.none_made;
    },
    refl,
  )
  says Start answer h = subst (Says Start) (sym (h.0 row)) (
    record {
      made = f.made;
      opens = f.opens ++ own ∷ [];
      made_after = a.made;
      opens_after = a.opens ++ read_open texts own ∷ [];
      taken = refl;
      reads_made = f.reads_made;
      reads_opens = ap (λ l. l ++ read_open texts own ∷ []) f.reads_opens ∙ sym (map-append (read_open texts) f.opens (own ∷ []));
      made_placed = f.made_placed;
      opens_placed = All-append (λ (o : CellOpen). ArePlaced texts o.key.cells) f.opens (own ∷ []) f.opens_placed
          (All-cons (λ (o : CellOpen). ArePlaced texts o.key.cells) own [] placed (All-nil (λ (o : CellOpen). ArePlaced texts o.key.cells)));
      keeps = h.1;
      declared = All-append (λ (o : CellOpen). o.key.stream < length old.kinds.items) f.opens (own ∷ []) f.declared
          (All-cons (λ (o : CellOpen). o.key.stream < length old.kinds.items) own [] low (All-nil (λ (o : CellOpen). o.key.stream < length old.kinds.items)));
      stored = All-append (IsStored (cells_of old)) f.opens (own ∷ []) f.stored (All-cons (IsStored (cells_of old)) own [] own_kinds (All-nil (IsStored (cells_of old))));
      none_made = f.none_made;
    },
    refl,
  )
    where
      own : CellOpen
      own = record { key = key_of line.stream line.sync cells; state = record { start = line.at; dropped = line.dropped } }
  says End answer h = says_end (first_of names f.opens) refl answer h

-- the line is admitted, and its stream's bound is raised
pub line_admitted : (policy : Policy) (texts : List (List ℕ)) (given : ℕ → List Edge) (a : Admission) (old new : Ingress) (k : Admits texts a given old)
    (s : ℕ) (form : Form) (sync other : ℕ) (row : Row) (at : ℕ) (dropped : Bool) →
    (nat_lt sync (a.bound s) && refuses policy.late) ≡ false → at ≡ max sync (a.bound s) → dropped ≡ (nat_lt sync (a.bound s) && drops policy.late) →
    AfterLine texts given a old new.held.waiting.items (starts_in new.held.opens.starts) (enter a s form sync other row at dropped) →
    new.kinds ≡ old.kinds → new.released ≡ old.released →
    ((j : ℕ) → bound_in new.watermarks.streams.items j ≡ raised s (sync - policy.lateness) (bound_in old.watermarks.streams.items) j) →
    ((j : ℕ) → mark_in new.watermarks.streams.items j ≡ mark_in old.watermarks.streams.items j) →
    (b : Admission) × ((admit policy a (Event s form sync other row) ≡ Taken b) × Admits texts b given new)
line_admitted policy texts given a old new k s form sync other row at dropped none is_at is_dropped l kinds released bounds marks = (
  record a { made = l.made_after; opens = l.opens_after; bound = raised s (sync - policy.lateness) a.bound },
  (
    admit_entered policy a s form sync other row at dropped none is_at is_dropped (Taken (record a { made = l.made_after; opens = l.opens_after })) l.taken,
    record {
      follows = follows_from texts given a old k.follows (record a { made = l.made_after; opens = l.opens_after; bound = raised s (sync - policy.lateness) a.bound }) new kinds released
          (λ j less. raised_same s (sync - policy.lateness) a.bound (bound_in old.watermarks.streams.items) j (k.follows.bounds j less) ∙ sym (bounds j))
          (λ j less. k.follows.marks j less ∙ sym (marks j))
          l.made l.opens l.reads_made l.reads_opens l.made_placed l.opens_placed l.keeps l.declared l.stored l.none_made;
      low = λ j less.
          let n = ap (λ x. length x.items) kinds in
          let b = k.low j (omega (arith, n, less)) in
          let u = raised_above s (sync - policy.lateness) a.bound j in
          omega (arith, released, b, u);
    },
  ),
)

pub line_unmatched : (policy : Policy) (a : Admission) (s : ℕ) (form : Form) (sync other : ℕ) (row : Row) (at : ℕ) (dropped : Bool) →
    (nat_lt sync (a.bound s) && refuses policy.late) ≡ false → at ≡ max sync (a.bound s) → dropped ≡ (nat_lt sync (a.bound s) && drops policy.late) →
    enter a s form sync other row at dropped ≡ Unmatched → admit policy a (Event s form sync other row) ≡ Unmatched
line_unmatched policy a s form sync other row at dropped none is_at is_dropped is = admit_entered policy a s form sync other row at dropped none is_at is_dropped Unmatched is

-- the answer by the time and the fate of the line
pub line_answered : (policy : Policy) (a : Admission) (s : ℕ) (form : Form) (sync other : ℕ) (row : Row) (at : ℕ) (dropped : Bool) (x : Admitted) →
    at ≡ max sync (a.bound s) → dropped ≡ (nat_lt sync (a.bound s) && drops policy.late) → x ≡ event_answer a s form other row at dropped → x ≡ answer policy a (Event s form sync other row)
line_answered policy a s form sync other row at dropped x is_at is_dropped is = is ∙ (λ i. event_answer a s form other row (is_at i) (is_dropped i))

pub shape_entered : (kinds : List (List Kind)) (capacity count after_count : ℕ) (held after : List (List Edge)) → after_count ≡ count → length after ≡ length held →
    AreFit (map (λ k. map cell_kind_of k) kinds) after → HasShape kinds capacity count held → HasShape kinds capacity after_count after
shape_entered kinds capacity count after_count held after same long fit h = record {
  marks = same ∙ h.marks;
  waiting = long ∙ h.waiting;
  room = h.room;
  width = h.width;
  fit = fit;
}

-- what is known of a line when it is entered
pub record Known (policy : Policy) (a : Admission) (line : EventLine) : Type 0 where
  pub passes : (nat_lt line.sync (a.bound line.stream) && refuses policy.late) ≡ false
  pub at_is : line.at ≡ max line.sync (a.bound line.stream)
  pub dropped_is : line.dropped ≡ (nat_lt line.sync (a.bound line.stream) && drops policy.late)

pub known_line : (policy : Policy) (a : Admission) (line : EventLine) (bound : ℕ) → a.bound line.stream ≡ bound → (refused : Bool) → refused ≡ (nat_lt line.sync bound && refuses policy.late) →
    refused ≡ false → line.at ≡ max line.sync bound → line.dropped ≡ (nat_lt line.sync bound && drops policy.late) → Known policy a line
known_line policy a line bound is refused tells none at dropped = record {
  passes = ap (λ n. nat_lt line.sync n && refuses policy.late) is ∙ sym tells ∙ none;
  at_is = at ∙ ap (max line.sync) (sym is);
  dropped_is = dropped ∙ ap (λ n. nat_lt line.sync n && drops policy.late) (sym is);
}

pub line_late : (policy : Policy) (texts : List (List ℕ)) (given : ℕ → List Edge) (a : Admission) (old : Ingress) (line : EventLine) → Known policy a line → line.stream < length old.kinds.items →
    Admits texts a given old → old.released ≤ line.at
line_late policy texts given a old line n low k = let x = k.low line.stream low in let y = n.at_is in omega (arith, x, y)

pub event_taken : (policy : Policy) (texts : List (List ℕ)) → AreDistinct texts → (given : ℕ → List Edge) (a : Admission) (old new : Ingress) (k : Admits texts a given old) (line : EventLine) (cells : List Datum) →
    ArePlaced texts cells → (own : Row) → read_cells texts cells ≡ own → line.stream < length old.kinds.items → row_cells own ≡ get_or (cells_of old) line.stream [] → Known policy a line → (m : Option Admitted) (x : Admitted) → m ≡ Some x →
    HasEntered line.form line cells old.released new.held.waiting.items (starts_in new.held.opens.starts) k.follows.made k.follows.opens given m →
    new.kinds ≡ old.kinds → new.released ≡ old.released →
    ((j : ℕ) → bound_in new.watermarks.streams.items j ≡ raised line.stream (line.sync - policy.lateness) (bound_in old.watermarks.streams.items) j) →
    ((j : ℕ) → mark_in new.watermarks.streams.items j ≡ mark_in old.watermarks.streams.items j) →
    (b : Admission) × ((admit policy a (Event line.stream line.form line.sync line.other own) ≡ Taken b) × Admits texts b given new
    × (x ≡ answer policy a (Event line.stream line.form line.sync line.other own)))
event_taken policy texts distinct given a old new k line cells placed own reads low fits n m x is h kinds released bounds marks =
    let r = subst (Says texts distinct given a old k.follows new.held.waiting.items (starts_in new.held.opens.starts) line cells placed low (cells_kinds texts cells ∙ ap row_cells reads ∙ fits) line.form) is
    (says texts distinct given a old k.follows new.held.waiting.items (starts_in new.held.opens.starts) line cells placed low (cells_kinds texts cells ∙ ap row_cells reads ∙ fits) line.form m h) in
    let t = line_admitted policy texts given a old new k line.stream line.form line.sync line.other (read_cells texts cells) line.at line.dropped n.passes n.at_is n.dropped_is r.0 kinds released bounds marks in (
      t.0,
      (
        ap (λ q. admit policy a (Event line.stream line.form line.sync line.other q)) (sym reads) ∙ t.1.0,
        t.1.1,
        line_answered policy a line.stream line.form line.sync line.other (read_cells texts cells) line.at line.dropped x n.at_is n.dropped_is r.1
            ∙ ap (λ q. answer policy a (Event line.stream line.form line.sync line.other q)) reads,
      ),
    )

pub event_unmatched : (policy : Policy) (texts : List (List ℕ)) → AreDistinct texts → (given : ℕ → List Edge) (a : Admission) (old : Ingress) (k : Admits texts a given old) (line : EventLine) (cells : List Datum) →
    ArePlaced texts cells → (own : Row) → read_cells texts cells ≡ own → line.stream < length old.kinds.items → row_cells own ≡ get_or (cells_of old) line.stream [] → Known policy a line → (m : Option Admitted) → m ≡ None →
    (waiting : List (List Edge)) (starts : OpenKey → List OpenStart) →
    HasEntered line.form line cells old.released waiting starts k.follows.made k.follows.opens given m →
    (admit policy a (Event line.stream line.form line.sync line.other own) ≡ Unmatched) × Keeps old.released waiting starts k.follows.made k.follows.opens given
event_unmatched policy texts distinct given a old k line cells placed own reads low fits n m is waiting starts h =
    let r = subst (Says texts distinct given a old k.follows waiting starts line cells placed low (cells_kinds texts cells ∙ ap row_cells reads ∙ fits) line.form) is
    (says texts distinct given a old k.follows waiting starts line cells placed low (cells_kinds texts cells ∙ ap row_cells reads ∙ fits) line.form m h) in (
      ap (λ q. admit policy a (Event line.stream line.form line.sync line.other q)) (sym reads)
          ∙ line_unmatched policy a line.stream line.form line.sync line.other (read_cells texts cells) line.at line.dropped n.passes n.at_is n.dropped_is r.0,
      r.1,
    )

-- an end line that names an open start, or another event line, is taken. An end line of more than 4 cells may be unmatched
found_first : (key : OpenKey) (xs : List CellOpen) → 0 < length (map kept_of (filter (is_named key) xs)) → (o : CellOpen) × (first_of (is_named key) xs ≡ Some o)
found_first key [] some = absurd (omega (arith, some))
found_first key (x ∷ xs) some = go (is_named key x) (found_first key xs) some
  where
    go : (b : Bool) → (0 < length (map kept_of (filter (is_named key) xs)) → (o : CellOpen) × (first_of (is_named key) xs ≡ Some o)) →
        0 < length (map kept_of (cond b (x ∷ filter (is_named key) xs) (filter (is_named key) xs))) → (o : CellOpen) × (cond b (Some x) (first_of (is_named key) xs) ≡ Some o)
    go true rest h = (x, refl)
    go false rest h = rest h

module _ (texts : List (List ℕ)) (distinct : AreDistinct texts) (given : ℕ → List Edge) (a : Admission) (old : Ingress) (f : Follows texts a given old)
    (line : EventLine) (cells : List Datum) (placed : ArePlaced texts cells) (low : line.stream < length old.kinds.items) (own_kinds : map datum_kind cells ≡ get_or (cells_of old) line.stream []) where
  abbrev names_it : Open → Bool
  names_it = closes_open line.stream (read_cells texts cells) line.other

  ended : (0 < length (starts_in old.held.opens.starts (key_of line.stream line.other cells))) ⊎ (4 < length cells) →
      IsTaken (length cells) (closed line.stream line.at names_it a (first names_it a.opens))
  ended (inl named) =
      let key = key_of line.stream line.other cells in
      let m = found_first key f.opens (subst (λ l. 0 < length l) (f.keeps.queued key) named) in
      subst (λ o. IsTaken (length cells) (closed line.stream line.at names_it a o))
      (sym (first_same texts distinct given a old f old.held.waiting.items (starts_in old.held.opens.starts) line cells placed low own_kinds ∙ ap (option_map (read_open texts)) m.1)) tt
  ended (inr wide) = go (first names_it a.opens)
    where
      go : (m : Option Open) → IsTaken (length cells) (closed line.stream line.at names_it a m)
      go None = wide
      go (Some o) = tt

  entered : (form : Form) → NamesStart form line cells old.held → IsTaken (length cells) (enter a line.stream form line.sync line.other (read_cells texts cells) line.at line.dropped)
  entered Interval named = tt
  entered Start named = tt
  entered End named = ended named

-- and with the bound of its stream raised
bounded_taken : (values s t : ℕ) (o : Outcome) → IsTaken values o → IsTaken values (bounded s t o)
bounded_taken values s t (Taken b) h = tt
bounded_taken values s t (WasLate time bound) h = h
bounded_taken values s t Unmatched h = h

pub event_wanted : (policy : Policy) (texts : List (List ℕ)) → AreDistinct texts → (given : ℕ → List Edge) (a : Admission) (old : Ingress) (k : Admits texts a given old) (line : EventLine) (cells : List Datum) →
    ArePlaced texts cells → line.stream < length old.kinds.items → row_cells (read_cells texts cells) ≡ get_or (cells_of old) line.stream [] → Known policy a line → NamesStart line.form line cells old.held →
    IsTaken (length (read_cells texts cells)) (admit policy a (Event line.stream line.form line.sync line.other (read_cells texts cells)))
event_wanted policy texts distinct given a old k line cells placed low fits n named =
    let row = read_cells texts cells in
    let outcome = enter a line.stream line.form line.sync line.other row line.at line.dropped in
    let e : IsTaken (length cells) outcome = entered texts distinct given a old k.follows line cells placed low (cells_kinds texts cells ∙ fits) line.form named in
    subst (λ values. IsTaken values (admit policy a (Event line.stream line.form line.sync line.other row))) (sym (length-map cells (read_datum texts)))
    (subst (IsTaken (length cells)) (sym (admit_entered policy a line.stream line.form line.sync line.other row line.at line.dropped n.passes n.at_is n.dropped_is outcome refl))
    (bounded_taken (length cells) line.stream (line.sync - policy.lateness) outcome e))
