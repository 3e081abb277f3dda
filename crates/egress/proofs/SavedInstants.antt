-- Entries of all that waits, instant by instant, and of what is open after it.
use Rattle.std.specs.Prelude.{◌≡◌, ℕ, zero, suc, ◌+◌, ◌-◌, ◌<◌, ◌≤◌, nat_eq, nat_lt, ◌&&◌, Bool, true, false, cond, None, List, [], ◌∷◌, ◌++◌, map, replicate, length, All, refl}
use Rattle.std.specs.List.Sorted.{IsNonDecreasingBy}
use Rattle.std.specs.Ordering.{eq_by_cmp}
use Rattle.std.proofs.Common.{sym, ◌∙◌, ap, subst, arith, drop}
use Rattle.std.proofs.lemmas.Bool.{lt-ltb, ltb-true, ltb-false, eqb-true, eqb-false, ne_eqb}
use Rattle.std.proofs.lemmas.Bool.Decides.{nat_tests}
use Rattle.std.proofs.lemmas.List.{append-nil, append_assoc}
use Rattle.std.proofs.lemmas.List.Elements.{filter-append, All-nil, All-head, All-tail, All-append, All-weaker}
use Rattle.std.proofs.lemmas.Grind.{flat_map-append}
use Rattle.tw_rows.specs.Bag.{total}
use Rattle.tw_rows.proofs.Bags.{total-map, total-flat_map, total_zero}
use Rattle.tw_rows.specs.Instant.{inf}
use Rattle.tw_rows.specs.Event.{alive}
use Rattle.tw_rows.specs.Rows.{Row, row_cmp}
use Rattle.tw_rows.specs.Cells.{ArePlaced, read_cells}
use Rattle.tw_rows.specs.SameCells.{same_cells, cells_are_same, same_itself}
use Rattle.tw_rows.specs.declared.cells.Datum.{Datum}
use Rattle.tw_rows.specs.declared.kind.Kind.{Kind}
use Rattle.tw_rows.specs.declared.edge.Edge.{Edge}
use Rattle.tw_rows.specs.declared.edge.HeldRow.{HeldRow}
use Rattle.edge_stream.specs.declared.saved.SavedEntry.{SavedEntry}
use Rattle.edge_history.specs.Order.{is_end, is_below, is_from, failing, IsHistory}
use Rattle.edge_history.specs.History.{CellEvent, of}
use Rattle.edge_history.specs.Balance.{news}
use Rattle.edge_history.specs.Opens.{singles_of, bare, started_of, ended_rows, started_rows}
use Rattle.edge_history.proofs.Sums.{failing-append, sum_eq}
use Rattle.edge_history.proofs.Opening.{singles_are_news}
use Rattle.edge_history.proofs.Waiting.{news_between}
use Rattle.edge_history.proofs.Retaining.{events_of_are}
use Rattle.plan_laws.specs.Places.{read_events, AreDistinct, EdgesArePlaced}
use Rattle.plan_model.specs.Opens.{how_often, before}
use Rattle.plan_model.specs.Changes.{changes_at}
use Rattle.plan_model.proofs.Counting.{open_length}
use Rattle.egress.specs.Instants.{AreMoves, AreOpen}
use Rattle.plan_laws.specs.RowCells.{cells_of}
use Rattle.egress.specs.Kept.{are_placed}
use Rattle.egress.specs.Print.{print}
use Rattle.egress.specs.Waiting.{Waiting, edges_if, edges_at, ArePopped, SameMoves, Swept, WaitingArePlaced}
use Rattle.egress.specs.Saving.{starts_of, end_of, ends_of}
use Rattle.egress.specs.Saved.{end_at, count_of, EndAt, Taken, TakenEnds, IsSettled}
use Rattle.egress.proofs.Counted.{either_way}
use Rattle.egress.proofs.Entries.{starts_append}
use Rattle.egress.proofs.Moving.{edges_move}
use Rattle.egress.proofs.Placing.{popped_placed, rest_placed}
use Rattle.plan_laws.proofs.RowCells.{cells_again}
use Rattle.egress.proofs.Reading.{placed_if, placed_then, same_place, stands_itself}
use Rattle.egress.proofs.SavedEnds.{order_more}
use Rattle.egress.proofs.Sweeps.{swept_to, swept_next, now_are}
use Rattle.egress.proofs.Taking.{first_passes, popped_passes, rest_passes}
use Rattle.egress.proofs.Touched.{open_then}

-- END EDGES AT AN INSTANT
at_all : (v : ℕ) (es : List Edge) → edges_at v (map (end_at v) es) ≡ map (end_at v) es
at_all v [] = refl
at_all v (e ∷ es) =
    let same : nat_eq v v ≡ true = grind (arith, nat_tests) in
    ap (λ b. cond b (end_at v e ∷ edges_at v (map (end_at v) es)) (edges_at v (map (end_at v) es))) same ∙ ap (λ l. end_at v e ∷ l) (at_all v es)

at_none : (v t : ℕ) (es : List Edge) → nat_eq v t ≡ false → edges_at t (map (end_at v) es) ≡ []
at_none v t [] apart = refl
at_none v t (e ∷ es) apart = ap (λ b. cond b (end_at v e ∷ edges_at t (map (end_at v) es)) (edges_at t (map (end_at v) es))) apart ∙ at_none v t es apart

ended_same : (v : ℕ) (es : List Edge) → 0 < v → failing is_end es ≡ 0 → bare (ended_rows (map (end_at v) es)) ≡ bare (ended_rows es)
ended_same v [] pos h = refl
ended_same v (e ∷ es) pos h =
    let parts = first_passes (is_end e) (failing is_end es) h in
    let one : is_end (end_at v e) ≡ true = lt-ltb 0 v pos in
    ap (λ b. bare (cond b (record { cells = e.cells; start = 0 } ∷ []) [] ++ ended_rows (map (end_at v) es))) one
    ∙ ap (λ l. e.cells ∷ l) (ended_same v es pos parts.1)
    ∙ sym (ap (λ b. bare (cond b (record { cells = e.cells; start = e.other } ∷ []) [] ++ ended_rows es)) parts.0)

started_none_at : (v : ℕ) (es : List Edge) → 0 < v → started_rows (map (end_at v) es) ≡ []
started_none_at v [] pos = refl
started_none_at v (e ∷ es) pos =
    let one : is_end (end_at v e) ≡ true = lt-ltb 0 v pos in
    ap (λ b. cond b [] (record { cells = e.cells; start = v } ∷ []) ++ started_rows (map (end_at v) es)) one ∙ started_none_at v es pos

only_ends : (es : List Edge) → started_rows es ≡ [] → failing is_end es ≡ 0
only_ends [] h = refl
only_ends (e ∷ es) h = pick (is_end e) h (only_ends es)
  where
    pick : (b : Bool) → cond b [] (record { cells = e.cells; start = e.sync } ∷ []) ++ started_rows es ≡ [] → (started_rows es ≡ [] → failing is_end es ≡ 0) → cond {A = ℕ} b 0 1 + failing is_end es ≡ 0
    pick true h rest = let z = rest h in omega (arith, z)
    pick false h rest = absurd (cc)

no_items : {X : Type 0} (xs : List X) → total (λ x. 1) xs ≡ 0 → xs ≡ []
no_items [] h = refl
no_items (x ∷ xs) h = absurd (omega (arith, h))

-- how many edges are of the row of cells
module _ (texts : List (List ℕ)) (apart : AreDistinct texts) where
  count_is : (r : Row) (es : List Edge) → EdgesArePlaced texts es → failing is_end es ≡ 0 → count_of (cells_of texts r) es ≡ how_often r (map (read_cells texts) (bare (ended_rows es)))
  count_is r [] placed ends = refl
  count_is r (e ∷ es) placed ends =
      let parts = first_passes (is_end e) (failing is_end es) ends in
      let own = All-head (λ (x : Edge). ArePlaced texts x.cells) e es placed in
      let rest = count_is r es (All-tail (λ (x : Edge). ArePlaced texts x.cells) e es placed) parts.1 in
      let same = same_place texts apart (read_cells texts e.cells) e.cells (stands_itself texts e.cells own) r ∙ either_way (read_cells texts e.cells) r in
      ap (λ b. cond {A = ℕ} b 1 0 + count_of (cells_of texts r) es) same
      ∙ ap (λ n. cond {A = ℕ} (eq_by_cmp row_cmp r (read_cells texts e.cells)) 1 0 + n) rest
      ∙ sym (ap (λ b. how_often r (map (read_cells texts) (bare (cond b (record { cells = e.cells; start = e.other } ∷ []) [] ++ ended_rows es)))) parts.0)

  unplaced_none : (c : List Datum) (es : List Edge) → are_placed texts c ≡ false → EdgesArePlaced texts es → count_of c es ≡ 0
  unplaced_none c [] out placed = refl
  unplaced_none c (e ∷ es) out placed = pick (same_cells e.cells c) refl (unplaced_none c es out (All-tail (λ (x : Edge). ArePlaced texts x.cells) e es placed))
    where
      pick : (b : Bool) → same_cells e.cells c ≡ b → count_of c es ≡ 0 → cond {A = ℕ} b 1 0 + count_of c es ≡ 0
      pick true f z =
          let in_table = placed_then texts e.cells (All-head (λ (x : Edge). ArePlaced texts x.cells) e es placed) in
          let bad : true ≡ false = sym in_table ∙ ap (are_placed texts) (cells_are_same e.cells c f) ∙ out in
          absurd (cc)
      pick false f z = omega (arith, z)

after_ends : (n e s v : ℕ) (l : List ℕ) → n ≡ e → s ≡ 0 → drop n l ≡ drop (e - s) l ++ replicate (s - e) v
after_ends n e s v l same none =
    let a : n ≡ e - s = omega (arith, same, none) in
    let b : 0 ≡ s - e = omega (arith, none) in
    ap (λ k. drop k l) a ∙ sym (append-nil (drop (e - s) l)) ∙ ap (λ k. drop (e - s) l ++ replicate k v) b

positive : (rows : ℕ → List Row) (r : Row) (v : ℕ) → 1 ≤ how_often r (before rows v) → 0 < v
positive rows r zero h = absurd (omega (arith, h))
positive rows r (suc v) h = omega arith

-- an instant at which rows end only
module _ (texts : List (List ℕ)) (events : List CellEvent) (closed : ℕ) (settled : IsSettled texts events closed) (v : ℕ) (now : List Edge) (low : closed ≤ v) (below : v < inf)
    (placed : EdgesArePlaced texts now) (same : SameMoves now (news v (suc v) events)) (s1 : List Datum → List ℕ)
    (opened : AreOpen (alive (read_events texts events)) v (λ r. s1 (cells_of texts r))) where
  abbrev rows : ℕ → List Row
  rows = alive (read_events texts events)

  abbrev ending : Row → ℕ
  ending r = how_often r (map (read_cells texts) (bare (ended_rows now)))

  abbrev starting : Row → ℕ
  starting r = how_often r (map (read_cells texts) (bare (started_rows now)))

  moves : AreMoves rows v ending starting
  moves = edges_move texts events v now settled.valid same

  none_starts : started_rows now ≡ []
  none_starts = no_items (started_rows now) (
      sym (total-map (λ c. 1) (λ (h : HeldRow). h.cells) (started_rows now)) ∙ same.started.weigh (λ c. 1)
      ∙ total-map (λ c. 1) (λ (h : HeldRow). h.cells) (started_rows (news v (suc v) events)) ∙ settled.begun (λ h. 1) v low below)

  all_end : failing is_end now ≡ 0
  all_end = only_ends now none_starts

  no_start : (r : Row) → starting r ≡ 0
  no_start r = ap (λ l. how_often r (map (read_cells texts) (bare l))) none_starts

  fits : (r : Row) → count_of (cells_of texts r) now ≤ how_often r (before rows v)
  fits r = let a = count_is texts settled.distinct r now placed all_end in let b = moves r in let z = no_start r in omega (arith, a, b, z)

  fits_open : (r : Row) → count_of (cells_of texts r) now ≤ length (s1 (cells_of texts r))
  fits_open r = let a = fits r in let b = ap length (opened r) ∙ open_length rows r v in omega (arith, a, b)

  pub enough : (c : List Datum) → count_of c now ≤ length (s1 c)
  enough c = pick (are_placed texts c) refl
    where
      pick : (b : Bool) → are_placed texts c ≡ b → count_of c now ≤ length (s1 c)
      pick true e = subst (λ k. count_of k now ≤ length (s1 k)) (cells_again texts settled.distinct c (placed_if texts c e)) (fits_open (read_cells texts c))
      pick false e = let z = unplaced_none texts settled.distinct c now e placed in omega (arith, z)

  pub open_next : (s2 : List Datum → List ℕ) → ((c : List Datum) → s2 c ≡ drop (count_of c now) (s1 c)) → AreOpen rows (suc v) (λ r. s2 (cells_of texts r))
  open_next s2 left r =
      left (cells_of texts r)
      ∙ after_ends (count_of (cells_of texts r) now) (ending r) (starting r) v (s1 (cells_of texts r)) (count_is texts settled.distinct r now placed all_end) (no_start r)
      ∙ open_then rows v ending starting moves (λ q. s1 (cells_of texts q)) opened r

  pub told_again : SameMoves (map (end_at v) now) (news v (suc v) events)
  told_again = record {
    ended = record { weigh = λ w. ap (total w) (again now refl) ∙ same.ended.weigh w };
    started = record { weigh = λ w. ap (total w) (begin now refl) ∙ same.started.weigh w };
  }
    where
      pos : (e : Edge) (es : List Edge) → now ≡ e ∷ es → 0 < v
      pos e es is =
          let own = read_cells texts e.cells in
          let here = All-head (λ (x : Edge). ArePlaced texts x.cells) e es (subst (EdgesArePlaced texts) is placed) in
          let again = cells_again texts settled.distinct e.cells here in
          let one = ap (count_of e.cells) is in
          let self = ap (λ b. cond {A = ℕ} b 1 0) (same_itself e.cells) in
          let fit = subst (λ k. count_of k now ≤ how_often own (before rows v)) again (fits own) in
          positive rows own v (omega (arith, one, self, fit))

      again : (es : List Edge) → now ≡ es → bare (ended_rows (map (end_at v) now)) ≡ bare (ended_rows now)
      again [] is = ap (λ l. bare (ended_rows (map (end_at v) l))) is ∙ sym (ap (λ l. bare (ended_rows l)) is)
      again (e ∷ es) is = ended_same v now (pos e es is) all_end

      begin : (es : List Edge) → now ≡ es → bare (started_rows (map (end_at v) now)) ≡ bare (started_rows now)
      begin [] is = ap (λ l. bare (started_rows (map (end_at v) l))) is ∙ sym (ap (λ l. bare (started_rows l)) is)
      begin (e ∷ es) is = ap bare (started_none_at v now (pos e es is)) ∙ sym (ap bare none_starts)

-- THE INSTANTS
pub record EndsSo (texts : List (List ℕ)) (kinds : List Kind) (events : List CellEvent) (a closed : ℕ) (waiting0 : Waiting) (old mid : List SavedEntry)
    (since s1 : List Datum → List ℕ) (waiting : Waiting) : Type 0 where
  pub added : List SavedEntry
  pub at : ℕ
  pub text : List ℕ
  pub is : mid ≡ old ++ added
  pub starts : (c : List Datum) → starts_of added c ++ s1 c ≡ since c
  pub from : closed ≤ at
  pub high : at ≤ inf
  pub swept : Swept texts kinds events a at (λ r. s1 (cells_of texts r)) waiting text
  pub ends : (t : ℕ) → closed ≤ t → t < at → SameMoves (edges_at t (ends_of added)) (news t (suc t) events)
  pub later : (t : ℕ) → at ≤ t → edges_at t (ends_of added) ≡ []
  pub each : All (λ e. (e.part ≡ 0) × (closed ≤ e.other) × (e.other < at)) added
  pub order : IsNonDecreasingBy (λ e. e.other) added
  pub placed : WaitingArePlaced texts waiting
  pub cells : (p : List Datum → Bool) → ((t : ℕ) → failing (λ e. p e.cells) (edges_if (waiting0 t)) ≡ 0) →
      (failing (λ e. p e.cells) added ≡ 0) × ((t : ℕ) → failing (λ e. p e.cells) (edges_if (waiting t)) ≡ 0)

module _ (texts : List (List ℕ)) (kinds : List Kind) (events : List CellEvent) (a closed : ℕ) (settled : IsSettled texts events closed) (waiting0 : Waiting) (old : List SavedEntry)
    (since : List Datum → List ℕ) where
  pub ends_first : (text : List ℕ) → closed ≤ inf → Swept texts kinds events a closed (λ r. since (cells_of texts r)) waiting0 text → WaitingArePlaced texts waiting0 →
      EndsSo texts kinds events a closed waiting0 old old since since waiting0
  ends_first text high swept placed = record {
    added = [];
    at = closed;
    text = text;
    is = sym (append-nil old);
    starts = λ c. refl;
    from = omega arith;
    high = high;
    swept = swept;
    ends = λ t low below. absurd (omega (arith, low, below));
    later = λ t low. refl;
    each = All-nil (λ (e : SavedEntry). (e.part ≡ 0) × (closed ≤ e.other) × (e.other < closed));
    order = λ i j d low within. absurd (omega (arith, within));
    placed = placed;
    cells = λ p h. (refl, h);
  }

  -- no end waits between two instants
  quiet : (at v t : ℕ) (opens : Row → List ℕ) (waiting : Waiting) (text : List ℕ) → Swept texts kinds events a at opens waiting text → ((u : ℕ) → u < v → waiting u ≡ None) →
      at ≤ t → t < v → t < inf → SameMoves [] (news t (suc t) events)
  quiet at v t opens waiting text s none low below under = subst (λ o. SameMoves (edges_if o) (news t (suc t) events)) (none t below) (s.waits t low under)

  module _ (mid new : List SavedEntry) (s1 s2 : List Datum → List ℕ) (waiting waiting2 : Waiting) (v : ℕ) (now : List Edge) (popped : ArePopped waiting waiting2 v now) (below : v < inf)
      (e : EndsSo texts kinds events a closed waiting0 old mid since s1 waiting) (t : Taken v now mid new s1 s2) where
    abbrev opens : Row → List ℕ
    opens r = s1 (cells_of texts r)

    reached : Swept texts kinds events a v opens waiting e.text
    reached = swept_to texts events kinds settled.valid a e.at v inf opens waiting waiting2 e.text now popped below (omega arith) e.swept

    same : SameMoves now (news v (suc v) events)
    same = now_are texts events kinds settled.valid a e.at v inf opens waiting waiting2 e.text now popped below (omega arith) e.swept

    reaches : e.at ≤ v
    reaches = pick (nat_lt v e.at) refl
      where
        pick : (b : Bool) → nat_lt v e.at ≡ b → e.at ≤ v
        pick true f = absurd (let z = sym popped.there ∙ e.swept.none v (ltb-true v e.at f) in cc)
        pick false f = ltb-false v e.at f

    low : closed ≤ v
    low = let f = e.from in let z = reaches in omega (arith, f, z)

    here : EdgesArePlaced texts now
    here = popped_placed texts waiting waiting2 v now popped e.placed

    ends_are : ends_of t.added ≡ map (end_at v) now
    ends_are = t.ends below (enough texts events closed settled v now low below here same s1 reached.reached.opened)

    both : (u : ℕ) → edges_at u (ends_of (e.added ++ t.added)) ≡ edges_at u (ends_of e.added) ++ edges_at u (map (end_at v) now)
    both u =
        ap (edges_at u) (flat_map-append end_of e.added t.added ∙ ap (λ l. ends_of e.added ++ l) ends_are)
        ∙ filter-append (λ (x : Edge). nat_eq x.sync u) (ends_of e.added) (map (end_at v) now)

    told : (u : ℕ) → closed ≤ u → u < suc v → SameMoves (edges_at u (ends_of (e.added ++ t.added))) (news u (suc u) events)
    told u from under = subst (λ l. SameMoves l (news u (suc u) events)) (sym (both u)) (pick (nat_eq v u) refl)
      where
        early : (b : Bool) → nat_lt u e.at ≡ b → nat_eq v u ≡ false → SameMoves (edges_at u (ends_of e.added)) (news u (suc u) events)
        early true f apart = e.ends u from (ltb-true u e.at f)
        early false f apart =
            let after = ltb-false u e.at f in
            let less : u < v = let ne = eqb-false v u apart in omega (arith, under, ne) in
            subst (λ l. SameMoves l (news u (suc u) events)) (sym (e.later u after)) (quiet e.at v u opens waiting e.text e.swept popped.first after less (omega (arith, less, below)))

        pick : (b : Bool) → nat_eq v u ≡ b → SameMoves (edges_at u (ends_of e.added) ++ edges_at u (map (end_at v) now)) (news u (suc u) events)
        pick true f = subst (λ k. SameMoves (edges_at k (ends_of e.added) ++ edges_at k (map (end_at v) now)) (news k (suc k) events)) (eqb-true v u f)
            (subst (λ l. SameMoves l (news v (suc v) events)) (sym (ap (λ l. l ++ edges_at v (map (end_at v) now)) (e.later v reaches) ∙ at_all v now))
            (told_again texts events closed settled v now low below here same s1 reached.reached.opened))
        pick false f = subst (λ l. SameMoves l (news u (suc u) events)) (sym (ap (λ l. edges_at u (ends_of e.added) ++ l) (at_none v u now f) ∙ append-nil (edges_at u (ends_of e.added))))
            (early (nat_lt u e.at) refl f)

    pub ends_next : EndsSo texts kinds events a closed waiting0 old new since s2 waiting2
    ends_next = record {
      added = e.added ++ t.added;
      at = suc v;
      text = e.text ++ print kinds (changes_at (alive (read_events texts events)) v);
      is = t.is ∙ ap (λ l. l ++ t.added) e.is ∙ append_assoc old e.added t.added;
      starts = λ c. ap (λ l. l ++ s2 c) (starts_append e.added t.added c) ∙ append_assoc (starts_of e.added c) (starts_of t.added c) (s2 c) ∙ ap (λ l. starts_of e.added c ++ l) (t.starts c) ∙ e.starts c;
      from = let z = low in omega (arith, z);
      high = omega (arith, below);
      swept = swept_next texts events kinds settled.valid a e.at v inf opens waiting waiting2 e.text now popped below (omega arith) e.swept (λ r. s2 (cells_of texts r))
          (e.text ++ print kinds (changes_at (alive (read_events texts events)) v)) refl
          (open_next texts events closed settled v now low below here same s1 reached.reached.opened s2 t.left);
      ends = told;
      later = λ u after. both u ∙ ap (λ l. l ++ edges_at u (map (end_at v) now)) (e.later u (let z = reaches in omega (arith, z, after)))
          ∙ at_none v u now (ne_eqb v u (λ is. omega (arith, is, after)));
      each = All-append (λ (x : SavedEntry). (x.part ≡ 0) × (closed ≤ x.other) × (x.other < suc v)) e.added t.added
          (All-weaker (λ (x : SavedEntry). (x.part ≡ 0) × (closed ≤ x.other) × (x.other < e.at)) (λ (x : SavedEntry). (x.part ≡ 0) × (closed ≤ x.other) × (x.other < suc v))
          (λ x h. (h.0, h.1, let z = reaches in let y = h.2 in omega (arith, z, y))) e.added e.each)
          (All-weaker (EndAt v) (λ (x : SavedEntry). (x.part ≡ 0) × (closed ≤ x.other) × (x.other < suc v))
          (λ x h. (h.0, let z = low in let y = h.1 in omega (arith, z, y), let y = h.1 in omega (arith, y))) t.added t.each);
      order = order_more (λ (x : SavedEntry). x.other) v e.added t.added e.order
          (All-weaker (λ (x : SavedEntry). (x.part ≡ 0) × (closed ≤ x.other) × (x.other < e.at)) (λ (x : SavedEntry). x.other ≤ v) (λ x h. let z = reaches in let y = h.2 in omega (arith, z, y)) e.added e.each)
          (All-weaker (EndAt v) (λ (x : SavedEntry). x.other ≡ v) (λ x h. h.1) t.added t.each);
      placed = rest_placed texts waiting waiting2 v now popped e.placed;
      cells = λ p h.
          let was = e.cells p h in (
            failing-append (λ (x : SavedEntry). p x.cells) e.added t.added was.0 (t.cells p (popped_passes p waiting waiting2 v now popped was.1)),
            rest_passes p waiting waiting2 v now popped was.1,
          );
    }

  pub ends_last : (new : List SavedEntry) (s1 : List Datum → List ℕ) (waiting : Waiting) → ((t : ℕ) → t < inf → waiting t ≡ None) →
      EndsSo texts kinds events a closed waiting0 old new since s1 waiting → TakenEnds events closed waiting0 old new since s1
  ends_last new s1 waiting none e = record {
    added = e.added;
    is = e.is;
    starts = e.starts;
    ends = λ t low below. pick t low below (nat_lt t e.at) refl;
    each = All-weaker (λ (x : SavedEntry). (x.part ≡ 0) × (closed ≤ x.other) × (x.other < e.at)) (λ (x : SavedEntry). (x.part ≡ 0) × (closed ≤ x.other) × (x.other < inf))
        (λ x h. (h.0, h.1, let z = e.high in let y = h.2 in omega (arith, z, y))) e.added e.each;
    order = e.order;
    cells = λ p h. (e.cells p h).0;
  }
    where
      pick : (t : ℕ) → closed ≤ t → t < inf → (b : Bool) → nat_lt t e.at ≡ b → SameMoves (edges_at t (ends_of e.added)) (news t (suc t) events)
      pick t low below true f = e.ends t low (ltb-true t e.at f)
      pick t low below false f =
          let after = ltb-false t e.at f in
          subst (λ l. SameMoves l (news t (suc t) events)) (sym (e.later t after)) (quiet e.at inf t (λ r. s1 (cells_of texts r)) waiting e.text e.swept none after below below)

-- EDGES BELOW A TIME START NOTHING FROM IT ON
module _ (w : HeldRow → ℕ) (c t : ℕ) (low : c ≤ t) where
  abbrev weight : Edge → ℕ
  weight x = cond (is_from t x && is_below (suc t) x) (total w (started_of x)) 0

  single_none : (e : Edge) → is_below c e ≡ true → total weight (singles_of e) ≡ 0
  single_none e below = grind (arith, nat_tests)

  pub none_begun : (h : List Edge) → IsHistory h → failing (is_below c) h ≡ 0 → t < inf → total w (started_rows (news t (suc t) (of h))) ≡ 0
  none_begun h history below under =
      total-flat_map w started_of (news t (suc t) (of h))
      ∙ sym (news_between (λ x. total w (started_of x)) t (suc t) (of h) (omega (arith, under)))
      ∙ sym ((singles_are_news h (of h) history.real (events_of_are h history)).weigh weight)
      ∙ total-flat_map weight singles_of h
      ∙ sum_eq (is_below c) (λ e. total weight (singles_of e)) (λ e. 0) h single_none below
      ∙ total_zero h
