-- What is taken up of entries, one by one, and all of it.
use Rattle.std.specs.Prelude.{◌≡◌, ◌≢◌, ℕ, ◌*◌, ◌<◌, ◌≤◌, ◌⊎◌, nat_eq, Bool, true, false, ◌&&◌, cond, All, Vec, List, [], ◌∷◌, ◌++◌, length, get_or, map, filter, refl}
use Rattle.std.proofs.Common.{sym, ◌∙◌, ap, subst, arith, inl, inr}
use Rattle.std.proofs.lemmas.Bool.{eqb-true, cases_lt}
use Rattle.std.specs.declared.result.Result.{Result}
use Rattle.std.specs.declared.result.Result.TheVariants.{Ok}
use Rattle.std.proofs.lemmas.Bool.Decides.{Decides-eqb}
use Rattle.std.proofs.lemmas.List.{append-nil, length-map, get_or-map, get_or_past}
use Rattle.std.proofs.lemmas.List.Elements.{All-nil, All-cons, All-append}
use Rattle.std.proofs.lemmas.List.Concat.{flat_map-append}
use Rattle.tw_rows.specs.Instant.{inf}
use Rattle.tw_rows.specs.Bag.{total, SameBag}
use Rattle.tw_rows.proofs.Bags.{total-append, SameBag-refl}
use Rattle.tw_rows.specs.Kinds.{cell_kind_of}
use Rattle.tw_rows.specs.declared.cells.Datum.{Datum}
use Rattle.tw_rows.specs.declared.edge.Edge.{Edge}
use Rattle.tw_rows.specs.declared.kind.Kind.{Kind}
use Rattle.tw_rows.specs.declared.kind.CellKind.{CellKind}
use Rattle.edge_history.specs.Order.{failing}
use Rattle.edge_stream.specs.declared.saved.SavedEntry.{SavedEntry}
use Rattle.edge_stream.specs.Entries.{saved_edge}
use Rattle.edge_stream.proofs.CarriedParts.{part_of_append}
use Rattle.row_reader.specs.Printed.{IsEnd}
use Rattle.admission.specs.Admission.{Admission}
use Rattle.ingress.specs.declared.opens.OpenKey.{OpenKey}
use Rattle.ingress.specs.declared.opens.OpenStart.{OpenStart}
use Rattle.ingress.specs.declared.watermarks.Watermark.{Watermark}
use Rattle.ingress.specs.declared.ingress.Ingress.{Ingress}
use Rattle.ingress.specs.OpenKeys.{same_key, starts_in}
use Rattle.ingress.specs.Fits.{are_stored, is_fit, AreFit, HasShape}
use Rattle.ingress.specs.Held.{IsHeld}
use Rattle.ingress.specs.Keeping.{CellOpen, is_named, cell_rows, Changed}
use Rattle.ingress.specs.Streams.{unraised, bound_in, mark_in, AreAbove}
use Rattle.ingress.specs.Admits.{cells_of, IsStored, Admits}
use Rattle.ingress.specs.Saving.{stream_of, role_of, waiting_of, open_at, open_of, opens_of, IsSoundEntry, Resumes}
use Rattle.ingress.specs.Loaded.{Loads, AreSoundMarks, IsState, cells_of_kinds}
use Rattle.ingress.proofs.Fitting.{kinds_stored, put_fits}
use Rattle.ingress.proofs.Holding.{same_held}
use Rattle.ingress.proofs.Keep.{named_more, other_number}
use Rattle.ingress.proofs.Lines.{cells_same}

same_numbers : (m n : ℕ) → m ≡ n → nat_eq m n ≡ true
same_numbers m n e = (Decides-eqb m n).1 e

pub loads_first : (cells : List (List CellKind)) (last : ℕ) (w : List (List Edge)) (starts : OpenKey → List OpenStart) → length w ≡ length cells → ((s : ℕ) → get_or w s [] ≡ []) →
    ((k : OpenKey) → starts k ≡ []) → Loads cells last [] w starts
loads_first cells last w starts long empty none = record {
  long = long;
  waits = λ s less. subst (λ es. SameBag es []) (sym (empty s)) (SameBag-refl []);
  queued = none;
  fit = λ s. ap (failing (is_fit (get_or cells s []))) (empty s);
  each = All-nil (IsSoundEntry cells last);
}

-- what is taken up fits
pub edge_fit : (cells : List (List CellKind)) (last : ℕ) (e : SavedEntry) (sound : IsSoundEntry cells last e) → role_of e ≡ 0 → is_fit (get_or cells (stream_of e) []) (saved_edge e) ≡ true
edge_fit cells last e sound role =
    ap (λ b. b && are_stored (get_or cells (stream_of e) []) e.cells) (sound.edge role).0
    ∙ kinds_stored (get_or cells (stream_of e) []) e.cells sound.kinds

module _ (cells : List (List CellKind)) (last : ℕ) (saved : List SavedEntry) (w w2 : List (List Edge)) (starts starts2 : OpenKey → List OpenStart)
    (l : Loads cells last saved w starts) (e : SavedEntry) (sound : IsSoundEntry cells last e) where
  waiting_more : (s : ℕ) (b : Bool) → nat_eq e.part (3 * s) ≡ b → waiting_of (saved ++ e ∷ []) s ≡ waiting_of saved s ++ cond b (saved_edge e ∷ []) []
  waiting_more s b is = part_of_append (3 * s) saved (e ∷ []) ∙ ap (λ x. waiting_of saved s ++ map saved_edge (cond x (e ∷ []) [])) is ∙ ap (λ x. waiting_of saved s ++ x) (go b)
    where
      go : (b : Bool) → map saved_edge (cond b (e ∷ []) []) ≡ cond b (saved_edge e ∷ []) []
      go true = refl
      go false = refl

  opens_more : opens_of (saved ++ e ∷ []) ≡ opens_of saved ++ open_of e
  opens_more = flat_map-append open_of saved (e ∷ []) ∙ ap (λ x. opens_of saved ++ x) (append-nil (open_of e))

  each_more : All (IsSoundEntry cells last) (saved ++ e ∷ [])
  each_more = All-append (IsSoundEntry cells last) saved (e ∷ []) l.each (All-cons (IsSoundEntry cells last) e [] sound (All-nil (IsSoundEntry cells last)))

  -- an edge
  pub edge_taken : (at : ℕ) (copy : List Datum) → at ≡ stream_of e → copy ≡ e.cells → role_of e ≡ 0 → Changed at w w2 →
      SameBag (get_or w2 at []) (record { sync = e.sync; other = e.other; cells = copy } ∷ get_or w at []) →
      ((k : OpenKey) → starts2 k ≡ starts k) → Loads cells last (saved ++ e ∷ []) w2 starts2
  edge_taken at copy is cells_are role changed_at bag_at same = record {
    long = changed.long ∙ l.long;
    waits = λ s less. go s less (nat_eq s (stream_of e)) refl;
    queued = λ k. same k ∙ l.queued k ∙ ap (λ xs. map (λ (o : CellOpen). o.state) (filter (is_named k) xs)) (sym (opens_more ∙ ap (λ r. opens_of saved ++ open_at r (stream_of e) e) role ∙ append-nil (opens_of saved)));
    fit = (let r : Result ℕ ℕ = Ok 0 in put_fits cells (stream_of e) w w2 changed l.fit r (saved_edge e) bag tt (edge_fit cells last e sound role));
    each = each_more;
  }
    where
      changed : Changed (stream_of e) w w2
      changed = subst (λ n. Changed n w w2) is changed_at

      bag : SameBag (get_or w2 (stream_of e) []) (saved_edge e ∷ get_or w (stream_of e) [])
      bag = subst (λ n. SameBag (get_or w2 n []) (saved_edge e ∷ get_or w n [])) is
          (subst (λ c. SameBag (get_or w2 at []) (record { sync = e.sync; other = e.other; cells = c } ∷ get_or w at [])) cells_are bag_at)

      part_is : e.part ≡ 3 * stream_of e
      part_is = omega (arith, role)

      go : (s : ℕ) → s < length cells → (b : Bool) → nat_eq s (stream_of e) ≡ b → SameBag (get_or w2 s []) (waiting_of (saved ++ e ∷ []) s)
      go s less true is =
          let at : s ≡ stream_of e = eqb-true s (stream_of e) is in
          let more = waiting_more s true (same_numbers e.part (3 * s) (let p = part_is in omega (arith, p, at))) in
          record {
            weigh = λ v.
                let a = (subst (λ n. SameBag (get_or w2 n []) (saved_edge e ∷ get_or w n [])) (sym at) bag).weigh v in
                let b = (l.waits s less).weigh v in
                let c = ap (total v) more ∙ total-append v (waiting_of saved s) (saved_edge e ∷ []) in
                omega (arith, a, b, c);
          }
      go s less false is =
          let apart : s ≢ stream_of e = λ f. absurd (let t = same_numbers s (stream_of e) f in cc) in
          let more = waiting_more s false (other_number e.part (3 * s) (λ f. apart (let p = part_is in omega (arith, p, f)))) ∙ append-nil (waiting_of saved s) in
          record {
            weigh = λ v.
                let a = ap (total v) (changed.others s apart) in
                let b = (l.waits s less).weigh v in
                let c = ap (total v) more in
                omega (arith, a, b, c);
          }

  -- an open start
  pub start_taken : (key : OpenKey) (state : OpenStart) → key ≡ record { stream = stream_of e; given = e.other; cells = e.cells } → state ≡ record { start = e.sync; dropped = nat_eq (role_of e) 2 } →
      1 ≤ role_of e → w2 ≡ w → ((k : OpenKey) → starts2 k ≡ cond (same_key key k) (starts k ++ state ∷ []) (starts k)) → Loads cells last (saved ++ e ∷ []) w2 starts2
  start_taken key state key_is state_is role same opened_at = record {
    long = ap length same ∙ l.long;
    waits = λ s less.
        let more = waiting_more s false (other_number e.part (3 * s) (λ f. omega (arith, f, role))) ∙ append-nil (waiting_of saved s) in
        record {
          weigh = λ v.
              let a = ap (λ x. total v (get_or x s [])) same in
              let b = (l.waits s less).weigh v in
              let c = ap (total v) more in
              omega (arith, a, b, c);
        };
    queued = λ k.
        opened_at k
        ∙ (λ i. cond (same_key (key_is i) k) (starts k ++ state_is i ∷ []) (starts k))
        ∙ ap (λ x. cond (same_key own.key k) (x ++ own.state ∷ []) x) (l.queued k)
        ∙ go (same_key own.key k) (map (λ (o : CellOpen). o.state) (filter (is_named k) (opens_of saved)))
        ∙ sym (named_more (λ (o : CellOpen). o.state) k own (opens_of saved))
        ∙ ap (λ xs. map (λ (o : CellOpen). o.state) (filter (is_named k) xs)) (sym (opens_more ∙ ap (λ b. opens_of saved ++ cond b [] (own ∷ [])) (other_number (role_of e) 0 (λ f. omega (arith, f, role)))));
    fit = subst (AreFit cells) (sym same) l.fit;
    each = each_more;
  }
    where
      own : CellOpen
      own = record { key = record { stream = stream_of e; given = e.other; cells = e.cells }; state = record { start = e.sync; dropped = nat_eq (role_of e) 2 } }

      go : (b : Bool) (xs : List OpenStart) → cond b (xs ++ own.state ∷ []) xs ≡ xs ++ cond b (own.state ∷ []) []
      go true xs = refl
      go false xs = sym (append-nil xs)

-- how the cells of a stream are stored
pub kinds_at : {V : Type 0} (f : V → List Kind) (ks : List V) (s : ℕ) (v : V) (own : List Kind) → s < length ks → v ≡ get_or ks s v → own ≡ f v →
    get_or (map (λ k. map cell_kind_of k) (map f ks)) s [] ≡ map cell_kind_of own
kinds_at f ks s v own low is own_is =
    let l = length-map ks f in
    get_or-map (map cell_kind_of) (map f ks) s [] [] (omega (arith, low, l)) ∙ ap (map cell_kind_of) (get_or-map f ks s v [] low ∙ ap f (sym is) ∙ sym own_is)

-- THE WHOLE
pub loaded_above : (n : ℕ) (ws : List Watermark) (bounds marks : ℕ → ℕ) → length ws ≡ n → ((s : ℕ) → s < n → bound_in ws s ≡ bounds s) → ((s : ℕ) → s < n → mark_in ws s ≡ marks s) →
    ((s : ℕ) → s < n → marks s ≤ bounds s) → AreAbove ws
loaded_above n ws bounds marks long same_bounds same_marks above s = go (cases_lt s n)
  where
    go : (s < n) ⊎ (n ≤ s) → mark_in ws s ≤ bound_in ws s
    go (inl less) = (let a = above s less in let b = same_bounds s less in let m = same_marks s less in omega (arith, a, b, m))
    go (inr past) =
        let none = get_or_past ws s unraised (omega (arith, long, past)) in
        let b = ap (λ (x : Watermark). x.bound) none in
        let m = ap (λ (x : Watermark). x.mark) none in
        omega (arith, b, m)

pub loaded_shape : (kinds : List (List Kind)) (capacity count after : ℕ) (held waiting : List (List Edge)) → HasShape kinds capacity count held → after ≡ length kinds →
    length waiting ≡ length kinds → AreFit (map (λ k. map cell_kind_of k) kinds) waiting → HasShape kinds capacity after waiting
loaded_shape kinds capacity count after held waiting h marks long fit = record { marks = marks; waiting = long; room = h.room; width = h.width; fit = fit }

module _ (old : Ingress) (saved : List SavedEntry) (bounds marks : ℕ → ℕ) (last : ℕ) (texts : List (List ℕ)) (a : Admission) (given : ℕ → List Edge)
    (r : Resumes (cells_of old) saved bounds marks last texts a given) where
  counted : length (cells_of old) ≡ length old.kinds.items
  counted = length-map (map (λ k. k.items) old.kinds.items) (λ k. map cell_kind_of k) ∙ length-map old.kinds.items (λ k. k.items)

  pub loaded_admits : (new : Ingress) → new.kinds ≡ old.kinds → new.released ≡ last → last ≤ inf →
      Loads (cells_of old) last saved new.held.waiting.items (starts_in new.held.opens.starts) →
      ((s : ℕ) → s < length old.kinds.items → bound_in new.watermarks.streams.items s ≡ bounds s) → ((s : ℕ) → s < length old.kinds.items → mark_in new.watermarks.streams.items s ≡ marks s) →
      ((s : ℕ) → s < length old.kinds.items → last ≤ bounds s) → Admits texts a given new
  loaded_admits new kinds released high l same_bounds same_marks low = record {
    follows = record {
      instant = omega (arith, released, high);
      bounds = λ s less. r.same_bounds s (in_cells s less) ∙ sym (same_bounds s (fewer s less));
      marks = λ s less. r.same_marks s (in_cells s less) ∙ sym (same_marks s (fewer s less));
      made = r.made;
      opens = r.opens;
      reads_made = r.reads_made;
      reads_opens = r.reads_opens;
      made_placed = r.made_placed;
      opens_placed = r.opens_placed;
      keeps = record {
        held = λ s less. subst (λ p. IsHeld p (given s) (get_or new.held.waiting.items s []) (cell_rows r.made r.opens s)) (sym released)
            (let there : s < length (cells_of old) = (let n = l.long in omega (arith, n, less)) in
            same_held last (given s) (waiting_of saved s) (cell_rows r.made r.opens s) (r.held s there) (get_or new.held.waiting.items s []) (cell_rows r.made r.opens s)
            (l.waits s there) (SameBag-refl (cell_rows r.made r.opens s)));
        queued = λ k. l.queued k ∙ r.queued k;
      };
      declared = subst (λ n. All (λ o. o.key.stream < n) r.opens) (counted ∙ sym (ap (λ k. length k.items) kinds)) r.declared;
      stored = subst (λ cells. All (IsStored cells) r.opens) (sym (cells_same old new kinds)) r.stored;
      none_made = λ s past. r.none_made s (out_cells s past);
      none_given = λ s past. r.none_given s (out_cells s past);
    };
    low = λ s less.
        let b = r.same_bounds s (in_cells s less) in
        let w = low s (fewer s less) in
        omega (arith, released, b, w);
  }
    where
      fewer : (s : ℕ) → s < length new.kinds.items → s < length old.kinds.items
      fewer s less = (let e = ap (λ k. length k.items) kinds in omega (arith, e, less))

      in_cells : (s : ℕ) → s < length new.kinds.items → s < length (cells_of old)
      in_cells s less = (let e = ap (λ k. length k.items) kinds in let n = counted in omega (arith, e, n, less))

      out_cells : (s : ℕ) → length new.kinds.items ≤ s → length (cells_of old) ≤ s
      out_cells s past = (let e = ap (λ k. length k.items) kinds in let n = counted in omega (arith, e, n, past))

-- a state, part by part
pub state_of : (cells : List (List CellKind)) (saved : List SavedEntry) (bounds marks : List ℕ) (last : ℕ) → length bounds ≡ length cells → IsEnd last → AreSoundMarks last bounds marks →
    All (IsSoundEntry cells last) saved → IsState cells saved bounds marks last
state_of cells saved bounds marks last long time each all = record {
  time = time;
  bound_times = λ s less. (each s (omega (arith, less, long))).0;
  mark_times = λ s less. (each s (omega (arith, less, long))).1;
  low = λ s less. (each s (omega (arith, less, long))).2;
  above = λ s less. (each s (omega (arith, less, long))).3;
  each = all;
}

pub marks_of : (cells : List (List CellKind)) (saved : List SavedEntry) (bounds marks : List ℕ) (last : ℕ) → length bounds ≡ length cells → IsState cells saved bounds marks last →
    IsEnd last × AreSoundMarks last bounds marks
marks_of cells saved bounds marks last long h = (
  h.time,
  λ s less.
      let l : s < length cells = omega (arith, less, long) in
      (h.bound_times s l, h.mark_times s l, h.low s l, h.above s l),
)

pub kinds_long : {S : Type 0} (kinds : List (Vec Kind S)) → length (cells_of_kinds kinds) ≡ length kinds
kinds_long kinds = length-map (map (λ k. k.items) kinds) (λ k. map cell_kind_of k) ∙ length-map kinds (λ k. k.items)
