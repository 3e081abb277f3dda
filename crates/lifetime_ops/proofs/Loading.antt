-- Ends that are loaded and saved.
use Rattle.std.specs.Prelude.{◌≡◌, ℕ, zero, suc, ◌+◌, ◌<◌, ◌≤◌, ◌&&◌, ◌||◌, not, nat_eq, Bool, true, false, cond, List, [], ◌∷◌, ◌++◌, length, map, filter, All, IsTrue, refl}
use Rattle.std.specs.List.{list_all}
use Rattle.std.proofs.Common.{sym, ◌∙◌, ap, arith, subst, get_or, take}
use Rattle.std.proofs.lemmas.Bool.Decides.{nat_tests}
use Rattle.std.proofs.lemmas.List.{append-nil, length-map, take_more}
use Rattle.std.proofs.lemmas.List.Elements.{All-nil, All-cons, All-head, All-tail, All-get_or}
use Rattle.tw_rows.specs.Cells.{datum_kind}
use Rattle.tw_rows.specs.Bag.{SameBag, total}
use Rattle.tw_rows.specs.declared.edge.Edge.{Edge}
use Rattle.tw_rows.specs.declared.kind.CellKind.{CellKind}
use Rattle.tw_rows.proofs.Bags.{total-append}
use Rattle.edge_history.specs.Order.{is_end, is_from, is_real, failing, IsReal, KeepsOrder}
use Rattle.edge_history.specs.History.{of}
use Rattle.edge_history.proofs.Sums.{failing-same, failing-All}
use Rattle.edge_stream.specs.declared.saved.SavedEntry.{SavedEntry}
use Rattle.end_queue.specs.Pending.{Pending, put_pending, AreDueFrom}
use Rattle.plan_model.specs.declared.node.Node.TheVariants.{Extend}
use Rattle.plan_model.specs.Nodes.{node_in}
use Rattle.plan_laws.specs.Held.{may_hold}
use Rattle.plan_laws.specs.Keeping.{plain_cells}
use Rattle.plan_laws.specs.Extending.{KeepsExtended}
use Rattle.plan_laws.proofs.Bound.{extended_bound}
use Rattle.edge_stream.specs.Entries.{saved_edge, entries_of, part_of, are_of_parts, IsEdgePart}
use Rattle.edge_stream.proofs.CarriedParts.{part_of_own, part_of_other, part_of_append, saved_length, parts_own, parts_append, parts_pass, none_fails}
use Rattle.edge_stream.specs.Listing.{cells_of}
use Rattle.edge_stream.specs.Standing.{IsStoredAs, AreStoredAs}
use Rattle.lifetime_ops.specs.declared.extend.ExtendLifetime.{ExtendLifetime}
use Rattle.lifetime_ops.specs.ExtendOperating.{standing}
use Rattle.lifetime_ops.specs.ExtendSaving.{is_end_in, ExtendSound, ExtendResumes, row_of}
use Rattle.lifetime_ops.specs.Waiting.{edges_of_pending, IsWaitingEnd}
use Rattle.lifetime_ops.proofs.Waiting.{total-put, All-put, ends_in_order, late_edges}

-- PUT ONE BY ONE
pub queue_next : (edges : List Edge) (i : ℕ) (e : Edge) (old new : List Pending) → i < length edges → e ≡ get_or edges i e → new ≡ put_pending (record { at = e.sync; edge = e }) old →
    ((w : Edge → ℕ) → total w (edges_of_pending old) ≡ total w (take i edges)) → (w : Edge → ℕ) → total w (edges_of_pending new) ≡ total w (take (i + 1) edges)
queue_next edges i e old new lt is put all w =
    let a = total-put w (record { at = e.sync; edge = e }) old in
    let b = all w in
    let c = ap (λ ps. total w (edges_of_pending ps)) put in
    let d = ap (total w) (take_more edges i e lt ∙ ap (λ x. take i edges ++ x ∷ []) (sym is)) in
    let f = total-append w (take i edges) (e ∷ []) in
    omega (arith, a, b, c, d, f)

end_there : (kinds : List CellKind) (from : ℕ) (edges : List Edge) (i : ℕ) (e : Edge) → i < length edges → e ≡ get_or edges i e → list_all is_end edges ≡ true → IsEdgePart kinds from edges →
    IsWaitingEnd kinds (record { at = e.sync; edge = e }) × (from ≤ e.sync)
end_there kinds from edges i e lt is ends part =
    let end : is_end e ≡ true = subst (λ x. is_end x ≡ true) (sym is) (All-get_or (λ x. IsTrue (is_end x)) edges i e lt ((failing-All is_end edges).0 (none_fails is_end edges ends))) in
    let late : is_from from e ≡ true = subst (λ x. is_from from x ≡ true) (sym is) (All-get_or (λ x. IsTrue (is_from from x)) edges i e lt ((failing-All (is_from from) edges).0 part.late)) in
    let low : from ≤ e.sync = grind (arith, nat_tests) in (
      record {
        at = refl;
        end = end;
        real = subst IsReal (sym is) (All-get_or IsReal edges i e lt part.order.real);
        cells = subst (λ x. map datum_kind x.cells ≡ kinds) (sym is) (All-get_or (λ x. map datum_kind x.cells ≡ kinds) edges i e lt part.cells);
      },
      low,
    )

pub queue_waits : (kinds : List CellKind) (from : ℕ) (edges : List Edge) (i : ℕ) (e : Edge) (old new : List Pending) → i < length edges → e ≡ get_or edges i e → list_all is_end edges ≡ true → IsEdgePart kinds from edges →
    new ≡ put_pending (record { at = e.sync; edge = e }) old → All (IsWaitingEnd kinds) old × All (λ p. from ≤ p.at) old → All (IsWaitingEnd kinds) new × All (λ p. from ≤ p.at) new
queue_waits kinds from edges i e old new lt is ends part put all =
    let here = end_there kinds from edges i e lt is ends part in
    let p : Pending = record { at = e.sync; edge = e } in
    (subst (All (IsWaitingEnd kinds)) (sym put) (All-put (IsWaitingEnd kinds) p old here.0 all.0), subst (All (λ q. from ≤ q.at)) (sym put) (All-put (λ q. from ≤ q.at) p old here.1 all.1))

-- ENDS THAT WAIT
ends_cells : (kinds : List CellKind) (ps : List Pending) → All (IsWaitingEnd kinds) ps → All (λ e. map datum_kind e.cells ≡ kinds) (edges_of_pending ps)
ends_cells kinds [] all = All-nil (λ (e : Edge). map datum_kind e.cells ≡ kinds)
ends_cells kinds (p ∷ ps) all = All-cons (λ (e : Edge). map datum_kind e.cells ≡ kinds) p.edge (edges_of_pending ps) (All-head (IsWaitingEnd kinds) p ps all).cells (ends_cells kinds ps (All-tail (IsWaitingEnd kinds) p ps all))

all_ends : (kinds : List CellKind) (ps : List Pending) → All (IsWaitingEnd kinds) ps → list_all is_end (edges_of_pending ps) ≡ true
all_ends kinds [] all = refl
all_ends kinds (p ∷ ps) all =
    let here : is_end p.edge ≡ true = (All-head (IsWaitingEnd kinds) p ps all).end in
    rw here (all_ends kinds ps (All-tail (IsWaitingEnd kinds) p ps all))

real_passes : (e : Edge) → IsReal e → is_real e ≡ true
real_passes e h = let a = h.instant in let b = h.bounded in let c = h.apart in grind (arith, nat_tests)

ends_are_real : (kinds : List CellKind) (ps : List Pending) → All (IsWaitingEnd kinds) ps → failing is_real (edges_of_pending ps) ≡ 0
ends_are_real kinds [] all = refl
ends_are_real kinds (p ∷ ps) all =
    let here : cond {A = ℕ} (is_real p.edge) 0 1 ≡ 0 = ap (λ b. cond {A = ℕ} b 0 1) (real_passes p.edge (All-head (IsWaitingEnd kinds) p ps all).real) in
    let rest = ends_are_real kinds ps (All-tail (IsWaitingEnd kinds) p ps all) in
    omega (arith, here, rest)

pub extended_same : (by : ℕ) (texts : List (List ℕ)) (x y : ℕ) (carried carried2 waiting waiting2 left right out : List Edge) → carried2 ≡ carried → SameBag waiting waiting2 →
    KeepsExtended by texts x y carried waiting left right out → KeepsExtended by texts x y carried2 waiting2 left right out
extended_same by texts x y carried carried2 waiting waiting2 left right out is same k = rw is (record {
  sides = k.sides;
  late = failing-same (is_from x) waiting2 waiting (record { weigh = λ w. sym (same.weigh w) }) k.late;
  made = record {
    weigh = λ w.
        let a = total-append w out waiting2 in
        let b = total-append w out waiting in
        let c = k.made.weigh w in
        let d = same.weigh w in
        omega (arith, a, b, c, d);
  };
  waits = k.waits;
})

pub extended_held : (by : ℕ) (texts : List (List ℕ)) (x y : ℕ) (carried left right out : List Edge) (kinds : List CellKind) (ps : List Pending) → All (IsWaitingEnd kinds) ps →
    KeepsExtended by texts x y carried (edges_of_pending ps) left right out →
    length carried + length ps ≤ may_hold (Extend 0 by) x x (of left) (of right) (node_in plain_cells (Extend 0 by) (of left) (of right))
extended_held by texts x y carried left right out kinds ps all k =
    let b = extended_bound by texts x y carried (edges_of_pending ps) left right out (ends_are_real kinds ps all) k in
    let len : length (edges_of_pending ps) ≡ length ps = length-map ps (λ p. p.edge) in
    omega (arith, b, len)

-- SAVING
module _ (carried : List Edge) (ends : List Pending) (ends_copy : List Edge) (first entries : List SavedEntry) (copied : ends_copy ≡ edges_of_pending ends) (one : first ≡ [] ++ entries_of 0 carried) (two : entries ≡ first ++ entries_of 1 ends_copy) where
  all : entries ≡ entries_of 0 carried ++ entries_of 1 (edges_of_pending ends)
  all = two ∙ (λ i. one i ++ entries_of 1 (copied i))

  carried_part : part_of 0 entries ≡ carried
  carried_part =
      ap (part_of 0) all ∙ part_of_append 0 (entries_of 0 carried) (entries_of 1 (edges_of_pending ends))
      ∙ (λ i. part_of_own 0 carried i ++ part_of_other 0 1 (edges_of_pending ends) refl i) ∙ append-nil carried

  ends_part : part_of 1 entries ≡ edges_of_pending ends
  ends_part =
      ap (part_of 1) all ∙ part_of_append 1 (entries_of 0 carried) (entries_of 1 (edges_of_pending ends))
      ∙ (λ i. part_of_other 1 0 carried refl i ++ part_of_own 1 (edges_of_pending ends) i)

  pub extend_few : length entries ≤ length carried + length ends
  extend_few =
      let a = saved_length [] first 0 carried one in
      let b = saved_length first entries 1 ends_copy two in
      let c = ap length copied ∙ length-map ends (λ p. p.edge) in
      omega (arith, a, b, c)

  pub extend_saved : (kinds : List CellKind) (x : ℕ) → KeepsOrder carried → All (λ e. map datum_kind e.cells ≡ kinds) carried → failing (is_from x) carried ≡ 0 →
      AreDueFrom 0 ends → All (IsWaitingEnd kinds) ends → All (λ p. x ≤ p.at) ends → ExtendSound kinds x entries
  extend_saved kinds x order cells late due waiting from = record {
    parts = ap (are_of_parts 2) all ∙ parts_append 2 (entries_of 0 carried) (entries_of 1 (edges_of_pending ends)) (parts_own 2 0 carried refl) (parts_own 2 1 (edges_of_pending ends) refl);
    carried = subst (IsEdgePart kinds x) (sym carried_part) (record { order = order; cells = cells; late = late });
    waiting = subst (IsEdgePart kinds x) (sym ends_part) (record { order = ends_in_order kinds ends due waiting; cells = ends_cells kinds ends waiting; late = late_edges kinds x ends waiting from });
    ends = ap (list_all is_end) ends_part ∙ all_ends kinds ends waiting;
  }

  pub extend_resumed : (by : ℕ) (kinds : List CellKind) (texts : List (List ℕ)) (x y : ℕ) (hl hr out : List Edge) → ExtendSound kinds x entries →
      KeepsExtended by texts x y carried (edges_of_pending ends) hl hr out → ExtendResumes by kinds texts x y entries hl hr out
  extend_resumed by kinds texts x y hl hr out sound keeps = record {
    sound = sound;
    keeps = subst (λ c. KeepsExtended by texts x y c (part_of 1 entries) hl hr out) (sym carried_part) (subst (λ e. KeepsExtended by texts x y carried e hl hr out) (sym ends_part) keeps);
  }

-- the cells of each entry are stored as those of the child
pub extend_stored : (o : ExtendLifetime) (entries : List SavedEntry) (x : ℕ) → ExtendSound (cells_of o.carried) x entries → AreStoredAs row_of (standing o) entries
extend_stored o entries x sound = parts_pass (λ p cells. IsStoredAs (standing o) (row_of p) cells) 2 entries sound.parts pick
  where
    pick : (p : ℕ) → p < 2 → All (λ e. IsStoredAs (standing o) (row_of p) e.cells) (part_of p entries)
    pick zero h = sound.carried.cells
    pick (suc zero) h = sound.waiting.cells
    pick (suc (suc p)) h = absurd (omega (arith, h))

-- the entries of a part are ends where each entry is an end or of another part
pub ends_of_part : (p : ℕ) (entries : List SavedEntry) → list_all (is_end_in p) entries ≡ list_all is_end (part_of p entries)
ends_of_part p [] = refl
ends_of_part p (s ∷ rest) = pick (nat_eq s.part p) (ends_of_part p rest)
  where
    pick : (b : Bool) → list_all (is_end_in p) rest ≡ list_all is_end (part_of p rest) →
        ((not b || is_end (saved_edge s)) && list_all (is_end_in p) rest) ≡ list_all is_end (map saved_edge (cond b (s ∷ filter (λ r. nat_eq r.part p) rest) (filter (λ r. nat_eq r.part p) rest)))
    pick true k = ap (λ b. is_end (saved_edge s) && b) k
    pick false k = k
