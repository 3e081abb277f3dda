-- Edges that are taken in, and those of them that are due.
use Rattle.std.specs.Prelude.{◌≡◌, ℕ, suc, ◌+◌, ◌<◌, ◌≤◌, nat_eq, nat_lt, Bool, true, cond, Option, Some, None, IfSome, IfNone, List, [], ◌∷◌, ◌++◌, map, length, get_or, drop, All, refl}
use Rattle.std.specs.Option.{option_to_list}
use Rattle.std.specs.List.Sorted.{IsNonDecreasingBy}
use Rattle.std.proofs.Common.{sym, ◌∙◌, ap, subst, arith}
use Rattle.std.proofs.lemmas.Bool.{eqb-true}
use Rattle.std.proofs.lemmas.Bool.Decides.{nat_tests}
use Rattle.std.proofs.lemmas.List.Elements.{All-nil, All-cons, All-head, All-tail}
use Rattle.std.proofs.lemmas.List.{drop_more}
use Rattle.tw_rows.specs.Bag.{SameBag, total}
use Rattle.tw_rows.specs.declared.edge.Edge.{Edge}
use Rattle.tw_rows.specs.declared.edge.HeldRow.{HeldRow}
use Rattle.tw_rows.specs.Cells.{datum_kind}
use Rattle.tw_rows.specs.declared.kind.CellKind.{CellKind}
use Rattle.tw_rows.proofs.Bags.{total-append}
use Rattle.edge_history.specs.Order.{failing, is_below, is_from, IsReal}
use Rattle.edge_history.specs.Opens.{singles, singles_of, started_rows}
use Rattle.end_queue.specs.Pending.{Pending}
use Rattle.sweep_laws.specs.Sweeps.{SyncsRise}
use Rattle.sweep_sides.specs.Waiting.{queued, AreTimed}
use Rattle.sweep_sides.specs.Sides.{IsSide}
use Rattle.sweep_sides.proofs.Queued.{zero_of, lt_true, first_timed, rest_waits}
use Rattle.sweep_sides.proofs.KeptSides.{side_stepped}

-- one more that comes before a time
pub early_push : (to : ℕ) (due due2 : List Edge) (e : Edge) → due2 ≡ due ++ e ∷ [] → e.sync < to → failing (is_below to) due ≡ 0 → failing (is_below to) due2 ≡ 0
early_push to due due2 e more low h =
    let f : Edge → ℕ = λ x. cond (is_below to x) 0 1 in
    let a = ap (total f) more ∙ total-append f due (e ∷ []) in
    let z = zero_of (nat_lt e.sync to) (lt_true e.sync to low) in
    omega (arith, a, h, z)

pub push_weighs : (w : Edge → ℕ) (due due2 : List Edge) (e : Edge) → due2 ≡ due ++ e ∷ [] → total w due2 ≡ total w due + w e
push_weighs w due due2 e more =
    let a = ap (total w) more ∙ total-append w due (e ∷ []) in
    omega (arith, a)

-- the first one is taken out, if there is one
pub first_out : {X : Type 0} (o : Option X) (es fs : List X) → es ≡ option_to_list o ++ fs → IfSome o (λ e. es ≡ e ∷ fs)
first_out None es fs is = tt
first_out (Some e) es fs is = is

pub none_out : {X : Type 0} (o : Option X) (es fs : List X) → es ≡ option_to_list o ++ fs → IfNone o (fs ≡ es)
none_out None es fs is = sym is
none_out (Some e) es fs is = tt

-- the syncs rise from the first edge on, where those of the rest rise from it on
pub rise_on : (last : ℕ) (i : ℕ) (es : List Edge) (e : Edge) → i < length es → e ≡ get_or es i e → last ≤ e.sync → SyncsRise e.sync (drop (i + 1) es) → SyncsRise last (drop i es)
rise_on last i es e low is le up =
    subst (λ (l : List Edge). SyncsRise last l) (sym (drop_more es i e low ∙ ap (λ x. x ∷ drop (i + 1) es) (sym is))) (le, up)

-- what the test of an edge says
pub below_then : (e : Edge) (to : ℕ) (b : Bool) → b ≡ is_below to e → b ≡ true → e.sync < to
below_then e to b is h = (let t : nat_lt e.sync to ≡ true = sym is ∙ h in lt_of e.sync to t)
  where
    lt_of : (m n : ℕ) → nat_lt m n ≡ true → m < n
    lt_of m n t = grind (arith, nat_tests)

-- entries that are taken out, and those that stay
queued_parts : (taken rest : List Pending) → queued (taken ++ rest) ≡ queued taken ++ queued rest
queued_parts [] rest = refl
queued_parts (p ∷ taken) rest = ap (λ l. p.edge ∷ l) (queued_parts taken rest)

early_taken : (below to : ℕ) (taken : List Pending) → below ≤ to → AreTimed taken → All (λ p. p.at < below) taken → failing (is_below to) (queued taken) ≡ 0
early_taken below to [] le timed low = refl
early_taken below to (p ∷ taken) le timed low =
    let at : p.at ≡ p.edge.sync = eqb-true p.at p.edge.sync (first_timed _ _ timed) in
    let here = All-head (λ (r : Pending). r.at < below) p taken low in
    let z = zero_of (nat_lt p.edge.sync to) (lt_true p.edge.sync to (omega (arith, at, here, le))) in
    let r = early_taken below to taken le (omega (arith, timed)) (All-tail (λ (r : Pending). r.at < below) p taken low) in
    omega (arith, z, r)

-- what was taken out of a queue q, of which q2 is left: entries that were due before a time, put last
pub record TakenOut (below : ℕ) (q q2 : List Pending) (due due2 : List Edge) : Type 0 where
  pub parts : (w : Edge → ℕ) → total w due2 + total w (queued q2) ≡ total w due + total w (queued q)
  pub early : (to : ℕ) → below ≤ to → AreTimed q → failing (is_below to) due ≡ 0 → failing (is_below to) due2 ≡ 0
  pub timed : AreTimed q → AreTimed q2

pub taken_none : (below : ℕ) (q : List Pending) (due : List Edge) → TakenOut below q q due due
taken_none below q due = record { parts = λ w. refl; early = λ to le timed h. h; timed = λ timed. timed }

pub taken_more : (below : ℕ) (q q1 q2 : List Pending) (due due1 due2 : List Edge) → TakenOut below q q1 due due1 → TakenOut below q1 q2 due1 due2 →
    TakenOut below q q2 due due2
taken_more below q q1 q2 due due1 due2 a b = record {
  parts = λ w. b.parts w ∙ a.parts w;
  early = λ to le timed h. b.early to le (a.timed timed) (a.early to le timed h);
  timed = λ timed. b.timed (a.timed timed);
}

pub taken_out : (below : ℕ) (q q2 taken : List Pending) (due due2 : List Edge) → q ≡ taken ++ q2 → due2 ≡ due ++ queued taken →
    All (λ p. p.at < below) taken → TakenOut below q q2 due due2
taken_out below q q2 taken due due2 is more low =
    let v : Pending → ℕ = λ p. cond (nat_eq p.at p.edge.sync) 0 1 in
    let whole = ap (total v) is ∙ total-append v taken q2 in
    record {
      parts = λ w.
          let a = ap (total w) more ∙ total-append w due (queued taken) in
          let b = ap (λ (l : List Pending). total w (queued l)) is ∙ (ap (total w) (queued_parts taken q2) ∙ total-append w (queued taken) (queued q2)) in
          omega (arith, a, b);
      early = λ to le timed h.
          let f : Edge → ℕ = λ x. cond (is_below to x) 0 1 in
          let a = ap (total f) more ∙ total-append f due (queued taken) in
          let e = early_taken below to taken le (omega (arith, whole, timed)) low in
          omega (arith, a, e, h);
      timed = λ timed. omega (arith, whole, timed);
    }

-- one entry
pub one_out : (below : ℕ) (q q2 : List Pending) (p : Pending) (e : Edge) (due due2 : List Edge) → p.edge ≡ e → p.at < below → q ≡ p ∷ q2 →
    due2 ≡ due ++ e ∷ [] → TakenOut below q q2 due due2
one_out below q q2 p e due due2 same low is more =
    taken_out below q q2 (p ∷ []) due due2 is (more ∙ ap (λ (x : Edge). due ++ x ∷ []) (sym same)) (All-cons (λ (r : Pending). r.at < below) p [] low (All-nil (λ (r : Pending). r.at < below)))

-- all that were due before the time
pub record Popped (below : ℕ) (q q2 : List Pending) (due due2 : List Edge) : Type 0 where
  pub out : TakenOut below q q2 due due2
  pub rest : AreTimed q → failing (is_from below) (queued q2) ≡ 0

pub popped : (below : ℕ) (q q2 taken : List Pending) (due due2 : List Edge) → q ≡ taken ++ q2 → due2 ≡ due ++ queued taken →
    All (λ p. p.at < below) taken → All (λ p. below ≤ p.at) q2 → Popped below q q2 due due2
popped below q q2 taken due due2 is more low late =
    let out = taken_out below q q2 taken due due2 is more low in
    record { out = out; rest = λ timed. rest_waits below q2 late (out.timed timed) }

-- the order that a sort leaves
syncs_from : (r : ℕ) (xs : List Edge) → IsNonDecreasingBy (λ e. e.sync) xs → ((d : Edge) → 0 < length xs → r ≤ (get_or xs 0 d).sync) → SyncsRise r xs
syncs_from r [] up low = tt
syncs_from r (e ∷ xs) up low = (
  low e (omega arith),
  syncs_from e.sync xs (λ i j d a b. up (suc i) (suc j) d (omega (arith, a)) (omega (arith, b)))
      (λ d h. up 0 1 d (omega arith) (omega (arith, h))),
)

pub syncs_sorted : (xs : List Edge) → IsNonDecreasingBy (λ e. e.sync) xs → SyncsRise 0 xs
syncs_sorted xs up = syncs_from 0 xs up (λ d h. omega arith)

-- edges as they wait, each for its sync
abbrev pub waiting_of : List Edge → List Pending
waiting_of es = map (λ e. record { at = e.sync; edge = e }) es

queued_waiting : (es : List Edge) → queued (waiting_of es) ≡ es
queued_waiting [] = refl
queued_waiting (e ∷ es) = ap (λ l. e ∷ l) (queued_waiting es)

-- what waited and what came, as one list
abbrev pub both : List Pending → List Edge → List Edge
both q new = queued q ++ singles new

pub both_weighs : (q : List Pending) (new : List Edge) (w : Edge → ℕ) → total w (both q new) ≡ total w (queued q) + total w (singles new)
both_weighs q new w = total-append w (queued q) (singles new)

pub both_parted : (q q2 : List Pending) (new due : List Edge) → ((w : Edge → ℕ) → total w due + total w (queued q2) ≡ total w (queued q) + total w (singles new)) →
    (w : Edge → ℕ) → total w due + total w (queued q2) ≡ total w (both q new)
both_parted q q2 new due parts w = parts w ∙ sym (both_weighs q new w)

-- a side after new edges were taken in
pub side_taken : (kinds : List CellKind) (c d : ℕ) (rows rows2 : List HeldRow) (waiting rest : List Pending) (new due : List Edge) → c ≤ d → IsSide kinds c rows waiting →
    All IsReal new → All (λ e. map datum_kind e.cells ≡ kinds) new →
    ((w : Edge → ℕ) → total w due + total w (queued rest) ≡ total w (queued waiting) + total w (singles new)) →
    failing (is_below d) due ≡ 0 → failing (is_from d) (queued rest) ≡ 0 → AreTimed rest →
    ((w : HeldRow → ℕ) → total w rows2 ≤ total w rows + total w (started_rows due)) → IsSide kinds d rows2 rest
side_taken kinds c d rows rows2 waiting rest new due low s real cells parts below from timed fewer =
    let put = waiting_of (both waiting new) in
    let is : queued put ≡ both waiting new = queued_waiting (both waiting new) in
    side_stepped kinds c d rows rows2 waiting put rest new due low s real cells
    (λ w. ap (total w) is ∙ both_weighs waiting new w)
    (λ w. both_parted waiting rest new due parts w ∙ sym (ap (total w) is))
    below from timed fewer

-- the single edges of a list with one more in front
pub singles_next : (w : Edge → ℕ) (e : Edge) (all rest : List Edge) → all ≡ e ∷ rest → total w (singles all) ≡ total w (singles_of e) + total w (singles rest)
singles_next w e all rest is = ap (λ l. total w (singles l)) is ∙ total-append w (singles_of e) (singles rest)

-- what a sort leaves of a test
pub same_below : (to : ℕ) (es fs : List Edge) → SameBag es fs → failing (is_below to) es ≡ 0 → failing (is_below to) fs ≡ 0
same_below to es fs same h = sym (same.weigh (λ e. cond (is_below to e) 0 1)) ∙ h
