-- What every sweep tells, and what its answer is made of.
use Rattle.std.specs.Prelude.{◌≡◌, ◌↔◌, IsTrue, ℕ, ◌+◌, ◌<◌, ◌≤◌, ◌&&◌, nat_lt, nat_le, Bool, true, false, cond, List, [], ◌∷◌, ◌++◌, map, length, get_or, take, drop, All, refl}
use Rattle.std.proofs.Common.{sym, ◌∙◌, ap, subst, arith, append_assoc}
use Rattle.std.proofs.lemmas.Bool.{and_parts}
use Rattle.std.proofs.lemmas.Bool.Decides.{nat_tests}
use Rattle.std.proofs.lemmas.List.{map_more, take-append-drop}
use Rattle.std.proofs.lemmas.List.Elements.{All-weaker}
use Rattle.tw_rows.specs.Bag.{SameBag, total}
use Rattle.tw_rows.specs.Cells.{datum_kind}
use Rattle.tw_rows.specs.Instant.{inf}
use Rattle.tw_rows.specs.Kinds.{cell_kind_of}
use Rattle.tw_rows.specs.declared.cells.Datum.{Datum}
use Rattle.tw_rows.specs.declared.edge.Edge.{Edge}
use Rattle.tw_rows.specs.declared.edge.HeldRow.{HeldRow}
use Rattle.tw_rows.specs.declared.kind.CellKind.{CellKind}
use Rattle.tw_rows.specs.declared.kind.Kind.{Kind}
use Rattle.tw_rows.proofs.Bags.{SameBag-refl, total-append, total-map, total-flat_map, total_zero}
use Rattle.edge_history.specs.Balance.{news_of, news}
use Rattle.edge_history.specs.History.{CellEvent}
use Rattle.edge_history.specs.Opens.{started_of, started_rows}
use Rattle.edge_history.specs.Order.{failing, is_below, is_end, is_from}
use Rattle.edge_history.proofs.Sums.{weaker, sum_eq, failing-All, failing-both, failing-parts}
use Rattle.sweep_laws.specs.Moves.{Adds, told_at}
use Rattle.sweep_laws.proofs.Adding.{adds_none, adds_then, adds_bag, rows_more}
use Rattle.sweep_laws.specs.Saving.{store_all}
use Rattle.sweep_laws.proofs.Stored.{stored_kinds}
use Rattle.sweep_sides.specs.Answers.{is_between, FitsList}

-- the test of an end edge, as the code has it
pub end_is : (b : Bool) (e : Edge) → IsTrue b ↔ (e.other < e.sync) → is_end e ≡ b
end_is true e h = less e.other e.sync (h.0 refl)
  where
    less : (m n : ℕ) → m < n → nat_lt m n ≡ true
    less m n h = grind (arith, nat_tests)
end_is false e h = go (nat_lt e.other e.sync) refl
  where
    less : (m n : ℕ) → nat_lt m n ≡ true → m < n
    less m n h = grind (arith, nat_tests)

    no_truth : IsTrue false → ⊥
    no_truth t = cc

    go : (b : Bool) → nat_lt e.other e.sync ≡ b → nat_lt e.other e.sync ≡ false
    go false k = k
    go true k = absurd (no_truth (h.1 (less e.other e.sync k)))

-- a list that grows row by row
pub told_next : (f : HeldRow → Edge) (rows : List HeldRow) (i : ℕ) (y : HeldRow) (e : Edge) (answer0 answer1 answer2 : List Edge) → i < length rows → y ≡ get_or rows i y →
    e ≡ f y → answer1 ≡ answer0 ++ map f (take i rows) → answer2 ≡ answer1 ++ e ∷ [] → answer2 ≡ answer0 ++ map f (take (i + 1) rows)
told_next f rows i y e answer0 answer1 answer2 low is it before pushed =
    pushed ∙ (ap (λ (l : List Edge). l ++ e ∷ []) before ∙ (append_assoc answer0 (map f (take i rows)) (e ∷ [])
    ∙ ap (λ (l : List Edge). answer0 ++ l) (ap (λ (x : Edge). map f (take i rows) ++ x ∷ []) (it ∙ ap f is) ∙ sym (map_more f rows i y low))))

-- WHAT STARTS
pub start_told : (t : ℕ) (x : Edge) (a0 a1 : List Edge) (o : ℕ) (cells : List Datum) → is_end x ≡ false → o ≡ inf → cells ≡ x.cells →
    a1 ≡ a0 ++ record { sync = t; other = o; cells = cells } ∷ [] → Adds a0 a1 (map (told_at true t) (started_of x))
start_told t x a0 a1 o cells e far same is =
    let row : HeldRow = record { cells = x.cells; start = x.sync } in
    let one : Adds a0 a1 (told_at true t row ∷ []) = record {
      added = told_at true t row ∷ [];
      is = is ∙ (ap (λ n. a0 ++ record { sync = t; other = n; cells = cells } ∷ []) far ∙ ap (λ l. a0 ++ record { sync = t; other = inf; cells = l } ∷ []) same);
      bag = SameBag-refl _;
    } in
    subst (λ b. Adds a0 a1 (map (told_at true t) (cond b [] (row ∷ [])))) (sym e) one

pub no_start : (t : ℕ) (x : Edge) (a : List Edge) → is_end x ≡ true → Adds a a (map (told_at true t) (started_of x))
no_start t x a e =
    let row : HeldRow = record { cells = x.cells; start = x.sync } in
    subst (λ b. Adds a a (map (told_at true t) (cond b [] (row ∷ [])))) (sym e) (adds_none a)

pub starts_more : (t : ℕ) (now : List Edge) (i : ℕ) (x : Edge) (a0 a1 a2 : List Edge) → i < length now → x ≡ get_or now i x →
    Adds a0 a1 (map (told_at true t) (started_rows (take i now))) → Adds a1 a2 (map (told_at true t) (started_of x)) → Adds a0 a2 (map (told_at true t) (started_rows (take (i + 1) now)))
starts_more t now i x a0 a1 a2 low is h k = adds_bag a0 a2 _ _ (adds_then a0 a1 a2 _ _ h k) (record {
  weigh = λ w.
      let a = total-append w (map (told_at true t) (started_rows (take i now))) (map (told_at true t) (started_of x)) in
      let b = total-map w (told_at true t) (started_rows (take i now)) in
      let c = total-map w (told_at true t) (started_of x) in
      let d = total-map w (told_at true t) (started_rows (take (i + 1) now)) in
      let e = rows_more started_of (λ r. w (told_at true t r)) now i x low is in
      omega (arith, a, b, c, d, e);
})

-- WHAT IS ANSWERED
-- new edges come at the lesser time or later
pub from_lesser : (c x : ℕ) (l : List Edge) → c ≤ x → failing (is_from x) l ≡ 0 → failing (is_from c) l ≡ 0
from_lesser c x l low = weaker (is_from x) (is_from c) l (λ e late. earlier e late)
  where
    earlier : (e : Edge) → is_from x e ≡ true → is_from c e ≡ true
    earlier e h = grind (arith, nat_tests)

-- what is told of events has the columns of the events
news_one : (own : List CellKind) (c d : ℕ) (e : CellEvent) → store_all own e.row ≡ true → total (λ (x : Edge). cond {A = ℕ} (store_all own x.cells) 0 1) (news_of c d e) ≡ 0
news_one own c d e h = go (nat_le c e.start && nat_lt e.start d) (nat_le c e.end && nat_lt e.end d)
  where
    none : cond {A = ℕ} (store_all own e.row) 0 1 ≡ 0
    none = ap (λ t. cond {A = ℕ} t 0 1) h

    go : (s t : Bool) → total (λ (x : Edge). cond {A = ℕ} (store_all own x.cells) 0 1) (cond s (record { sync = e.start; other = inf; cells = e.row } ∷ []) [] ++ cond t (record { sync = e.end; other = e.start; cells = e.row } ∷ []) []) ≡ 0
    go true true = let z = none in omega (arith, z)
    go true false = let z = none in omega (arith, z)
    go false true = let z = none in omega (arith, z)
    go false false = refl

pub told_stored : (own : List CellKind) (c d : ℕ) (events : List CellEvent) (answer : List Edge) → failing (λ e. store_all own e.row) events ≡ 0 → SameBag answer (news c d events) →
    All (λ e. map datum_kind e.cells ≡ own) answer
told_stored own c d events answer stored same =
    let each = same.weigh (λ e. cond {A = ℕ} (store_all own e.cells) 0 1)
    ∙ (total-flat_map (λ (e : Edge). cond {A = ℕ} (store_all own e.cells) 0 1) (news_of c d) events
    ∙ (sum_eq (λ e. store_all own e.row) (λ e. total (λ (x : Edge). cond {A = ℕ} (store_all own x.cells) 0 1) (news_of c d e)) (λ e. 0) events (news_one own c d) stored ∙ total_zero events)) in
    All-weaker (λ (e : Edge). IsTrue (store_all own e.cells)) (λ (e : Edge). map datum_kind e.cells ≡ own) (λ e k. stored_kinds own e.cells k) answer
    ((failing-All (λ (e : Edge). store_all own e.cells) answer).0 each)

-- the list of what was told, of equal kinds and edges
pub list_is : (kinds kinds2 : List Kind) (c d : ℕ) (told told2 answer : List Edge) → kinds2 ≡ kinds → told2 ≡ told →
    (FitsList (map cell_kind_of kinds2) c d told2 → answer ≡ told2) → FitsList (map cell_kind_of kinds) c d told → answer ≡ told
list_is kinds kinds2 c d told told2 answer e f h fits =
    h (subst (λ (ks : List Kind). FitsList (map cell_kind_of ks) c d told2) (sym e) (subst (λ (l : List Edge). FitsList (map cell_kind_of kinds) c d l) (sym f) fits)) ∙ f

-- edges that come from c on and below d
pub between_both : (c d : ℕ) (h : List Edge) → failing (is_from c) h ≡ 0 → failing (is_below d) h ≡ 0 → failing (is_between c d) h ≡ 0
between_both c d h from below = failing-both (is_from c) (is_below d) h from below

pub between_parts : (c d : ℕ) (h : List Edge) → failing (is_between c d) h ≡ 0 → (failing (is_from c) h ≡ 0) × (failing (is_below d) h ≡ 0)
between_parts c d h all = (
  weaker (is_between c d) (is_from c) h (λ e k. (and_parts (is_from c e) (is_below d e) k).0) all,
  weaker (is_between c d) (is_below d) h (λ e k. (and_parts (is_from c e) (is_below d e) k).1) all,
)

-- and the first of them
pub between_part : (c d i : ℕ) (h : List Edge) → failing (is_between c d) h ≡ 0 → failing (is_between c d) (take i h) ≡ 0
between_part c d i h all = (failing-parts (is_between c d) (take i h) (drop i h) (ap (failing (is_between c d)) (take-append-drop i h) ∙ all)).0
