-- An answer that stands for placed events is placed.
use Rattle.std.specs.Prelude.{◌≡◌, ℕ, zero, suc, ◌+◌, ◌<◌, ◌≤◌, nat_lt, nat_eq, not, Bool, true, false, cond, ◌&&◌, List, [], ◌∷◌, length, filter, refl}
use Rattle.std.proofs.Common.{sym, ◌∙◌, ap, arith, get_or}
use Rattle.std.proofs.lemmas.List.Elements.{All-head, All-tail, All-from_get_or}
use Rattle.std.proofs.lemmas.Bool.{and_parts, lt-ltb, eqb-true, eq-eqb}
use Rattle.std.proofs.lemmas.Bool.Decides.{nat_tests}
use Rattle.tw_rows.specs.Instant.{inf}
use Rattle.tw_rows.specs.Bag.{total}
use Rattle.tw_rows.specs.Event.{cut}
use Rattle.tw_rows.specs.Cells.{IsPlaced, ArePlaced}
use Rattle.tw_rows.specs.declared.cells.Datum.{Datum}
use Rattle.tw_rows.specs.declared.cells.Datum.TheVariants.{Int as IntDatum, Bool as FlagDatum, Text as PlaceDatum}
use Rattle.tw_rows.specs.declared.edge.Edge.{Edge}
use Rattle.tw_rows.proofs.Bags.{total-map, total-filter, total_same}
use Rattle.tw_rows.proofs.Lives.{total-cut}
use Rattle.edge_history.specs.Order.{is_end, is_below, ends_it, starts_it, many}
use Rattle.tw_rows.specs.SameCells.{same_cells}
use Rattle.edge_history.specs.History.{CellEvent, begun_one, begun, is_open, ended, end_step, end_all, of, StandsBelow}
use Rattle.key_nodes.proofs.Bags.{total_le}
use Rattle.tw_rows.specs.SameCells.{cells_are_same, same_itself}
use Rattle.plan_laws.specs.Places.{EventsArePlaced, EdgesArePlaced}

-- how many data of a row have no place
abbrev lost_one : ℕ → Datum → ℕ
lost_one n (IntDatum x) = 0
lost_one n (FlagDatum b) = 0
lost_one n (PlaceDatum id) = cond (nat_lt id n) 0 1

abbrev lost : ℕ → List Datum → ℕ
lost n ds = total (lost_one n) ds

none_lost : (texts : List (List ℕ)) (ds : List Datum) → ArePlaced texts ds → lost (length texts) ds ≡ 0
none_lost texts [] h = refl
none_lost texts (d ∷ ds) h = let a = one d h.0 in let b = none_lost texts ds h.1 in omega (arith, a, b)
  where
    one : (d : Datum) → IsPlaced texts d → lost_one (length texts) d ≡ 0
    one (IntDatum x) h = refl
    one (FlagDatum x) h = refl
    one (PlaceDatum x) h = ap (λ b. cond b 0 1) (lt-ltb x (length texts) h)

placed_where_none_lost : (texts : List (List ℕ)) (ds : List Datum) → lost (length texts) ds ≡ 0 → ArePlaced texts ds
placed_where_none_lost texts [] h = tt
placed_where_none_lost texts (d ∷ ds) h =
    let a : lost_one (length texts) d ≡ 0 = omega (arith, h) in
    let b : lost (length texts) ds ≡ 0 = omega (arith, h) in
    (one d a, placed_where_none_lost texts ds b)
  where
    test : (x n : ℕ) → cond {A = ℕ} (nat_lt x n) 0 1 ≡ 0 → x < n
    test x n h = grind (arith, nat_tests)

    one : (d : Datum) → lost_one (length texts) d ≡ 0 → IsPlaced texts d
    one (IntDatum x) h = tt
    one (FlagDatum x) h = tt
    one (PlaceDatum x) h = test x (length texts) h

-- what weighs nothing together weighs nothing at each place; what weighs somewhere weighs together
total_at : {X : Type 0} (v : X → ℕ) (xs : List X) (i : ℕ) (d : X) → i < length xs → v (get_or xs i d) ≤ total v xs
total_at v [] i d low = absurd (omega (arith, low))
total_at v (x ∷ xs) zero d low = omega arith
total_at v (x ∷ xs) (suc i) d low = let h = total_at v xs i d (omega (arith, low)) in omega (arith, h)

module _ (texts : List (List ℕ)) (c : ℕ) where
  -- the weight of an event that starts below c: what is lost of its row
  abbrev part : CellEvent → ℕ
  part e = cond (nat_lt e.start c) (lost (length texts) e.row) 0

  none_of_events : (es : List CellEvent) → EventsArePlaced texts es → total part es ≡ 0
  none_of_events [] h = refl
  none_of_events (e ∷ es) h =
      let a = none_lost texts e.row (All-head (λ e. ArePlaced texts e.row) e es h) in
      let b = none_of_events es (All-tail (λ e. ArePlaced texts e.row) e es h) in
      let d = both (nat_lt e.start c) (lost (length texts) e.row) a in
      omega (arith, b, d)
    where
      both : (b : Bool) (n : ℕ) → n ≡ 0 → cond b n 0 ≡ 0
      both true n h = h
      both false n h = refl

  cut_part : (es : List CellEvent) → total (λ e. lost (length texts) e.row) (cut c es) ≡ total part es
  cut_part es = total-cut (λ e. lost (length texts) e.row) c es ∙ total_same _ part es (λ e. one (nat_lt e.start c) e)
    where
      one : (b : Bool) (e : CellEvent) → total {X = CellEvent} (λ e. lost (length texts) e.row) (cond b (record { row = e.row; start = e.start; end = cond (nat_lt e.end c) e.end inf } ∷ []) []) ≡ cond b (lost (length texts) e.row) 0
      one true e = let z : lost (length texts) e.row + 0 ≡ lost (length texts) e.row = omega arith in z
      one false e = refl

  ended_part : (x : Edge) (es : List CellEvent) → total part (ended x es) ≡ total part es
  ended_part x [] = refl
  ended_part x (e ∷ es) = pick (is_open x.cells x.other e) (ended_part x es)
    where
      pick : (b : Bool) → total part (ended x es) ≡ total part es → total part (cond b (record { row = e.row; start = e.start; end = x.sync } ∷ es) (e ∷ ended x es)) ≡ part e + total part es
      pick true h = refl
      pick false h = ap (λ n. part e + n) h

  step_part : (x : Edge) (es : List CellEvent) → total part (end_step x es) ≡ total part es
  step_part x es = pick (is_end x)
    where
      pick : (b : Bool) → total part (cond b (ended x es) es) ≡ total part es
      pick true = ended_part x es
      pick false = refl

  all_part : (xs : List Edge) (es : List CellEvent) → total part (end_all xs es) ≡ total part es
  all_part [] es = refl
  all_part (x ∷ xs) es = all_part xs (end_step x es) ∙ step_part x es

  abbrev edge_part : Edge → ℕ
  edge_part x = cond (not (is_end x)) (part (begun_one x)) 0

  begun_part : (h : List Edge) → total part (begun h) ≡ total edge_part h
  begun_part h = total-map part begun_one (filter (λ e. not (is_end e)) h) ∙ total-filter (λ e. part (begun_one e)) (λ e. not (is_end e)) h

  pub answer_placed : (out : List Edge) (es : List CellEvent) → StandsBelow c out es → EventsArePlaced texts es → EdgesArePlaced texts out
  answer_placed out es s p = All-from_get_or (λ e. ArePlaced texts e.cells) out (record { sync = 0; other = 0; cells = [] })
      (λ i low. placed_where_none_lost texts _ (here (get_or out i _) (each i low) (below i low) (named i low) (is_end (get_or out i _)) refl))
    where
      nothing : total edge_part out ≡ 0
      nothing = sym (begun_part out) ∙ (sym (all_part out (begun out)) ∙ (sym (cut_part (of out)) ∙ (s.same.weigh (λ e. lost (length texts) e.row) ∙ (cut_part es ∙ none_of_events es p))))

      each : (i : ℕ) → i < length out → edge_part (get_or out i (record { sync = 0; other = 0; cells = [] })) ≡ 0
      each i low = let a = total_at edge_part out i (record { sync = 0; other = 0; cells = [] }) low in let z = nothing in omega (arith, a, z)

      below : (i : ℕ) → i < length out → nat_lt (get_or out i (record { sync = 0; other = 0; cells = [] })).sync c ≡ true
      below i low = let a = total_at (λ x. cond (is_below c x) 0 1) out i (record { sync = 0; other = 0; cells = [] }) low in let z = s.below in zero_one _ (omega (arith, a, z))
        where
          zero_one : (b : Bool) → cond {A = ℕ} b 0 1 ≡ 0 → b ≡ true
          zero_one true h = refl
          zero_one false h = absurd (omega (arith, h))

      named : (i : ℕ) → i < length out → let x = get_or out i (record { sync = 0; other = 0; cells = [] }) in cond (ends_it x.cells x.other x) 1 0 ≤ many (starts_it x.cells x.other) out
      named i low =
          let x = get_or out i (record { sync = 0; other = 0; cells = [] }) in
          let a = total_at (λ y. cond (ends_it x.cells x.other y) 1 0) out i (record { sync = 0; other = 0; cells = [] }) low in
          let b = s.history.paired x.cells x.other in
          omega (arith, a, b)

      end_before : (x : Edge) → is_end x ≡ true → nat_lt x.sync c ≡ true → x.other < c
      end_before x k l = grind (arith, nat_tests)

      weighs : (y : Edge) (m : ℕ) → not (is_end y) ≡ true → nat_lt y.sync c ≡ true → lost (length texts) y.cells ≡ m → edge_part y ≡ m
      weighs y m a b e = rw (a) (rw (b) e)

      one : (x y : Edge) (k : ℕ) → lost (length texts) x.cells ≡ suc k → x.other < c → (b : Bool) → starts_it x.cells x.other y ≡ b → cond b 1 0 ≤ edge_part y
      one x y k e low false h = omega arith
      one x y k e low true h =
          let p = and_parts (nat_eq y.other inf) (not (is_end y) && (same_cells y.cells x.cells && nat_eq y.sync x.other)) h in
          let q = and_parts (not (is_end y)) (same_cells y.cells x.cells && nat_eq y.sync x.other) p.1 in
          let r = and_parts (same_cells y.cells x.cells) (nat_eq y.sync x.other) q.1 in
          let same = cells_are_same y.cells x.cells r.0 in
          let at : y.sync ≡ x.other = eqb-true y.sync x.other r.1 in
          let early : y.sync < c = omega (arith, at, low) in
          let w = weighs y (suc k) q.0 (lt-ltb y.sync c early) (ap (lost (length texts)) same ∙ e) in
          omega (arith, w)

      itself : (x : Edge) → is_end x ≡ true → ends_it x.cells x.other x ≡ true
      itself x k = rw (k, same_itself x.cells) (eq-eqb x.other x.other refl)

      here : (x : Edge) → edge_part x ≡ 0 → nat_lt x.sync c ≡ true → cond (ends_it x.cells x.other x) 1 0 ≤ many (starts_it x.cells x.other) out → (b : Bool) → is_end x ≡ b → lost (length texts) x.cells ≡ 0
      here x e l n false k = sym (weighs x (lost (length texts) x.cells) (ap not k) l refl) ∙ e
      here x e l n true k = go (lost (length texts) x.cells) refl
        where
          go : (m : ℕ) → lost (length texts) x.cells ≡ m → m ≡ 0
          go zero h = refl
          go (suc m) h =
              let a = total_le (λ y. cond (starts_it x.cells x.other y) 1 0) edge_part out (λ y. one x y m h (end_before x k l) (starts_it x.cells x.other y) refl) in
              let z = nothing in
              let q = ap (λ b. cond {A = ℕ} b 1 0) (itself x k) in
              absurd (omega (arith, a, z, q, n))
