-- The rows of the other side with which a row is paired.
use Rattle.std.specs.Prelude.{◌≡◌, ℕ, max, Bool, true, false, cond, List, [], ◌∷◌, ◌++◌, map, filter, refl}
use Rattle.std.proofs.Common.{sym, ◌∙◌, ap, subst, arith}
use Rattle.tw_rows.specs.Bag.{total}
use Rattle.tw_rows.specs.SameCells.{same_cells, cells_are_same, same_itself}
use Rattle.tw_rows.specs.declared.cells.Datum.{Datum}
use Rattle.tw_rows.specs.declared.edge.Edge.{Edge}
use Rattle.tw_rows.specs.declared.edge.HeldRow.{HeldRow}
use Rattle.plan_model.specs.Keys.{paired_row}
use Rattle.sweep_laws.specs.Moves.{Adds, told_at}
use Rattle.sweep_laws.specs.Pairs.{sided, partners, pairs_told}
use Rattle.sweep_laws.specs.Sweeps.{Tells}
use Rattle.edge_history.specs.History.{CellEvent}
use Rattle.synopsis.specs.Held.{key_of, is_of_key}
use Rattle.temporal_join.specs.Joined.{join_meets, joins}

-- whether a row of the other side is a partner, and the row of the pair
abbrev partner : List ℕ → List ℕ → Bool → HeldRow → HeldRow → Bool
partner lk rk r x y = cond r (join_meets lk rk y.cells x.cells) (join_meets lk rk x.cells y.cells)

abbrev with_row : List ℕ → Bool → HeldRow → HeldRow → HeldRow
with_row rk r x y = record { cells = cond r (paired_row rk y.cells x.cells) (paired_row rk x.cells y.cells); start = max x.start y.start }

max_comm : (a b : ℕ) → max a b ≡ max b a
max_comm a b = omega arith

one_pair : (lk rk : List ℕ) (r : Bool) (x y : HeldRow) → sided (join_meets lk rk) (paired_row rk) r x y ≡ cond (partner lk rk r x y) (with_row rk r x y ∷ []) []
one_pair lk rk true x y = ap (λ n. cond (join_meets lk rk y.cells x.cells) (record { cells = paired_row rk y.cells x.cells; start = n } ∷ []) []) (max_comm y.start x.start)
one_pair lk rk false x y = refl

partners_are : (lk rk : List ℕ) (r : Bool) (x : HeldRow) (ys : List HeldRow) →
    partners (join_meets lk rk) (paired_row rk) r x ys ≡ map (with_row rk r x) (filter (partner lk rk r x) ys)
partners_are lk rk r x [] = refl
partners_are lk rk r x (y ∷ ys) =
    ap (λ (l : List HeldRow). l ++ partners (join_meets lk rk) (paired_row rk) r x ys) (one_pair lk rk r x y) ∙ go (partner lk rk r x y) (partners_are lk rk r x ys)
  where
    go : (b : Bool) → partners (join_meets lk rk) (paired_row rk) r x ys ≡ map (with_row rk r x) (filter (partner lk rk r x) ys) →
        cond b (with_row rk r x y ∷ []) [] ++ partners (join_meets lk rk) (paired_row rk) r x ys
        ≡ map (with_row rk r x) (cond b (y ∷ filter (partner lk rk r x) ys) (filter (partner lk rk r x) ys))
    go true h = ap (λ (l : List HeldRow). with_row rk r x y ∷ l) h
    go false h = h

same_sym : (xs ys : List Datum) → same_cells xs ys ≡ same_cells ys xs
same_sym xs ys = go (same_cells xs ys) refl (same_cells ys xs) refl
  where
    go : (a : Bool) → same_cells xs ys ≡ a → (b : Bool) → same_cells ys xs ≡ b → same_cells xs ys ≡ same_cells ys xs
    go true h true k = h ∙ sym k
    go false h false k = h ∙ sym k
    go true h false k =
        let e = cells_are_same xs ys h in
        let t : same_cells ys xs ≡ true = subst (λ (l : List Datum). same_cells l xs ≡ true) e (same_itself xs) in
        absurd (cc (t, k))
    go false h true k =
        let e = cells_are_same ys xs k in
        let t : same_cells xs ys ≡ true = subst (λ (l : List Datum). same_cells l ys ≡ true) e (same_itself ys) in
        absurd (cc (t, h))

key_is : (lk rk : List ℕ) (r : Bool) (x y : HeldRow) → is_of_key (cond r lk rk) (key_of (cond r rk lk) x.cells) y ≡ partner lk rk r x y
key_is lk rk true x y = refl
key_is lk rk false x y = same_sym (key_of rk y.cells) (key_of lk x.cells)

filter_same : {X : Type 0} (p q : X → Bool) (xs : List X) → ((x : X) → p x ≡ q x) → filter p xs ≡ filter q xs
filter_same p q [] h = refl
filter_same p q (x ∷ xs) h = ap (λ b. cond b (x ∷ filter p xs) (filter p xs)) (h x) ∙ ap (λ l. cond (q x) (x ∷ l) l) (filter_same p q xs h)

map_map : {X Y Z : Type 0} (f : Y → Z) (g : X → Y) (xs : List X) → map f (map g xs) ≡ map (λ x. f (g x)) xs
map_map f g [] = refl
map_map f g (x ∷ xs) = ap (λ l. f (g x) ∷ l) (map_map f g xs)

append_nil : {X : Type 0} (xs : List X) → xs ++ [] ≡ xs
append_nil [] = refl
append_nil (x ∷ xs) = ap (λ l. x ∷ l) (append_nil xs)

-- what is told of the rows that have the key of a row is what is told of its pairs
pub row_told : (lk rk : List ℕ) (r starts : Bool) (t : ℕ) (x : HeldRow) (others : List HeldRow) (key : List ℕ) (values : List Datum) (answer0 answer : List Edge) →
    key ≡ cond r lk rk → values ≡ key_of (cond r rk lk) x.cells →
    answer ≡ answer0 ++ map (λ y. told_at starts t (with_row rk r x y)) (filter (is_of_key key values) others) →
    Adds answer0 answer (pairs_told (join_meets lk rk) (paired_row rk) r starts t (x ∷ []) others)
row_told lk rk r starts t x others key values answer0 answer by own is =
    let f : HeldRow → Edge = λ y. told_at starts t (with_row rk r x y) in
    let tests = λ (y : HeldRow). ap (λ (k : List ℕ). is_of_key k values y) by ∙ (ap (λ (d : List Datum). is_of_key (cond r lk rk) d y) own ∙ key_is lk rk r x y) in
    let same : map f (filter (is_of_key key values) others) ≡ pairs_told (join_meets lk rk) (paired_row rk) r starts t (x ∷ []) others =
    ap (map f) (filter_same (is_of_key key values) (partner lk rk r x) others tests)
    ∙ (sym (map_map (told_at starts t) (with_row rk r x) (filter (partner lk rk r x) others))
    ∙ ap (map (told_at starts t)) (sym (partners_are lk rk r x others) ∙ sym (append_nil (partners (join_meets lk rk) (paired_row rk) r x others)))) in
    record { added = map f (filter (is_of_key key values) others); is = is; bag = record { weigh = λ w. ap (total w) same } }

-- what is told by equal keys
pub same_told : (lk rk k r : List ℕ) (side starts : Bool) (t : ℕ) (xs ys : List HeldRow) (answer0 answer : List Edge) → k ≡ lk → r ≡ rk →
    Adds answer0 answer (pairs_told (join_meets k r) (paired_row r) side starts t xs ys) → Adds answer0 answer (pairs_told (join_meets lk rk) (paired_row rk) side starts t xs ys)
same_told lk rk k r side starts t xs ys answer0 answer e f h =
    subst (λ (l : List ℕ). Adds answer0 answer (pairs_told (join_meets l rk) (paired_row rk) side starts t xs ys)) e
    (subst (λ (l : List ℕ). Adds answer0 answer (pairs_told (join_meets k l) (paired_row l) side starts t xs ys)) f h)

pub same_tells : (lk rk k r : List ℕ) (a b : List CellEvent) (t u : ℕ) (answer0 answer : List Edge) → k ≡ lk → r ≡ rk →
    Tells (joins k r a b) t u answer0 answer → Tells (joins lk rk a b) t u answer0 answer
same_tells lk rk k r a b t u answer0 answer e f h =
    subst (λ (l : List ℕ). Tells (joins l rk a b) t u answer0 answer) e (subst (λ (l : List ℕ). Tells (joins k l a b) t u answer0 answer) f h)
