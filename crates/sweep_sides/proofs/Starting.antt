-- The starts of new edges: which they are, and a side that keeps them alone.
use Rattle.std.specs.Prelude.{◌≡◌, ℕ, ◌+◌, ◌<◌, ◌≤◌, ◌||◌, nat_eq, nat_lt, not, Bool, true, false, cond, List, [], ◌∷◌, ◌++◌, All, filter, map, refl}
use Rattle.std.specs.List.{list_all}
use Rattle.std.proofs.Common.{sym, ◌∙◌, ap, arith}
use Rattle.std.proofs.lemmas.Bool.Decides.{nat_tests}
use Rattle.std.proofs.lemmas.List.Elements.{All-nil, All-cons, All-head, All-tail}
use Rattle.tw_rows.specs.Bag.{SameBag, total}
use Rattle.tw_rows.specs.Cells.{datum_kind}
use Rattle.tw_rows.specs.Instant.{inf}
use Rattle.tw_rows.specs.declared.edge.Edge.{Edge}
use Rattle.tw_rows.specs.declared.edge.HeldRow.{HeldRow}
use Rattle.tw_rows.specs.declared.kind.CellKind.{CellKind}
use Rattle.tw_rows.proofs.Bags.{total-append, total-flat_map, total-filter}
use Rattle.edge_history.specs.Order.{failing, is_end, is_below, is_from, IsReal}
use Rattle.edge_history.specs.Opens.{singles, singles_of, is_start, started_rows}
use Rattle.edge_history.proofs.Sums.{failing-same}
use Rattle.edge_stream.proofs.CarriedParts.{none_fails}
use Rattle.end_queue.specs.Pending.{Pending}
use Rattle.sweep_sides.specs.Waiting.{queued, AreTimed}
use Rattle.sweep_sides.specs.Sides.{IsSide}
use Rattle.sweep_sides.proofs.KeptSides.{side_stepped}
use Rattle.sweep_laws.proofs.Stored.{one_single}
use Rattle.sweep_sides.specs.Starts.{start_in, starts_in}

one_start : (w : Edge → ℕ) (e : Edge) → IsReal e → total w (start_in e) ≡ total (λ x. cond (is_start x) (w x) 0) (singles_of e)
one_start w e r = go (is_end e) refl (nat_eq e.other inf) refl
  where
    same : (m n : ℕ) → nat_eq m n ≡ true → m ≡ n
    same m n h = grind (arith, nat_tests)

    late : (m n : ℕ) → nat_lt m n ≡ false → (m ≡ n → ⊥) → nat_lt n m ≡ true
    late m n h d = grind (arith, nat_tests)

    never : (m n : ℕ) → m < n → nat_lt n m ≡ false
    never m n l = grind (arith, nat_tests)

    go : (b : Bool) → is_end e ≡ b → (c : Bool) → nat_eq e.other inf ≡ c →
        total w (start_in e) ≡ total (λ x. cond (is_start x) (w x) 0) (singles_of e)
    go true i c j =
        let a = ap (λ b. total w (cond b [] (record { sync = e.sync; other = inf; cells = e.cells } ∷ []))) i in
        let l : Edge → List Edge = singles_of in
        let s = ap (λ b. total (λ x. cond (is_start x) (w x) 0) (cond (b || nat_eq e.other inf) (e ∷ []) (record { sync = cond b e.other e.sync; other = inf; cells = e.cells } ∷ record { sync = cond b e.sync e.other; other = cond b e.other e.sync; cells = e.cells } ∷ []))) i in
        let z = ap (λ b. cond (not b) (w e) 0) i in
        omega (arith, a, s, z)
    go false i true j =
        let a = ap (λ b. total w (cond b [] (record { sync = e.sync; other = inf; cells = e.cells } ∷ []))) i in
        let s = ap (λ b. total (λ x. cond (is_start x) (w x) 0) (cond (b || nat_eq e.other inf) (e ∷ []) (record { sync = cond b e.other e.sync; other = inf; cells = e.cells } ∷ record { sync = cond b e.sync e.other; other = cond b e.other e.sync; cells = e.cells } ∷ []))) i in
        let t = ap (λ b. total (λ x. cond (is_start x) (w x) 0) (cond b (e ∷ []) (record { sync = e.sync; other = inf; cells = e.cells } ∷ record { sync = e.other; other = e.sync; cells = e.cells } ∷ []))) j in
        let z = ap (λ b. cond (not b) (w e) 0) i in
        let o = ap (λ n. w (record { sync = e.sync; other = n; cells = e.cells })) (same e.other inf j) in
        omega (arith, a, s, t, z, o)
    go false i false j =
        let start : Edge = record { sync = e.sync; other = inf; cells = e.cells } in
        let end : Edge = record { sync = e.other; other = e.sync; cells = e.cells } in
        let a = ap (λ b. total w (cond b [] (record { sync = e.sync; other = inf; cells = e.cells } ∷ []))) i in
        let s = ap (λ b. total (λ x. cond (is_start x) (w x) 0) (cond (b || nat_eq e.other inf) (e ∷ []) (record { sync = cond b e.other e.sync; other = inf; cells = e.cells } ∷ record { sync = cond b e.sync e.other; other = cond b e.other e.sync; cells = e.cells } ∷ []))) i in
        let t = ap (λ b. total (λ x. cond (is_start x) (w x) 0) (cond b (e ∷ []) (record { sync = e.sync; other = inf; cells = e.cells } ∷ record { sync = e.other; other = e.sync; cells = e.cells } ∷ []))) j in
        let p = ap (λ b. cond (not b) (w (record { sync = e.sync; other = inf; cells = e.cells })) 0) (never e.sync inf r.instant) in
        let q = ap (λ b. cond (not b) (w (record { sync = e.other; other = e.sync; cells = e.cells })) 0) (late e.other e.sync i r.apart) in
        omega (arith, a, s, t, p, q)

-- they are the starts among the single edges
pub starts_are : (w : Edge → ℕ) (es : List Edge) → All IsReal es → total w (starts_in es) ≡ total w (filter is_start (singles es))
starts_are w es real = a ∙ go es real ∙ sym b
  where
    a : total w (starts_in es) ≡ total (λ e. total w (start_in e)) es
    a = total-flat_map w start_in es

    b : total w (filter is_start (singles es)) ≡ total (λ e. total (λ x. cond (is_start x) (w x) 0) (singles_of e)) es
    b = total-filter w is_start (singles es) ∙ total-flat_map (λ x. cond (is_start x) (w x) 0) singles_of es

    go : (es : List Edge) → All IsReal es → total (λ e. total w (start_in e)) es ≡ total (λ e. total (λ x. cond (is_start x) (w x) 0) (singles_of e)) es
    go [] r = refl
    go (e ∷ es) r =
        let x = one_start w e (All-head IsReal e es r) in
        let y = go es (All-tail IsReal e es r) in
        omega (arith, x, y)

-- and each is single
alone : (w : Edge → ℕ) (es : List Edge) → total w (singles (starts_in es)) ≡ total w (starts_in es)
alone w [] = refl
alone w (e ∷ es) = go (is_end e) (alone w es)
  where
    start : Edge
    start = record { sync = e.sync; other = inf; cells = e.cells }

    single : (nat_lt inf e.sync || nat_eq inf inf) ≡ true
    single = right (nat_lt inf e.sync) (nat_eq inf inf) (grind (arith, nat_tests))
      where
        right : (a b : Bool) → b ≡ true → (a || b) ≡ true
        right true b h = refl
        right false b h = h

    go : (b : Bool) → total w (singles (starts_in es)) ≡ total w (starts_in es) →
        total w (singles (cond b [] (record { sync = e.sync; other = inf; cells = e.cells } ∷ []) ++ starts_in es)) ≡ total w (cond b [] (record { sync = e.sync; other = inf; cells = e.cells } ∷ []) ++ starts_in es)
    go true h = h
    go false h =
        let x = total-append w (singles_of (record { sync = e.sync; other = inf; cells = e.cells })) (singles (starts_in es)) in
        let y = ap (total w) (one_single (record { sync = e.sync; other = inf; cells = e.cells }) single) in
        omega (arith, x, y, h)

starts_real : (es : List Edge) → All IsReal es → All IsReal (starts_in es)
starts_real [] r = All-nil IsReal
starts_real (e ∷ es) r = go (is_end e) (All-head IsReal e es r) (starts_real es (All-tail IsReal e es r))
  where
    go : (b : Bool) → IsReal e → All IsReal (starts_in es) → All IsReal (cond b [] (record { sync = e.sync; other = inf; cells = e.cells } ∷ []) ++ starts_in es)
    go true x h = h
    go false x h =
        All-cons IsReal (record { sync = e.sync; other = inf; cells = e.cells }) (starts_in es)
        (record { instant = x.instant; bounded = omega arith; apart = λ z. (let a = x.instant in absurd (omega (arith, a, z))) }) h

starts_kinds : (kinds : List CellKind) (es : List Edge) → All (λ e. map datum_kind e.cells ≡ kinds) es → All (λ e. map datum_kind e.cells ≡ kinds) (starts_in es)
starts_kinds kinds [] r = All-nil (λ (e : Edge). map datum_kind e.cells ≡ kinds)
starts_kinds kinds (e ∷ es) r = go (is_end e) (All-head (λ (e : Edge). map datum_kind e.cells ≡ kinds) e es r) (starts_kinds kinds es (All-tail (λ (e : Edge). map datum_kind e.cells ≡ kinds) e es r))
  where
    go : (b : Bool) → map datum_kind e.cells ≡ kinds → All (λ e. map datum_kind e.cells ≡ kinds) (starts_in es) →
        All (λ e. map datum_kind e.cells ≡ kinds) (cond b [] (record { sync = e.sync; other = inf; cells = e.cells } ∷ []) ++ starts_in es)
    go true x h = h
    go false x h = All-cons (λ (e : Edge). map datum_kind e.cells ≡ kinds) (record { sync = e.sync; other = inf; cells = e.cells }) (starts_in es) x h

-- a step of the side
pub starts_stepped : (kinds : List CellKind) (c d : ℕ) (rows rows2 : List HeldRow) (waiting put rest : List Pending) (new due : List Edge) → c ≤ d → IsSide kinds c rows waiting →
    All IsReal new → All (λ e. map datum_kind e.cells ≡ kinds) new →
    ((w : Edge → ℕ) → total w (queued put) ≡ total w (queued waiting) + total w (starts_in new)) →
    ((w : Edge → ℕ) → total w due + total w (queued rest) ≡ total w (queued put)) →
    failing (is_below d) due ≡ 0 → failing (is_from d) (queued rest) ≡ 0 → AreTimed rest →
    ((w : HeldRow → ℕ) → total w rows2 ≤ total w rows + total w (started_rows due)) → IsSide kinds d rows2 rest
starts_stepped kinds c d rows rows2 waiting put rest new due low s real cells puts parts below from timed fewer =
    side_stepped kinds c d rows rows2 waiting put rest (starts_in new) due low s (starts_real new real) (starts_kinds kinds new cells)
    (λ w. (let a = puts w in let b = alone w new in omega (arith, a, b))) parts below from timed fewer

-- what waits are starts, also when new starts came
starts_alone : (es : List Edge) → All IsReal es → failing is_start (starts_in es) ≡ 0
starts_alone [] r = refl
starts_alone (e ∷ es) r = go (is_end e) (starts_alone es (All-tail IsReal e es r))
  where
    never : (m n : ℕ) → m < n → nat_lt n m ≡ false
    never m n l = grind (arith, nat_tests)

    here : cond {A = ℕ} (not (nat_lt inf e.sync)) 0 1 ≡ 0
    here = ap (λ b. cond {A = ℕ} (not b) 0 1) (never e.sync inf (All-head IsReal e es r).instant)

    go : (b : Bool) → failing is_start (starts_in es) ≡ 0 → failing is_start (cond b [] (record { sync = e.sync; other = inf; cells = e.cells } ∷ []) ++ starts_in es) ≡ 0
    go true h = h
    go false h = let z = here in omega (arith, z, h)

pub starts_stay : (waiting put rest : List Pending) (new due : List Edge) → All IsReal new → failing is_start (queued waiting) ≡ 0 →
    ((w : Edge → ℕ) → total w (queued put) ≡ total w (queued waiting) + total w (starts_in new)) → ((w : Edge → ℕ) → total w due + total w (queued rest) ≡ total w (queued put)) → failing is_start (queued rest) ≡ 0
starts_stay waiting put rest new due real before puts parts =
    let a = puts (λ e. cond (is_start e) 0 1) in
    let b = parts (λ e. cond (is_start e) 0 1) in
    let n = starts_alone new real in
    omega (arith, a, b, n, before)

-- and those that were loaded
pub starts_loaded : (waiting : List Pending) (edges : List Edge) → SameBag (queued waiting) edges → list_all is_start edges ≡ true → failing is_start (queued waiting) ≡ 0
starts_loaded waiting edges same all = failing-same is_start (queued waiting) edges same (none_fails is_start edges all)
