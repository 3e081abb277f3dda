-- The open starts of rows that are held, as one row ends or starts.
use Rattle.std.specs.Prelude.{◌≡◌, ℕ, zero, suc, ◌+◌, Bool, true, false, cond, List, [], ◌∷◌, ◌++◌, map, take, drop, replicate, length, Option, refl}
use Rattle.std.specs.Map.{lookup}
use Rattle.std.specs.Option.{option_to_list}
use Rattle.std.specs.declared.collections.VecDeque.{VecDeque}
use Rattle.std.proofs.Common.{sym, ◌∙◌, ap, arith}
use Rattle.std.proofs.lemmas.List.{append-nil, append_assoc, drop-drop, map-append}
use Rattle.indexmap.specs.IndexMap.{IndexMap}
use Rattle.tw_rows.specs.SameCells.{same_cells, cells_are_same, same_itself}
use Rattle.tw_rows.specs.declared.cells.Datum.{Datum}
use Rattle.tw_rows.specs.declared.edge.Edge.{Edge}
use Rattle.tw_rows.specs.declared.edge.HeldRow.{HeldRow}
use Rattle.sweep_laws.specs.Queues.{queue_ends}
use Rattle.synopsis.specs.Kept.{since_at, times_if}
use Rattle.synopsis.specs.Queued.{queue_of}
use Rattle.synopsis.proofs.Once.{either_way}
use Rattle.synopsis.proofs.OpenRows.{queue_append, queue_one}
use Rattle.synopsis.proofs.Telling.{grown_more}

-- a map without rows
pub empty_map : {S H : Type 0} (m : IndexMap (List Datum) (VecDeque ℕ S) H) (k : List Datum) → length m.entries ≡ 0 → since_at m k ≡ []
empty_map {S} m k e = ap (λ es. times_if (lookup (same_cells k) es)) (nothing m.entries e)
  where
    nothing : (es : List (List Datum × VecDeque ℕ S)) → length es ≡ 0 → es ≡ []
    nothing [] e = refl
    nothing (x ∷ es) e = absurd (omega (arith, e))

-- the first of the few ends
pub few_ended : (k : List Datum) (since : List Datum → List ℕ) (old new : List HeldRow) (s : ℕ) → queue_of old k ≡ s ∷ drop 1 (queue_of old k) →
    ((q : List Datum) → queue_of new q ≡ cond (same_cells k q) (drop 1 (queue_of old q)) (queue_of old q)) →
    (q : List Datum) → queue_of new q ++ since q ≡ cond (same_cells k q) (drop 1 (queue_of old q ++ since q)) (queue_of old q ++ since q)
few_ended k since old new s first rest q = ap (λ l. l ++ since q) (rest q) ∙ go (same_cells k q) refl
  where
    behind : (l more : List ℕ) → l ≡ s ∷ drop 1 l → drop 1 l ++ more ≡ drop 1 (l ++ more)
    behind [] more e = absurd (cc)
    behind (x ∷ l) more e = refl

    go : (b : Bool) → same_cells k q ≡ b → cond b (drop 1 (queue_of old q)) (queue_of old q) ++ since q ≡ cond b (drop 1 (queue_of old q ++ since q)) (queue_of old q ++ since q)
    go true e = behind (queue_of old q) (since q) (let z = ap (λ c. queue_of old c) (cells_are_same k q e) in sym z ∙ (first ∙ ap (λ l. s ∷ drop 1 l) z))
    go false e = refl

pub few_first : (queue since : List ℕ) (s : ℕ) → queue ≡ s ∷ drop 1 queue → queue ++ since ≡ s ∷ drop 1 (queue ++ since)
few_first [] since s e = absurd (cc)
few_first (x ∷ queue) since s e = let z : x ≡ s = cc in ap (λ y. y ∷ (queue ++ since)) z

pub map_first : (o : Option ℕ) (queue since : List ℕ) → queue ≡ [] → since ≡ option_to_list o ++ drop 1 since → queue ++ since ≡ option_to_list o ++ drop 1 (queue ++ since)
map_first o [] since e h = h
map_first o (x ∷ queue) since e h = absurd (cc)

-- the first start of a row, if it has one
pub no_first : (since : List ℕ) → since ≡ drop 1 since → since ≡ []
no_first [] h = refl
no_first (x ∷ since) h = let z = ap length h in absurd (omega (arith, z))

pub first_told : (t : ℕ) (k : List Datum) (since : List ℕ) (s : ℕ) → since ≡ s ∷ drop 1 since → record { sync = t; other = s; cells = k } ∷ [] ≡ queue_ends t 1 k since
first_told t k since s first =
    let f : ℕ → Edge = λ x. record { sync = t; other = x; cells = k } in
    sym (ap (λ l. map f (take 1 l)) first)

-- none of the few is of the row
pub map_ended : (k : List Datum) (few few2 : List HeldRow) (old new : List Datum → List ℕ) → few2 ≡ few → queue_of few k ≡ [] →
    ((q : List Datum) → new q ≡ cond (same_cells k q) (drop 1 (old q)) (old q)) →
    (q : List Datum) → queue_of few2 q ++ new q ≡ cond (same_cells k q) (drop 1 (queue_of few q ++ old q)) (queue_of few q ++ old q)
map_ended k few few2 old new same none next q = ap (λ l. queue_of l q ++ new q) same ∙ (ap (λ l. queue_of few q ++ l) (next q) ∙ go (same_cells k q) refl)
  where
    go : (b : Bool) → same_cells k q ≡ b → queue_of few q ++ cond b (drop 1 (old q)) (old q) ≡ cond b (drop 1 (queue_of few q ++ old q)) (queue_of few q ++ old q)
    go true e =
        let z : queue_of few q ≡ [] = ap (λ c. queue_of few c) (sym (cells_are_same k q e)) ∙ none in
        ap (λ l. l ++ drop 1 (old q)) z ∙ sym (ap (λ l. drop 1 (l ++ old q)) z)
    go false e = refl

-- a row starts among the few
pub few_started : (k : List Datum) (t : ℕ) (few few2 : List HeldRow) (since : List Datum → List ℕ) → few2 ≡ few ++ record { cells = k; start = t } ∷ [] → since k ≡ [] →
    (q : List Datum) → queue_of few2 q ++ since q ≡ cond (same_cells k q) ((queue_of few q ++ since q) ++ replicate 1 t) (queue_of few q ++ since q)
few_started k t few few2 since is none q =
    ap (λ l. queue_of l q ++ since q) is
    ∙ (ap (λ l. l ++ since q) (queue_append few (record { cells = k; start = t } ∷ []) q ∙ ap (λ l. queue_of few q ++ l) (queue_one (record { cells = k; start = t }) q ∙ ap (λ b. cond {A = List ℕ} b (t ∷ []) []) (either_way q k)))
    ∙ go (same_cells k q) refl)
  where
    go : (b : Bool) → same_cells k q ≡ b → (queue_of few q ++ cond b (t ∷ []) []) ++ since q ≡ cond b ((queue_of few q ++ since q) ++ replicate 1 t) (queue_of few q ++ since q)
    go true e =
        let z : since q ≡ [] = ap since (sym (cells_are_same k q e)) ∙ none in
        ap (λ l. (queue_of few q ++ t ∷ []) ++ l) z ∙ (append-nil (queue_of few q ++ t ∷ []) ∙ sym (ap (λ l. (queue_of few q ++ l) ++ t ∷ []) z ∙ ap (λ l. l ++ t ∷ []) (append-nil (queue_of few q))))
    go false e = ap (λ l. l ++ since q) (append-nil (queue_of few q))

-- a row starts in the map
pub map_started : (b : Bool) (t : ℕ) (queue old new : List ℕ) → new ≡ cond b (old ++ replicate 1 t) old →
    queue ++ new ≡ cond b ((queue ++ old) ++ replicate 1 t) (queue ++ old)
map_started true t queue old new is = ap (λ l. queue ++ l) is ∙ sym (append_assoc queue old (replicate 1 t))
map_started false t queue old new is = ap (λ l. queue ++ l) is

-- SO OFTEN
pub ended_next : (b : Bool) (i : ℕ) (old now new : List ℕ) → now ≡ cond b (drop i old) old → new ≡ cond b (drop 1 now) now → new ≡ cond b (drop (i + 1) old) old
ended_next true i old now new is e = e ∙ (ap (drop 1) is ∙ drop-drop 1 i old)
ended_next false i old now new is e = e ∙ is

take_next : (i : ℕ) (s : List ℕ) → take i s ++ take 1 (drop i s) ≡ take (i + 1) s
take_next zero s = (let e : 1 ≡ 0 + 1 = omega arith in ap (λ n. take n s) e)
take_next (suc i) [] = (let e : suc (i + 1) ≡ suc i + 1 = omega arith in ap (λ n. take {A = ℕ} n []) e)
take_next (suc i) (x ∷ s) = ap (λ l. x ∷ l) (take_next i s) ∙ (let e : suc (i + 1) ≡ suc i + 1 = omega arith in ap (λ n. take n (x ∷ s)) e)

pub told_next : (t i : ℕ) (k : List Datum) (old now : List ℕ) (before answer more : List Edge) → now ≡ cond (same_cells k k) (drop i old) old →
    answer ≡ before ++ queue_ends t i k old → more ≡ answer ++ queue_ends t 1 k now → more ≡ before ++ queue_ends t (i + 1) k old
told_next t i k old now before answer more is so next =
    let f : ℕ → Edge = λ s. record { sync = t; other = s; cells = k } in
    let here : now ≡ drop i old = is ∙ ap (λ b. cond b (drop i old) old) (same_itself k) in
    next ∙ (ap (λ l. answer ++ queue_ends t 1 k l) here ∙ (ap (λ l. l ++ queue_ends t 1 k (drop i old)) so
    ∙ (append_assoc before (queue_ends t i k old) (queue_ends t 1 k (drop i old))
    ∙ ap (λ l. before ++ l) (sym (map-append f (take i old) (take 1 (drop i old))) ∙ ap (map f) (take_next i old)))))

pub started_next : (b : Bool) (i t : ℕ) (old now new : List ℕ) → now ≡ cond b (old ++ replicate i t) old → new ≡ cond b (now ++ replicate 1 t) now → new ≡ cond b (old ++ replicate (i + 1) t) old
started_next true i t old now new is e = grown_more true i (i + 1) 1 t old now new is e (omega arith)
started_next false i t old now new is e = e ∙ is
