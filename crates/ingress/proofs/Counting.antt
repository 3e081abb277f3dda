-- How many edges wait, and how many starts are open.
use Rattle.std.specs.Prelude.{◌≡◌, ℕ, suc, ◌+◌, ◌*◌, ◌-◌, ◌<◌, ◌≤◌, nat_le, Bool, true, false, cond, Some, List, [], ◌∷◌, ◌++◌, length, get_or, map, filter, take, drop, refl}
use Rattle.std.specs.List.{AllByRecursion, IsDistinct}
use Rattle.std.specs.Map.{lookup, keys_of}
use Rattle.std.specs.declared.collections.VecDeque.{VecDeque}
use Rattle.indexmap.specs.IndexMap.{IsUnique}
use Rattle.std.proofs.Common.{sym, ◌∙◌, ap, arith}
use Rattle.std.proofs.lemmas.List.{append-nil, length-append, length-map, take_more}
use Rattle.std.proofs.lemmas.List.Elements.{filter-append}
use Rattle.tw_rows.specs.Bag.{total}
use Rattle.tw_rows.specs.declared.edge.Edge.{Edge}
use Rattle.tw_rows.proofs.Bags.{total-append, total-flat_map}
use Rattle.edge_history.specs.Order.{failing, is_real}
use Rattle.edge_history.specs.History.{CellEvent}
use Rattle.edge_history.specs.Opens.{singles_of}
use Rattle.edge_history.proofs.Opening.{singles_are_news}
use Rattle.edge_history.proofs.Retaining.{valid_from}
use Rattle.plan_laws.specs.Held.{reaching}
use Rattle.plan_laws.proofs.Bound.{waiting_bound}
use Rattle.plan_laws.specs.Places.{read_events}
use Rattle.admission.specs.Admission.{Admission, rows}
use Rattle.ingress.specs.declared.opens.OpenKey.{OpenKey}
use Rattle.ingress.specs.declared.opens.OpenStart.{OpenStart}
use Rattle.ingress.specs.declared.ingress.Ingress.{Ingress}
use Rattle.ingress.specs.OpenKeys.{same_key, same_key-Decides, starts_if}
use Rattle.ingress.specs.Held.{IsHeld}
use Rattle.ingress.specs.Keeping.{CellOpen, kept_of, is_named, first_of, without_first_of, cell_rows, cell_open, opens_in}
use Rattle.ingress.specs.Counts.{together, may_hold}
use Rattle.ingress.specs.Admits.{Follows}
use Rattle.ingress.proofs.Keep.{without_named}
use Rattle.ingress.proofs.Reading.{rows_read}

-- one list more
pub held_next : (xs ys : List (List Edge)) (i : ℕ) (w : List Edge) → ys ≡ xs → i < length ys → w ≡ get_or ys i w → total (λ l. length l) (take (i + 1) xs) ≡ total (λ l. length l) (take i xs) + length w
held_next xs ys i w same low is =
    let here : i < length xs = (let e = ap length same in omega (arith, e, low)) in
    let a = ap (total (λ (l : List Edge). length l)) (take_more xs i w here) ∙ total-append (λ (l : List Edge). length l) (take i xs) (get_or xs i w ∷ []) in
    let b = ap length (is ∙ ap (λ l. get_or l i w) same) in
    omega (arith, a, b)

-- keys are the same either way
same_key-sym : (a b : OpenKey) → same_key a b ≡ same_key b a
same_key-sym a b = go (same_key a b) (same_key b a) refl refl
  where
    go : (x y : Bool) → same_key a b ≡ x → same_key b a ≡ y → x ≡ y
    go true true e f = refl
    go true false e f = absurd (let g = (same_key-Decides b a).1 (sym ((same_key-Decides a b).0 e)) in cc)
    go false true e f = absurd (let g = (same_key-Decides a b).1 (sym ((same_key-Decides b a).0 f)) in cc)
    go false false e f = refl

same_key-refl : (k : OpenKey) → same_key k k ≡ true
same_key-refl k = (same_key-Decides k k).1 refl

-- the open starts of one key of a map
named_here : (k key : OpenKey) (xs : List OpenStart) → filter (is_named k) (map (cell_open key) xs) ≡ cond (same_key key k) (map (cell_open key) xs) []
named_here k key [] = go (same_key key k)
  where
    go : (b : Bool) → filter (is_named k) (map (cell_open key) []) ≡ cond b (map (cell_open key) []) []
    go true = refl
    go false = refl
named_here k key (x ∷ xs) = go (same_key key k) (named_here k key xs)
  where
    go : (b : Bool) → filter (is_named k) (map (cell_open key) xs) ≡ cond b (map (cell_open key) xs) [] →
        cond b (cell_open key x ∷ filter (is_named k) (map (cell_open key) xs)) (filter (is_named k) (map (cell_open key) xs)) ≡ cond b (cell_open key x ∷ map (cell_open key) xs) []
    go true e = ap (λ l. cell_open key x ∷ l) e
    go false e = e

module _ {S : Type 0} where
  none_named : (k : OpenKey) (es : List (OpenKey × VecDeque OpenStart S)) → AllByRecursion (λ y. same_key k y ≡ false) (keys_of es) → filter (is_named k) (opens_in es) ≡ []
  none_named k [] h = refl
  none_named k (e ∷ es) h =
      filter-append (is_named k) (map (cell_open e.0) e.1.items) (opens_in es)
      ∙ ap (λ l. l ++ filter (is_named k) (opens_in es)) (named_here k e.0 e.1.items ∙ ap (λ b. cond b (map (cell_open e.0) e.1.items) []) (same_key-sym e.0 k ∙ h.0))
      ∙ none_named k es h.1

  pub named_in : (k : OpenKey) (es : List (OpenKey × VecDeque OpenStart S)) → IsDistinct same_key (keys_of es) →
      filter (is_named k) (opens_in es) ≡ map (cell_open k) (starts_if (lookup (same_key k) es))
  unfolding IsDistinct
  named_in k [] h = refl
  named_in k (e ∷ es) h =
      filter-append (is_named k) (map (cell_open e.0) e.1.items) (opens_in es)
      ∙ ap (λ l. l ++ filter (is_named k) (opens_in es)) (named_here k e.0 e.1.items ∙ ap (λ b. cond b (map (cell_open e.0) e.1.items) []) (same_key-sym e.0 k))
      ∙ go (same_key k e.0) refl (named_in k es h.1)
    where
      go : (b : Bool) → same_key k e.0 ≡ b → filter (is_named k) (opens_in es) ≡ map (cell_open k) (starts_if (lookup (same_key k) es)) →
          cond b (map (cell_open e.0) e.1.items) [] ++ filter (is_named k) (opens_in es) ≡ map (cell_open k) (starts_if (cond b (Some e.1) (lookup (same_key k) es)))
      go true is rest =
          let same : k ≡ e.0 = (same_key-Decides k e.0).0 is in
          ap (λ l. map (cell_open e.0) e.1.items ++ l) (ap (λ q. filter (is_named q) (opens_in es)) same ∙ none_named e.0 es h.0)
          ∙ append-nil (map (cell_open e.0) e.1.items)
          ∙ ap (λ q. map (cell_open q) e.1.items) (sym same)
      go false is rest = rest

  -- as many as the queues are long
  pub opens_long : (es : List (OpenKey × VecDeque OpenStart S)) → length (opens_in es) ≡ total (λ e. length e.1.items) es
  opens_long [] = refl
  opens_long (e ∷ es) =
      let a = length-append (map (cell_open e.0) e.1.items) (opens_in es) in
      let b = length-map e.1.items (cell_open e.0) in
      let c = opens_long es in
      omega (arith, a, b, c)

pub states_back : (k : OpenKey) (xs : List OpenStart) → map (λ (o : CellOpen). o.state) (map (cell_open k) xs) ≡ xs
states_back k [] = refl
states_back k (x ∷ xs) = ap (λ l. x ∷ l) (states_back k xs)

-- lists that have as many of each key are as long
first_there : (p : CellOpen → Bool) (xs : List CellOpen) → 0 < length (filter p xs) → (o : CellOpen) × (first_of p xs ≡ Some o)
first_there p [] h = absurd (omega (arith, h))
first_there p (x ∷ xs) h = go (p x) h (first_there p xs)
  where
    go : (b : Bool) → 0 < length (cond b (x ∷ filter p xs) (filter p xs)) → (0 < length (filter p xs) → (o : CellOpen) × (first_of p xs ≡ Some o)) →
        (o : CellOpen) × (cond b (Some x) (first_of p xs) ≡ Some o)
    go true k rest = (x, refl)
    go false k rest = rest k

without_long : (p : CellOpen → Bool) (xs : List CellOpen) (o : CellOpen) → first_of p xs ≡ Some o → length xs ≡ suc (length (without_first_of p xs))
without_long p [] o is = absurd (cc)
without_long p (x ∷ xs) o is = go (p x) is (without_long p xs o)
  where
    go : (b : Bool) → cond b (Some x) (first_of p xs) ≡ Some o → (first_of p xs ≡ Some o → length xs ≡ suc (length (without_first_of p xs))) →
        suc (length xs) ≡ suc (length (cond b xs (x ∷ without_first_of p xs)))
    go true e rest = refl
    go false e rest = ap suc (rest e)

pub same_lengths : (xs ys : List CellOpen) → ((k : OpenKey) → length (filter (is_named k) xs) ≡ length (filter (is_named k) ys)) → length xs ≡ length ys
same_lengths [] [] h = refl
same_lengths [] (y ∷ ys) h =
    absurd (let a = h y.key in let b = ap (λ b. length (cond b (y ∷ filter (is_named y.key) ys) (filter (is_named y.key) ys))) (same_key-refl y.key) in omega (arith, a, b))
same_lengths (x ∷ xs) ys h =
    ap suc (same_lengths xs (without_first_of (is_named x.key) ys) (λ k. go k (same_key x.key k) refl (h k))) ∙ sym (without_long (is_named x.key) ys found.0 found.1)
  where
    own : ℕ
    own = length (filter (is_named x.key) xs)

    found : (o : CellOpen) × (first_of (is_named x.key) ys ≡ Some o)
    found = first_there (is_named x.key) ys (
        let a = h x.key in
        let b = ap (λ b. length (cond b (x ∷ filter (is_named x.key) xs) (filter (is_named x.key) xs))) (same_key-refl x.key) in
        omega (arith, a, b))

    one_less : (l : List CellOpen) → length (drop 1 l) ≡ length l - 1
    one_less [] = refl
    one_less (z ∷ l) = omega arith

    go : (k : OpenKey) (b : Bool) → same_key x.key k ≡ b → length (cond b (x ∷ filter (is_named k) xs) (filter (is_named k) xs)) ≡ length (filter (is_named k) ys) →
        length (filter (is_named k) xs) ≡ length (filter (is_named k) (without_first_of (is_named x.key) ys))
    go k true e f =
        let g = ap length (without_named x.key found.0 k ys found.1 ∙ ap (λ b. cond b (drop 1 (filter (is_named k) ys)) (filter (is_named k) ys)) e) in
        let d = one_less (filter (is_named k) ys) in
        omega (arith, f, g, d)
    go k false e f =
        let g = ap length (without_named x.key found.0 k ys found.1 ∙ ap (λ b. cond b (drop 1 (filter (is_named k) ys)) (filter (is_named k) ys)) e) in
        omega (arith, f, g)

-- the open starts of a map are as many as those that it finds
pub opens_counted : {S : Type 0} (es : List (OpenKey × VecDeque OpenStart S)) (opens : List CellOpen) → IsDistinct same_key (keys_of es) →
    ((k : OpenKey) → starts_if (lookup (same_key k) es) ≡ map kept_of (filter (is_named k) opens)) → length (opens_in es) ≡ length opens
opens_counted es opens distinct queued = same_lengths (opens_in es) opens (λ k.
    let a = ap length (named_in k es distinct) in
    let b = length-map (starts_if (lookup (same_key k) es)) (cell_open k) in
    let c = ap length (queued k) in
    let d = length-map (filter (is_named k) opens) kept_of in
    omega (arith, a, b, c, d))

-- the edges of a stream that wait are at most two for each row that does not end before the last punctuation
held_bound : (p : ℕ) (told held : List Edge) (all : List CellEvent) → IsHeld p told held all → length held ≤ 2 * reaching p all
held_bound p told held all h =
    let own : failing is_real held ≡ 0 =
    (let a = total-append (λ e. cond (is_real e) 0 1) told held in let c = h.real in omega (arith, a, c)) in
    waiting_bound p all held (valid_from (told ++ held) all h.real h.events) own h.from (λ w.
    let a = (singles_are_news (told ++ held) all h.real h.events).weigh w in
    let b = total-flat_map w singles_of (told ++ held) in
    let c = total-flat_map w singles_of held in
    let d = total-append (λ e. total w (singles_of e)) told held in
    omega (arith, a, b, c, d))

-- reading changes no end
reaching_read : (texts : List (List ℕ)) (p : ℕ) (es : List CellEvent) → reaching p (read_events texts es) ≡ reaching p es
reaching_read texts p [] = refl
reaching_read texts p (e ∷ es) = ap (λ n. cond (nat_le p e.end) 1 0 + n) (reaching_read texts p es)

lists_bound : (waiting : List (List Edge)) (f : ℕ → ℕ) → ((s : ℕ) → s < length waiting → length (get_or waiting s []) ≤ 2 * f s) →
    total (λ l. length l) waiting ≤ 2 * together (length waiting) f
lists_bound [] f h = omega arith
lists_bound (w ∷ ws) f h =
    let a = h 0 (omega arith) in
    let b = lists_bound ws (λ s. f (suc s)) (λ s less. h (suc s) (omega (arith, less))) in
    omega (arith, a, b)

module _ (texts : List (List ℕ)) (a : Admission) (given : ℕ → List Edge) (i : Ingress) (f : Follows texts a given i) where
  opens_same : length a.opens ≡ length f.opens
  opens_same = ap length f.reads_opens ∙ length-map f.opens _

  pub waiting_within : total (λ l. length l) i.held.waiting.items ≤ 2 * together (length i.held.waiting.items) (λ s. reaching i.released (rows a s))
  waiting_within = lists_bound i.held.waiting.items (λ s. reaching i.released (rows a s)) (λ s less.
      let h = held_bound i.released (given s) (get_or i.held.waiting.items s []) (cell_rows f.made f.opens s) (f.keeps.held s less) in
      let r = ap (reaching i.released) (rows_read texts a given i f s) ∙ reaching_read texts i.released (cell_rows f.made f.opens s) in
      omega (arith, h, r))

  pub opens_are : IsUnique same_key i.held.opens.starts → length (opens_in i.held.opens.starts.entries) ≡ length a.opens
  opens_are unique = opens_counted i.held.opens.starts.entries f.opens unique f.keeps.queued ∙ sym opens_same

  pub held_within : IsUnique same_key i.held.opens.starts →
      total (λ l. length l) i.held.waiting.items + length (opens_in i.held.opens.starts.entries) ≤ may_hold (length i.kinds.items) i.released a
  held_within unique =
      let long : length i.held.waiting.items ≡ length i.kinds.items = i.shape.waiting ∙ length-map i.kinds.items _ in
      let w = waiting_within in
      let n = ap (λ n. together n (λ s. reaching i.released (rows a s))) long in
      let o = opens_are unique in
      omega (arith, w, n, o)
