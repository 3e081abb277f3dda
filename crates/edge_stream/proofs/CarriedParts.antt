-- Entries of edges, part by part.
use Rattle.std.specs.Prelude.{◌≡◌, ℕ, ◌+◌, ◌<◌, ◌&&◌, nat_eq, nat_lt, Bool, true, false, cond, List, [], ◌∷◌, ◌++◌, map, length, All, filter, refl}
use Rattle.std.specs.List.{list_all}
use Rattle.std.proofs.Common.{sym, ◌∙◌, ap, arith, subst, get_or}
use Rattle.std.proofs.lemmas.Bool.Decides.{nat_tests}
use Rattle.std.proofs.lemmas.List.{map-append, length-append, length-map, get_or-map}
use Rattle.std.proofs.lemmas.List.Elements.{filter-append, All-nil, All-cons, All-head, All-tail, All-get_or}
use Rattle.std.proofs.lemmas.List.Folds.{list_all-append}
use Rattle.tw_rows.specs.Cells.{datum_kind}
use Rattle.tw_rows.specs.Kinds.{cell_kind_of}
use Rattle.tw_rows.specs.declared.cells.Datum.{Datum}
use Rattle.tw_rows.specs.declared.kind.Kind.{Kind}
use Rattle.tw_rows.specs.declared.edge.Edge.{Edge}
use Rattle.edge_history.specs.Order.{failing}
use Rattle.edge_stream.specs.declared.saved.SavedEntry.{SavedEntry}
use Rattle.edge_stream.specs.Entries.{entry_of, saved_edge, entries_of, part_of, are_of_parts}

-- the entries of a part give its edges back, and those of another part none
pub part_of_own : (p : ℕ) (es : List Edge) → part_of p (entries_of p es) ≡ es
part_of_own p [] = refl
part_of_own p (e ∷ es) = let same : nat_eq p p ≡ true = grind (arith, nat_tests) in rw same (ap (λ l. e ∷ l) (part_of_own p es))

pub part_of_other : (p q : ℕ) (es : List Edge) → nat_eq q p ≡ false → part_of p (entries_of q es) ≡ []
part_of_other p q [] other = refl
part_of_other p q (e ∷ es) other = rw other (part_of_other p q es other)

pub part_of_append : (p : ℕ) (xs ys : List SavedEntry) → part_of p (xs ++ ys) ≡ part_of p xs ++ part_of p ys
part_of_append p xs ys =
    ap (map saved_edge) (filter-append (λ (s : SavedEntry). nat_eq s.part p) xs ys)
    ∙ map-append saved_edge (filter (λ (s : SavedEntry). nat_eq s.part p) xs) (filter (λ (s : SavedEntry). nat_eq s.part p) ys)

-- what is saved of a part is an entry for each of its edges
pub saved_length : (before after : List SavedEntry) (p : ℕ) (es : List Edge) → after ≡ before ++ entries_of p es → length after ≡ length before + length es
saved_length before after p es is = ap length is ∙ length-append before (entries_of p es) ∙ ap (λ n. length before + n) (length-map es (entry_of p))

pub parts_own : (n p : ℕ) (es : List Edge) → nat_lt p n ≡ true → are_of_parts n (entries_of p es) ≡ true
parts_own n p [] low = refl
parts_own n p (e ∷ es) low = rw low (parts_own n p es low)

pub parts_append : (n : ℕ) (xs ys : List SavedEntry) → are_of_parts n xs ≡ true → are_of_parts n ys ≡ true → are_of_parts n (xs ++ ys) ≡ true
parts_append n xs ys one two = list_all-append (λ (s : SavedEntry). nat_lt s.part n) xs ys ∙ rw (one, two) refl

-- a test that holds of all, and one that none fails
module _ {X : Type 0} (p : X → Bool) where
  pub none_fails : (xs : List X) → list_all p xs ≡ true → failing p xs ≡ 0
  none_fails [] h = refl
  none_fails (x ∷ xs) h = pick (p x) h (none_fails xs)
    where
      pick : (b : Bool) → (b && list_all p xs) ≡ true → (list_all p xs ≡ true → failing p xs ≡ 0) → cond {A = ℕ} b 0 1 + failing p xs ≡ 0
      pick true k rest = let none = rest k in omega (arith, none)
      pick false k rest = absurd (cc)

  pub all_pass : (xs : List X) → failing p xs ≡ 0 → list_all p xs ≡ true
  all_pass [] h = refl
  all_pass (x ∷ xs) h = pick (p x) h (all_pass xs)
    where
      pick : (b : Bool) → cond {A = ℕ} b 0 1 + failing p xs ≡ 0 → (failing p xs ≡ 0 → list_all p xs ≡ true) → (b && list_all p xs) ≡ true
      pick true k rest = rest (omega (arith, k))
      pick false k rest = absurd (omega (arith, k))

-- the item at a place
module _ {X : Type 0} (P : X → Type 0) where
  pub All-there : (xs : List X) (i : ℕ) (x : X) → i < length xs → x ≡ get_or xs i x → All P xs → P x
  All-there xs i x lt is all = subst P (sym is) (All-get_or P xs i x lt all)

pub stored_at : (cells : List Datum) (kinds : List Kind) (i : ℕ) (d : Datum) (k : Kind) → i < length cells → map datum_kind cells ≡ map cell_kind_of kinds →
    datum_kind (get_or cells i d) ≡ cell_kind_of (get_or kinds i k)
stored_at cells kinds i d k lt same =
    let len : length cells ≡ length kinds = sym (length-map cells datum_kind) ∙ ap length same ∙ length-map kinds cell_kind_of in
    let here : i < length kinds = omega (arith, lt, len) in
    sym (get_or-map datum_kind cells i d (datum_kind d) lt) ∙ ap (λ l. get_or l i (datum_kind d)) same ∙ get_or-map cell_kind_of kinds i k (datum_kind d) here

-- what holds of the cells of the edges of each part holds of those of the entries
module _ (P : ℕ → List Datum → Type 0) where
  first_passes : (s : SavedEntry) (rest : List SavedEntry) → All (λ e. P s.part e.cells) (part_of s.part (s ∷ rest)) → P s.part s.cells
  first_passes s rest all =
      let same : nat_eq s.part s.part ≡ true = grind (arith, nat_tests) in
      All-head (λ (e : Edge). P s.part e.cells) (saved_edge s) (part_of s.part rest) (rw same at all)

  others_pass : (p : ℕ) (s : SavedEntry) (rest : List SavedEntry) → All (λ e. P p e.cells) (part_of p (s ∷ rest)) → All (λ e. P p e.cells) (part_of p rest)
  others_pass p s rest = pick (nat_eq s.part p)
    where
      pick : (b : Bool) → All (λ e. P p e.cells) (map saved_edge (cond b (s ∷ filter (λ r. nat_eq r.part p) rest) (filter (λ r. nat_eq r.part p) rest))) →
          All (λ e. P p e.cells) (part_of p rest)
      pick true all = All-tail (λ (e : Edge). P p e.cells) (saved_edge s) (part_of p rest) all
      pick false all = all

  both_known : (n : ℕ) (s : SavedEntry) (rest : List SavedEntry) → are_of_parts n (s ∷ rest) ≡ true → (s.part < n) × (are_of_parts n rest ≡ true)
  both_known n s rest known = pick (nat_lt s.part n) refl known
    where
      pick : (b : Bool) → nat_lt s.part n ≡ b → (b && are_of_parts n rest) ≡ true → (s.part < n) × (are_of_parts n rest ≡ true)
      pick true is k = ((let low : s.part < n = grind (arith, nat_tests) in low), k)
      pick false is k = absurd (cc)

  pub parts_pass : (n : ℕ) (entries : List SavedEntry) → are_of_parts n entries ≡ true → ((p : ℕ) → p < n → All (λ e. P p e.cells) (part_of p entries)) →
      All (λ s. P s.part s.cells) entries
  parts_pass n [] known pass = All-nil (λ (s : SavedEntry). P s.part s.cells)
  parts_pass n (s ∷ rest) known pass =
      let k = both_known n s rest known in
      All-cons (λ (r : SavedEntry). P r.part r.cells) s rest (first_passes s rest (pass s.part k.0)) (parts_pass n rest k.1 (λ p low. others_pass p s rest (pass p low)))
