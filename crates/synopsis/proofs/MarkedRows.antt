-- Rows that are found one by one.
use Rattle.std.specs.Prelude.{◌≡◌, ℕ, zero, suc, ◌+◌, ◌<◌, Bool, true, false, cond, ◌||◌, nat_eq, List, [], ◌∷◌, ◌++◌, map, filter, take, drop, remove, length, get_or, refl}
use Rattle.std.specs.List.{list_any}
use Rattle.std.proofs.Common.{sym, ◌∙◌, ap, subst, arith}
use Rattle.std.proofs.lemmas.Bool.{eqb-true}
use Rattle.std.proofs.lemmas.Bool.Decides.{nat_tests}
use Rattle.tw_rows.specs.declared.cells.Datum.{Datum}
use Rattle.tw_rows.specs.declared.edge.HeldRow.{HeldRow}
use Rattle.tw_rows.specs.SameCells.{same_cells, cells_are_same}
use Rattle.tw_rows.specs.Words.{word_of_cells}
use Rattle.edge_history.proofs.Sums.{failing-append}
use Rattle.synopsis.specs.declared.few_rows.MarkedRow.{MarkedRow}
use Rattle.synopsis.specs.Marked.{held_rows, is_marked, AreMarked, HasNone, IsFirst}
use Rattle.synopsis.specs.Queued.{queue_of}

-- other words are those of other cells
pub other_word : (m : MarkedRow) (cells : List Datum) (word : ℕ) → is_marked m → word ≡ word_of_cells cells → (m.word ≡ word → ⊥) → same_cells cells m.cells ≡ false
other_word m cells word marked is apart = go (same_cells cells m.cells) refl
  where
    go : (b : Bool) → same_cells cells m.cells ≡ b → b ≡ false
    go false e = refl
    go true e = absurd (apart (marked ∙ (ap word_of_cells (sym (cells_are_same cells m.cells e)) ∙ sym is)))

pub words_apart : (a b : ℕ) → (a ≡ b → ⊥) → nat_eq a b ≡ false
words_apart a b apart = go (nat_eq a b) refl
  where
    go : (t : Bool) → nat_eq a b ≡ t → t ≡ false
    go false e = refl
    go true e = absurd (apart (eqb-true a b e))

-- the row at a place is marked
pub marked_at : (rows : List MarkedRow) (i : ℕ) (x d : MarkedRow) → AreMarked rows → i < length rows → x ≡ get_or rows i d → is_marked x
marked_at [] i x d marked low is = absurd (omega (arith, low))
marked_at (m ∷ rows) zero x d marked low is = ap (λ (y : MarkedRow). y.word) is ∙ (eqb (omega (arith, marked)) ∙ sym (ap (λ (y : MarkedRow). word_of_cells y.cells) is))
  where
    eqb : cond {A = ℕ} (nat_eq m.word (word_of_cells m.cells)) 0 1 ≡ 0 → m.word ≡ word_of_cells m.cells
    eqb h = grind (arith, nat_tests)
marked_at (m ∷ rows) (suc i) x d marked low is = marked_at rows i x d (omega (arith, marked)) (omega (arith, low)) is

-- the rows stay marked as one is put last, and as one is taken out
pub marked_more : (rows rows2 : List MarkedRow) (m : MarkedRow) → rows2 ≡ rows ++ m ∷ [] → AreMarked rows → is_marked m → AreMarked rows2
marked_more rows rows2 m is marked here =
    let p : MarkedRow → Bool = λ y. nat_eq y.word (word_of_cells y.cells) in
    subst AreMarked (sym is) (failing-append p rows (m ∷ []) marked (one here))
  where
    one : m.word ≡ word_of_cells m.cells → cond {A = ℕ} (nat_eq m.word (word_of_cells m.cells)) 0 1 + 0 ≡ 0
    one h = grind (arith, nat_tests)

pub marked_less : (rows : List MarkedRow) (i : ℕ) → AreMarked rows → AreMarked (remove rows i)
marked_less [] zero marked = marked
marked_less [] (suc i) marked = marked
marked_less (m ∷ rows) zero marked = omega (arith, marked)
marked_less (m ∷ rows) (suc i) marked = let h = marked_less rows i (omega (arith, marked)) in omega (arith, h, marked)

-- the row at a place, whatever stands beyond the end
pub at_any : (rows : List MarkedRow) (i : ℕ) (d e : MarkedRow) → i < length rows → get_or rows i d ≡ get_or rows i e
at_any [] i d e low = absurd (omega (arith, low))
at_any (m ∷ rows) zero d e low = refl
at_any (m ∷ rows) (suc i) d e low = at_any rows i d e (omega (arith, low))

pub is_first : (cells : List Datum) (rows : List MarkedRow) (i : ℕ) (x d : MarkedRow) → i < length rows → x ≡ get_or rows i d →
    HasNone cells (take i rows) → same_cells cells x.cells ≡ true → IsFirst cells rows i
is_first cells rows i x d low is none same = (none, λ e. sym (ap (λ (y : MarkedRow). same_cells cells y.cells) (is ∙ at_any rows i d e low)) ∙ same)

-- one more row that is another
pub none_more : (cells : List Datum) (rows : List MarkedRow) (i : ℕ) (x d : MarkedRow) → i < length rows → x ≡ get_or rows i d →
    same_cells cells x.cells ≡ false → HasNone cells (take i rows) → HasNone cells (take (i + 1) rows)
none_more cells [] i x d low is apart none = absurd (omega (arith, low))
none_more cells (m ∷ rows) zero x d low is apart none =
    let k : 0 + 1 ≡ suc 0 = omega arith in
    ap (λ n. list_any (λ (y : MarkedRow). same_cells cells y.cells) (take n (m ∷ rows))) k ∙ ap (λ b. b || false) (sym (ap (λ (y : MarkedRow). same_cells cells y.cells) is) ∙ apart)
none_more cells (m ∷ rows) (suc i) x d low is apart none =
    let k : suc i + 1 ≡ suc (i + 1) = omega arith in
    let z = either (same_cells cells m.cells) (list_any (λ (y : MarkedRow). same_cells cells y.cells) (take i rows)) none in
    ap (λ n. list_any (λ (y : MarkedRow). same_cells cells y.cells) (take n (m ∷ rows))) k
    ∙ (ap (λ b. b || list_any (λ (y : MarkedRow). same_cells cells y.cells) (take (i + 1) rows)) z.0 ∙ none_more cells rows i x d (omega (arith, low)) is apart z.1)
  where
    either : (a b : Bool) → (a || b) ≡ false → (a ≡ false) × (b ≡ false)
    either true b h = absurd (cc)
    either false b h = (refl, h)

-- a row that is none of these has no queue
pub no_queue : (cells : List Datum) (rows : List MarkedRow) → HasNone cells rows → queue_of (held_rows rows) cells ≡ []
no_queue cells [] none = refl
no_queue cells (m ∷ rows) none = go (same_cells cells m.cells) none (λ h. no_queue cells rows h)
  where
    go : (b : Bool) → (b || list_any (λ (y : MarkedRow). same_cells cells y.cells) rows) ≡ false → (HasNone cells rows → queue_of (held_rows rows) cells ≡ []) →
        map (λ (r : HeldRow). r.start) (cond b (record { cells = m.cells; start = m.start } ∷ filter (λ r. same_cells cells r.cells) (held_rows rows)) (filter (λ r. same_cells cells r.cells) (held_rows rows))) ≡ []
    go true h next = absurd (cc)
    go false h next = next h

-- the first row of these cells is taken out
module _ (cells : List Datum) (d : MarkedRow) where
  pub first_start : (rows : List MarkedRow) (i : ℕ) → i < length rows → HasNone cells (take i rows) → same_cells cells (get_or rows i d).cells ≡ true →
      queue_of (held_rows rows) cells ≡ (get_or rows i d).start ∷ drop 1 (queue_of (held_rows rows) cells)
  first_start [] i low none is = absurd (omega (arith, low))
  first_start (m ∷ rows) zero low none is = go (same_cells cells m.cells) is
    where
      rest : List HeldRow
      rest = filter (λ r. same_cells cells r.cells) (held_rows rows)

      go : (b : Bool) → b ≡ true → map (λ (r : HeldRow). r.start) (cond b (record { cells = m.cells; start = m.start } ∷ rest) rest)
          ≡ m.start ∷ drop 1 (map (λ (r : HeldRow). r.start) (cond b (record { cells = m.cells; start = m.start } ∷ rest) rest))
      go true h = refl
      go false h = absurd (cc)
  first_start (m ∷ rows) (suc i) low none is = go (same_cells cells m.cells) none (λ h. first_start rows i (omega (arith, low)) h is)
    where
      rest : List HeldRow
      rest = filter (λ r. same_cells cells r.cells) (held_rows rows)

      go : (b : Bool) → (b || list_any (λ (y : MarkedRow). same_cells cells y.cells) (take i rows)) ≡ false →
          (HasNone cells (take i rows) → queue_of (held_rows rows) cells ≡ (get_or rows i d).start ∷ drop 1 (queue_of (held_rows rows) cells)) →
          map (λ (r : HeldRow). r.start) (cond b (record { cells = m.cells; start = m.start } ∷ rest) rest)
          ≡ (get_or rows i d).start ∷ drop 1 (map (λ (r : HeldRow). r.start) (cond b (record { cells = m.cells; start = m.start } ∷ rest) rest))
      go true h next = absurd (cc)
      go false h next = next h

  pub first_gone : (rows : List MarkedRow) (i : ℕ) → i < length rows → HasNone cells (take i rows) → same_cells cells (get_or rows i d).cells ≡ true →
      (q : List Datum) → queue_of (held_rows (remove rows i)) q ≡ cond (same_cells cells q) (drop 1 (queue_of (held_rows rows) q)) (queue_of (held_rows rows) q)
  first_gone [] i low none is q = absurd (omega (arith, low))
  first_gone (m ∷ rows) zero low none is q = go (same_cells cells q) refl (same_cells q m.cells) refl
    where
      rest : List HeldRow
      rest = filter (λ r. same_cells q r.cells) (held_rows rows)

      go : (a : Bool) → same_cells cells q ≡ a → (b : Bool) → same_cells q m.cells ≡ b →
          map (λ (r : HeldRow). r.start) rest
          ≡ cond a (drop 1 (map (λ (r : HeldRow). r.start) (cond b (record { cells = m.cells; start = m.start } ∷ rest) rest))) (map (λ (r : HeldRow). r.start) (cond b (record { cells = m.cells; start = m.start } ∷ rest) rest))
      go true e true f = refl
      go true e false f = (let x = ap (λ k. same_cells k m.cells) (cells_are_same cells q e) in let z : true ≡ false = sym is ∙ x ∙ f in absurd (cc))
      go false e true f = (let x = ap (same_cells cells) (cells_are_same q m.cells f) in let z : false ≡ true = sym e ∙ x ∙ is in absurd (cc))
      go false e false f = refl
  first_gone (m ∷ rows) (suc i) low none is q = go (same_cells cells m.cells) refl none (same_cells cells q) refl (same_cells q m.cells) refl (λ h. first_gone rows i (omega (arith, low)) h is q)
    where
      rest : List HeldRow
      rest = filter (λ r. same_cells q r.cells) (held_rows rows)

      left : List HeldRow
      left = filter (λ r. same_cells q r.cells) (held_rows (remove rows i))

      go : (p : Bool) → same_cells cells m.cells ≡ p → (p || list_any (λ (y : MarkedRow). same_cells cells y.cells) (take i rows)) ≡ false →
          (a : Bool) → same_cells cells q ≡ a → (b : Bool) → same_cells q m.cells ≡ b →
          (HasNone cells (take i rows) → queue_of (held_rows (remove rows i)) q ≡ cond a (drop 1 (queue_of (held_rows rows) q)) (queue_of (held_rows rows) q)) →
          map (λ (r : HeldRow). r.start) (cond b (record { cells = m.cells; start = m.start } ∷ left) left)
          ≡ cond a (drop 1 (map (λ (r : HeldRow). r.start) (cond b (record { cells = m.cells; start = m.start } ∷ rest) rest))) (map (λ (r : HeldRow). r.start) (cond b (record { cells = m.cells; start = m.start } ∷ rest) rest))
      go true g h a e b f next = absurd (cc)
      go false g h true e true f next = (let x = ap (same_cells cells) (cells_are_same q m.cells f) in let z : true ≡ false = sym e ∙ x ∙ g in absurd (cc))
      go false g h true e false f next = next h
      go false g h false e true f next = ap (λ l. m.start ∷ l) (next h)
      go false g h false e false f next = next h
