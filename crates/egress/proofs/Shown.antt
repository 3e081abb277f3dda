-- An instant that is shown by two passes has the lines of its changes.
use Rattle.std.specs.Prelude.{◌≡◌, ℕ, suc, ◌+◌, ◌-◌, ◌<◌, ◌≤◌, Bool, true, cond, List, ◌∷◌, ◌++◌, All, length, take, drop, map, flat_map, replicate, refl}
use Rattle.std.specs.declared.collections.VecDeque.{VecDeque}
use Rattle.std.specs.List.Sorted.{IsStrictlySortedBy}
use Rattle.std.proofs.Common.{sym, ◌∙◌, ap, subst, arith, get_or}
use Rattle.std.proofs.lemmas.List.{append_assoc, append-nil, drop_all, drop_more}
use Rattle.std.proofs.lemmas.List.Concat.{flat_map-append}
use Rattle.std.proofs.lemmas.List.Elements.{All-get_or}
use Rattle.indexmap.specs.IndexMap.{IndexMap}
use Rattle.tw_rows.specs.Cells.{ArePlaced, read_cells}
use Rattle.tw_rows.specs.Rows.{Row, row_cmp}
use Rattle.tw_rows.specs.SameCells.{same_cells}
use Rattle.tw_rows.specs.declared.cells.Datum.{Datum}
use Rattle.tw_rows.specs.declared.kind.Kind.{Kind}
use Rattle.plan_laws.specs.Places.{AreDistinct}
use Rattle.plan_model.specs.Changes.{Started, Ended, changes_at}
use Rattle.egress.specs.declared.moves.Moves.{Moves}
use Rattle.egress.specs.Instants.{end_lines, start_lines, instant_lines, AreMoves, AreOpen, AreTouched}
use Rattle.synopsis.specs.Kept.{since_at}
use Rattle.egress.specs.Kept.{ends_in, starts_in, rows_of, since_in, KeepCells}
use Rattle.egress.specs.Print.{line_text, print}
use Rattle.egress.proofs.Counted.{counted_none, counted_own}
use Rattle.egress.proofs.Passes.{Pass, pass_first, pass_next, pass_last}
use Rattle.egress.proofs.Reading.{stands_itself, since_set, since_own}
use Rattle.egress.proofs.Touched.{lines_are, open_then}

module _ (texts : List (List ℕ)) (touched : List Moves) (at : ℕ) where
  abbrev ends : Row → ℕ
  ends = ends_in texts touched

  abbrev starts : Row → ℕ
  starts = starts_in texts touched

  abbrev after_ends : (Row → List ℕ) → Row → List ℕ
  after_ends since r = drop (ends r - starts r) (since r)

  abbrev after_starts : (Row → List ℕ) → Row → List ℕ
  after_starts since r = since r ++ replicate (starts r - ends r) at

  -- the pass over the ends, of which those from i on are still to be shown, and the pass over the starts
  abbrev pub Ending : List Kind → (Row → List ℕ) → List ℕ → ℕ → (Row → List ℕ) → List ℕ → Type 0
  Ending kinds since0 out0 i since out =
      Pass kinds (end_lines ends starts at since0) since0 (after_ends since0) (out0 ++ print kinds (flat_map (end_lines ends starts at since0) (rows_of texts touched)))
      (rows_of texts (drop i touched)) since out

  abbrev pub Starting : List Kind → (Row → List ℕ) → List ℕ → ℕ → (Row → List ℕ) → List ℕ → Type 0
  Starting kinds since0 out0 i since out =
      Pass kinds (start_lines ends starts at) since0 (after_starts since0) (out0 ++ print kinds (flat_map (start_lines ends starts at) (rows_of texts touched)))
      (rows_of texts (drop i touched)) since out

  module _ (order : IsStrictlySortedBy row_cmp (rows_of texts touched)) where
    pub ending_first : (kinds : List Kind) (since0 : Row → List ℕ) (out0 : List ℕ) → Ending kinds since0 out0 0 since0 out0
    ending_first kinds since0 out0 =
        pass_first _ _ _ _ _ (rows_of texts touched) since0 out0 order
        (λ r e. ap (λ n. drop n (since0 r)) (let a = counted_none (λ m. m.ends) texts touched r e in let z : 0 ≡ ends r - starts r = omega (arith, a) in z))
        (λ r. refl) refl

    pub starting_first : (kinds : List Kind) (since0 : Row → List ℕ) (out0 : List ℕ) → Starting kinds since0 out0 0 since0 out0
    starting_first kinds since0 out0 =
        pass_first _ _ _ _ _ (rows_of texts touched) since0 out0 order
        (λ r e. sym (append-nil (since0 r)) ∙ ap (λ n. since0 r ++ replicate n at) (let a = counted_none (λ m. m.starts) texts touched r e in let z : 0 ≡ starts r - ends r = omega (arith, a) in z))
        (λ r. refl) refl

    pub ending_last : (kinds : List Kind) (since0 : Row → List ℕ) (out0 : List ℕ) (i : ℕ) (since : Row → List ℕ) (out : List ℕ) → length touched ≤ i → Ending kinds since0 out0 i since out →
        (out ≡ out0 ++ print kinds (flat_map (end_lines ends starts at since0) (rows_of texts touched))) × ((r : Row) → since r ≡ after_ends since0 r)
    ending_last kinds since0 out0 i since out high p =
        pass_last _ _ _ _ _ since out
        (subst (λ l. Pass kinds (end_lines ends starts at since0) since0 (after_ends since0) (out0 ++ print kinds (flat_map (end_lines ends starts at since0) (rows_of texts touched))) (rows_of texts l) since out)
        (drop_all i touched high) p)

    pub starting_last : (kinds : List Kind) (since0 : Row → List ℕ) (out0 : List ℕ) (i : ℕ) (since : Row → List ℕ) (out : List ℕ) → length touched ≤ i → Starting kinds since0 out0 i since out →
        (out ≡ out0 ++ print kinds (flat_map (start_lines ends starts at) (rows_of texts touched))) × ((r : Row) → since r ≡ after_starts since0 r)
    starting_last kinds since0 out0 i since out high p =
        pass_last _ _ _ _ _ since out
        (subst (λ l. Pass kinds (start_lines ends starts at) since0 (after_starts since0) (out0 ++ print kinds (flat_map (start_lines ends starts at) (rows_of texts touched))) (rows_of texts l) since out)
        (drop_all i touched high) p)

    -- one row of the pass
    module _ (distinct : AreDistinct texts) (placed : All (λ m. ArePlaced texts m.cells) touched) (i : ℕ) (m : Moves) (low : i < length touched) (is : m ≡ get_or touched i m) where
      pub own_placed : ArePlaced texts m.cells
      own_placed = subst (λ (x : Moves). ArePlaced texts x.cells) (sym is) (All-get_or (λ (x : Moves). ArePlaced texts x.cells) touched i m low placed)

      abbrev own : Row
      own = read_cells texts m.cells

      own_ends : m.ends ≡ ends own
      own_ends = ap (λ (x : Moves). x.ends) is ∙ sym (counted_own (λ x. x.ends) texts touched i m low order) ∙ ap (λ (x : Moves). ends (read_cells texts x.cells)) (sym is)

      own_starts : m.starts ≡ starts own
      own_starts = ap (λ (x : Moves). x.starts) is ∙ sym (counted_own (λ x. x.starts) texts touched i m low order) ∙ ap (λ (x : Moves). starts (read_cells texts x.cells)) (sym is)

      steps : rows_of texts (drop i touched) ≡ own ∷ rows_of texts (drop (i + 1) touched)
      steps = ap (rows_of texts) (drop_more touched i m low) ∙ ap (λ (x : Moves). read_cells texts x.cells ∷ rows_of texts (drop (i + 1) touched)) (sym is)

      module _ {S H : Type 0} (o o2 : IndexMap (List Datum) (VecDeque ℕ S) H) (kinds : List Kind) (since0 : Row → List ℕ) (out0 out out2 : List ℕ) (n : ℕ) where
        pub ending_next : n ≡ m.ends - m.starts → ((c : List Datum) → since_at o2 c ≡ cond (same_cells m.cells c) (drop n (since_at o c)) (since_at o c)) →
            out2 ≡ out ++ print kinds (map (λ s. Ended at s own) (take n (since_at o m.cells))) →
            Ending kinds since0 out0 i (since_in texts o) out → Ending kinds since0 out0 (i + 1) (since_in texts o2) out2
        ending_next is_n set printed p =
            let count : n ≡ ends own - starts own = is_n ∙ (λ k. own_ends k - own_starts k) in
            let stands = stands_itself texts m.cells own_placed in
            pass_next _ _ _ _ _ own (rows_of texts (drop (i + 1) touched)) (since_in texts o) (since_in texts o2) out out2 (drop n) (λ l. map (λ s. Ended at s own) (take n l))
            (ap (λ x. drop x (since0 own)) count) (ap (λ x. map (λ s. Ended at s own) (take x (since0 own))) count)
            (since_set texts distinct own m.cells stands o o2 (drop n) set)
            (printed ∙ ap (λ l. out ++ print kinds (map (λ s. Ended at s own) (take n l))) (since_own texts distinct own m.cells stands o o2))
            (subst (λ rows. Pass kinds (end_lines ends starts at since0) since0 (after_ends since0) (out0 ++ print kinds (flat_map (end_lines ends starts at since0) (rows_of texts touched))) rows (since_in texts o) out) steps p)

        pub starting_next : n ≡ m.starts - m.ends → ((c : List Datum) → since_at o2 c ≡ cond (same_cells m.cells c) (since_at o c ++ replicate n at) (since_at o c)) →
            out2 ≡ out ++ print kinds (replicate n (Started at own)) →
            Starting kinds since0 out0 i (since_in texts o) out → Starting kinds since0 out0 (i + 1) (since_in texts o2) out2
        starting_next is_n set printed p =
            let count : n ≡ starts own - ends own = is_n ∙ (λ k. own_starts k - own_ends k) in
            let stands = stands_itself texts m.cells own_placed in
            pass_next _ _ _ _ _ own (rows_of texts (drop (i + 1) touched)) (since_in texts o) (since_in texts o2) out out2 (λ l. l ++ replicate n at) (λ l. replicate n (Started at own))
            (ap (λ x. since0 own ++ replicate x at) count) (ap (λ x. replicate x (Started at own)) count)
            (since_set texts distinct own m.cells stands o o2 (λ l. l ++ replicate n at) set)
            printed
            (subst (λ rows. Pass kinds (start_lines ends starts at) since0 (after_starts since0) (out0 ++ print kinds (flat_map (start_lines ends starts at) (rows_of texts touched))) rows (since_in texts o) out) steps p)

    touched_are : AreTouched ends starts (rows_of texts touched)
    touched_are = record {
      order = order;
      others = λ r e. counted_none (λ m. m.ends) texts touched r e ∙ sym (counted_none (λ m. m.starts) texts touched r e);
    }

    module _ (since : Row → List ℕ) (rows : ℕ → List Row) (moves : AreMoves rows at ends starts) (opened : AreOpen rows at since) where
      pub shown : (kinds : List Kind) (out0 out1 out2 : List ℕ) →
          out1 ≡ out0 ++ print kinds (flat_map (end_lines ends starts at since) (rows_of texts touched)) →
          out2 ≡ out1 ++ print kinds (flat_map (start_lines ends starts at) (rows_of texts touched)) →
          out2 ≡ out0 ++ print kinds (changes_at rows at)
      unfolding instant_lines
      shown kinds out0 out1 out2 e f =
          let first = flat_map (end_lines ends starts at since) (rows_of texts touched) in
          let last = flat_map (start_lines ends starts at) (rows_of texts touched) in
          f ∙ ap (λ l. l ++ print kinds last) e
          ∙ append_assoc out0 (print kinds first) (print kinds last)
          ∙ ap (λ l. out0 ++ l) (
          sym (flat_map-append (line_text kinds) first last)
          ∙ ap (print kinds) (sym (lines_are rows at ends starts moves since opened (rows_of texts touched) touched_are)))

      pub open_shown : (since1 since2 : Row → List ℕ) → ((r : Row) → since1 r ≡ drop (ends r - starts r) (since r)) →
          ((r : Row) → since2 r ≡ since1 r ++ replicate (starts r - ends r) at) → AreOpen rows (suc at) since2
      open_shown since1 since2 e f = λ r.
          f r ∙ ap (λ l. l ++ replicate (starts r - ends r) at) (e r)
          ∙ open_then rows at ends starts moves since opened r

-- the moves at an index keep a test that all keep
pub own_kept : (p : List Datum → Bool) (touched : List Moves) (i : ℕ) (m : Moves) → i < length touched → m ≡ get_or touched i m → KeepCells p touched → p m.cells ≡ true
own_kept p touched i m low is keeps = ap (λ (x : Moves). p x.cells) is ∙ All-get_or (λ (x : Moves). p x.cells ≡ true) touched i m low keeps
