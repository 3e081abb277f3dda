-- Edges that are taken one by one: how many of a list are, and up to when the output is swept.
use Rattle.std.specs.Prelude.{◌≡◌, ℕ, ◌*◌, ◌≤◌, nat_le, Bool, true, false, cond, List, [], ◌∷◌, ◌++◌, refl}
use Rattle.std.proofs.Common.{sym, ◌∙◌, ap, subst, arith}
use Rattle.std.proofs.lemmas.Bool.{leb-true}
use Rattle.std.proofs.lemmas.Bool.Decides.{nat_tests}
use Rattle.std.proofs.lemmas.List.{append_assoc, append-nil}
use Rattle.tw_rows.specs.declared.edge.Edge.{Edge}
use Rattle.edge_history.specs.Order.{failing, is_from, rank, Rises, IsHistory}
use Rattle.edge_history.proofs.Parts.{history_first}
use Rattle.edge_history.proofs.Rising.{Rises-back}
use Rattle.egress.specs.Output.{Holds}
use Rattle.egress.specs.declared.egress.Egress.{Egress}

-- edges in order come no earlier than the first
later_from : (r s : ℕ) (es : List Edge) → 2 * s ≤ r → Rises r es → failing (is_from s) es ≡ 0
later_from r s [] low h = refl
later_from r s (e ∷ es) low h =
    let rest = later_from (rank e) s es (let z = h.0 in omega (arith, low, z)) h.1 in
    let one : cond {A = ℕ} (is_from s e) 0 1 ≡ 0 = let z = h.0 in grind (arith, nat_tests) in
    omega (arith, one, rest)

first_from : (c : ℕ) (e : Edge) (es : List Edge) → failing (is_from c) (e ∷ es) ≡ 0 → c ≤ e.sync
first_from c e es h = pick (nat_le c e.sync) refl (λ b. b)
  where
    pick : (b : Bool) → nat_le c e.sync ≡ b → (c ≤ e.sync → c ≤ e.sync) → c ≤ e.sync
    pick true is k = leb-true c e.sync is
    pick false is k = absurd (let z = ap (λ b. cond {A = ℕ} b 0 1) is in omega (arith, h, z))

-- of all edges of a list these are still to be taken
pub record Takes (texts : List (List ℕ)) (h : List Edge) (a to : ℕ) (all rest : List Edge) (o : Egress) : Type 0 where
  pub done : List Edge
  pub at : ℕ
  pub parts : all ≡ done ++ rest
  pub low : at ≤ to
  pub from : failing (is_from at) rest ≡ 0
  pub holds : Holds texts (h ++ done) a at o

module _ (texts : List (List ℕ)) (h : List Edge) (a to : ℕ) (all : List Edge) where
  pub takes_first : (c : ℕ) (o : Egress) → Holds texts h a c o → failing (is_from c) all ≡ 0 → c ≤ to → Takes texts h a to all all o
  takes_first c o holds from low = record {
    done = [];
    at = c;
    parts = refl;
    low = low;
    from = from;
    holds = subst (λ l. Holds texts l a c o) (sym (append-nil h)) holds;
  }

  takes_one : (o o2 : Egress) (e : Edge) (rest : List Edge) (due : ℕ) → IsHistory (h ++ all) → due ≤ e.sync → due ≤ to → ((c : ℕ) → c ≤ e.sync → c ≤ to → c ≤ due) →
      ((h2 : List Edge) (a2 c : ℕ) → Holds texts h2 a2 c o → IsHistory (h2 ++ e ∷ []) → c ≤ due → due ≤ e.sync → Holds texts (h2 ++ e ∷ []) a2 due o2) →
      Takes texts h a to all (e ∷ rest) o → Takes texts h a to all rest o2
  takes_one o o2 e rest due whole below within greatest step t =
      let parts : all ≡ (t.done ++ e ∷ []) ++ rest = t.parts ∙ sym (append_assoc t.done (e ∷ []) rest) in
      let order : Rises 0 (e ∷ rest) = Rises-back 0 t.done (e ∷ rest) (Rises-back 0 h (t.done ++ e ∷ rest) (subst (λ l. Rises 0 (h ++ l)) t.parts whole.order)) in
      let front : IsHistory ((h ++ t.done) ++ e ∷ []) =
      history_first ((h ++ t.done) ++ e ∷ []) rest
      (subst IsHistory (ap (λ l. h ++ l) parts ∙ sym (append_assoc h (t.done ++ e ∷ []) rest) ∙ ap (λ l. l ++ rest) (sym (append_assoc h t.done (e ∷ [])))) whole) in
      record {
        done = t.done ++ e ∷ [];
        at = due;
        parts = parts;
        low = within;
        from = later_from (rank e) due rest (let z : 2 * e.sync ≤ rank e = omega arith in omega (arith, z, below)) order.1;
        holds = subst (λ l. Holds texts l a due o2) (append_assoc h t.done (e ∷ []))
            (step (h ++ t.done) a t.at t.holds front (greatest t.at (first_from t.at e rest t.from) t.low) below);
      }

  pub takes_next : (o o2 : Egress) (e : Edge) (list rest : List Edge) (due : ℕ) → list ≡ e ∷ rest → IsHistory (h ++ all) → due ≤ e.sync → due ≤ to → ((c : ℕ) → c ≤ e.sync → c ≤ to → c ≤ due) →
      ((h2 : List Edge) (a2 c : ℕ) → Holds texts h2 a2 c o → IsHistory (h2 ++ e ∷ []) → c ≤ due → due ≤ e.sync → Holds texts (h2 ++ e ∷ []) a2 due o2) →
      Takes texts h a to all list o → Takes texts h a to all rest o2
  takes_next o o2 e list rest due is whole below within greatest step t =
      takes_one o o2 e rest due whole below within greatest step (subst (λ l. Takes texts h a to all l o) is t)

  -- all are taken
  pub takes_last : (o : Egress) (rest : List Edge) → rest ≡ [] → (t : Takes texts h a to all rest o) → Holds texts (h ++ all) a t.at o
  takes_last o rest none t =
      subst (λ l. Holds texts (h ++ l) a t.at o) (sym (append-nil t.done) ∙ ap (λ l. t.done ++ l) (sym none) ∙ sym t.parts) t.holds
