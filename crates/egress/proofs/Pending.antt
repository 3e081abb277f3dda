-- What waits, where the edges of the instant at hand are in a list of their own.
use Rattle.std.specs.Prelude.{◌≡◌, ℕ, ◌<◌, ◌≤◌, nat_eq, Bool, true, false, cond, Option, Some, None, List, [], ◌∷◌, ◌++◌, refl}
use Rattle.std.proofs.Common.{sym, ◌∙◌, ap, subst, arith}
use Rattle.std.proofs.lemmas.Bool.{eq-eqb, eqb-true, eqb-false, ne_eqb}
use Rattle.std.proofs.lemmas.List.{append_assoc, append-nil}
use Rattle.tw_rows.specs.declared.edge.Edge.{Edge}
use Rattle.egress.specs.Waiting.{Waiting, edges_if, edges_at, joined, with_now, ArePut, ArePopped}

joined_edges : (o : Option (List Edge)) (now : List Edge) → edges_if (joined o now) ≡ edges_if o ++ now
joined_edges o [] = sym (append-nil (edges_if o))
joined_edges o (e ∷ es) = refl

joined_none : (o : Option (List Edge)) (now : List Edge) → joined o now ≡ None → (o ≡ None) × (now ≡ [])
joined_none o [] e = (e, refl)
joined_none o (x ∷ xs) e = absurd (cc)

-- with none at hand the others wait alone
pub no_now : (at : ℕ) (later : Waiting) → with_now at [] later ≡ later
no_now at later = λ i t. pick t (nat_eq at t) i
  where
    pick : (t : ℕ) (b : Bool) → cond b (later t) (later t) ≡ later t
    pick t true = refl
    pick t false = refl

module _ (at : ℕ) (now : List Edge) (later : Waiting) (e : Edge) where
  -- an edge of the instant at hand comes last in its list
  pub put_now : at ≡ e.sync → ArePut (with_now at now later) (with_now at (now ++ e ∷ []) later) (e ∷ [])
  put_now is = record {
    edges = λ t. all_by t (nat_eq at t) (nat_eq e.sync t) (ap (λ n. nat_eq n t) is);
    none = λ t old empty. none_by t (nat_eq at t) (nat_eq e.sync t) (ap (λ n. nat_eq n t) is) old empty;
  }
    where
      all_by : (t : ℕ) (b c : Bool) → b ≡ c → edges_if (cond b (joined (later t) (now ++ e ∷ [])) (later t)) ≡ edges_if (cond b (joined (later t) now) (later t)) ++ cond c (e ∷ []) []
      all_by t true true same =
          joined_edges (later t) (now ++ e ∷ []) ∙ sym (append_assoc (edges_if (later t)) now (e ∷ [])) ∙ ap (λ l. l ++ e ∷ []) (sym (joined_edges (later t) now))
      all_by t false false same = sym (append-nil (edges_if (later t)))
      all_by t true false same = absurd (cc)
      all_by t false true same = absurd (cc)

      none_by : (t : ℕ) (b c : Bool) → b ≡ c → cond b (joined (later t) now) (later t) ≡ None → cond c (e ∷ []) [] ≡ [] → cond b (joined (later t) (now ++ e ∷ [])) (later t) ≡ None
      none_by t true true same old empty = absurd (cc)
      none_by t false false same old empty = old
      none_by t true false same old empty = absurd (cc)
      none_by t false true same old empty = absurd (cc)

  -- an edge of another instant comes to the others
  pub put_apart : (later2 : Waiting) → nat_eq at e.sync ≡ false → ArePut later later2 (e ∷ []) → ArePut (with_now at now later) (with_now at now later2) (e ∷ [])
  put_apart later2 other put = record {
    edges = λ t. all_by t (nat_eq at t) refl;
    none = λ t old empty. none_by t (nat_eq at t) refl old empty;
  }
    where
      away : (t : ℕ) → nat_eq at t ≡ true → edges_at t (e ∷ []) ≡ []
      away t is = ap (λ b. cond b (e ∷ []) []) (subst (λ n. nat_eq e.sync n ≡ false) (eqb-true at t is) (ne_eqb e.sync at (λ same. eqb-false at e.sync other (sym same))))

      all_by : (t : ℕ) (b : Bool) → nat_eq at t ≡ b → edges_if (cond b (joined (later2 t) now) (later2 t)) ≡ edges_if (cond b (joined (later t) now) (later t)) ++ edges_at t (e ∷ [])
      all_by t true is =
          joined_edges (later2 t) now
          ∙ ap (λ l. l ++ now) (put.edges t ∙ ap (λ l. edges_if (later t) ++ l) (away t is) ∙ append-nil (edges_if (later t)))
          ∙ sym (joined_edges (later t) now) ∙ sym (append-nil (edges_if (joined (later t) now))) ∙ ap (λ l. edges_if (joined (later t) now) ++ l) (sym (away t is))
      all_by t false is = put.edges t

      none_by : (t : ℕ) (b : Bool) → nat_eq at t ≡ b → cond b (joined (later t) now) (later t) ≡ None → edges_at t (e ∷ []) ≡ [] → cond b (joined (later2 t) now) (later2 t) ≡ None
      none_by t true is old empty = let j = joined_none (later t) now old in ap (joined (later2 t)) j.1 ∙ put.none t j.0 empty
      none_by t false is old empty = put.none t old empty

-- where none is at hand any instant may be that of the next
pub put_from : (at at2 : ℕ) (later new : Waiting) (es : List Edge) → ArePut (with_now at2 [] later) new es → ArePut (with_now at [] later) new es
put_from at at2 later new es put = subst (λ w. ArePut w new es) (no_now at2 later ∙ sym (no_now at later)) put

module _ (at : ℕ) (now : List Edge) (later later2 : Waiting) where
  before : (t : ℕ) → t < at → nat_eq at t ≡ false
  before t low = ne_eqb at t (λ same. omega (arith, same, low))

  -- an instant before the one at hand is taken out
  pub popped_before : (v : ℕ) (es : List Edge) → v < at → ArePopped later later2 v es → ArePopped (with_now at now later) (with_now at now later2) v es
  popped_before v es below popped = record {
    there = ap (λ b. cond b (joined (later v) now) (later v)) (before v below) ∙ popped.there;
    first = λ t low. ap (λ b. cond b (joined (later t) now) (later t)) (before t (omega (arith, low, below))) ∙ popped.first t low;
    left = λ t. pick t (nat_eq at t) refl;
  }
    where
      pick : (t : ℕ) (b : Bool) → nat_eq at t ≡ b → cond b (joined (later2 t) now) (later2 t) ≡ cond (nat_eq v t) None (cond b (joined (later t) now) (later t))
      pick t false is = popped.left t
      pick t true is =
          let other : nat_eq v t ≡ false = ne_eqb v t (λ same. let z = eqb-true at t is in omega (arith, same, below, z)) in
          ap (λ o. joined o now) (popped.left t ∙ ap (λ b. cond b None (later t)) other) ∙ ap (λ b. cond b None (joined (later t) now)) (sym other)

  -- the instant at hand is taken out, with what else waits for it
  pub popped_now : (es : List Edge) → (now ≡ [] → ⊥) → es ≡ edges_if (later at) ++ now → ((t : ℕ) → t < at → later t ≡ None) →
      ((t : ℕ) → later2 t ≡ cond (nat_eq at t) None (later t)) → ArePopped (with_now at now later) (with_now at [] later2) at es
  popped_now es some is none left = record {
    there = ap (λ b. cond b (joined (later at) now) (later at)) (eq-eqb at at refl) ∙ full now some ∙ ap Some (sym is);
    first = λ t low. ap (λ b. cond b (joined (later t) now) (later t)) (before t low) ∙ none t low;
    left = λ t. ap (λ (w : Waiting). w t) (no_now at later2) ∙ left t ∙ pick t (nat_eq at t);
  }
    where
      full : (l : List Edge) → (l ≡ [] → ⊥) → joined (later at) l ≡ Some (edges_if (later at) ++ l)
      full [] h = absurd (h refl)
      full (x ∷ xs) h = refl

      pick : (t : ℕ) (b : Bool) → cond b None (later t) ≡ cond b None (cond b (joined (later t) now) (later t))
      pick t true = refl
      pick t false = refl

  -- nothing is due before the instant at hand
  pub none_before : (to : ℕ) → to ≤ at → ((t : ℕ) → t < to → later2 t ≡ None) → (t : ℕ) → t < to → with_now at now later2 t ≡ None
  none_before to high none t low = ap (λ b. cond b (joined (later2 t) now) (later2 t)) (before t (omega (arith, high, low))) ∙ none t low

  pub same_now : ((t : ℕ) → later2 t ≡ later t) → with_now at now later2 ≡ with_now at now later
  same_now same = ap (with_now at now) (λ i t. same t i)
