-- Edges that are put to those that wait.
use Rattle.std.specs.Prelude.{◌≡◌, ℕ, nat_eq, Bool, true, false, cond, Some, None, List, [], ◌∷◌, ◌++◌, refl, Vec}
use Rattle.std.specs.Ordering.{nat_cmp, eq_by_cmp}
use Rattle.std.specs.BTreeMap.{get, BTreeMap}
use Rattle.std.proofs.Common.{sym, ◌∙◌, ap, subst}
use Rattle.std.proofs.lemmas.Bool.{eqb-true}
use Rattle.std.proofs.lemmas.List.{append_assoc, append-nil}
use Rattle.std.proofs.lemmas.List.Elements.{filter-append}
use Rattle.std.specs.Cmp.{unsigned_tied}
use Rattle.tw_rows.specs.declared.edge.Edge.{Edge}
use Rattle.edge_history.specs.Opens.{singles_of, singles}
use Rattle.egress.specs.Waiting.{Waiting, edges_if, items_if, later_in, edges_at, ArePut}

nil_left : {X : Type 0} (xs ys : List X) → xs ++ ys ≡ [] → xs ≡ []
nil_left [] ys e = refl
nil_left (x ∷ xs) ys e = absurd (cc)

nil_right : {X : Type 0} (xs ys : List X) → xs ++ ys ≡ [] → ys ≡ []
nil_right [] ys e = e
nil_right (x ∷ xs) ys e = absurd (cc)

both_at : (t : ℕ) (xs ys : List Edge) → edges_at t (xs ++ ys) ≡ edges_at t xs ++ edges_at t ys
both_at t xs ys = filter-append (λ e. nat_eq e.sync t) xs ys

-- what is put in turn is put
pub then_put : (a b c : Waiting) (xs ys : List Edge) → ArePut a b xs → ArePut b c ys → ArePut a c (xs ++ ys)
then_put a b c xs ys p q = record {
  edges = λ t.
      q.edges t ∙ ap (λ l. l ++ edges_at t ys) (p.edges t)
      ∙ append_assoc (edges_if (a t)) (edges_at t xs) (edges_at t ys)
      ∙ ap (λ l. edges_if (a t) ++ l) (sym (both_at t xs ys));
  none = λ t e n.
      let z = sym (both_at t xs ys) ∙ n in
      q.none t (p.none t e (nil_left (edges_at t xs) (edges_at t ys) z)) (nil_right (edges_at t xs) (edges_at t ys) z);
}

-- one edge is put where it is the last of its instant, and all else stays
module _ {A : Type 0} (m n : BTreeMap ℕ (Vec Edge A)) (k : ℕ) (e : Edge) (at : k ≡ e.sync) (v : Vec Edge A)
    (last : v.items ≡ edges_if (later_in m k) ++ e ∷ [])
    (set : (q : ℕ) → get nat_cmp n q ≡ cond (eq_by_cmp nat_cmp k q) (Some v) (get nat_cmp m q)) where
  tied : (q : ℕ) → eq_by_cmp nat_cmp k q ≡ nat_eq e.sync q
  tied q = unsigned_tied k q ∙ ap (λ x. nat_eq x q) at

  is_now : (q : ℕ) → later_in n q ≡ items_if (cond (nat_eq e.sync q) (Some v) (get nat_cmp m q))
  is_now q = ap items_if (set q ∙ ap (λ b. cond b (Some v) (get nat_cmp m q)) (tied q))

  pub one_put : ArePut (later_in m) (later_in n) (e ∷ [])
  one_put = record {
    edges = λ t. ap edges_if (is_now t) ∙ pick t (nat_eq e.sync t) refl;
    none = λ t old empty. is_now t ∙ rest t old (nat_eq e.sync t) empty;
  }
    where
      pick : (t : ℕ) (b : Bool) → nat_eq e.sync t ≡ b →
          edges_if (items_if (cond b (Some v) (get nat_cmp m t))) ≡ edges_if (later_in m t) ++ cond b (e ∷ []) []
      pick t true f = last ∙ ap (λ q. edges_if (later_in m q) ++ e ∷ []) (at ∙ eqb-true e.sync t f)
      pick t false f = sym (append-nil (edges_if (later_in m t)))

      rest : (t : ℕ) → later_in m t ≡ None → (b : Bool) → cond b (e ∷ []) [] ≡ [] → items_if (cond b (Some v) (get nat_cmp m t)) ≡ None
      rest t old true empty = absurd (cc)
      rest t old false empty = old

pub single_put : (old new : Waiting) (e : Edge) → ArePut old new (singles_of e) → ArePut old new (singles (e ∷ []))
single_put old new e put = subst (ArePut old new) (sym (append-nil (singles_of e))) put
