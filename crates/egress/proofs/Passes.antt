-- A pass over the rows that an instant touches: first their ends are shown, then their starts.
use Rattle.std.specs.Prelude.{◌≡◌, ℕ, Bool, true, false, ◌||◌, cond, List, [], ◌∷◌, ◌++◌, flat_map, refl}
use Rattle.std.specs.List.Sorted.{IsStrictlySortedBy}
use Rattle.std.specs.Ordering.{eq_by_cmp}
use Rattle.std.proofs.Common.{sym, ◌∙◌, ap, subst}
use Rattle.std.proofs.lemmas.List.{append_assoc, append-nil}
use Rattle.std.proofs.lemmas.List.Concat.{flat_map-append}
use Rattle.tw_rows.specs.Rows.{Row, row_cmp}
use Rattle.tw_rows.specs.declared.kind.Kind.{Kind}
use Rattle.plan_model.specs.Changes.{Line}
use Rattle.plan_model.proofs.InOrder.{member, same_row, row_itself}
use Rattle.egress.specs.Print.{line_text, print}
use Rattle.egress.proofs.Counted.{either_way, apart}

-- text that is printed in parts
printed_on : (kinds : List Kind) (before now after : List ℕ) (first rest : List Line) → after ≡ now ++ print kinds first →
    now ++ print kinds (first ++ rest) ≡ before → after ++ print kinds rest ≡ before
printed_on kinds before now after first rest e h =
    ap (λ l. l ++ print kinds rest) e
    ∙ append_assoc now (print kinds first) (print kinds rest)
    ∙ ap (λ l. now ++ l) (sym (flat_map-append (line_text kinds) first rest))
    ∙ h

module _ (kinds : List Kind) (lines : Row → List Line) (since0 then : Row → List ℕ) (all : List ℕ) where
  -- the rows `rest` are still to be gone over; `all` is the text once they are, and `then` what is open
  pub record Pass (rest : List Row) (since : Row → List ℕ) (out : List ℕ) : Type 0 where
    pub order : IsStrictlySortedBy row_cmp rest
    pub text : out ++ print kinds (flat_map lines rest) ≡ all
    pub left : (r : Row) → since r ≡ cond (member r rest) (since0 r) (then r)

  pub pass_next : (k : Row) (rest : List Row) (since since2 : Row → List ℕ) (out out2 : List ℕ) (f : List ℕ → List ℕ) (g : List ℕ → List Line) →
      f (since0 k) ≡ then k → g (since0 k) ≡ lines k →
      ((r : Row) → since2 r ≡ cond (eq_by_cmp row_cmp k r) (f (since r)) (since r)) → out2 ≡ out ++ print kinds (g (since k)) →
      Pass (k ∷ rest) since out → Pass rest since2 out2
  unfolding IsStrictlySortedBy
  pass_next k rest since since2 out out2 f g gives shows moved printed p = record {
    order = p.order.1;
    text = printed_on kinds all out out2 (lines k) (flat_map lines rest) (printed ∙ ap (λ l. out ++ print kinds (g l)) own ∙ ap (λ l. out ++ print kinds l) shows) p.text;
    left = λ r. moved r ∙ pick r (eq_by_cmp row_cmp k r) refl;
  }
    where
      own : since k ≡ since0 k
      own = p.left k ∙ ap (λ b. cond (b || member k rest) (since0 k) (then k)) (row_itself k)

      pick : (r : Row) (b : Bool) → eq_by_cmp row_cmp k r ≡ b → cond b (f (since r)) (since r) ≡ cond (member r rest) (since0 r) (then r)
      pick r true e =
          subst (λ x. f (since x) ≡ cond (member x rest) (since0 x) (then x)) (same_row k r e)
          (ap f own ∙ gives ∙ ap (λ b. cond b (since0 k) (then k)) (sym (apart k rest p.order.0)))
      pick r false e = p.left r ∙ ap (λ b. cond (b || member r rest) (since0 r) (then r)) (either_way r k ∙ e)

  pub pass_first : (rest : List Row) (since : Row → List ℕ) (out : List ℕ) → IsStrictlySortedBy row_cmp rest → ((r : Row) → member r rest ≡ false → since0 r ≡ then r) →
      ((r : Row) → since r ≡ since0 r) → out ++ print kinds (flat_map lines rest) ≡ all → Pass rest since out
  pass_first rest since out order others same text = record {
    order = order;
    text = text;
    left = λ r. same r ∙ pick r (member r rest) refl;
  }
    where
      pick : (r : Row) (b : Bool) → member r rest ≡ b → since0 r ≡ cond b (since0 r) (then r)
      pick r true e = refl
      pick r false e = others r e

  pub pass_last : (since : Row → List ℕ) (out : List ℕ) → Pass [] since out → (out ≡ all) × ((r : Row) → since r ≡ then r)
  pass_last since out p = (sym (append-nil out) ∙ p.text, p.left)
