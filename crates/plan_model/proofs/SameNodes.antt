-- A node over the same multisets of events has the same multiset of events.
use Rattle.std.specs.Prelude.{◌≡◌, ℕ, ◌<◌, ◌≤◌, nat_lt, cond, true, List, [], ◌∷◌, ◌++◌, refl}
use Rattle.std.proofs.Common.{◌∙◌, ap, subst, arith}
use Rattle.std.proofs.lemmas.Bool.Decides.{nat_tests}
use Rattle.tw_rows.specs.Instant.{inf}
use Rattle.tw_rows.specs.Bag.{SameBag}
use Rattle.tw_rows.specs.Event.{Event, AreEvents, cut_one, cut, Known}
use Rattle.tw_rows.proofs.Bags.{SameBag-flat_map, SameBag-refl}
use Rattle.key_nodes.specs.Runs.{Tells}
use Rattle.plan_model.specs.declared.node.Node.{Node}
use Rattle.plan_model.specs.Nodes.{node_in}
use Rattle.plan_model.specs.RowOps.{RowOps}
use Rattle.plan_model.proofs.Causal.{node_in_known}
use Rattle.plan_model.proofs.Closings.{node_ends}

-- below infinity all is known of events
cut_whole : {R : Type 0} (es : List (Event R)) → AreEvents es → cut inf es ≡ es
cut_whole [] v = refl
cut_whole {R} (e ∷ es) v = ap (λ l. l ++ cut inf es) (one e v.0 v.1) ∙ ap (λ l. e ∷ l) (cut_whole es v.2)
  where
    last : (n : ℕ) → n ≤ inf → cond (nat_lt n inf) n inf ≡ n
    last n h = grind (arith, nat_tests)

    early : (a b : ℕ) → a < b → b ≤ inf → nat_lt a inf ≡ true
    early a b h k = grind (arith, nat_tests)

    one : (e : Event R) → e.start < e.end → e.end ≤ inf → cut_one inf e ≡ e ∷ []
    one e h k = ap (λ b. cond b (record { row = e.row; start = e.start; end = cond (nat_lt e.end inf) e.end inf } ∷ []) []) (early e.start e.end h k)
        ∙ ap (λ n. record { row = e.row; start = e.start; end = n } ∷ []) (last e.end k)

known_from_same : {R : Type 0} (a b : List (Event R)) → AreEvents a → AreEvents b → SameBag a b → Known inf a b
known_from_same a b va vb h = record { low = omega arith; left_valid = va; right_valid = vb; same = SameBag-flat_map (cut_one inf) (cut_one inf) a b h (λ e. SameBag-refl _) }

same_from_known : {R : Type 0} (a b : List (Event R)) → Known inf a b → SameBag a b
same_from_known a b h = subst (λ x. SameBag x b) (cut_whole a h.left_valid) (subst (λ x. SameBag (cut inf a) x) (cut_whole b h.right_valid) h.same)

pub node_same : {X : Type 0} (ops : RowOps X) → Tells ops.same → (n : Node) (a b c d : List (Event (List X))) → AreEvents a → AreEvents b → AreEvents c → AreEvents d →
    SameBag a c → SameBag b d → SameBag (node_in ops n a b) (node_in ops n c d)
node_same ops tells n a b c d va vb vc vd h k =
    same_from_known _ _ (subst (λ t. Known t (node_in ops n a b) (node_in ops n c d)) (node_ends n) (node_in_known ops tells n inf inf a b c d (known_from_same a c va vc h) (known_from_same b d vb vd k)))
