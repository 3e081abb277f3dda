-- Nodes in shards as they are made.
use Rattle.std.specs.Prelude.{◌≡◌, ℕ, ◌<◌, ◌≤◌, true, false, List, [], map, length, All}
use Rattle.std.proofs.Common.{sym, ap, subst, ◌∙◌, arith}
use Rattle.std.proofs.lemmas.List.{length-map, get_or-map}
use Rattle.plan_model.specs.declared.node.Node.{Node}
use Rattle.plan_model.specs.IsPlan.{PlanParts, IsKey}
use Rattle.plan_laws.specs.Shards.{is_keyed, left_key_of, right_key_of}
use Rattle.edge_stream.specs.Standing.{Standing, Keeping}
use Rattle.shard_apply.specs.Whole.{Whole, first_of, side_by_side, standing_in, AreInStep, AreNew, ShardsKeep}
use Rattle.shard_apply.proofs.Faults.{with_item}
use Rattle.shard_apply.proofs.WholeLaws.{opens_together}
use Rattle.shard_apply.proofs.WholeSteps.{first_as}
use Rattle.dataflow.specs.declared.stage.Stage.{Stage}
use Rattle.dataflow.specs.Operating.{CanOperate}
use Rattle.dataflow.specs.Stages.{left_kinds, right_kinds, StandsAsMade, StartsFor}
use Rattle.dataflow.proofs.Variants.{IsVariant}

-- operators that all stand so
module _ {O : Type 0} (standing : O → Standing) (s : Standing) (os : List O) (some : 1 ≤ length os) (stand : All (λ o. standing o ≡ s) os) where
  pub first_is : first_of (map standing os) ≡ s
  first_is = with_item os some (λ d. first_as standing os d some ∙ stand 0 d some)

  all_alike : All (λ x. x ≡ first_of (map standing os)) (map standing os)
  all_alike k d low =
      let within : k < length os = (let long = length-map os standing in omega (arith, low, long)) in
      with_item os some (λ o. get_or-map standing os k o d within ∙ stand k o within ∙ sym first_is)

  -- the columns of the keys are those of the node
  pub in_step : (l r : List ℕ) → s.has_failed ≡ false → is_keyed s.node ≡ true → l ≡ left_key_of s.node → r ≡ right_key_of s.node → IsKey s.left_kinds l → IsKey s.right_kinds r →
      AreInStep (map standing os) l r
  in_step l r works keyed left_is right_is on_left on_right = record {
    some = (let long = length-map os standing in omega (arith, some, long));
    alike = all_alike;
    works = ap (λ x. x.has_failed) first_is ∙ works;
    keyed = ap (λ x. is_keyed x.node) first_is ∙ keyed;
    left_key_is = left_is ∙ ap (λ x. left_key_of x.node) (sym first_is);
    right_key_is = right_is ∙ ap (λ x. right_key_of x.node) (sym first_is);
    left_columns = subst (λ x. IsKey x.left_kinds l) (sym first_is) on_left;
    right_columns = subst (λ x. IsKey x.right_kinds r) (sym first_is) on_right;
  }

-- new operators that all stand so are the stage of a node in shards
pub sharded_starts : {O : Type 0} (stage : Whole O → Stage) (standing : O → Standing) (is_new : O → Type 0) (keeping : O → Keeping) → IsVariant stage (standing_in standing) (ShardsKeep standing keeping) →
    ((w : Whole O) → AreNew is_new standing w → StandsAsMade (stage w)) → ((o : O) (texts : List (List ℕ)) → is_new o → keeping o texts [] [] []) →
    (plan : PlanParts) (capacity : ℕ) (texts : List (List ℕ)) (n : Node) (s : Standing) → CanOperate capacity (left_kinds plan n) (right_kinds plan n) n s 0 0 →
    (w : Whole O) → All (λ o. standing o ≡ s) w.operators → AreNew is_new standing w → StartsFor texts capacity plan n (stage w)
sharded_starts stage standing is_new keeping is as_made opens plan capacity texts n s can w stand new =
    let some : 1 ≤ length w.operators = (let some = new.in_step.some in let long = length-map w.operators standing in omega (arith, some, long)) in
    let first = subst (λ x. CanOperate capacity (left_kinds plan n) (right_kinds plan n) n x 0 0) (sym (first_is standing s w.operators some stand)) can in
    record {
      ready = is.ready texts capacity (left_kinds plan n) (right_kinds plan n) n w 0 0 (record {
        node = first.node;
        named = first.named;
        works = new.works;
        left_closed = first.left_closed;
        right_closed = first.right_closed;
        left_kinds = first.left_kinds;
        right_kinds = first.right_kinds;
        own_kinds = first.own_kinds;
        batch_rows = first.batch_rows;
      });
      opens = is.keeps texts n w 0 0 [] [] [] (opens_together standing keeping w is_new opens texts new);
      made = as_made w new;
    }

-- an operator that is a stage by itself, and stands so as it is made
pub alone_starts : {O : Type 0} (stage : O → Stage) (standing : O → Standing) (keeping : O → Keeping) → IsVariant stage standing keeping →
    (plan : PlanParts) (capacity : ℕ) (texts : List (List ℕ)) (n : Node) (o : O) (s : Standing) → standing o ≡ s →
    CanOperate capacity (left_kinds plan n) (right_kinds plan n) n s 0 0 → keeping o texts [] [] [] → StandsAsMade (stage o) → StartsFor texts capacity plan n (stage o)
alone_starts stage standing keeping is plan capacity texts n o s stands can opens made = record {
  ready = is.ready texts capacity (left_kinds plan n) (right_kinds plan n) n o 0 0 (subst (λ x. CanOperate capacity (left_kinds plan n) (right_kinds plan n) n x 0 0) (sym stands) can);
  opens = is.keeps texts n o 0 0 [] [] [] opens;
  made = made;
}
