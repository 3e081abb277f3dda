-- What several operators save, one after another.
use Rattle.std.specs.Prelude.{◌≡◌, ℕ, ◌+◌, ◌<◌, ◌≤◌, ◌⊎◌, Some, List, [], ◌∷◌, ◌++◌, map, take, length}
use Rattle.std.proofs.Common.{◌∙◌, sym, ap, subst, arith, get_or, inl, inr}
use Rattle.std.proofs.lemmas.Bool.{cases_lt}
use Rattle.std.proofs.lemmas.List.{get_or-map, length-map, get_or_append_left, take_more, map-append}
use Rattle.std.proofs.lemmas.Option.{slice_get-get_or}
use Rattle.std.proofs.Math.Seq.{get_or-append_seam}
use Rattle.tw_rows.specs.Bag.{total}
use Rattle.tw_rows.proofs.Bags.{total-append}
use Rattle.edge_stream.specs.declared.saved.SavedEntry.{SavedEntry}
use Rattle.edge_stream.specs.Standing.{Standing, Keeping, Implies}
use Rattle.shard_apply.specs.Whole.{Whole, standing_in, ShardsKeep}
use Rattle.shard_apply.specs.Saving.{ShardsResume}

-- an item that is there is the same, whatever stands where there is none
pub get_or_same : {X : Type 0} (xs : List X) (i : ℕ) (d e : X) → i < length xs → get_or xs i d ≡ get_or xs i e
get_or_same xs i d e low =
    let a : Some (get_or xs i d) ≡ Some (get_or xs i e) = sym (slice_get-get_or xs i d low) ∙ slice_get-get_or xs i e low in
    cc

-- what holds of the items so far, and of the next one, once that is put last
pub pushed : {O S E : Type 0} (operator : S → O) (Good : O → E → Type 0) (shards : List S) (items new : List E) (i : ℕ) (x : S) (y : E) →
    new ≡ items ++ y ∷ [] → length items ≡ i → x ≡ get_or shards i x → i < length shards → Good (operator x) y →
    ((s : ℕ) (d : S) (e : E) → s < i → Good (operator (get_or shards s d)) (get_or items s e)) →
    (s : ℕ) (d : S) (e : E) → s < i + 1 → Good (operator (get_or shards s d)) (get_or new s e)
pushed {O} {S} {E} operator Good shards items new i x y is long at low good before s d e less = by_case (cases_lt s i)
  where
    by_case : (s < i) ⊎ (i ≤ s) → Good (operator (get_or shards s d)) (get_or new s e)
    by_case (inl less) =
        subst (λ z. Good (operator (get_or shards s d)) z) (sym (ap (λ l. get_or l s e) is ∙ get_or_append_left items (y ∷ []) e s (omega (arith, less, long)))) (before s d e less)
    by_case (inr more) =
        let same : i ≡ s = omega (arith, more, less) in
        let last : y ≡ get_or new s e = sym (ap (λ l. get_or l s e) is ∙ ap (λ k. get_or (items ++ y ∷ []) k e) (sym same ∙ sym long) ∙ get_or-append_seam items y [] e) in
        let own : x ≡ get_or shards s d = at ∙ get_or_same shards i x d low ∙ ap (λ k. get_or shards k d) same in
        subst (λ z. Good (operator (get_or shards s d)) z) last (subst (λ o. Good (operator o) y) own good)

pub total_more : {S O : Type 0} (w : O → ℕ) (operator : S → O) (xs : List S) (i : ℕ) (d : S) → i < length xs → d ≡ get_or xs i d →
    total w (map operator (take (i + 1) xs)) ≡ total w (map operator (take i xs)) + w (operator d)
total_more w operator xs i d low is =
    let a = ap (λ l. total w (map operator l)) (take_more xs i d low) in
    let b = ap (total w) (map-append operator (take i xs) (get_or xs i d ∷ [])) in
    let c = total-append w (map operator (take i xs)) (operator (get_or xs i d) ∷ []) in
    let e = ap (λ x. w (operator x)) is in
    omega (arith, a, b, c, e)

-- of operators what holds of shards
pub of_operators : {O S E : Type 0} (operator : S → O) (Good : O → E → Type 0) (shards : List S) (items : List E) (x : S) →
    ((s : ℕ) (d : S) (e : E) → s < length shards → Good (operator (get_or shards s d)) (get_or items s e)) →
    (s : ℕ) (d : O) (e : E) → s < length (map operator shards) → Good (get_or (map operator shards) s d) (get_or items s e)
of_operators operator Good shards items x each s d e low_os =
    let low : s < length shards = omega (arith, low_os, length-map shards operator) in
    subst (λ o. Good o (get_or items s e)) (sym (get_or-map operator shards s x d low)) (each s x e low)

-- what is kept together is resumed together
pub resumes_together : {O : Type 0} (standing : O → Standing) (keeps : O → Keeping) (resumes : O → List SavedEntry → ℕ → ℕ → Keeping) (w : Whole O) (saved : List (List SavedEntry)) →
    ((s : ℕ) (d : O) (e : List SavedEntry) → s < length w.operators → Implies (keeps (get_or w.operators s d))
    (resumes (get_or w.operators s d) (get_or saved s e) (standing_in standing w).left_closed (standing_in standing w).right_closed)) →
    Implies (ShardsKeep standing keeps w) (ShardsResume standing resumes w saved (standing_in standing w).left_closed (standing_in standing w).right_closed)
resumes_together standing keeps resumes w saved each texts hl hr out k = record {
  left_history = k.left_history;
  right_history = k.right_history;
  left_placed = k.left_placed;
  right_placed = k.right_placed;
  outs = k.outs;
  shards = λ s d e low. each s d e low texts _ _ (k.outs s) (k.shards s d low);
  below = k.below;
  order = k.order;
  same = k.same;
}
