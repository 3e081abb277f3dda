use Rattle.std.proofs.Common.{◌≡◌, ◌∙◌, ◌++◌, ◌∷◌, [], length, add-one, sym, ap, map, List, refl, drop, arith}
use Rattle.std.specs.Vec.Iter.{into_iter_items}
use Rattle.tempo_engine.proofs.Sharing.{drop_next, next_saved, drop_none, take_none}
use Rattle.tempo_engine.proofs.kept.shards_saved.Goals.{in-Some+in_ok-push, in_default}
use Rattle.tempo_engine.proofs.kept.shards_saved.Goals as goal

empty : {X : Type 0} (xs : List X) → length xs ≡ 0 → xs ≡ []
empty [] none = refl
empty (x ∷ xs) none = absurd (cc)

pub loop-shard-preserved : goal.loop-shard-preserved
loop-shard-preserved c =
    let xs = into_iter_items c.args.parts.now in
    let i = c.loop-shard._shard in
    let inv = c.loop-shard.invariant in
    elim c.match-next.branch [
      | in-Some+in_ok-push w ↦
          let at = sym inv.rest ∙ w.in-Some.ensures.items in
          rw add-one (record {
            rest = sym (drop_next i xs _ _ at);
            saved = ap (λ v. v.items) w.saved-is ∙ w.in_ok-push.ensures.items ∙ ap (λ l. l ++ w.in-Some.part.saved ∷ []) inv.saved ∙ sym (next_saved i xs _ _ at);
          })
      | in_default w ↦
          let many = c.loop-shard.parts.rest.ok in
          let at : drop i xs ≡ [] = sym inv.rest ∙ empty _ (omega (arith, many, w.in_default.ensures.cases.0)) in
          rw add-one (record {
            rest = sym w.in_default.ensures.items ∙ empty _ (omega (arith, many, w.in_default.ensures.cases.0)) ∙ sym (drop_none i xs at);
            saved = ap (λ v. v.items) w.saved-is ∙ inv.saved ∙ ap (λ l. map (λ p. p.saved) l) (sym (take_none i xs at));
          })
    ]
