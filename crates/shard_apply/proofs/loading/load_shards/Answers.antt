use Rattle.std.proofs.Common.{◌<◌, ◌∙◌, ℕ, List, length, get_or, ap, sym, subst, arith}
use Rattle.std.specs.List.{range_with_len}
use Rattle.std.proofs.lemmas.List.{get_or-set_other}
use Rattle.std.proofs.Math.Seq.{map-set_same}
use Rattle.edge_stream.specs.Standing.{IsLike}
use Rattle.edge_stream.specs.declared.saved.SavedEntry.{SavedEntry}
use Rattle.shard_apply.specs.Saving.{AreRowsOf, HasLoaded}
use Rattle.shard_apply.specs.declared.shard.Shard.{Shard}
use Rattle.shard_apply.proofs.Saves.{get_or_same}
use Rattle.shard_apply.proofs.Loads.{at_set, below_other, named}
use Rattle.shard_apply.proofs.loading.load_shards.Goals as goal

pub returns-in-Err-clause-like : goal.returns-in-Err-clause-like
returns-in-Err-clause-like g c k d low =
    let standing = g.O.Operator.standing in
    let now = c.loop-i.shards in
    let was = c.args.shards.now in
    let i = c.loop-i.i in
    let s = c.index-shards-i.result in
    let x = c.load_shard.new.shard in
    let within : i < length now = omega (arith, c.loop-i-test.true, c.loop-i.auto.shards) in
    at_set (λ z. IsLike (standing (get_or was k d).operator) (standing z.operator)) now i x k d within
    (λ same. subst (λ z. IsLike (standing z.operator) (standing x.operator))
    (c.loop-i.invariant.rest i s (omega arith) ∙ get_or_same was i s d c.loop-i-test.true ∙ ap (λ j. get_or was j d) (sym same)) c.load_shard.ensures.like)
    (λ other. c.loop-i.invariant.like k d low)

pub returns-in-Err-clause-capacities : goal.returns-in-Err-clause-capacities
returns-in-Err-clause-capacities g c =
    map-set_same (λ z. z.pools.capacity) c.loop-i.shards c.loop-i.i c.load_shard.new.shard c.index-shards-i.result c.load_shard.ensures.capacity ∙ c.loop-i.invariant.capacities

pub loop-i-preserved : goal.loop-i-preserved
loop-i-preserved g c =
    let o = g.O.Operator in
    let standing = o.standing in
    let now = c.loop-i.shards in
    let was = c.args.shards.now in
    let saved = c.args.saved.now in
    let i = c.loop-i.i in
    let inv = c.loop-i.invariant in
    let s = c.index-shards-i.result in
    let x = c.load_shard.new.shard in
    let u = c.args.left_to in
    let v = c.args.right_to in
    let first = range_with_len 0 (length c.args.left_key.now) in
    let within : i < length now = omega (arith, c.loop-i-test.true, c.loop-i.auto.shards) in
    let in_saved : i < length saved = omega (arith, c.loop-i-test.true, c.requires.many) in
    let columns = c.deref.ensures.value ∙ c.in-Ok.ensures in
    let e = c.in_default-load_shard.ensures in
    record {
      loaded = λ k d w less.
          at_set (λ z. HasLoaded (o.resumes (get_or was k d).operator (get_or saved k w) u v) (o.keeps z.operator) (o.sound (get_or was k d).operator (get_or saved k w) u v)
          (AreRowsOf o.row_of_part (length was) c.args.left_key.now c.args.right_key.now first k (get_or saved k w)) (standing z.operator) u v) now i x k d within
          (λ same.
          let at = inv.rest i s (omega arith) ∙ get_or_same was i s d c.loop-i-test.true ∙ ap (λ j. get_or was j d) (sym same) in
          let there = c.index-saved-i.is ∙ get_or_same saved i c.index-saved-i.result w in_saved ∙ ap (λ j. get_or saved j w) (sym same) in
          subst (λ n. HasLoaded (o.resumes (get_or was k d).operator (get_or saved k w) u v) (o.keeps x.operator) (o.sound (get_or was k d).operator (get_or saved k w) u v)
          (AreRowsOf o.row_of_part (length was) c.args.left_key.now c.args.right_key.now first n (get_or saved k w)) (standing x.operator) u v) (sym same)
          (named (λ (z : Shard g.row.O.Denot) (y : List SavedEntry) (cs : List ℕ). HasLoaded (o.resumes z.operator y u v) (o.keeps x.operator) (o.sound z.operator y u v)
          (AreRowsOf o.row_of_part (length was) c.args.left_key.now c.args.right_key.now cs i y) (standing x.operator) u v)
          (get_or now i s) (get_or was k d) c.index-saved-i.result (get_or saved k w) c.deref.result.now first at there columns e.loaded))
          (λ other. inv.loaded k d w (below_other k i less other));
      rest = λ k d high. get_or-set_other now i k x d (λ same. absurd (omega (arith, high, same))) ∙ inv.rest k d (omega (arith, high));
      like = λ k d low.
          at_set (λ z. IsLike (standing (get_or was k d).operator) (standing z.operator)) now i x k d within
          (λ same. subst (λ z. IsLike (standing z.operator) (standing x.operator))
          (inv.rest i s (omega arith) ∙ get_or_same was i s d c.loop-i-test.true ∙ ap (λ j. get_or was j d) (sym same)) e.like)
          (λ other. inv.like k d low);
      capacities = map-set_same (λ z. z.pools.capacity) now i x s e.capacity ∙ inv.capacities;
    }
