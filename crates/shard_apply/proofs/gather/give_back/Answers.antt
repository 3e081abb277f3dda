use Rattle.std.proofs.Common.{◌≡◌, ◌<◌, ◌∙◌, length, get_or, ap, sym, arith}
use Rattle.std.proofs.lemmas.List.{get_or-set_other, get_or_append_left, length_push}
use Rattle.std.proofs.Math.Seq.{get_or-append_seam, map-set_same}
use Rattle.shard_apply.proofs.gather.give_back.Goals as goal

pub give_back-requires-after_bounds : goal.give_back-requires-after_bounds
give_back-requires-after_bounds g c κs within =
    let lists = c.pop.new.self.items in
    let list = c.in-Some.list in
    let items = c.in-Some.ensures.items in
    let at : c.len.result ≡ length lists = c.len.ensures ∙ c.pop.new.self.ok.0 in
    let low : length lists < length c.loop-list.lists.items = omega (arith, ap length items, length_push lists list) in
    let own = c.loop-list.invariant.each (length lists) list c.index-shards-len.result low in
    ap (λ i. (get_or c.loop-list.shards i c.index-shards-len.result).pools.capacity) at
    ∙ sym own
    ∙ ap (λ l. l.capacity) (ap (λ ls. get_or ls (length lists) list) items ∙ get_or-append_seam lists list _ list)

pub loop-list-preserved : goal.loop-list-preserved
loop-list-preserved g c =
    let lists = c.pop.new.self.items in
    let list = c.in-Some.list in
    let items = c.in-Some.ensures.items in
    let i = c.len.result in
    let shards = c.loop-list.shards in
    let shard = c.index-shards-len.result in
    let inv = c.loop-list.invariant in
    let at : i ≡ length lists = c.len.ensures ∙ c.pop.new.self.ok.0 in
    let more = ap length items ∙ length_push lists list in
    record {
      each = λ k d e low.
          ap (λ l. l.capacity) (sym (ap (λ ls. get_or ls k d) items ∙ get_or_append_left lists _ d k low))
          ∙ inv.each k d e (omega (arith, low, more))
          ∙ ap (λ s. s.pools.capacity) (sym (get_or-set_other shards i k c.give_back.new.self e (λ same. absurd (omega (arith, low, at, same)))));
      few = omega (arith, inv.few, more);
      operators = map-set_same (λ s. s.operator) shards i c.give_back.new.self shard c.give_back.ensures.operator ∙ inv.operators;
      capacities = map-set_same (λ s. s.pools.capacity) shards i c.give_back.new.self shard c.give_back.ensures.capacity ∙ inv.capacities;
    }
