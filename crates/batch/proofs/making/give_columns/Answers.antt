use Rattle.std.proofs.Common.{◌∙◌, [], ◌∷◌, ap, sym, map}
use Rattle.std.proofs.lemmas.List.{map-append}
use Rattle.batch.specs.Payloads.{payload_kind}
use Rattle.batch.specs.PoolsView.{all_given}
use Rattle.batch.proofs.PoolLaws.{all_given-push, given-capacity, room_left}
use Rattle.batch.proofs.making.give_columns.Goals as goal

pub loop-column-preserved : goal.loop-column-preserved
loop-column-preserved c =
    record {
      given = ap (λ s. all_given s (map payload_kind c.pop.new.self.items)) c.give.ensures
          ∙ sym (all_given-push c.loop-column.pools (map payload_kind c.pop.new.self.items) (payload_kind c.in-Some.column))
          ∙ ap (all_given c.loop-column.pools) (sym (ap (map payload_kind) c.in-Some.ensures.items ∙ map-append payload_kind c.pop.new.self.items (c.in-Some.column ∷ [])))
          ∙ c.loop-column.invariant.given;
      room = room_left c.pop.new.self.items c.loop-column.payload.items c.in-Some.column c.loop-column.pools.capacity _ c.in-Some.ensures.items (ap (λ s. s.capacity) c.give.ensures ∙ given-capacity c.loop-column.pools (payload_kind c.in-Some.column)) c.loop-column.invariant.room;
    }
