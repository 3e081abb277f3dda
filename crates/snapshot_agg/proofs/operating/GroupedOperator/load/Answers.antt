use Rattle.std.specs.Prelude.{length, map}
use Rattle.std.proofs.Common.{◌∙◌, sym, subst}
use Rattle.tw_rows.specs.Kinds.{cell_kind_of}
use Rattle.edge_stream.specs.Entries.{part_of}
use Rattle.sweep_sides.specs.Sides.{IsSide}
use Rattle.snapshot_agg.specs.Saving.{run_among, GroupSound}
use Rattle.snapshot_agg.specs.Keeping.{KeepsGrouped}
use Rattle.snapshot_agg.specs.Answering.{group_kinds}
use Rattle.snapshot_agg.specs.Waiting.{all_pending}
use Rattle.snapshot_agg.proofs.Reloading.{loaded_keeps, loaded_runs}
use Rattle.snapshot_agg.proofs.Sweeping.{for_both}
use Rattle.snapshot_agg.proofs.operating.GroupedOperator.load.Goals as goal

pub returns-clause-resumed : goal.returns-clause-resumed
returns-clause-resumed c = λ texts hl hr out r.
    let s = c.args.self.now in
    let g = s.groups in
    let l = c.in_ok-loaded.loaded in
    let left = map cell_kind_of s.left_kinds.items in
    for_both (λ key aggs. KeepsGrouped key aggs left texts l.groups.rows.rows l.running l.waiting c.args.left_to hl hr out) g.key.items l.groups.key.items g.aggs.items l.groups.aggs.items
    (sym (c.in_ok-loaded.ensures.key ∙ c.deref.ensures.value)) (sym (c.in_ok-loaded.ensures.aggs ∙ c.deref-2.ensures.value))
    (loaded_keeps g.key.items g.aggs.items left (map cell_kind_of s.kinds.items) c.args.left_to l.groups.rows.rows l.running l.waiting c.args.saved.now
    c.in_ok-loaded.ensures.ends c.in_ok-loaded.ensures.rows c.in_ok-loaded.ensures.waiting (λ k. c.in_ok-loaded.ensures.runs k ∙ (λ i. run_among (length (c.deref.ensures.value i)) (part_of 2 c.args.saved.now) k)) texts hl hr out r)

pub invariant_of-self : goal.invariant_of-self
invariant_of-self c =
    let s = c.args.self.now in
    record {
      counted = s.counted;
      side = s.side;
      runs = s.runs;
      few = s.few;
      like = s.like;
      width = s.width;
      room = s.room;
    }

pub returns-clause-sound : goal.returns-clause-sound
returns-clause-sound c =
    let s = c.args.self.now in
    subst (λ k. GroupSound (map cell_kind_of s.left_kinds.items) (map cell_kind_of k) c.args.left_to c.args.saved.now) c.deref-4.ensures.value
    (subst (λ k. GroupSound (map cell_kind_of k) (map cell_kind_of c.deref-4.result.now) c.args.left_to c.args.saved.now) c.deref-3.ensures.value c.in_ok-loaded.ensures.sound)

pub invariant_of-self-2 : goal.invariant_of-self-2
invariant_of-self-2 c =
    let s = c.args.self.now in
    let l = c.in_ok-loaded.loaded in
    let n = c.in_ok-loaded.ensures in
    let left = map cell_kind_of s.left_kinds.items in
    let own = map cell_kind_of s.kinds.items in
    let sound = subst (λ k. GroupSound (map cell_kind_of s.left_kinds.items) (map cell_kind_of k) c.args.left_to c.args.saved.now) c.deref-4.ensures.value
    (subst (λ k. GroupSound (map cell_kind_of k) (map cell_kind_of c.deref-4.result.now) c.args.left_to c.args.saved.now) c.deref-3.ensures.value n.sound) in
    let k = n.key ∙ c.deref.ensures.value in
    let a = n.aggs ∙ c.deref-2.ensures.value in
    record {
      counted = λ f. n.counted;
      side = λ f. subst (λ es. IsSide left c.args.left_to l.groups.rows.rows.held (all_pending es l.waiting)) (sym n.ends)
          (subst (λ k. IsSide (map cell_kind_of k) c.args.left_to l.groups.rows.rows.held l.waiting) c.deref-3.ensures.value n.side);
      runs = λ f. loaded_runs (length c.deref.result.now) own c.args.left_to l.running (part_of 2 c.args.saved.now) n.runs sound.told;
      few = c.keys_are_few.ensures;
      like = s.like ∙ (λ i. group_kinds (sym k i) (sym a i) left);
      width = s.width;
      room = s.room;
    }
