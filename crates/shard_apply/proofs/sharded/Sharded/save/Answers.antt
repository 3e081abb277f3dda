use Rattle.std.proofs.Common.{◌≡◌, ◌<◌, ◌≤◌, ◌+◌, ◌∙◌, ◌∷◌, [], ℕ, List, map, length, get_or, ap, sym, subst, arith}
use Rattle.std.proofs.lemmas.List.{length-map, take_all}
use Rattle.tw_rows.specs.Bag.{total}
use Rattle.tw_rows.proofs.Bags.{total-append}
use Rattle.edge_stream.specs.declared.saved.SavedEntry.{SavedEntry}
use Rattle.edge_stream.specs.Standing.{Standing, Implies}
use Rattle.shard_apply.specs.declared.shard.Shard.{Shard}
use Rattle.shard_apply.specs.Whole.{first_of, standing_in, ShardsKeep}
use Rattle.shard_apply.specs.Saving.{AreSound, ShardsResume}
use Rattle.shard_apply.proofs.Apart.{shard_stands}
use Rattle.shard_apply.proofs.Faults.{with_item}
use Rattle.shard_apply.proofs.Saves.{pushed, total_more, of_operators, resumes_together}
use Rattle.shard_apply.proofs.sharded.Sharded.save.Goals as goal

pub save-requires : goal.save-requires
save-requires g c =
    let standing = g.O.Operator.standing in
    let works = ap (λ w. w.failed) c.self.view_is ∙ c.requires in
    let in_step = c.self.invariant.in_step works in
    let value = c.deref-shard-items.ensures.value in
    let i = c.loop-shard.shard-index in
    let low : i < length c.self.inside.shards.items = omega (arith, c.loop-shard-test.true, ap length value) in
    ap (λ s. (standing s.operator).has_failed) (c.shard-item.is ∙ ap (λ l. get_or l i c.shard-item.result) value)
    ∙ ap (λ s. s.has_failed) (shard_stands standing (λ s. s.operator) c.self.inside.shards.items _ _ in_step i c.shard-item.result low)
    ∙ in_step.works

pub loop-shard-preserved : goal.loop-shard-preserved
loop-shard-preserved g c =
    let o = g.O.Operator in
    let items = c.deref-shard-items.result.now in
    let saved = c.loop-shard.saved.items in
    let i = c.loop-shard.shard-index in
    let inv = c.loop-shard.invariant in
    let is = c.push_reserved.ensures.items in
    let long : length saved ≡ i = sym c.loop-shard.saved.ok.0 ∙ inv.count in
    let own = c.in_ok-entries.ensures in
    let more = total_more o.entries (λ s. s.operator) items i c.shard-item.result c.loop-shard-test.true c.shard-item.is in
    let sum = ap (total length) is ∙ total-append length saved (c.in_ok-entries.entries ∷ []) in
    record {
      count = c.push_reserved.ensures.len ∙ ap (λ n. n + 1) inv.count;
      room = omega (arith, inv.room, c.push_reserved.ensures.capacity);
      few = omega (arith, inv.few, own.few, more, sum);
      sound = pushed (λ s. s.operator) (λ x e. o.sound x e (o.standing x).left_closed (o.standing x).right_closed) items saved c.push_reserved.new.self.items i
          c.shard-item.result c.in_ok-entries.entries is long c.shard-item.is c.loop-shard-test.true own.sound inv.sound;
      resumes = pushed (λ s. s.operator) (λ x e. Implies (o.keeps x) (o.resumes x e (o.standing x).left_closed (o.standing x).right_closed)) items saved c.push_reserved.new.self.items i
          c.shard-item.result c.in_ok-entries.entries is long c.shard-item.is c.loop-shard-test.true own.resumes inv.resumes;
    }

pub returns-clause-many : goal.returns-clause-many
returns-clause-many g c =
    let value = c.deref-shard-items.ensures.value in
    let end : c.loop-shard.shard-index ≡ length c.deref-shard-items.result.now = omega (arith, c.loop-shard-test.false, c.loop-shard.auto.shard-index-end) in
    sym c.loop-shard.saved.ok.0 ∙ c.loop-shard.invariant.count ∙ end ∙ ap length value ∙ sym (length-map c.self.inside.shards.items (λ s. s.operator)) ∙ ap (λ w. length w.operators) c.self.view_is

pub returns-clause-few : goal.returns-clause-few
returns-clause-few g c =
    let entries = g.O.Operator.entries in
    let value = c.deref-shard-items.ensures.value in
    let items = c.deref-shard-items.result.now in
    let end = take_all c.loop-shard.shard-index items (omega (arith, c.loop-shard-test.false)) in
    let all = ap (λ l. total entries (map (λ s. s.operator) l)) (end ∙ value) ∙ ap (λ w. total entries w.operators) c.self.view_is in
    omega (arith, c.loop-shard.invariant.few, all)

pub returns-clause-sound : goal.returns-clause-sound
returns-clause-sound g c =
    let o = g.O.Operator in
    let standing = o.standing in
    let operator : Shard g.row.O.Denot → g.row.O.Denot = λ s. s.operator in
    let shards = c.self.inside.shards.items in
    let saved = c.loop-shard.saved.items in
    let view = c.self.view_is in
    let works = ap (λ w. w.failed) view ∙ c.requires in
    let in_step = c.self.invariant.in_step works in
    let value = c.deref-shard-items.ensures.value in
    let first = first_of (map standing (map operator shards)) in
    let some : 1 ≤ length shards = omega (arith, in_step.some, length-map shards operator, length-map (map operator shards) standing) in
    let here : (s : ℕ) (d : Shard g.row.O.Denot) (e : List SavedEntry) → s < length shards →
    o.sound (get_or shards s d).operator (get_or saved s e) (standing (get_or shards s d).operator).left_closed (standing (get_or shards s d).operator).right_closed =
    subst (λ (l : List (Shard g.row.O.Denot)). (s : ℕ) (d : Shard g.row.O.Denot) (e : List SavedEntry) → s < length l →
    o.sound (get_or l s d).operator (get_or saved s e) (standing (get_or l s d).operator).left_closed (standing (get_or l s d).operator).right_closed) value
    (λ s d e low. c.loop-shard.invariant.sound s d e (omega (arith, low, c.loop-shard-test.false))) in
    subst (λ w. AreSound o.sound w saved (standing_in standing w).left_closed (standing_in standing w).right_closed) view
    (with_item shards some (λ x. of_operators operator (λ y e. o.sound y e first.left_closed first.right_closed) shards saved x
    (λ s d e low. subst (λ (st : Standing). o.sound (get_or shards s d).operator (get_or saved s e) st.left_closed st.right_closed)
    (shard_stands standing operator shards _ _ in_step s d low) (here s d e low))))

pub returns-clause-resumes : goal.returns-clause-resumes
returns-clause-resumes g c =
    let o = g.O.Operator in
    let standing = o.standing in
    let operator : Shard g.row.O.Denot → g.row.O.Denot = λ s. s.operator in
    let shards = c.self.inside.shards.items in
    let saved = c.loop-shard.saved.items in
    let view = c.self.view_is in
    let works = ap (λ w. w.failed) view ∙ c.requires in
    let in_step = c.self.invariant.in_step works in
    let value = c.deref-shard-items.ensures.value in
    let first = first_of (map standing (map operator shards)) in
    let some : 1 ≤ length shards = omega (arith, in_step.some, length-map shards operator, length-map (map operator shards) standing) in
    let here : (s : ℕ) (d : Shard g.row.O.Denot) (e : List SavedEntry) → s < length shards → Implies (o.keeps (get_or shards s d).operator)
    (o.resumes (get_or shards s d).operator (get_or saved s e) (standing (get_or shards s d).operator).left_closed (standing (get_or shards s d).operator).right_closed) =
    subst (λ (l : List (Shard g.row.O.Denot)). (s : ℕ) (d : Shard g.row.O.Denot) (e : List SavedEntry) → s < length l → Implies (o.keeps (get_or l s d).operator)
    (o.resumes (get_or l s d).operator (get_or saved s e) (standing (get_or l s d).operator).left_closed (standing (get_or l s d).operator).right_closed)) value
    (λ s d e low. c.loop-shard.invariant.resumes s d e (omega (arith, low, c.loop-shard-test.false))) in
    subst (λ w. Implies (ShardsKeep standing o.keeps w) (ShardsResume standing o.resumes w saved (standing_in standing w).left_closed (standing_in standing w).right_closed)) view
    (with_item shards some (λ x. resumes_together standing o.keeps o.resumes _ saved
    (of_operators operator (λ y e. Implies (o.keeps y) (o.resumes y e first.left_closed first.right_closed)) shards saved x
    (λ s d e low. subst (λ (st : Standing). Implies (o.keeps (get_or shards s d).operator) (o.resumes (get_or shards s d).operator (get_or saved s e) st.left_closed st.right_closed))
    (shard_stands standing operator shards _ _ in_step s d low) (here s d e low)))))
