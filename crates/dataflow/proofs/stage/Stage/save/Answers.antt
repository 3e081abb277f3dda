-- Answers to the goals of stage::Stage::save.
use Rattle.std.specs.Prelude.{◌≤◌, length, IfOk}
use Rattle.std.proofs.Common.{sym, subst}
use Rattle.tw_rows.specs.Bag.{total}
use Rattle.dataflow.specs.Stages.{entries_in}
use Rattle.dataflow.specs.Saving.{Saves, StoresRows}
use Rattle.dataflow.proofs.SavedStages.{variant_works, variant_saves, variant_stores, sharded_saves, sharded_stores, rows_save, rows_stored}
use Rattle.dataflow.proofs.Variants.{life_variant, union_variant, extend_variant, coalesce_variant, follow_variant, top_variant, join_variant, group_variant, anti_variant, clip_variant, session_variant}
use Rattle.dataflow.proofs.SavedVariants.{life_saving, union_saving, extend_saving, coalesce_saving, follow_saving, top_saving, join_saving, group_saving, anti_saving, clip_saving, session_saving}
use Rattle.dataflow.proofs.stage.Stage.save.Goals as goal

pub returns-in-Rows-clause-saves : goal.returns-in-Rows-clause-saves
returns-in-Rows-clause-saves c = subst (Saves c.args.self.now) (sym c.new.ensures.items) (rows_save c.args.self.now _ c.in-Rows.is)

pub save_whole-requires-clause-works : goal.save_whole-requires-clause-works
save_whole-requires-clause-works c κs = (let can = c.requires in variant_works _ _ _ life_variant c.args.self.now _ c.in-Life.is can.texts can.capacity can.left can.right can.node can.x can.y can.ready)

pub returns-in-Life-clause-few : goal.returns-in-Life-clause-few
returns-in-Life-clause-few c = subst (λ s. IfOk c.save_whole.result (λ saved. total length saved.items ≤ entries_in s)) (sym c.in-Life.is) c.save_whole.ensures.few

pub returns-in-Life-clause-saves : goal.returns-in-Life-clause-saves
returns-in-Life-clause-saves c = variant_saves _ _ _ life_variant _ _ _ life_saving c.args.self.now _ c.in-Life.is c.save_whole.result c.save_whole.ensures.saves

pub save_whole-requires-in-Union-clause-works : goal.save_whole-requires-in-Union-clause-works
save_whole-requires-in-Union-clause-works c κs = (let can = c.requires in variant_works _ _ _ union_variant c.args.self.now _ c.in-Union.is can.texts can.capacity can.left can.right can.node can.x can.y can.ready)

pub returns-in-Union-clause-few : goal.returns-in-Union-clause-few
returns-in-Union-clause-few c = subst (λ s. IfOk c.save_whole-in-Union.result (λ saved. total length saved.items ≤ entries_in s)) (sym c.in-Union.is) c.save_whole-in-Union.ensures.few

pub returns-in-Union-clause-saves : goal.returns-in-Union-clause-saves
returns-in-Union-clause-saves c = variant_saves _ _ _ union_variant _ _ _ union_saving c.args.self.now _ c.in-Union.is c.save_whole-in-Union.result c.save_whole-in-Union.ensures.saves

pub save_whole-requires-in-Extend-clause-works : goal.save_whole-requires-in-Extend-clause-works
save_whole-requires-in-Extend-clause-works c κs = (let can = c.requires in variant_works _ _ _ extend_variant c.args.self.now _ c.in-Extend.is can.texts can.capacity can.left can.right can.node can.x can.y can.ready)

pub returns-in-Extend-clause-few : goal.returns-in-Extend-clause-few
returns-in-Extend-clause-few c = subst (λ s. IfOk c.save_whole-in-Extend.result (λ saved. total length saved.items ≤ entries_in s)) (sym c.in-Extend.is) c.save_whole-in-Extend.ensures.few

pub returns-in-Extend-clause-saves : goal.returns-in-Extend-clause-saves
returns-in-Extend-clause-saves c = variant_saves _ _ _ extend_variant _ _ _ extend_saving c.args.self.now _ c.in-Extend.is c.save_whole-in-Extend.result c.save_whole-in-Extend.ensures.saves

pub save_whole-requires-in-Coalesce-clause-works : goal.save_whole-requires-in-Coalesce-clause-works
save_whole-requires-in-Coalesce-clause-works c κs = (let can = c.requires in variant_works _ _ _ coalesce_variant c.args.self.now _ c.in-Coalesce.is can.texts can.capacity can.left can.right can.node can.x can.y can.ready)

pub returns-in-Coalesce-clause-few : goal.returns-in-Coalesce-clause-few
returns-in-Coalesce-clause-few c = subst (λ s. IfOk c.save_whole-in-Coalesce.result (λ saved. total length saved.items ≤ entries_in s)) (sym c.in-Coalesce.is) c.save_whole-in-Coalesce.ensures.few

pub returns-in-Coalesce-clause-saves : goal.returns-in-Coalesce-clause-saves
returns-in-Coalesce-clause-saves c = variant_saves _ _ _ coalesce_variant _ _ _ coalesce_saving c.args.self.now _ c.in-Coalesce.is c.save_whole-in-Coalesce.result c.save_whole-in-Coalesce.ensures.saves

pub save_whole-requires-in-Follow-clause-works : goal.save_whole-requires-in-Follow-clause-works
save_whole-requires-in-Follow-clause-works c κs = (let can = c.requires in variant_works _ _ _ follow_variant c.args.self.now _ c.in-Follow.is can.texts can.capacity can.left can.right can.node can.x can.y can.ready)

pub returns-in-Follow-clause-few : goal.returns-in-Follow-clause-few
returns-in-Follow-clause-few c = subst (λ s. IfOk c.save_whole-in-Follow.result (λ saved. total length saved.items ≤ entries_in s)) (sym c.in-Follow.is) c.save_whole-in-Follow.ensures.few

pub returns-in-Follow-clause-saves : goal.returns-in-Follow-clause-saves
returns-in-Follow-clause-saves c = variant_saves _ _ _ follow_variant _ _ _ follow_saving c.args.self.now _ c.in-Follow.is c.save_whole-in-Follow.result c.save_whole-in-Follow.ensures.saves

pub save_whole-requires-in-Top-clause-works : goal.save_whole-requires-in-Top-clause-works
save_whole-requires-in-Top-clause-works c κs = (let can = c.requires in variant_works _ _ _ top_variant c.args.self.now _ c.in-Top.is can.texts can.capacity can.left can.right can.node can.x can.y can.ready)

pub returns-in-Top-clause-few : goal.returns-in-Top-clause-few
returns-in-Top-clause-few c = subst (λ s. IfOk c.save_whole-in-Top.result (λ saved. total length saved.items ≤ entries_in s)) (sym c.in-Top.is) c.save_whole-in-Top.ensures.few

pub returns-in-Top-clause-saves : goal.returns-in-Top-clause-saves
returns-in-Top-clause-saves c = variant_saves _ _ _ top_variant _ _ _ top_saving c.args.self.now _ c.in-Top.is c.save_whole-in-Top.result c.save_whole-in-Top.ensures.saves

pub save_shards-requires-clause-works : goal.save_shards-requires-clause-works
save_shards-requires-clause-works c κs = (let can = c.requires in variant_works _ _ _ join_variant c.args.self.now _ c.in-Join.is can.texts can.capacity can.left can.right can.node can.x can.y can.ready)

pub returns-in-Join-clause-few : goal.returns-in-Join-clause-few
returns-in-Join-clause-few c = subst (λ s. IfOk c.save_shards.result (λ saved. total length saved.items ≤ entries_in s)) (sym c.in-Join.is) c.save_shards.ensures.few

pub returns-in-Join-clause-saves : goal.returns-in-Join-clause-saves
returns-in-Join-clause-saves c = sharded_saves _ _ _ join_variant _ _ _ join_saving c.args.self.now _ c.in-Join.is c.save_shards.result c.save_shards.ensures.saves

pub save_shards-requires-in-Group-clause-works : goal.save_shards-requires-in-Group-clause-works
save_shards-requires-in-Group-clause-works c κs = (let can = c.requires in variant_works _ _ _ group_variant c.args.self.now _ c.in-Group.is can.texts can.capacity can.left can.right can.node can.x can.y can.ready)

pub returns-in-Group-clause-few : goal.returns-in-Group-clause-few
returns-in-Group-clause-few c = subst (λ s. IfOk c.save_shards-in-Group.result (λ saved. total length saved.items ≤ entries_in s)) (sym c.in-Group.is) c.save_shards-in-Group.ensures.few

pub returns-in-Group-clause-saves : goal.returns-in-Group-clause-saves
returns-in-Group-clause-saves c = sharded_saves _ _ _ group_variant _ _ _ group_saving c.args.self.now _ c.in-Group.is c.save_shards-in-Group.result c.save_shards-in-Group.ensures.saves

pub save_shards-requires-in-Anti-clause-works : goal.save_shards-requires-in-Anti-clause-works
save_shards-requires-in-Anti-clause-works c κs = (let can = c.requires in variant_works _ _ _ anti_variant c.args.self.now _ c.in-Anti.is can.texts can.capacity can.left can.right can.node can.x can.y can.ready)

pub returns-in-Anti-clause-few : goal.returns-in-Anti-clause-few
returns-in-Anti-clause-few c = subst (λ s. IfOk c.save_shards-in-Anti.result (λ saved. total length saved.items ≤ entries_in s)) (sym c.in-Anti.is) c.save_shards-in-Anti.ensures.few

pub returns-in-Anti-clause-saves : goal.returns-in-Anti-clause-saves
returns-in-Anti-clause-saves c = sharded_saves _ _ _ anti_variant _ _ _ anti_saving c.args.self.now _ c.in-Anti.is c.save_shards-in-Anti.result c.save_shards-in-Anti.ensures.saves

pub save_shards-requires-in-Clip-clause-works : goal.save_shards-requires-in-Clip-clause-works
save_shards-requires-in-Clip-clause-works c κs = (let can = c.requires in variant_works _ _ _ clip_variant c.args.self.now _ c.in-Clip.is can.texts can.capacity can.left can.right can.node can.x can.y can.ready)

pub returns-in-Clip-clause-few : goal.returns-in-Clip-clause-few
returns-in-Clip-clause-few c = subst (λ s. IfOk c.save_shards-in-Clip.result (λ saved. total length saved.items ≤ entries_in s)) (sym c.in-Clip.is) c.save_shards-in-Clip.ensures.few

pub returns-in-Clip-clause-saves : goal.returns-in-Clip-clause-saves
returns-in-Clip-clause-saves c = sharded_saves _ _ _ clip_variant _ _ _ clip_saving c.args.self.now _ c.in-Clip.is c.save_shards-in-Clip.result c.save_shards-in-Clip.ensures.saves

pub save_shards-requires-in-Session-clause-works : goal.save_shards-requires-in-Session-clause-works
save_shards-requires-in-Session-clause-works c κs = (let can = c.requires in variant_works _ _ _ session_variant c.args.self.now _ c.in-Session.is can.texts can.capacity can.left can.right can.node can.x can.y can.ready)

pub returns-in-Session-clause-few : goal.returns-in-Session-clause-few
returns-in-Session-clause-few c = subst (λ s. IfOk c.save_shards-in-Session.result (λ saved. total length saved.items ≤ entries_in s)) (sym c.in-Session.is) c.save_shards-in-Session.ensures.few

pub returns-in-Session-clause-saves : goal.returns-in-Session-clause-saves
returns-in-Session-clause-saves c = sharded_saves _ _ _ session_variant _ _ _ session_saving c.args.self.now _ c.in-Session.is c.save_shards-in-Session.result c.save_shards-in-Session.ensures.saves

pub returns-in-Life-clause-stored : goal.returns-in-Life-clause-stored
returns-in-Life-clause-stored c = variant_stores _ _ _ life_variant _ _ _ life_saving c.args.self.now _ c.in-Life.is c.save_whole.result c.save_whole.ensures.saves

pub returns-in-Union-clause-stored : goal.returns-in-Union-clause-stored
returns-in-Union-clause-stored c = variant_stores _ _ _ union_variant _ _ _ union_saving c.args.self.now _ c.in-Union.is c.save_whole-in-Union.result c.save_whole-in-Union.ensures.saves

pub returns-in-Extend-clause-stored : goal.returns-in-Extend-clause-stored
returns-in-Extend-clause-stored c = variant_stores _ _ _ extend_variant _ _ _ extend_saving c.args.self.now _ c.in-Extend.is c.save_whole-in-Extend.result c.save_whole-in-Extend.ensures.saves

pub returns-in-Coalesce-clause-stored : goal.returns-in-Coalesce-clause-stored
returns-in-Coalesce-clause-stored c = variant_stores _ _ _ coalesce_variant _ _ _ coalesce_saving c.args.self.now _ c.in-Coalesce.is c.save_whole-in-Coalesce.result c.save_whole-in-Coalesce.ensures.saves

pub returns-in-Follow-clause-stored : goal.returns-in-Follow-clause-stored
returns-in-Follow-clause-stored c = variant_stores _ _ _ follow_variant _ _ _ follow_saving c.args.self.now _ c.in-Follow.is c.save_whole-in-Follow.result c.save_whole-in-Follow.ensures.saves

pub returns-in-Top-clause-stored : goal.returns-in-Top-clause-stored
returns-in-Top-clause-stored c = variant_stores _ _ _ top_variant _ _ _ top_saving c.args.self.now _ c.in-Top.is c.save_whole-in-Top.result c.save_whole-in-Top.ensures.saves

pub returns-in-Join-clause-stored : goal.returns-in-Join-clause-stored
returns-in-Join-clause-stored c = sharded_stores _ _ _ join_variant _ _ _ join_saving c.args.self.now _ c.in-Join.is c.save_shards.result c.save_shards.ensures.saves

pub returns-in-Group-clause-stored : goal.returns-in-Group-clause-stored
returns-in-Group-clause-stored c = sharded_stores _ _ _ group_variant _ _ _ group_saving c.args.self.now _ c.in-Group.is c.save_shards-in-Group.result c.save_shards-in-Group.ensures.saves

pub returns-in-Anti-clause-stored : goal.returns-in-Anti-clause-stored
returns-in-Anti-clause-stored c = sharded_stores _ _ _ anti_variant _ _ _ anti_saving c.args.self.now _ c.in-Anti.is c.save_shards-in-Anti.result c.save_shards-in-Anti.ensures.saves

pub returns-in-Clip-clause-stored : goal.returns-in-Clip-clause-stored
returns-in-Clip-clause-stored c = sharded_stores _ _ _ clip_variant _ _ _ clip_saving c.args.self.now _ c.in-Clip.is c.save_shards-in-Clip.result c.save_shards-in-Clip.ensures.saves

pub returns-in-Session-clause-stored : goal.returns-in-Session-clause-stored
returns-in-Session-clause-stored c = sharded_stores _ _ _ session_variant _ _ _ session_saving c.args.self.now _ c.in-Session.is c.save_shards-in-Session.result c.save_shards-in-Session.ensures.saves

pub returns-in-Rows-clause-stored : goal.returns-in-Rows-clause-stored
returns-in-Rows-clause-stored c = subst (StoresRows c.args.self.now) (sym c.new.ensures.items) (rows_stored c.args.self.now)
