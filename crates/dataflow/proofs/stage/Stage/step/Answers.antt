use Rattle.std.proofs.Common.{ap, sym, ◌∙◌}
use Rattle.dataflow.specs.declared.stage.Stage.TheVariants.{Rows, Life, Union, Extend, Join, Group, Anti, Session, Clip, Coalesce, Follow, Top}
use Rattle.dataflow.specs.Shards.{is_variant_of, shards_in}
use Rattle.dataflow.proofs.Running.{runs_same}
use Rattle.dataflow.proofs.Variants.{variant_ready, variant_kept, variant_defined, variant_overflow, life_variant, union_variant, extend_variant, join_variant, group_variant, anti_variant, session_variant, clip_variant, coalesce_variant, follow_variant, top_variant}
use Rattle.dataflow.proofs.stage.Stage.step.Goals as goal

pub returns-in-Life-clause-ready : goal.returns-in-Life-clause-ready
returns-in-Life-clause-ready g c =
    variant_ready _ _ _ life_variant c.args.texts.now c.args.left c.args.right c.args.self.now c.in-Life.operator c.step_operator.new.operator c.in-Life.is c.args.left_to c.args.right_to c.step_operator.result c.step_operator.ensures.ready

pub returns-in-Life-clause-kept : goal.returns-in-Life-clause-kept
returns-in-Life-clause-kept g c =
    variant_kept _ _ _ life_variant c.args.texts.now c.args.left c.args.right c.args.self.now c.in-Life.operator c.step_operator.new.operator c.in-Life.is c.args.left_to c.args.right_to c.step_operator.result c.step_operator.ensures.kept

pub returns-in-Life-clause-defined : goal.returns-in-Life-clause-defined
returns-in-Life-clause-defined g c =
    variant_defined _ _ _ life_variant c.args.texts.now c.args.left c.args.right c.args.self.now c.in-Life.operator c.step_operator.new.operator c.in-Life.is c.args.left_to c.args.right_to c.step_operator.result c.step_operator.ensures.defined

pub returns-in-Life-clause-overflow : goal.returns-in-Life-clause-overflow
returns-in-Life-clause-overflow g c =
    variant_overflow _ _ _ life_variant c.args.texts.now c.args.left c.args.right c.args.self.now c.in-Life.operator c.step_operator.new.operator c.in-Life.is c.args.left_to c.args.right_to c.step_operator.result c.step_operator.ensures.overflow

pub returns-in-Union-clause-ready : goal.returns-in-Union-clause-ready
returns-in-Union-clause-ready g c =
    variant_ready _ _ _ union_variant c.args.texts.now c.args.left c.args.right c.args.self.now c.in-Union.operator c.step_operator-in-Union.new.operator c.in-Union.is c.args.left_to c.args.right_to c.step_operator-in-Union.result c.step_operator-in-Union.ensures.ready

pub returns-in-Union-clause-kept : goal.returns-in-Union-clause-kept
returns-in-Union-clause-kept g c =
    variant_kept _ _ _ union_variant c.args.texts.now c.args.left c.args.right c.args.self.now c.in-Union.operator c.step_operator-in-Union.new.operator c.in-Union.is c.args.left_to c.args.right_to c.step_operator-in-Union.result c.step_operator-in-Union.ensures.kept

pub returns-in-Union-clause-defined : goal.returns-in-Union-clause-defined
returns-in-Union-clause-defined g c =
    variant_defined _ _ _ union_variant c.args.texts.now c.args.left c.args.right c.args.self.now c.in-Union.operator c.step_operator-in-Union.new.operator c.in-Union.is c.args.left_to c.args.right_to c.step_operator-in-Union.result c.step_operator-in-Union.ensures.defined

pub returns-in-Union-clause-overflow : goal.returns-in-Union-clause-overflow
returns-in-Union-clause-overflow g c =
    variant_overflow _ _ _ union_variant c.args.texts.now c.args.left c.args.right c.args.self.now c.in-Union.operator c.step_operator-in-Union.new.operator c.in-Union.is c.args.left_to c.args.right_to c.step_operator-in-Union.result c.step_operator-in-Union.ensures.overflow

pub returns-in-Extend-clause-ready : goal.returns-in-Extend-clause-ready
returns-in-Extend-clause-ready g c =
    variant_ready _ _ _ extend_variant c.args.texts.now c.args.left c.args.right c.args.self.now c.in-Extend.operator c.step_operator-in-Extend.new.operator c.in-Extend.is c.args.left_to c.args.right_to c.step_operator-in-Extend.result c.step_operator-in-Extend.ensures.ready

pub returns-in-Extend-clause-kept : goal.returns-in-Extend-clause-kept
returns-in-Extend-clause-kept g c =
    variant_kept _ _ _ extend_variant c.args.texts.now c.args.left c.args.right c.args.self.now c.in-Extend.operator c.step_operator-in-Extend.new.operator c.in-Extend.is c.args.left_to c.args.right_to c.step_operator-in-Extend.result c.step_operator-in-Extend.ensures.kept

pub returns-in-Extend-clause-defined : goal.returns-in-Extend-clause-defined
returns-in-Extend-clause-defined g c =
    variant_defined _ _ _ extend_variant c.args.texts.now c.args.left c.args.right c.args.self.now c.in-Extend.operator c.step_operator-in-Extend.new.operator c.in-Extend.is c.args.left_to c.args.right_to c.step_operator-in-Extend.result c.step_operator-in-Extend.ensures.defined

pub returns-in-Extend-clause-overflow : goal.returns-in-Extend-clause-overflow
returns-in-Extend-clause-overflow g c =
    variant_overflow _ _ _ extend_variant c.args.texts.now c.args.left c.args.right c.args.self.now c.in-Extend.operator c.step_operator-in-Extend.new.operator c.in-Extend.is c.args.left_to c.args.right_to c.step_operator-in-Extend.result c.step_operator-in-Extend.ensures.overflow

pub returns-in-Join-clause-ready : goal.returns-in-Join-clause-ready
returns-in-Join-clause-ready g c =
    variant_ready _ _ _ join_variant c.args.texts.now c.args.left c.args.right c.args.self.now c.in-Join.whole c.step_sharded.new.whole c.in-Join.is c.args.left_to c.args.right_to c.step_sharded.result c.step_sharded.ensures.ready

pub returns-in-Join-clause-kept : goal.returns-in-Join-clause-kept
returns-in-Join-clause-kept g c =
    variant_kept _ _ _ join_variant c.args.texts.now c.args.left c.args.right c.args.self.now c.in-Join.whole c.step_sharded.new.whole c.in-Join.is c.args.left_to c.args.right_to c.step_sharded.result c.step_sharded.ensures.kept

pub returns-in-Join-clause-defined : goal.returns-in-Join-clause-defined
returns-in-Join-clause-defined g c =
    variant_defined _ _ _ join_variant c.args.texts.now c.args.left c.args.right c.args.self.now c.in-Join.whole c.step_sharded.new.whole c.in-Join.is c.args.left_to c.args.right_to c.step_sharded.result c.step_sharded.ensures.defined

pub returns-in-Join-clause-overflow : goal.returns-in-Join-clause-overflow
returns-in-Join-clause-overflow g c =
    variant_overflow _ _ _ join_variant c.args.texts.now c.args.left c.args.right c.args.self.now c.in-Join.whole c.step_sharded.new.whole c.in-Join.is c.args.left_to c.args.right_to c.step_sharded.result c.step_sharded.ensures.overflow

pub returns-in-Group-clause-ready : goal.returns-in-Group-clause-ready
returns-in-Group-clause-ready g c =
    variant_ready _ _ _ group_variant c.args.texts.now c.args.left c.args.right c.args.self.now c.in-Group.whole c.step_sharded-in-Group.new.whole c.in-Group.is c.args.left_to c.args.right_to c.step_sharded-in-Group.result c.step_sharded-in-Group.ensures.ready

pub returns-in-Group-clause-kept : goal.returns-in-Group-clause-kept
returns-in-Group-clause-kept g c =
    variant_kept _ _ _ group_variant c.args.texts.now c.args.left c.args.right c.args.self.now c.in-Group.whole c.step_sharded-in-Group.new.whole c.in-Group.is c.args.left_to c.args.right_to c.step_sharded-in-Group.result c.step_sharded-in-Group.ensures.kept

pub returns-in-Group-clause-defined : goal.returns-in-Group-clause-defined
returns-in-Group-clause-defined g c =
    variant_defined _ _ _ group_variant c.args.texts.now c.args.left c.args.right c.args.self.now c.in-Group.whole c.step_sharded-in-Group.new.whole c.in-Group.is c.args.left_to c.args.right_to c.step_sharded-in-Group.result c.step_sharded-in-Group.ensures.defined

pub returns-in-Group-clause-overflow : goal.returns-in-Group-clause-overflow
returns-in-Group-clause-overflow g c =
    variant_overflow _ _ _ group_variant c.args.texts.now c.args.left c.args.right c.args.self.now c.in-Group.whole c.step_sharded-in-Group.new.whole c.in-Group.is c.args.left_to c.args.right_to c.step_sharded-in-Group.result c.step_sharded-in-Group.ensures.overflow

pub returns-in-Anti-clause-ready : goal.returns-in-Anti-clause-ready
returns-in-Anti-clause-ready g c =
    variant_ready _ _ _ anti_variant c.args.texts.now c.args.left c.args.right c.args.self.now c.in-Anti.whole c.step_sharded-in-Anti.new.whole c.in-Anti.is c.args.left_to c.args.right_to c.step_sharded-in-Anti.result c.step_sharded-in-Anti.ensures.ready

pub returns-in-Anti-clause-kept : goal.returns-in-Anti-clause-kept
returns-in-Anti-clause-kept g c =
    variant_kept _ _ _ anti_variant c.args.texts.now c.args.left c.args.right c.args.self.now c.in-Anti.whole c.step_sharded-in-Anti.new.whole c.in-Anti.is c.args.left_to c.args.right_to c.step_sharded-in-Anti.result c.step_sharded-in-Anti.ensures.kept

pub returns-in-Anti-clause-defined : goal.returns-in-Anti-clause-defined
returns-in-Anti-clause-defined g c =
    variant_defined _ _ _ anti_variant c.args.texts.now c.args.left c.args.right c.args.self.now c.in-Anti.whole c.step_sharded-in-Anti.new.whole c.in-Anti.is c.args.left_to c.args.right_to c.step_sharded-in-Anti.result c.step_sharded-in-Anti.ensures.defined

pub returns-in-Anti-clause-overflow : goal.returns-in-Anti-clause-overflow
returns-in-Anti-clause-overflow g c =
    variant_overflow _ _ _ anti_variant c.args.texts.now c.args.left c.args.right c.args.self.now c.in-Anti.whole c.step_sharded-in-Anti.new.whole c.in-Anti.is c.args.left_to c.args.right_to c.step_sharded-in-Anti.result c.step_sharded-in-Anti.ensures.overflow

pub returns-in-Session-clause-ready : goal.returns-in-Session-clause-ready
returns-in-Session-clause-ready g c =
    variant_ready _ _ _ session_variant c.args.texts.now c.args.left c.args.right c.args.self.now c.in-Session.whole c.step_sharded-in-Session.new.whole c.in-Session.is c.args.left_to c.args.right_to c.step_sharded-in-Session.result c.step_sharded-in-Session.ensures.ready

pub returns-in-Session-clause-kept : goal.returns-in-Session-clause-kept
returns-in-Session-clause-kept g c =
    variant_kept _ _ _ session_variant c.args.texts.now c.args.left c.args.right c.args.self.now c.in-Session.whole c.step_sharded-in-Session.new.whole c.in-Session.is c.args.left_to c.args.right_to c.step_sharded-in-Session.result c.step_sharded-in-Session.ensures.kept

pub returns-in-Session-clause-defined : goal.returns-in-Session-clause-defined
returns-in-Session-clause-defined g c =
    variant_defined _ _ _ session_variant c.args.texts.now c.args.left c.args.right c.args.self.now c.in-Session.whole c.step_sharded-in-Session.new.whole c.in-Session.is c.args.left_to c.args.right_to c.step_sharded-in-Session.result c.step_sharded-in-Session.ensures.defined

pub returns-in-Session-clause-overflow : goal.returns-in-Session-clause-overflow
returns-in-Session-clause-overflow g c =
    variant_overflow _ _ _ session_variant c.args.texts.now c.args.left c.args.right c.args.self.now c.in-Session.whole c.step_sharded-in-Session.new.whole c.in-Session.is c.args.left_to c.args.right_to c.step_sharded-in-Session.result c.step_sharded-in-Session.ensures.overflow

pub returns-in-Clip-clause-ready : goal.returns-in-Clip-clause-ready
returns-in-Clip-clause-ready g c =
    variant_ready _ _ _ clip_variant c.args.texts.now c.args.left c.args.right c.args.self.now c.in-Clip.whole c.step_sharded-in-Clip.new.whole c.in-Clip.is c.args.left_to c.args.right_to c.step_sharded-in-Clip.result c.step_sharded-in-Clip.ensures.ready

pub returns-in-Clip-clause-kept : goal.returns-in-Clip-clause-kept
returns-in-Clip-clause-kept g c =
    variant_kept _ _ _ clip_variant c.args.texts.now c.args.left c.args.right c.args.self.now c.in-Clip.whole c.step_sharded-in-Clip.new.whole c.in-Clip.is c.args.left_to c.args.right_to c.step_sharded-in-Clip.result c.step_sharded-in-Clip.ensures.kept

pub returns-in-Clip-clause-defined : goal.returns-in-Clip-clause-defined
returns-in-Clip-clause-defined g c =
    variant_defined _ _ _ clip_variant c.args.texts.now c.args.left c.args.right c.args.self.now c.in-Clip.whole c.step_sharded-in-Clip.new.whole c.in-Clip.is c.args.left_to c.args.right_to c.step_sharded-in-Clip.result c.step_sharded-in-Clip.ensures.defined

pub returns-in-Clip-clause-overflow : goal.returns-in-Clip-clause-overflow
returns-in-Clip-clause-overflow g c =
    variant_overflow _ _ _ clip_variant c.args.texts.now c.args.left c.args.right c.args.self.now c.in-Clip.whole c.step_sharded-in-Clip.new.whole c.in-Clip.is c.args.left_to c.args.right_to c.step_sharded-in-Clip.result c.step_sharded-in-Clip.ensures.overflow

pub returns-in-Coalesce-clause-ready : goal.returns-in-Coalesce-clause-ready
returns-in-Coalesce-clause-ready g c =
    variant_ready _ _ _ coalesce_variant c.args.texts.now c.args.left c.args.right c.args.self.now c.in-Coalesce.operator c.step_operator-in-Coalesce.new.operator c.in-Coalesce.is c.args.left_to c.args.right_to c.step_operator-in-Coalesce.result c.step_operator-in-Coalesce.ensures.ready

pub returns-in-Coalesce-clause-kept : goal.returns-in-Coalesce-clause-kept
returns-in-Coalesce-clause-kept g c =
    variant_kept _ _ _ coalesce_variant c.args.texts.now c.args.left c.args.right c.args.self.now c.in-Coalesce.operator c.step_operator-in-Coalesce.new.operator c.in-Coalesce.is c.args.left_to c.args.right_to c.step_operator-in-Coalesce.result c.step_operator-in-Coalesce.ensures.kept

pub returns-in-Coalesce-clause-defined : goal.returns-in-Coalesce-clause-defined
returns-in-Coalesce-clause-defined g c =
    variant_defined _ _ _ coalesce_variant c.args.texts.now c.args.left c.args.right c.args.self.now c.in-Coalesce.operator c.step_operator-in-Coalesce.new.operator c.in-Coalesce.is c.args.left_to c.args.right_to c.step_operator-in-Coalesce.result c.step_operator-in-Coalesce.ensures.defined

pub returns-in-Coalesce-clause-overflow : goal.returns-in-Coalesce-clause-overflow
returns-in-Coalesce-clause-overflow g c =
    variant_overflow _ _ _ coalesce_variant c.args.texts.now c.args.left c.args.right c.args.self.now c.in-Coalesce.operator c.step_operator-in-Coalesce.new.operator c.in-Coalesce.is c.args.left_to c.args.right_to c.step_operator-in-Coalesce.result c.step_operator-in-Coalesce.ensures.overflow

pub returns-in-Follow-clause-ready : goal.returns-in-Follow-clause-ready
returns-in-Follow-clause-ready g c =
    variant_ready _ _ _ follow_variant c.args.texts.now c.args.left c.args.right c.args.self.now c.in-Follow.operator c.step_operator-in-Follow.new.operator c.in-Follow.is c.args.left_to c.args.right_to c.step_operator-in-Follow.result c.step_operator-in-Follow.ensures.ready

pub returns-in-Follow-clause-kept : goal.returns-in-Follow-clause-kept
returns-in-Follow-clause-kept g c =
    variant_kept _ _ _ follow_variant c.args.texts.now c.args.left c.args.right c.args.self.now c.in-Follow.operator c.step_operator-in-Follow.new.operator c.in-Follow.is c.args.left_to c.args.right_to c.step_operator-in-Follow.result c.step_operator-in-Follow.ensures.kept

pub returns-in-Follow-clause-defined : goal.returns-in-Follow-clause-defined
returns-in-Follow-clause-defined g c =
    variant_defined _ _ _ follow_variant c.args.texts.now c.args.left c.args.right c.args.self.now c.in-Follow.operator c.step_operator-in-Follow.new.operator c.in-Follow.is c.args.left_to c.args.right_to c.step_operator-in-Follow.result c.step_operator-in-Follow.ensures.defined

pub returns-in-Follow-clause-overflow : goal.returns-in-Follow-clause-overflow
returns-in-Follow-clause-overflow g c =
    variant_overflow _ _ _ follow_variant c.args.texts.now c.args.left c.args.right c.args.self.now c.in-Follow.operator c.step_operator-in-Follow.new.operator c.in-Follow.is c.args.left_to c.args.right_to c.step_operator-in-Follow.result c.step_operator-in-Follow.ensures.overflow

pub returns-in-Top-clause-ready : goal.returns-in-Top-clause-ready
returns-in-Top-clause-ready g c =
    variant_ready _ _ _ top_variant c.args.texts.now c.args.left c.args.right c.args.self.now c.in-Top.operator c.step_operator-in-Top.new.operator c.in-Top.is c.args.left_to c.args.right_to c.step_operator-in-Top.result c.step_operator-in-Top.ensures.ready

pub returns-in-Top-clause-kept : goal.returns-in-Top-clause-kept
returns-in-Top-clause-kept g c =
    variant_kept _ _ _ top_variant c.args.texts.now c.args.left c.args.right c.args.self.now c.in-Top.operator c.step_operator-in-Top.new.operator c.in-Top.is c.args.left_to c.args.right_to c.step_operator-in-Top.result c.step_operator-in-Top.ensures.kept

pub returns-in-Top-clause-defined : goal.returns-in-Top-clause-defined
returns-in-Top-clause-defined g c =
    variant_defined _ _ _ top_variant c.args.texts.now c.args.left c.args.right c.args.self.now c.in-Top.operator c.step_operator-in-Top.new.operator c.in-Top.is c.args.left_to c.args.right_to c.step_operator-in-Top.result c.step_operator-in-Top.ensures.defined

pub returns-in-Top-clause-overflow : goal.returns-in-Top-clause-overflow
returns-in-Top-clause-overflow g c =
    variant_overflow _ _ _ top_variant c.args.texts.now c.args.left c.args.right c.args.self.now c.in-Top.operator c.step_operator-in-Top.new.operator c.in-Top.is c.args.left_to c.args.right_to c.step_operator-in-Top.result c.step_operator-in-Top.ensures.overflow

pub returns-in-Life-clause-runs : goal.returns-in-Life-clause-runs
returns-in-Life-clause-runs g c = runs_same c.args.self.now (Life c.step_operator.new.operator) (λ n. ap (λ s. is_variant_of s n) c.in-Life.is) (ap shards_in c.in-Life.is)

pub returns-in-Union-clause-runs : goal.returns-in-Union-clause-runs
returns-in-Union-clause-runs g c = runs_same c.args.self.now (Union c.step_operator-in-Union.new.operator) (λ n. ap (λ s. is_variant_of s n) c.in-Union.is) (ap shards_in c.in-Union.is)

pub returns-in-Extend-clause-runs : goal.returns-in-Extend-clause-runs
returns-in-Extend-clause-runs g c = runs_same c.args.self.now (Extend c.step_operator-in-Extend.new.operator) (λ n. ap (λ s. is_variant_of s n) c.in-Extend.is) (ap shards_in c.in-Extend.is)

pub returns-in-Join-clause-runs : goal.returns-in-Join-clause-runs
returns-in-Join-clause-runs g c = runs_same c.args.self.now (Join c.step_sharded.new.whole) (λ n. ap (λ s. is_variant_of s n) c.in-Join.is) (ap shards_in c.in-Join.is ∙ sym c.step_sharded.ensures.shards)

pub returns-in-Group-clause-runs : goal.returns-in-Group-clause-runs
returns-in-Group-clause-runs g c = runs_same c.args.self.now (Group c.step_sharded-in-Group.new.whole) (λ n. ap (λ s. is_variant_of s n) c.in-Group.is) (ap shards_in c.in-Group.is ∙ sym c.step_sharded-in-Group.ensures.shards)

pub returns-in-Anti-clause-runs : goal.returns-in-Anti-clause-runs
returns-in-Anti-clause-runs g c = runs_same c.args.self.now (Anti c.step_sharded-in-Anti.new.whole) (λ n. ap (λ s. is_variant_of s n) c.in-Anti.is) (ap shards_in c.in-Anti.is ∙ sym c.step_sharded-in-Anti.ensures.shards)

pub returns-in-Session-clause-runs : goal.returns-in-Session-clause-runs
returns-in-Session-clause-runs g c = runs_same c.args.self.now (Session c.step_sharded-in-Session.new.whole) (λ n. ap (λ s. is_variant_of s n) c.in-Session.is) (ap shards_in c.in-Session.is ∙ sym c.step_sharded-in-Session.ensures.shards)

pub returns-in-Clip-clause-runs : goal.returns-in-Clip-clause-runs
returns-in-Clip-clause-runs g c = runs_same c.args.self.now (Clip c.step_sharded-in-Clip.new.whole) (λ n. ap (λ s. is_variant_of s n) c.in-Clip.is) (ap shards_in c.in-Clip.is ∙ sym c.step_sharded-in-Clip.ensures.shards)

pub returns-in-Coalesce-clause-runs : goal.returns-in-Coalesce-clause-runs
returns-in-Coalesce-clause-runs g c = runs_same c.args.self.now (Coalesce c.step_operator-in-Coalesce.new.operator) (λ n. ap (λ s. is_variant_of s n) c.in-Coalesce.is) (ap shards_in c.in-Coalesce.is)

pub returns-in-Follow-clause-runs : goal.returns-in-Follow-clause-runs
returns-in-Follow-clause-runs g c = runs_same c.args.self.now (Follow c.step_operator-in-Follow.new.operator) (λ n. ap (λ s. is_variant_of s n) c.in-Follow.is) (ap shards_in c.in-Follow.is)

pub returns-in-Top-clause-runs : goal.returns-in-Top-clause-runs
returns-in-Top-clause-runs g c = runs_same c.args.self.now (Top c.step_operator-in-Top.new.operator) (λ n. ap (λ s. is_variant_of s n) c.in-Top.is) (ap shards_in c.in-Top.is)

pub returns-in-Rows-clause-runs : goal.returns-in-Rows-clause-runs
returns-in-Rows-clause-runs g c = runs_same c.args.self.now (Rows c.step_rows.new.stage) (λ n. ap (λ s. is_variant_of s n) c.in-Rows.is) (ap shards_in c.in-Rows.is)
