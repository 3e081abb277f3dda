-- Answers to the goals of stage::Stage::load.
use Rattle.std.proofs.Common.{refl, sym, subst}
use Rattle.dataflow.specs.declared.stage.Stage.TheVariants.{Life, Union, Extend, Coalesce, Follow, Top, Join, Group, Anti, Clip, Session}
use Rattle.dataflow.specs.Stages.{StandsAsMade}
use Rattle.dataflow.proofs.SavedStages.{variant_loads, variant_refused, sharded_loads, sharded_refused, rows_loaded, rows_refused, runs_on}
use Rattle.dataflow.proofs.Variants.{life_variant, union_variant, extend_variant, coalesce_variant, follow_variant, top_variant, join_variant, group_variant, anti_variant, clip_variant, session_variant}
use Rattle.dataflow.proofs.SavedVariants.{life_saving, union_saving, extend_saving, coalesce_saving, follow_saving, top_saving, join_saving, group_saving, anti_saving, clip_saving, session_saving}
use Rattle.dataflow.proofs.stage.Stage.load.Goals as goal

pub returns-in-Rows-clause-loads : goal.returns-in-Rows-clause-loads
returns-in-Rows-clause-loads c = rows_loaded c.args.self.now _ c.in-Rows.is c.args.saved.now c.args.left_to c.args.right_to c.load_nothing.result c.load_nothing.ensures.none

pub returns-in-Rows-clause-refused : goal.returns-in-Rows-clause-refused
returns-in-Rows-clause-refused c = rows_refused c.args.self.now _ c.in-Rows.is c.args.saved.now c.args.left_to c.args.right_to c.load_nothing.result c.load_nothing.ensures.some

pub load_whole-requires-clause-opening : goal.load_whole-requires-clause-opening
load_whole-requires-clause-opening c κs = subst StandsAsMade c.in-Life.is c.requires

pub returns-in-Life-clause-loads : goal.returns-in-Life-clause-loads
returns-in-Life-clause-loads c = variant_loads _ _ _ life_variant _ _ _ life_saving c.args.self.now c.in-Life.operator c.in-Life.is c.load_whole.new.operator c.args.saved.now c.args.left_to c.args.right_to c.load_whole.result c.load_whole.ensures.loads

pub returns-in-Life-clause-refused : goal.returns-in-Life-clause-refused
returns-in-Life-clause-refused c = variant_refused _ _ _ life_variant _ _ _ life_saving c.args.self.now c.in-Life.operator c.in-Life.is c.load_whole.new.operator c.args.saved.now c.args.left_to c.args.right_to c.load_whole.result c.load_whole.ensures.refused

pub returns-in-Life-clause-runs : goal.returns-in-Life-clause-runs
returns-in-Life-clause-runs c = runs_on c.args.self.now (Life c.in-Life.operator) (Life c.load_whole.new.operator) c.in-Life.is (λ n. refl) refl

pub load_whole-requires-in-Union-clause-opening : goal.load_whole-requires-in-Union-clause-opening
load_whole-requires-in-Union-clause-opening c κs = subst StandsAsMade c.in-Union.is c.requires

pub returns-in-Union-clause-loads : goal.returns-in-Union-clause-loads
returns-in-Union-clause-loads c = variant_loads _ _ _ union_variant _ _ _ union_saving c.args.self.now c.in-Union.operator c.in-Union.is c.load_whole-in-Union.new.operator c.args.saved.now c.args.left_to c.args.right_to c.load_whole-in-Union.result c.load_whole-in-Union.ensures.loads

pub returns-in-Union-clause-refused : goal.returns-in-Union-clause-refused
returns-in-Union-clause-refused c = variant_refused _ _ _ union_variant _ _ _ union_saving c.args.self.now c.in-Union.operator c.in-Union.is c.load_whole-in-Union.new.operator c.args.saved.now c.args.left_to c.args.right_to c.load_whole-in-Union.result c.load_whole-in-Union.ensures.refused

pub returns-in-Union-clause-runs : goal.returns-in-Union-clause-runs
returns-in-Union-clause-runs c = runs_on c.args.self.now (Union c.in-Union.operator) (Union c.load_whole-in-Union.new.operator) c.in-Union.is (λ n. refl) refl

pub load_whole-requires-in-Extend-clause-opening : goal.load_whole-requires-in-Extend-clause-opening
load_whole-requires-in-Extend-clause-opening c κs = subst StandsAsMade c.in-Extend.is c.requires

pub returns-in-Extend-clause-loads : goal.returns-in-Extend-clause-loads
returns-in-Extend-clause-loads c = variant_loads _ _ _ extend_variant _ _ _ extend_saving c.args.self.now c.in-Extend.operator c.in-Extend.is c.load_whole-in-Extend.new.operator c.args.saved.now c.args.left_to c.args.right_to c.load_whole-in-Extend.result c.load_whole-in-Extend.ensures.loads

pub returns-in-Extend-clause-refused : goal.returns-in-Extend-clause-refused
returns-in-Extend-clause-refused c = variant_refused _ _ _ extend_variant _ _ _ extend_saving c.args.self.now c.in-Extend.operator c.in-Extend.is c.load_whole-in-Extend.new.operator c.args.saved.now c.args.left_to c.args.right_to c.load_whole-in-Extend.result c.load_whole-in-Extend.ensures.refused

pub returns-in-Extend-clause-runs : goal.returns-in-Extend-clause-runs
returns-in-Extend-clause-runs c = runs_on c.args.self.now (Extend c.in-Extend.operator) (Extend c.load_whole-in-Extend.new.operator) c.in-Extend.is (λ n. refl) refl

pub load_whole-requires-in-Coalesce-clause-opening : goal.load_whole-requires-in-Coalesce-clause-opening
load_whole-requires-in-Coalesce-clause-opening c κs = subst StandsAsMade c.in-Coalesce.is c.requires

pub returns-in-Coalesce-clause-loads : goal.returns-in-Coalesce-clause-loads
returns-in-Coalesce-clause-loads c = variant_loads _ _ _ coalesce_variant _ _ _ coalesce_saving c.args.self.now c.in-Coalesce.operator c.in-Coalesce.is c.load_whole-in-Coalesce.new.operator c.args.saved.now c.args.left_to c.args.right_to c.load_whole-in-Coalesce.result c.load_whole-in-Coalesce.ensures.loads

pub returns-in-Coalesce-clause-refused : goal.returns-in-Coalesce-clause-refused
returns-in-Coalesce-clause-refused c = variant_refused _ _ _ coalesce_variant _ _ _ coalesce_saving c.args.self.now c.in-Coalesce.operator c.in-Coalesce.is c.load_whole-in-Coalesce.new.operator c.args.saved.now c.args.left_to c.args.right_to c.load_whole-in-Coalesce.result c.load_whole-in-Coalesce.ensures.refused

pub returns-in-Coalesce-clause-runs : goal.returns-in-Coalesce-clause-runs
returns-in-Coalesce-clause-runs c = runs_on c.args.self.now (Coalesce c.in-Coalesce.operator) (Coalesce c.load_whole-in-Coalesce.new.operator) c.in-Coalesce.is (λ n. refl) refl

pub load_whole-requires-in-Follow-clause-opening : goal.load_whole-requires-in-Follow-clause-opening
load_whole-requires-in-Follow-clause-opening c κs = subst StandsAsMade c.in-Follow.is c.requires

pub returns-in-Follow-clause-loads : goal.returns-in-Follow-clause-loads
returns-in-Follow-clause-loads c = variant_loads _ _ _ follow_variant _ _ _ follow_saving c.args.self.now c.in-Follow.operator c.in-Follow.is c.load_whole-in-Follow.new.operator c.args.saved.now c.args.left_to c.args.right_to c.load_whole-in-Follow.result c.load_whole-in-Follow.ensures.loads

pub returns-in-Follow-clause-refused : goal.returns-in-Follow-clause-refused
returns-in-Follow-clause-refused c = variant_refused _ _ _ follow_variant _ _ _ follow_saving c.args.self.now c.in-Follow.operator c.in-Follow.is c.load_whole-in-Follow.new.operator c.args.saved.now c.args.left_to c.args.right_to c.load_whole-in-Follow.result c.load_whole-in-Follow.ensures.refused

pub returns-in-Follow-clause-runs : goal.returns-in-Follow-clause-runs
returns-in-Follow-clause-runs c = runs_on c.args.self.now (Follow c.in-Follow.operator) (Follow c.load_whole-in-Follow.new.operator) c.in-Follow.is (λ n. refl) refl

pub load_whole-requires-in-Top-clause-opening : goal.load_whole-requires-in-Top-clause-opening
load_whole-requires-in-Top-clause-opening c κs = subst StandsAsMade c.in-Top.is c.requires

pub returns-in-Top-clause-loads : goal.returns-in-Top-clause-loads
returns-in-Top-clause-loads c = variant_loads _ _ _ top_variant _ _ _ top_saving c.args.self.now c.in-Top.operator c.in-Top.is c.load_whole-in-Top.new.operator c.args.saved.now c.args.left_to c.args.right_to c.load_whole-in-Top.result c.load_whole-in-Top.ensures.loads

pub returns-in-Top-clause-refused : goal.returns-in-Top-clause-refused
returns-in-Top-clause-refused c = variant_refused _ _ _ top_variant _ _ _ top_saving c.args.self.now c.in-Top.operator c.in-Top.is c.load_whole-in-Top.new.operator c.args.saved.now c.args.left_to c.args.right_to c.load_whole-in-Top.result c.load_whole-in-Top.ensures.refused

pub returns-in-Top-clause-runs : goal.returns-in-Top-clause-runs
returns-in-Top-clause-runs c = runs_on c.args.self.now (Top c.in-Top.operator) (Top c.load_whole-in-Top.new.operator) c.in-Top.is (λ n. refl) refl

pub load_shards-requires-clause-opening : goal.load_shards-requires-clause-opening
load_shards-requires-clause-opening c κs = subst StandsAsMade c.in-Join.is c.requires

pub returns-in-Join-clause-loads : goal.returns-in-Join-clause-loads
returns-in-Join-clause-loads c = sharded_loads _ _ _ join_variant _ _ _ join_saving c.args.self.now c.in-Join.whole c.in-Join.is c.load_shards.new.whole c.args.saved.now c.args.left_to c.args.right_to c.load_shards.result c.load_shards.ensures.loads

pub returns-in-Join-clause-refused : goal.returns-in-Join-clause-refused
returns-in-Join-clause-refused c = sharded_refused _ _ _ join_variant _ _ _ join_saving c.args.self.now c.in-Join.whole c.in-Join.is c.load_shards.new.whole c.args.saved.now c.args.left_to c.args.right_to c.load_shards.result c.load_shards.ensures.refused

pub returns-in-Join-clause-runs : goal.returns-in-Join-clause-runs
returns-in-Join-clause-runs c = runs_on c.args.self.now (Join c.in-Join.whole) (Join c.load_shards.new.whole) c.in-Join.is (λ n. refl) (sym c.load_shards.ensures.shards)

pub load_shards-requires-in-Group-clause-opening : goal.load_shards-requires-in-Group-clause-opening
load_shards-requires-in-Group-clause-opening c κs = subst StandsAsMade c.in-Group.is c.requires

pub returns-in-Group-clause-loads : goal.returns-in-Group-clause-loads
returns-in-Group-clause-loads c = sharded_loads _ _ _ group_variant _ _ _ group_saving c.args.self.now c.in-Group.whole c.in-Group.is c.load_shards-in-Group.new.whole c.args.saved.now c.args.left_to c.args.right_to c.load_shards-in-Group.result c.load_shards-in-Group.ensures.loads

pub returns-in-Group-clause-refused : goal.returns-in-Group-clause-refused
returns-in-Group-clause-refused c = sharded_refused _ _ _ group_variant _ _ _ group_saving c.args.self.now c.in-Group.whole c.in-Group.is c.load_shards-in-Group.new.whole c.args.saved.now c.args.left_to c.args.right_to c.load_shards-in-Group.result c.load_shards-in-Group.ensures.refused

pub returns-in-Group-clause-runs : goal.returns-in-Group-clause-runs
returns-in-Group-clause-runs c = runs_on c.args.self.now (Group c.in-Group.whole) (Group c.load_shards-in-Group.new.whole) c.in-Group.is (λ n. refl) (sym c.load_shards-in-Group.ensures.shards)

pub load_shards-requires-in-Anti-clause-opening : goal.load_shards-requires-in-Anti-clause-opening
load_shards-requires-in-Anti-clause-opening c κs = subst StandsAsMade c.in-Anti.is c.requires

pub returns-in-Anti-clause-loads : goal.returns-in-Anti-clause-loads
returns-in-Anti-clause-loads c = sharded_loads _ _ _ anti_variant _ _ _ anti_saving c.args.self.now c.in-Anti.whole c.in-Anti.is c.load_shards-in-Anti.new.whole c.args.saved.now c.args.left_to c.args.right_to c.load_shards-in-Anti.result c.load_shards-in-Anti.ensures.loads

pub returns-in-Anti-clause-refused : goal.returns-in-Anti-clause-refused
returns-in-Anti-clause-refused c = sharded_refused _ _ _ anti_variant _ _ _ anti_saving c.args.self.now c.in-Anti.whole c.in-Anti.is c.load_shards-in-Anti.new.whole c.args.saved.now c.args.left_to c.args.right_to c.load_shards-in-Anti.result c.load_shards-in-Anti.ensures.refused

pub returns-in-Anti-clause-runs : goal.returns-in-Anti-clause-runs
returns-in-Anti-clause-runs c = runs_on c.args.self.now (Anti c.in-Anti.whole) (Anti c.load_shards-in-Anti.new.whole) c.in-Anti.is (λ n. refl) (sym c.load_shards-in-Anti.ensures.shards)

pub load_shards-requires-in-Clip-clause-opening : goal.load_shards-requires-in-Clip-clause-opening
load_shards-requires-in-Clip-clause-opening c κs = subst StandsAsMade c.in-Clip.is c.requires

pub returns-in-Clip-clause-loads : goal.returns-in-Clip-clause-loads
returns-in-Clip-clause-loads c = sharded_loads _ _ _ clip_variant _ _ _ clip_saving c.args.self.now c.in-Clip.whole c.in-Clip.is c.load_shards-in-Clip.new.whole c.args.saved.now c.args.left_to c.args.right_to c.load_shards-in-Clip.result c.load_shards-in-Clip.ensures.loads

pub returns-in-Clip-clause-refused : goal.returns-in-Clip-clause-refused
returns-in-Clip-clause-refused c = sharded_refused _ _ _ clip_variant _ _ _ clip_saving c.args.self.now c.in-Clip.whole c.in-Clip.is c.load_shards-in-Clip.new.whole c.args.saved.now c.args.left_to c.args.right_to c.load_shards-in-Clip.result c.load_shards-in-Clip.ensures.refused

pub returns-in-Clip-clause-runs : goal.returns-in-Clip-clause-runs
returns-in-Clip-clause-runs c = runs_on c.args.self.now (Clip c.in-Clip.whole) (Clip c.load_shards-in-Clip.new.whole) c.in-Clip.is (λ n. refl) (sym c.load_shards-in-Clip.ensures.shards)

pub load_shards-requires-in-Session-clause-opening : goal.load_shards-requires-in-Session-clause-opening
load_shards-requires-in-Session-clause-opening c κs = subst StandsAsMade c.in-Session.is c.requires

pub returns-in-Session-clause-loads : goal.returns-in-Session-clause-loads
returns-in-Session-clause-loads c = sharded_loads _ _ _ session_variant _ _ _ session_saving c.args.self.now c.in-Session.whole c.in-Session.is c.load_shards-in-Session.new.whole c.args.saved.now c.args.left_to c.args.right_to c.load_shards-in-Session.result c.load_shards-in-Session.ensures.loads

pub returns-in-Session-clause-refused : goal.returns-in-Session-clause-refused
returns-in-Session-clause-refused c = sharded_refused _ _ _ session_variant _ _ _ session_saving c.args.self.now c.in-Session.whole c.in-Session.is c.load_shards-in-Session.new.whole c.args.saved.now c.args.left_to c.args.right_to c.load_shards-in-Session.result c.load_shards-in-Session.ensures.refused

pub returns-in-Session-clause-runs : goal.returns-in-Session-clause-runs
returns-in-Session-clause-runs c = runs_on c.args.self.now (Session c.in-Session.whole) (Session c.load_shards-in-Session.new.whole) c.in-Session.is (λ n. refl) (sym c.load_shards-in-Session.ensures.shards)
