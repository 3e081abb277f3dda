use Rattle.std.proofs.Common.{refl, arith}
use Rattle.dataflow.specs.declared.stage.Stage.{Stage}
use Rattle.dataflow.specs.declared.stage.Stage.TheVariants.{Rows, Life, Union, Extend, Join, Group, Anti, Session, Clip, Coalesce, Follow, Top}
use Rattle.dataflow.specs.Stages.{entries_in, KeepsAtMost}
use Rattle.dataflow.proofs.Variants.{variant_held, life_variant, union_variant, extend_variant, join_variant, group_variant, anti_variant, session_variant, clip_variant, coalesce_variant, follow_variant, top_variant}
use Rattle.dataflow.proofs.laws.stages_keep_at_most.Goals as goal

pub returns : goal.returns
returns c = go
  where
    go : (s : Stage) → KeepsAtMost (entries_in s) s
    go (Rows s) = λ texts capacity left right n x y hl hr out ready kept. omega arith
    go (Life o) = variant_held _ _ _ life_variant (Life o) o refl (entries_in (Life o)) (λ texts hl hr out k. c.laws.ensures.bounded o texts hl hr out k)
    go (Union o) = variant_held _ _ _ union_variant (Union o) o refl (entries_in (Union o)) (λ texts hl hr out k. c.laws-2.ensures.bounded o texts hl hr out k)
    go (Extend o) = variant_held _ _ _ extend_variant (Extend o) o refl (entries_in (Extend o)) (λ texts hl hr out k. c.laws-3.ensures.bounded o texts hl hr out k)
    go (Join o) = variant_held _ _ _ join_variant (Join o) o refl (entries_in (Join o)) (λ texts hl hr out k. c.laws-4.ensures.bounded o texts hl hr out k)
    go (Group o) = variant_held _ _ _ group_variant (Group o) o refl (entries_in (Group o)) (λ texts hl hr out k. c.laws-5.ensures.bounded o texts hl hr out k)
    go (Session o) = variant_held _ _ _ session_variant (Session o) o refl (entries_in (Session o)) (λ texts hl hr out k. c.laws-6.ensures.bounded o texts hl hr out k)
    go (Anti o) = variant_held _ _ _ anti_variant (Anti o) o refl (entries_in (Anti o)) (λ texts hl hr out k. c.laws-7.ensures.bounded o texts hl hr out k)
    go (Clip o) = variant_held _ _ _ clip_variant (Clip o) o refl (entries_in (Clip o)) (λ texts hl hr out k. c.laws-8.ensures.bounded o texts hl hr out k)
    go (Coalesce o) = variant_held _ _ _ coalesce_variant (Coalesce o) o refl (entries_in (Coalesce o)) (λ texts hl hr out k. c.laws-9.ensures.bounded o texts hl hr out k)
    go (Follow o) = variant_held _ _ _ follow_variant (Follow o) o refl (entries_in (Follow o)) (λ texts hl hr out k. c.laws-10.ensures.bounded o texts hl hr out k)
    go (Top o) = variant_held _ _ _ top_variant (Top o) o refl (entries_in (Top o)) (λ texts hl hr out k. c.laws-11.ensures.bounded o texts hl hr out k)
