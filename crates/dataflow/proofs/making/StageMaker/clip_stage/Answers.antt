use Rattle.std.specs.Prelude.{Some, map, get_or, length, All}
use Rattle.std.proofs.Common.{◌≡◌, refl, sym, ap, subst, ◌∙◌, arith, rules}
use Rattle.std.proofs.lemmas.Option.{slice_get-get_or}
use Rattle.tw_rows.specs.Kinds.{cell_kind_of}
use Rattle.plan_model.specs.IsPlan.{IsKey}
use Rattle.plan_model.specs.declared.node.Node.TheVariants.{Source, Clip as ClipNode}
use Rattle.sweep_sides.specs.Sweepers.{new_standing}
use Rattle.union_clip.proofs.Resuming.{clip_opens}
use Rattle.sweep_sides.specs.Operating.{standing as swept_standing, IsNew as IsSweptNew, IsKept as IsSweptKept}
use Rattle.sweep_sides.proofs.Kept.{kept_first}
use Rattle.dataflow.specs.declared.stage.Stage.TheVariants.{Clip}
use Rattle.dataflow.specs.Shards.{RunsNode}
use Rattle.dataflow.specs.Stages.{left_kinds, StartsFor}
use Rattle.dataflow.proofs.MadeShards.{sharded_starts}
use Rattle.dataflow.proofs.Starting.{new_can, clip_right}
use Rattle.dataflow.proofs.Variants.{clip_variant}
use Rattle.dataflow.proofs.making.StageMaker.clip_stage.Goals as goal

pub kinds_told-requires : goal.kinds_told-requires
kinds_told-requires c =
    let plan = c.args.self.now.plan.now in
    let n = get_or plan.nodes c.args.self.now.node (Source 0) in
    let there = slice_get-get_or plan.nodes c.args.self.now.node (Source 0) c.args.self.now.inside in
    let is = c.requires.is n there in
    clip_right plan c.nodes.ensures.kept c.args.self.now.node is.0 c.args.right c.args.left_key.now c.args.right_key.now (there ∙ ap Some is.1)

pub shards-requires-clause-makes : goal.shards-requires-clause-makes
shards-requires-clause-makes c κs _ =
    let plan = c.args.self.now.plan.now in
    let n = get_or plan.nodes c.args.self.now.node (Source 0) in
    let there = slice_get-get_or plan.nodes c.args.self.now.node (Source 0) c.args.self.now.inside in
    let is = c.requires.is n there in
    let l = c.args.left_key.now in
    let r = c.args.right_key.now in
    let read = ap (map cell_kind_of) c.as_slice-read.ensures.value ∙ c.in_ok-left_kinds.ensures.kinds n there ∙ ap (left_kinds plan) is.1 in
    let told = ap (map cell_kind_of) c.as_slice-told.ensures.value ∙ c.in_ok-right_kinds.ensures.kinds in
    let keys = (c.nodes.ensures.kept.nodes_are.each c.args.self.now.node (ClipNode is.0 c.args.right l r) (there ∙ ap Some is.1)).sound in
    record {
      stand = new_standing (ClipNode 0 1 l r) c.as_slice-read.result.now c.as_slice-told.result.now c.as_slice-read.result.now c.args.self.now.capacity;
      stands = λ o made. search rules;
      new = λ o made. search rules;
      works = refl;
      keyed = refl;
      left_key_is = refl;
      right_key_is = refl;
      left_columns = subst (λ ks. IsKey ks l) (sym read) keys.on_left;
      right_columns = subst (λ ks. IsKey ks r) (sym told) keys.on_right;
      batch_rows = refl;
    }

pub returns-clause-starts : goal.returns-clause-starts
returns-clause-starts c = λ texts n there.
    let plan = c.args.self.now.plan.now in
    let is = c.requires.is n there in
    let l = c.args.left_key.now in
    let r = c.args.right_key.now in
    let read = ap (map cell_kind_of) c.as_slice-read.ensures.value ∙ c.in_ok-left_kinds.ensures.kinds n there ∙ ap (left_kinds plan) is.1 in
    let told = ap (map cell_kind_of) c.as_slice-told.ensures.value ∙ c.in_ok-right_kinds.ensures.kinds in
    let w = c.in_ok-whole.whole in
    let stands : All (λ o. swept_standing o ≡ new_standing (ClipNode 0 1 l r) c.as_slice-read.result.now c.as_slice-told.result.now c.as_slice-read.result.now c.args.self.now.capacity) w.operators = λ k d low. (let each = c.in_ok-whole.ensures.each k d low in search rules) in
    subst (λ m. StartsFor texts c.args.self.now.capacity plan m (Clip w)) (sym is.1)
    (sharded_starts Clip swept_standing IsSweptNew IsSweptKept clip_variant (λ w new. new) (λ o texts new. kept_first o texts new (clip_opens o.sweep new.0))
    plan c.args.self.now.capacity texts (ClipNode is.0 c.args.right l r) _ (new_can plan c.args.self.now.capacity (ClipNode is.0 c.args.right l r) (ClipNode 0 1 l r) c.as_slice-read.result.now c.as_slice-told.result.now c.as_slice-read.result.now (record { events = λ a b. refl; closes = λ x y. refl; undefined = λ rows. refl; held = λ x y hl hr. refl }) refl read told read)
    w stands c.in_ok-whole.ensures.opening)

pub returns-clause-runs : goal.returns-clause-runs
returns-clause-runs c = λ n there.
    let is = c.requires.is n there in
    subst (λ m. RunsNode c.args.self.now.workers m (Clip c.in_ok-whole.whole)) (sym is.1)
    (record { variant = refl; shards = c.in_ok-whole.ensures.count })
