use Rattle.std.specs.Prelude.{Some, map, get_or, length, []}
use Rattle.std.proofs.Common.{sym, ap, subst, ◌∙◌, arith, refl}
use Rattle.std.proofs.lemmas.Option.{slice_get-get_or}
use Rattle.tw_rows.specs.Kinds.{cell_kind_of}
use Rattle.plan_model.specs.declared.node.Node.TheVariants.{Source, Top as TopNode}
use Rattle.outer_top.proofs.Resuming.{top_opens}
use Rattle.sweep_sides.proofs.Kept.{kept_first}
use Rattle.dataflow.specs.declared.stage.Stage.TheVariants.{Top}
use Rattle.dataflow.specs.Shards.{RunsNode}
use Rattle.dataflow.specs.Stages.{left_kinds, StartsFor}
use Rattle.dataflow.proofs.MadeShards.{alone_starts}
use Rattle.dataflow.proofs.Starting.{new_can, top_shows}
use Rattle.dataflow.proofs.Variants.{top_variant}
use Rattle.dataflow.proofs.making.StageMaker.top_stage.Goals as goal

pub new_top-requires-clause-some : goal.new_top-requires-clause-some
new_top-requires-clause-some c =
    let plan = c.args.self.now.plan.now in
    let n = get_or plan.nodes c.args.self.now.node (Source 0) in
    let there = slice_get-get_or plan.nodes c.args.self.now.node (Source 0) c.args.self.now.inside in
    let is = c.requires.is n there in
    top_shows plan c.nodes.ensures.kept c.args.self.now.node is.0 c.args.key.now c.args.by c.args.most (there ∙ ap Some is.1)

pub new_top-requires-clause-width : goal.new_top-requires-clause-width
new_top-requires-clause-width c = let same = ap length c.deref.ensures.value in let width = c.in_ok-kinds.ensures.width in omega (arith, same, width)

pub returns-clause-starts : goal.returns-clause-starts
returns-clause-starts c = λ texts n there.
    let plan = c.args.self.now.plan.now in
    let is = c.requires.is n there in
    let o = c.in_ok-operator.operator in
    let made = c.in_ok-operator.ensures in
    let l = c.deref.result.now in
    let key = c.args.key.now in
    let read = ap (map cell_kind_of) c.deref.ensures.value ∙ c.in_ok-kinds.ensures.kinds n there ∙ ap (left_kinds plan) is.1 in
    subst (λ m. StartsFor texts c.args.self.now.capacity plan m (Top o)) (sym is.1)
    (alone_starts Top _ _ top_variant plan c.args.self.now.capacity texts (TopNode is.0 key c.args.by c.args.most) o _ made.stands
    (new_can plan c.args.self.now.capacity (TopNode is.0 key c.args.by c.args.most) (TopNode 0 key c.args.by c.args.most) l [] l (record { events = λ a b. refl; closes = λ x y. refl; undefined = λ rows. refl; held = λ x y hl hr. refl }) refl read refl read)
    (kept_first o texts made.opening (top_opens o.sweep made.opening.0)) made.opening)

pub returns-clause-runs : goal.returns-clause-runs
returns-clause-runs c = λ n there.
    let is = c.requires.is n there in
    subst (λ m. RunsNode c.args.self.now.workers m (Top c.in_ok-operator.operator)) (sym is.1) (record { variant = refl; shards = refl })
