use Rattle.std.proofs.Common.{◌≡◌, ◌∙◌, map, ap, sym, subst, refl, true, false}
use Rattle.tw_rows.specs.Kinds.{cell_kind_of}
use Rattle.batch.proofs.PoolLaws.{NoMore-all}
use Rattle.lane_expr.specs.Kernels.{result_kind}
use Rattle.where_select.specs.Projects.{exprs_of, AreColumns, AreProjected, Lacks}
use Rattle.where_select.proofs.Lacking.{stored-as}
use Rattle.where_select.proofs.Projected.{columns_whole, rows_projected}
use Rattle.where_select.proofs.project.Project.apply.Goals as goal

-- what the test says of the pools, in terms of the items
pub returns-then-lacks-clause-lacking : goal.returns-then-lacks-clause-lacking
returns-then-lacks-clause-lacking c =
    let kinds = ap (map cell_kind_of) (c.deref.ensures.value ∙ c.self.invariant.1) ∙ stored-as c.self.inside.items.items ∙ ap (map result_kind) c.self.view_is in
    (λ _. subst (Lacks c.args.pools.now) kinds (c.lacks.ensures.0 c.if-lacks.true), λ _. refl)

pub item_columns-columns-requires-clause-free : goal.item_columns-columns-requires-clause-free
item_columns-columns-requires-clause-free c lack =
    let kinds = ap (map cell_kind_of) (c.deref.ensures.value ∙ c.self.invariant.1) ∙ stored-as c.self.inside.items.items in
    let h = c.lacks.ensures.1 (subst (Lacks c.args.pools.now) (ap (map result_kind) c.as_mut_slice.ensures.value ∙ sym kinds) lack) in
    let no : true ≡ false = sym h ∙ c.if-lacks.false in
    cc

pub exchange-batch-requires : goal.exchange-batch-requires
exchange-batch-requires c = columns_whole c.args.texts.now c.args.batch (exprs_of c.args.texts.now c.as_mut_slice.result.now) c.item_columns-columns.result.items c.item_columns-columns.ensures.columns

pub give_columns-requires : goal.give_columns-requires
give_columns-requires c =
    let pools = ap (λ s. s.capacity) c.item_columns-columns.ensures.taken ∙ (NoMore-all c.args.pools.now (map result_kind c.as_mut_slice.result.now)).capacity ∙ c.requires.pools in
    λ k d lt. (c.exchange-batch.ensures.whole k d lt).room ∙ sym pools

pub returns-clause-lacking : goal.returns-clause-lacking
returns-clause-lacking c =
    let kinds = ap (map cell_kind_of) (c.deref.ensures.value ∙ c.self.invariant.1) ∙ stored-as c.self.inside.items.items ∙ ap (map result_kind) c.self.view_is in
    (λ e. absurd (false_true e), λ lack. sym c.if-lacks.false ∙ c.lacks.ensures.1 (subst (Lacks c.args.pools.now) (sym kinds) lack))
  where
    false_true : false ≡ true → ⊥
    false_true e = cc

pub returns-clause-rows : goal.returns-clause-rows
returns-clause-rows c =
    let texts = c.args.texts.now in
    let items : c.as_mut_slice.result.now ≡ c.args.self.now = c.as_mut_slice.ensures.value ∙ c.self.view_is in
    let columns = subst (λ ks. AreColumns texts c.args.batch (exprs_of texts ks) c.item_columns-columns.result.items) items c.item_columns-columns.ensures.columns in
    subst (λ b. AreProjected texts (exprs_of texts c.args.self.now) c.args.batch.rows b.rows) (sym c.exchange-batch.ensures.batch)
    (rows_projected texts c.args.batch (exprs_of texts c.args.self.now) c.item_columns-columns.result.items columns)
