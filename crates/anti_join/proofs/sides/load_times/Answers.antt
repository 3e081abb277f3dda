use Rattle.std.specs.Prelude.{IfOk, IfErr, OnOk}
use Rattle.std.proofs.Common.{◌≡◌, ◌∙◌, subst, List}
use Rattle.tw_rows.specs.Bag.{SameBag}
use Rattle.tw_rows.specs.declared.edge.Edge.{Edge}
use Rattle.edge_stream.specs.declared.saved.LoadFault.TheVariants.{NotState}
use Rattle.sweep_laws.specs.Saving.{rows_of}
use Rattle.anti_join.specs.Times.{HaveOneTime}
use Rattle.anti_join.proofs.sides.load_times.Goals as goal

pub returns-clause-rows : goal.returns-clause-rows
returns-clause-rows c =
    subst (λ (l : List Edge). IfOk c.of_starts.result (λ f. SameBag f.rows (rows_of l))) (c.deref.ensures.value ∙ c.in_ok-edges.ensures) c.of_starts.ensures.rows

pub returns-clause-single : goal.returns-clause-single
returns-clause-single c = subst (λ (l : List Edge). OnOk c.of_starts.result (HaveOneTime c.args.key.now l)) (c.deref.ensures.value ∙ c.in_ok-edges.ensures) c.of_starts.ensures.single

pub returns-clause-refused : goal.returns-clause-refused
returns-clause-refused c =
    subst (λ (l : List Edge). IfErr c.of_starts.result (λ fault. fault ≡ NotState → HaveOneTime c.args.key.now l → ⊥)) (c.deref.ensures.value ∙ c.in_ok-edges.ensures) c.of_starts.ensures.refused
