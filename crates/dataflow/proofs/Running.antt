-- Which stages run a plan: it stays so as stages are added and take their steps.
use Rattle.std.specs.Prelude.{◌≡◌, ℕ, ◌<◌, Some, List, [], ◌∷◌, ◌++◌, length, get_or, slice_get, slice_set}
use Rattle.std.proofs.Common.{sym, ap, subst, ◌∙◌, refl, arith, inl, inr}
use Rattle.std.proofs.lemmas.Bool.{cases_eq, cases_lt}
use Rattle.std.proofs.lemmas.List.{get_or_push, get_or_append_left, get_or-set_same, get_or-set_other, length_push, length-set}
use Rattle.std.proofs.lemmas.Option.{slice_get-get_or, slice_get_within, get_or_from_slice_get}
use Rattle.plan_model.specs.declared.node.Node.{Node}
use Rattle.lifetime_ops.specs.declared.alter_lifetime.AlterLifetime.{AlterLifetime}
use Rattle.lifetime_ops.specs.declared.change.Change.{Change}
use Rattle.lifetime_ops.specs.declared.change.Change.TheVariants.{Delay, Hop, Duration, Mean}
use Rattle.dataflow.specs.declared.stage.Stage.{Stage}
use Rattle.dataflow.specs.declared.stage.Stage.TheVariants.{Life}
use Rattle.dataflow.specs.Stages.{changing}
use Rattle.dataflow.specs.Shards.{is_variant_of, shards_in, RunsNode, RunAll}

-- a stage of the same variant with as many shards runs the same node
pub runs_same : (s t : Stage) → ((n : Node) → is_variant_of s n ≡ is_variant_of t n) → shards_in s ≡ shards_in t →
    (workers : ℕ) (n : Node) → RunsNode workers n s → RunsNode workers n t
runs_same s t variant shards workers n runs = record { variant = sym (variant n) ∙ runs.variant; shards = sym shards ∙ runs.shards }

pub change_runs : (workers of : ℕ) (change : Change) (o : AlterLifetime) → RunsNode workers (changing of change) (Life o)
change_runs workers of (Delay by) o = record { variant = refl; shards = refl }
change_runs workers of (Hop size period) o = record { variant = refl; shards = refl }
change_runs workers of (Duration by) o = record { variant = refl; shards = refl }
change_runs workers of (Mean at) o = record { variant = refl; shards = refl }

module _ (workers : ℕ) (nodes : List Node) where
  pub none_run : RunAll workers nodes []
  none_run j n t there here = absurd (let low = slice_get_within [] j t here in omega (arith, low))

  -- one stage more
  pub one_runs : (stages : List Stage) (i : ℕ) (s : Stage) → length stages ≡ i → ((n : Node) → slice_get nodes i ≡ Some n → RunsNode workers n s) →
      RunAll workers nodes stages → RunAll workers nodes (stages ++ s ∷ [])
  one_runs stages i s count runs all j n t there here =
      let at = get_or_from_slice_get (stages ++ s ∷ []) j t t here in
      let within = slice_get_within (stages ++ s ∷ []) j t here in
      let long = length_push stages s in
      elim (cases_lt j i) [
        | inl before ↦
            all j n t there (slice_get-get_or stages j t (omega (arith, before, count)) ∙ ap Some (sym (get_or_append_left stages (s ∷ []) t j (omega (arith, before, count))) ∙ at))
        | inr after ↦
            let e : i ≡ j = omega (arith, after, within, long, count) in
            subst (RunsNode workers n) (sym (get_or_push stages s t j (count ∙ e)) ∙ at) (runs n (subst (λ k. slice_get nodes k ≡ Some n) (sym e) there))
      ]

  -- a stage took a step
  pub next_runs : (now : List Stage) (i : ℕ) (s new : Stage) → i < length now → s ≡ get_or now i s → ((n : Node) → RunsNode workers n s → RunsNode workers n new) →
      RunAll workers nodes now → RunAll workers nodes (slice_set now i new)
  next_runs now i s new low is goes all j n t there here =
      let at = get_or_from_slice_get (slice_set now i new) j t t here in
      elim (cases_eq j i) [
        | inl same ↦
            let new_is : new ≡ t = sym (get_or-set_same now i new t low) ∙ ap (λ k. get_or (slice_set now i new) k t) (sym same) ∙ at in
            let was : slice_get now i ≡ Some s = slice_get-get_or now i s low ∙ ap Some (sym is) in
            subst (RunsNode workers n) new_is (goes n (all i n s (subst (λ k. slice_get nodes k ≡ Some n) same there) was))
        | inr other ↦
            let long = length-set now i new in
            let within = slice_get_within (slice_set now i new) j t here in
            all j n t there (slice_get-get_or now j t (omega (arith, within, long)) ∙ ap Some (sym (get_or-set_other now i j new t other) ∙ at))
      ]
