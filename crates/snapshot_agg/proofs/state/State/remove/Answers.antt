use Rattle.std.specs.Prelude.{◌≡◌, pos, refl}
use Rattle.std.proofs.Common.{subst, ◌∙◌, rules}
use Rattle.std.proofs.lemmas.Int.{to_z-of_z}
use Rattle.plan_laws.specs.Keeping.{plain_cells}
use Rattle.plan_model.specs.RowOps.{int_in}
use Rattle.snapshot_agg.specs.declared.state.State.TheVariants.{Counted, Summed, Lowest, Highest}
use Rattle.snapshot_agg.specs.States.{IsStateOf}
use mir.Syntax.{w64}
use mir.Val.{to_z, of_z, SFits}
use Rattle.snapshot_agg.proofs.Kept.{remove_bag, state_less}
use Rattle.snapshot_agg.proofs.state.State.remove.Goals as goal

pub remove-requires : goal.remove-requires
remove-requires c =
    let r = c.requires in
    remove_bag (Counted c.in-Counted.count) r.0 r.1 r.2 c.args.cells.now (pos 0) refl (subst (λ s. IsStateOf s r.0 r.1) c.in-Counted.is r.3) r.4

pub returns-in-Counted : goal.returns-in-Counted
returns-in-Counted c = λ a rows rest h same.
    state_less (Counted c.in-Counted.count) (Counted c.remove.new.self) a rows rest c.args.cells.now (pos 0) refl (λ i. i) c.remove.ensures (subst (λ s. IsStateOf s a rows) c.in-Counted.is h) same

pub remove-requires-in-Summed : goal.remove-requires-in-Summed
remove-requires-in-Summed c =
    let r = c.requires in
    let f : SFits w64 c.int_at.result = search rules in
    let e : to_z w64 (of_z w64 c.int_at.result) ≡ int_in plain_cells c.in-Summed.column c.args.cells.now = to_z-of_z w64 c.int_at.result f ∙ c.int_at.ensures in
    remove_bag (Summed c.in-Summed.column c.in-Summed.sum) r.0 r.1 r.2 c.args.cells.now (to_z w64 (of_z w64 c.int_at.result)) e (subst (λ s. IsStateOf s r.0 r.1) c.in-Summed.is r.3) r.4

pub returns-in-Summed : goal.returns-in-Summed
returns-in-Summed c = λ a rows rest h same.
    let f : SFits w64 c.int_at.result = search rules in
    let e : to_z w64 (of_z w64 c.int_at.result) ≡ int_in plain_cells c.in-Summed.column c.args.cells.now = to_z-of_z w64 c.int_at.result f ∙ c.int_at.ensures in
    state_less (Summed c.in-Summed.column c.in-Summed.sum) (Summed c.in-Summed.column c.remove-in-Summed.new.self) a rows rest c.args.cells.now (to_z w64 (of_z w64 c.int_at.result)) e (λ i. i) c.remove-in-Summed.ensures (subst (λ s. IsStateOf s a rows) c.in-Summed.is h) same

pub remove-requires-in-Lowest : goal.remove-requires-in-Lowest
remove-requires-in-Lowest c =
    let r = c.requires in
    let f : SFits w64 c.int_at-in-Lowest.result = search rules in
    let e : to_z w64 (of_z w64 c.int_at-in-Lowest.result) ≡ int_in plain_cells c.in-Lowest.column c.args.cells.now = to_z-of_z w64 c.int_at-in-Lowest.result f ∙ c.int_at-in-Lowest.ensures in
    remove_bag (Lowest c.in-Lowest.column c.in-Lowest.least) r.0 r.1 r.2 c.args.cells.now (to_z w64 (of_z w64 c.int_at-in-Lowest.result)) e (subst (λ s. IsStateOf s r.0 r.1) c.in-Lowest.is r.3) r.4

pub returns-in-Lowest : goal.returns-in-Lowest
returns-in-Lowest c = λ a rows rest h same.
    let f : SFits w64 c.int_at-in-Lowest.result = search rules in
    let e : to_z w64 (of_z w64 c.int_at-in-Lowest.result) ≡ int_in plain_cells c.in-Lowest.column c.args.cells.now = to_z-of_z w64 c.int_at-in-Lowest.result f ∙ c.int_at-in-Lowest.ensures in
    state_less (Lowest c.in-Lowest.column c.in-Lowest.least) (Lowest c.in-Lowest.column c.remove-in-Lowest.new.self) a rows rest c.args.cells.now (to_z w64 (of_z w64 c.int_at-in-Lowest.result)) e (λ i. i) c.remove-in-Lowest.ensures (subst (λ s. IsStateOf s a rows) c.in-Lowest.is h) same

pub remove-requires-in-Highest : goal.remove-requires-in-Highest
remove-requires-in-Highest c =
    let r = c.requires in
    let f : SFits w64 c.int_at-in-Highest.result = search rules in
    let e : to_z w64 (of_z w64 c.int_at-in-Highest.result) ≡ int_in plain_cells c.in-Highest.column c.args.cells.now = to_z-of_z w64 c.int_at-in-Highest.result f ∙ c.int_at-in-Highest.ensures in
    remove_bag (Highest c.in-Highest.column c.in-Highest.greatest) r.0 r.1 r.2 c.args.cells.now (to_z w64 (of_z w64 c.int_at-in-Highest.result)) e (subst (λ s. IsStateOf s r.0 r.1) c.in-Highest.is r.3) r.4

pub returns-in-Highest : goal.returns-in-Highest
returns-in-Highest c = λ a rows rest h same.
    let f : SFits w64 c.int_at-in-Highest.result = search rules in
    let e : to_z w64 (of_z w64 c.int_at-in-Highest.result) ≡ int_in plain_cells c.in-Highest.column c.args.cells.now = to_z-of_z w64 c.int_at-in-Highest.result f ∙ c.int_at-in-Highest.ensures in
    state_less (Highest c.in-Highest.column c.in-Highest.greatest) (Highest c.in-Highest.column c.remove-in-Highest.new.self) a rows rest c.args.cells.now (to_z w64 (of_z w64 c.int_at-in-Highest.result)) e (λ i. i) c.remove-in-Highest.ensures (subst (λ s. IsStateOf s a rows) c.in-Highest.is h) same
