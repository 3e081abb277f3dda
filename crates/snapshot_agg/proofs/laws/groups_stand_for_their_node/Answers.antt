use Rattle.std.specs.Prelude.{◌≡◌, ℕ, zero, suc, Bool, false, cond, Option, Some, None, [], refl}
use Rattle.std.proofs.Common.{◌∙◌, ap, arith}
use Rattle.std.proofs.lemmas.List.Elements.{All-nil}
use Rattle.tw_rows.specs.Cells.{ArePlaced}
use Rattle.tw_rows.specs.declared.edge.Edge.{Edge}
use Rattle.plan_laws.specs.Undefined.{first_below, or_next}
use Rattle.plan_model.specs.declared.node.Node.TheVariants.{Group}
use Rattle.plan_laws.proofs.Standing.{undefined_of_edges}
use Rattle.plan_laws.proofs.Steps.{keeps_read}
use Rattle.snapshot_agg.proofs.laws.groups_stand_for_their_node.Goals as goal

first_same : (p q : ℕ → Bool) (c : ℕ) → ((t : ℕ) → p t ≡ q t) → first_below p c ≡ first_below q c
first_same p q zero h = refl
first_same p q (suc n) h = ap (or_next p n) (first_same p q n h) ∙ next (first_below q n)
  where
    next : (o : Option ℕ) → or_next p n o ≡ or_next q n o
    next (Some t) = refl
    next None = ap (λ b. cond b (Some n) None) (h n)

pub returns-clause-stands : goal.returns-clause-stands
returns-clause-stands c = λ child key aggs texts rows run waiting came out to low distinct placed k.
    keeps_read (λ test row. false) (λ items row. row) (Group child key aggs) texts to 0 came [] out refl distinct low (omega arith) (record {
      left_history = k.history;
      right_history = record { order = tt; real = refl; paired = λ cells start. omega arith };
      left_placed = placed;
      right_placed = All-nil (λ (e : Edge). ArePlaced texts e.cells);
      told = k.told;
    })

pub returns-clause-undefined : goal.returns-clause-undefined
returns-clause-undefined c = λ child key aggs texts came to distinct placed.
    first_same _ _ to (λ t. undefined_of_edges (λ test row. false) (λ items row. row) texts distinct key aggs came t placed)
