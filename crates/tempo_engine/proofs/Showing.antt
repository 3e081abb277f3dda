-- What is shown at a punctuation.
use Rattle.std.specs.Prelude.{◌≡◌, ℕ, ◌-◌, ◌≤◌, nat_lt, Bool, true, false, cond, Some, None, List, [], ◌∷◌, ◌++◌, map, flat_map, refl}
use Rattle.std.proofs.Common.{sym, ap, ◌∙◌, arith}
use Rattle.std.proofs.lemmas.List.{append-nil}
use Rattle.std.proofs.lemmas.List.Concat.{flat_map-append}
use Rattle.tw_rows.specs.Instant.{inf}
use Rattle.tw_rows.specs.Event.{alive}
use Rattle.tw_rows.specs.declared.kind.Kind.{Kind}
use Rattle.plan_model.specs.Changes.{Line, changes}
use Rattle.plan_model.specs.IsPlan.{PlanParts, IsPlan}
use Rattle.plan_model.specs.Meaning.{Sources, events, snapshots}
use Rattle.plan_model.proofs.Kept.{IsPlan-ordered}
use Rattle.plan_model.proofs.Levels.{IsPlan-levelled}
use Rattle.plan_model.proofs.PlanLaws.{events_agree}
use Rattle.plan_model.proofs.Steady.{changes_same}
use Rattle.admission.specs.Text.{Changed, Closed, between}
use Rattle.egress.specs.Print.{line_text, print, punctuation_if}
use Rattle.tempo_engine.specs.Output.{item_text}

lines_text : (kinds : List Kind) (lines : List Line) → flat_map (item_text kinds) (map Changed lines) ≡ print kinds lines
lines_text kinds [] = refl
lines_text kinds (line ∷ lines) = ap (λ l. line_text kinds line ++ l) (lines_text kinds lines)

closed_text : (kinds : List Kind) (later : Bool) (c : ℕ) → flat_map (item_text kinds) (cond later (Closed c ∷ []) []) ≡ punctuation_if (cond later (Some c) None)
closed_text kinds true c = append-nil (punctuation_if (Some c))
closed_text kinds false c = refl

same_changes : (source : Sources) (plan : PlanParts) → IsPlan plan → (a c : ℕ) → a ≤ c → c ≤ inf →
    changes (alive (events source plan.nodes plan.root)) a (c - a) ≡ changes (snapshots source plan.nodes plan.root) a (c - a)
same_changes source plan sound a c low within =
    changes_same (alive (events source plan.nodes plan.root)) (snapshots source plan.nodes plan.root) c
    (λ t below. (events_agree source plan.nodes (IsPlan-ordered plan sound) (IsPlan-levelled plan sound) plan.root).same_rows t (omega arith)) a (c - a) (omega arith)

-- the bytes that are rendered are those of the items from one closing up to the next
pub rendered_items : (kinds : List Kind) (source : Sources) (plan : PlanParts) → IsPlan plan → (a c : ℕ) → a ≤ c → c ≤ inf →
    print kinds (changes (alive (events source plan.nodes plan.root)) a (c - a)) ++ punctuation_if (cond (nat_lt a c) (Some c) None)
    ≡ flat_map (item_text kinds) (between source plan a c)
unfolding between
rendered_items kinds source plan sound a c low within =
    ap (λ l. print kinds l ++ punctuation_if (cond (nat_lt a c) (Some c) None)) (same_changes source plan sound a c low within)
    ∙ ap (λ l. l ++ punctuation_if (cond (nat_lt a c) (Some c) None)) (sym (lines_text kinds (changes (snapshots source plan.nodes plan.root) a (c - a))))
    ∙ ap (λ l. flat_map (item_text kinds) (map Changed (changes (snapshots source plan.nodes plan.root) a (c - a))) ++ l) (sym (closed_text kinds (nat_lt a c) c))
    ∙ sym (flat_map-append (item_text kinds) (map Changed (changes (snapshots source plan.nodes plan.root) a (c - a))) (cond (nat_lt a c) (Closed c ∷ []) []))
