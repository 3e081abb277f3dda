-- The first node of a plan.
use Rattle.std.specs.Prelude.{◌≡◌, ℕ, Some, get_or, slice_get, refl}
use Rattle.std.proofs.Common.{◌∙◌, ap, arith}
use Rattle.std.proofs.lemmas.Option.{slice_get-get_or}
use Rattle.plan_model.specs.declared.node.Node.{Node}
use Rattle.plan_model.specs.declared.node.Node.TheVariants.{Source, Where, Select, Union, Delay, Hop, Duration, Extend, Session, Clip, Group, Join, Anti, Coalesce, Mean, Top, Follow}
use Rattle.plan_model.specs.IsPlan.{PlanParts, IsPlan}
use Rattle.plan_model.specs.Shape.{HasLower, left_child}
use Rattle.plan_model.proofs.Kept.{IsPlan-ordered}

-- below which there is no node to read
reads_a_stream : (n : Node) → HasLower 0 (left_child n) → (stream : ℕ) × (n ≡ Source stream)
reads_a_stream (Source stream) low = (stream, refl)
reads_a_stream (Where child test) low = absurd (omega (arith, low))
reads_a_stream (Select child items) low = absurd (omega (arith, low))
reads_a_stream (Union left right) low = absurd (omega (arith, low))
reads_a_stream (Delay child by) low = absurd (omega (arith, low))
reads_a_stream (Hop child size period) low = absurd (omega (arith, low))
reads_a_stream (Duration child by) low = absurd (omega (arith, low))
reads_a_stream (Extend child by) low = absurd (omega (arith, low))
reads_a_stream (Session child timeout key) low = absurd (omega (arith, low))
reads_a_stream (Clip left right left_key right_key) low = absurd (omega (arith, low))
reads_a_stream (Group child key aggs) low = absurd (omega (arith, low))
reads_a_stream (Join left right left_key right_key) low = absurd (omega (arith, low))
reads_a_stream (Anti left right left_key right_key) low = absurd (omega (arith, low))
reads_a_stream (Coalesce child) low = absurd (omega (arith, low))
reads_a_stream (Mean child at) low = absurd (omega (arith, low))
reads_a_stream (Top child key by count) low = absurd (omega (arith, low))
reads_a_stream (Follow left right left_key right_key within) low = absurd (omega (arith, low))

pub first_is_a_source : (plan : PlanParts) → IsPlan plan → (stream : ℕ) × (slice_get plan.nodes 0 ≡ Some (Source stream))
first_is_a_source plan sound =
    let rooted = sound.rooted in
    let n = get_or plan.nodes 0 (Source 0) in
    let there = slice_get-get_or plan.nodes 0 (Source 0) (omega (arith, rooted)) in
    let at = reads_a_stream n (IsPlan-ordered plan sound 0 n there).0 in
    (at.0, there ∙ ap Some at.1)
