-- By what the text grows, and up to which closing it is written.
use Rattle.std.specs.Prelude.{◌≡◌, ◌≢◌, ℕ, ◌<◌, ◌≤◌, max, Bool, false, List, [], ◌∷◌, ◌++◌, length, None, Ok, Err, refl}
use Rattle.std.specs.List.{All}
use Rattle.std.proofs.Common.{◌∙◌, ap, arith}
use Rattle.std.proofs.lemmas.List.{append-nil}
use Rattle.tw_rows.specs.Bag.{SameBag}
use Rattle.tw_rows.specs.Instant.{inf}
use Rattle.tw_rows.specs.declared.schema.StreamDef.{StreamDef}
use Rattle.tw_rows.proofs.Knowing.{Known-lower}
use Rattle.plan_model.specs.IsPlan.{PlanParts, IsPlan}
use Rattle.plan_model.specs.Meaning.{closes, snapshots, IsOrdered}
use Rattle.plan_model.proofs.Closings.{closes_rise}
use Rattle.plan_model.proofs.Kept.{IsPlan-ordered}
use Rattle.plan_model.proofs.Levels.{IsPlan-levelled}
use Rattle.plan_model.proofs.PlanLaws.{snapshots_final}
use Rattle.row_reader.specs.Entry.{Read, entry}
use Rattle.row_reader.specs.declared.entry.Entry.TheVariants.{Skip, Punct, Event}
use Rattle.row_reader.proofs.Spells.{events_are_within, punctuations_are_within}
use Rattle.admission.specs.declared.policy.Policy.{Policy}
use Rattle.admission.specs.Admission.{rows}
use Rattle.admission.specs.Entries.{Told, IsRead, AreRead}
use Rattle.admission.specs.Keeping.{IsGoing, RiseAbove, last_of}
use Rattle.admission.specs.Progress.{Progress, judged, progress}
use Rattle.admission.specs.Text.{between, written, closed_up}
use Rattle.admission.proofs.Finality.{last_above, rows_final, written_more}

pub line_read : (streams : List StreamDef) (first : Bool) (line : List ℕ) → All (λ b. b ≢ 10) line → IsRead (length streams) (entry streams first line)
unfolding inf
line_read streams first line none = go (entry streams first line) refl
  where
    go : (r : Read) → entry streams first line ≡ r → IsRead (length streams) r
    go (Err cause) is = tt
    go (Ok Skip) is = tt
    go (Ok (Punct stream time)) is = punctuations_are_within streams first line stream time none is
    go (Ok (Event stream form sync other row)) is = (let h = events_are_within streams first line stream form sync other row none is in let low = h.1 in (h.0, omega (arith, low), h.2))

pub snapshots_stay : (plan : PlanParts) → IsPlan plan → (policy : Policy) (lines more : List Told) (ended : Bool) (n t p : ℕ) → AreRead (length plan.streams) lines → AreRead (length plan.streams) more →
    p ≤ (progress plan policy lines false).last → t < closes plan.nodes n p →
    SameBag (snapshots (rows (progress plan policy lines false).after) plan.nodes n t) (snapshots (rows (progress plan policy (lines ++ more) ended).after) plan.nodes n t)
snapshots_stay plan is policy lines more ended n t p valid more_valid low before =
    snapshots_final p _ _ plan.nodes (IsPlan-ordered plan is) (IsPlan-levelled plan is)
    (λ s. Known-lower (progress plan policy lines false).last p _ _ low (rows_final plan (IsPlan-ordered plan is) (IsPlan-levelled plan is) policy lines more ended s valid more_valid)) n t before

pub due_writes : (plan : PlanParts) → IsPlan plan → (w : Progress) (p : ℕ) →
    written plan (judged p w None) ≡ written plan w ++ between (rows w.after) plan (closed_up plan 0 w.dues) (closes plan.nodes plan.root p)
due_writes plan is w p =
    written_more plan (IsPlan-ordered plan is) (IsPlan-levelled plan is) (rows w.after) 0 w.dues (p ∷ [])
    ∙ ap (λ x. written plan w ++ x) (append-nil (between (rows w.after) plan (closed_up plan 0 w.dues) (closes plan.nodes plan.root p)))

-- from the closing at p on, all is written up to the closing at the last punctuation
closed_last : (plan : PlanParts) → IsOrdered plan.nodes → (p : ℕ) (ds : List ℕ) → RiseAbove p ds → last_of p ds ≤ inf →
    closed_up plan (closes plan.nodes plan.root p) ds ≡ closes plan.nodes plan.root (last_of p ds)
closed_last plan ordered p [] rise low = refl
closed_last plan ordered p (d ∷ ds) rise low =
    let high = last_above d ds rise.1 in let before = rise.0 in
    let r = closes_rise plan.nodes ordered p d (omega arith) (omega arith) plan.root in
    let e : max (closes plan.nodes plan.root p) (closes plan.nodes plan.root d) ≡ closes plan.nodes plan.root d = (omega arith) in
    ap (λ c. closed_up plan c ds) e ∙ closed_last plan ordered d ds rise.1 low

closed_dues : (plan : PlanParts) → IsOrdered plan.nodes → (ds : List ℕ) → RiseAbove 0 ds → last_of 0 ds ≤ inf → 0 < last_of 0 ds →
    closed_up plan 0 ds ≡ closes plan.nodes plan.root (last_of 0 ds)
closed_dues plan ordered [] rise low some = absurd (omega arith)
closed_dues plan ordered (d ∷ ds) rise low some = (let e : max 0 (closes plan.nodes plan.root d) ≡ closes plan.nodes plan.root d = (omega arith) in ap (λ c. closed_up plan c ds) e ∙ closed_last plan ordered d ds rise.1 low)

open_dues : (plan : PlanParts) (ds : List ℕ) → RiseAbove 0 ds → last_of 0 ds ≡ 0 → closed_up plan 0 ds ≡ 0
open_dues plan [] rise is = refl
open_dues plan (d ∷ ds) rise is = absurd (let h = last_above d ds rise.1 in let b = rise.0 in omega arith)

pub closed_is : (plan : PlanParts) → IsPlan plan → (w : Progress) → IsGoing (length plan.streams) w → 0 < w.last → closed_up plan 0 w.dues ≡ closes plan.nodes plan.root w.last
closed_is plan is w g some = (let e = g.last in let low = g.low in closed_dues plan (IsPlan-ordered plan is) w.dues g.rise (omega (arith, e, low)) (omega (arith, e, some)) ∙ ap (closes plan.nodes plan.root) e)

pub nothing_closed : (plan : PlanParts) (w : Progress) → IsGoing (length plan.streams) w → w.last ≡ 0 → closed_up plan 0 w.dues ≡ 0
nothing_closed plan w g none = open_dues plan w.dues g.rise (g.last ∙ none)
