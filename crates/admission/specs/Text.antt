-- What is written for lines.
use Rattle.std.specs.Prelude.{◌≡◌, ℕ, ◌-◌, max, nat_lt, Bool, cond, List, [], ◌∷◌, ◌++◌, flat_map, map}
use Rattle.plan_model.specs.Changes.{Line, changes}
use Rattle.plan_model.specs.IsPlan.{PlanParts}
use Rattle.plan_model.specs.Meaning.{Sources, closes, snapshots}
use Rattle.admission.specs.declared.policy.Policy.{Policy}
use Rattle.admission.specs.Admission.{rows}
use Rattle.admission.specs.Entries.{Told}
use Rattle.admission.specs.Progress.{Progress, progress}

-- a change line, or a punctuation
pub data Item : Type 0 where
  Changed : (line : Line) → Item
  Closed : (time : ℕ) → Item

-- the changes of the root from one closing up to the next, and the next as a punctuation where it is later
unfoldable pub between : Sources → PlanParts → ℕ → ℕ → List Item
between source plan last c = map Changed (changes (snapshots source plan.nodes plan.root) last (c - last)) ++ cond (nat_lt last c) (Closed c ∷ []) []

-- what is written at each of these punctuations, where all was written up to `last`
abbrev pub written_from : Sources → PlanParts → ℕ → List ℕ → List Item
written_from source plan last [] = []
written_from source plan last (p ∷ ps) =
    let c = closes plan.nodes plan.root p in between source plan last c ++ written_from source plan (max last c) ps

-- what is written at the punctuations that were due, over all rows so far
abbrev pub written : PlanParts → Progress → List Item
written plan w = written_from (rows w.after) plan 0 w.dues

-- the greatest closing at these punctuations, and at least `last`
abbrev pub closed_up : PlanParts → ℕ → List ℕ → ℕ
closed_up plan last [] = last
closed_up plan last (p ∷ ps) = closed_up plan (max last (closes plan.nodes plan.root p)) ps

-- what is written for the lines: an interval from 1 to 2 of the source at the root and a punctuation at 3 are its start, its
-- end and the punctuation
abbrev pub items : PlanParts → Policy → List Told → Bool → List Item
items plan policy lines ended = written plan (progress plan policy lines ended)

-- its bytes, where `print` gives those of an item
abbrev pub text : (Item → List ℕ) → PlanParts → Policy → List Told → Bool → List ℕ
text print plan policy lines ended = flat_map print (items plan policy lines ended)

-- a list begins with another
abbrev pub IsFront : {X : Type 0} → List X → List X → Type 0
IsFront front whole = (after : List _) × (whole ≡ front ++ after)
