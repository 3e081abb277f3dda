-- Lines that an engine takes together.
use Rattle.std.specs.Prelude.{◌≡◌, ◌==◌, ◌+◌, ◌-◌, ◌^◌, min, length, ℕ, false, List, [], ◌∷◌, ◌++◌}
use Rattle.std.specs.List.{slice_split}
use Rattle.tw_rows.specs.declared.edge.Edge.{Edge}
use Rattle.plan_model.specs.IsPlan.{PlanParts}
use Rattle.admission.specs.declared.policy.Policy.{Policy}
use Rattle.admission.specs.Entries.{Told}
use Rattle.admission.specs.Progress.{fault}
use Rattle.tempo_engine.specs.Faults.{IsFaultOf, IsBadOf}
use Rattle.tempo_engine.specs.Fed.{FedBy}
use Rattle.tempo_engine.specs.Output.{plan_text, told}
use Rattle.tempo_engine.specs.Went.{EngineView, Further}
use Rattle.tempo_engine.specs.declared.fault.EngineFault.{EngineFault}

-- the lines between which LFs stand: of `ab`, LF, `c` they are `ab` and `c`, and of no byte the empty line
abbrev pub between_feeds : List ℕ → List (List ℕ)
between_feeds bytes = slice_split (λ b. b == 10) bytes

-- the number of the line with k lines of a block before it, of which the first has the number n: of 3 and 2 it is 5. Numbers go no
-- further than the greatest one of 64 bits
abbrev pub number_at : ℕ → ℕ → ℕ
number_at n k = min (n + k) (2 ^ 64 - 1)

-- the lines as they are told, of which the first has the number n: `x` and `y` from 3 on are line 3 and line 4
abbrev pub told_from : PlanParts → ℕ → List (List ℕ) → List Told
told_from plan n [] = []
told_from plan n (line ∷ lines) = told plan n line ∷ told_from plan (number_at n 1) lines

-- and those of a block: of `x`, LF, `y` from 3 on the same
abbrev pub told_block : PlanParts → ℕ → List ℕ → List Told
told_block plan n bytes = told_from plan n (between_feeds bytes)

-- the text grows by the bytes with these lines more
abbrev pub GrowsWith : PlanParts → Policy → List Told → List Told → List ℕ → Type 0
GrowsWith plan policy lines more bytes = plan_text plan policy (lines ++ more) false ≡ plan_text plan policy lines false ++ bytes

-- bytes of which it holds were put behind others: `c` behind `ab` gives `abc`
pub record Appends (old new : List ℕ) (P : List ℕ → Type 0) : Type 0 where
  pub bytes : List ℕ
  pub all : new ≡ old ++ bytes
  pub holds : P bytes

-- one line of the block has the fault, and with those before it the text grows by the bytes. Where the second of three lines is
-- late: by what the first one makes due. Out of memory says nothing of the line
pub record StopsIn (plan : PlanParts) (policy : Policy) (lines : List Told) (n : ℕ) (block : List (List ℕ)) (bytes : List ℕ)
    (f : EngineFault) : Type 0 where
  pub before : List (List ℕ)
  pub line : List ℕ
  pub after : List (List ℕ)
  pub all : block ≡ before ++ line ∷ after
  pub grown : GrowsWith plan policy lines (told_from plan n before) bytes
  pub first : IsFaultOf f (fault plan policy (lines ++ told_from plan n (before ++ line ∷ [])) false)

-- a line that is told as bad is one of the block, whatever was before the block
pub record BadIn (plan : PlanParts) (n : ℕ) (block : List (List ℕ)) (f : EngineFault) : Type 0 where
  pub before : List (List ℕ)
  pub line : List ℕ
  pub after : List (List ℕ)
  pub all : block ≡ before ++ line ∷ after
  pub bad : IsBadOf plan (number_at n (length before)) line f

-- the streams give more edges, and the nodes answer with more, with these lines more
abbrev pub FeedsAllOn : EngineView → (PlanParts → List Told) → EngineView → Type 0
FeedsAllOn old more new =
    (plan : PlanParts) (policy : Policy) (lines : List Told) (given lists : ℕ → List Edge) → FedBy plan policy lines given lists old →
    Further given lists (λ more_given more_lists. FedBy plan policy (lines ++ more plan) more_given more_lists new)
