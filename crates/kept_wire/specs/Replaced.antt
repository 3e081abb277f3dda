-- What a crash may leave of FILE while it is replaced.
use Rattle.std.specs.Prelude.{◌≡◌, ◌⊎◌, ℕ, Option, Some, List, [], ◌∷◌, ◌++◌, All, Result, OnOk}
use Rattle.kept_wire.specs.Disk.{Absent, Synced, Disk, MayLeave, LeavesOnly}
use Rattle.kept_wire.specs.Calls.{Told}

-- FILE was left with one of these
abbrev pub IsOneOf : List (List ℕ) → Option (List ℕ) → Type 0
IsOneOf [] left = ⊥
IsOneOf (bytes ∷ all) left = (left ≡ Some bytes) ⊎ IsOneOf all left

-- a crash leaves what it might have left of an earlier disk, or one of these. Where it left `a` alone and all are `b` and `c`: one of
-- the three
abbrev pub IsWhole : Disk → List (List ℕ) → Disk → Type 0
IsWhole old all d = (left : Option (List ℕ)) → MayLeave d left → MayLeave old left ⊎ IsOneOf all left

-- at each moment that passed and now. All are the bytes of the replacements since
pub record StaysWhole (all : List (List ℕ)) (old new : Told) : Type 0 where
  pub passed : List Disk
  pub past : new.past ≡ old.past ++ passed
  pub each : All (IsWhole old.now all) passed
  pub last : IsWhole old.now all new.now

-- FILE was replaced by these bytes, or that failed. After Ok a read gives these bytes, a crash leaves them, and there is no FILE.new
pub record HasReplaced {T E : Type 0} (bytes : List ℕ) (result : Result T E) (old new : Told) : Type 0 where
  pub whole : StaysWhole (bytes ∷ []) old new
  pub read : OnOk result (new.now.file ≡ Synced bytes)
  pub ok : OnOk result (LeavesOnly bytes new.now)
  pub left : OnOk result (new.now.next ≡ Absent)
