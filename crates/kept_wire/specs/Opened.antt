-- What is known of FILE once it was opened.
use Rattle.std.specs.Prelude.{◌≡◌, ◌≢◌, ℕ, List, Option, option_map, Vec, [], Result, IfOk}
use Rattle.std.specs.declared.alloc.Global.{Global}
use Rattle.kept_wire.specs.Calls.{Told}
use Rattle.kept_wire.specs.Disk.{Disk, Torn, MayLeave, IsSeen}
use Rattle.kept_wire.specs.Replaced.{StaysWhole}
use Rattle.kept_wire.specs.declared.medium.ReadFault.{ReadFault}

-- a crash leaves FILE so and not otherwise; None: there is none
abbrev pub LeavesJust : Option (List ℕ) → Disk → Type 0
LeavesJust file d = (left : Option (List ℕ)) → MayLeave d left → left ≡ file

-- FILE was brought to the disk and read: at each moment a crash leaves what it might have left before. After Ok these are the bytes of
-- FILE, and a crash leaves them, unless a write of FILE had failed
pub record HasOpened (result : Result (Option (Vec ℕ Global)) ReadFault) (old new : Told) : Type 0 where
  pub whole : StaysWhole [] old new
  pub seen : IfOk result (λ bytes. IsSeen old.now.file (option_map (λ v. v.items) bytes))
  pub only : IfOk result (λ bytes. old.now.file ≢ Torn → LeavesJust (option_map (λ v. v.items) bytes) new.now)
