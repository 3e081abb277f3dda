-- What the calls of a medium do to its disk.
use Rattle.std.specs.Prelude.{◌≡◌, ◌⊎◌, ◌≤◌, ℕ, Option, Some, option_map, List, [], ◌∷◌, ◌++◌, All, Vec}
use Rattle.std.specs.Prelude.{Result, OnOk, IfOk, IsErrOf}
use Rattle.std.specs.declared.alloc.Global.{Global}
use Rattle.wire_lines.specs.Faults.{Rose}
use Rattle.kept_wire.specs.Disk.{Torn, Written, Disk, with_content, synced, lost, renamed, settled, IsSeen}
use Rattle.kept_wire.specs.declared.medium.Name.{Name}
use Rattle.kept_wire.specs.declared.medium.Name.TheVariants.{File, Next}
use Rattle.kept_wire.specs.declared.medium.ReadFault.{ReadFault}
use Rattle.kept_wire.specs.declared.medium.ReadFault.TheVariants.{Failed, Memory}

-- past: the disk at moments that have passed, the first of them first; now: as it is
pub record Told : Type 0 where
  pub past : List Disk
  pub now : Disk

-- one moment later, when nothing has changed
abbrev pub moved : Told → Told
moved t = record { past = t.past ++ t.now ∷ []; now = t.now }

-- where the moments were told they still are, and R holds of what was told and what is
pub record Goes (before now : Option Told) (R : Told → Told → Type 0) : Type 0 where
  pub gone : (old : Told) → before ≡ Some old → (new : Told) × (now ≡ Some new) × R old new

-- moments have passed: at each of them, and now, the disk is as May says, and after Ok it is done
pub record Passes {T E : Type 0} (May : Disk → Type 0) (done : Disk) (result : Result T E) (old new : Told) : Type 0 where
  pub passed : List Disk
  pub past : new.past ≡ old.past ++ passed
  pub each : All May passed
  pub last : May new.now
  pub ok : OnOk result (new.now ≡ done)

-- FILE was read: nothing has changed, and after Ok the bytes are those of FILE
pub record HasRead (result : Result (Option (Vec ℕ Global)) ReadFault) (old new : Told) : Type 0 where
  pub seen : IfOk result (λ bytes. IsSeen old.now.file (option_map (λ v. v.items) bytes))
  pub passes : Passes (λ d. d ≡ old.now) old.now result old new

-- while the file is written: nothing has changed yet, or a part is written, or all of it
abbrev pub IsWriting : Name → List ℕ → Disk → Disk → Type 0
IsWriting name bytes old d = (d ≡ old) ⊎ ((d ≡ with_content name Torn old) ⊎ (d ≡ with_content name (Written bytes) old))

abbrev pub HasWritten : {T E : Type 0} → Name → List ℕ → Result T E → Told → Told → Type 0
HasWritten name bytes result old new = Passes (IsWriting name bytes old.now) (with_content name (Written bytes) old.now) result old new

-- the disk once the file of that name is synced
abbrev pub with_synced : Name → Disk → Disk
with_synced File d = record d { file = synced d.file }
with_synced Next d = record d { next = synced d.next }

-- the disk once a sync of it failed
abbrev pub with_lost : Name → Disk → Disk
with_lost File d = record d { file = lost d.file }
with_lost Next d = record d { next = lost d.next }

-- while it is synced: it is not yet, or it lost bytes, or it is
abbrev pub IsSyncing : Name → Disk → Disk → Type 0
IsSyncing name old d = (d ≡ old) ⊎ ((d ≡ with_lost name old) ⊎ (d ≡ with_synced name old))

abbrev pub HasSynced : {T E : Type 0} → Name → Result T E → Told → Told → Type 0
HasSynced name result old new = Passes (IsSyncing name old.now) (with_synced name old.now) result old new

abbrev pub HasRenamed : {T E : Type 0} → Result T E → Told → Told → Type 0
HasRenamed result old new = Passes (λ d. (d ≡ old.now) ⊎ (d ≡ renamed old.now)) (renamed old.now) result old new

abbrev pub HasSyncedFolder : {T E : Type 0} → Result T E → Told → Told → Type 0
HasSyncedFolder result old new = Passes (λ d. (d ≡ old.now) ⊎ (d ≡ settled old.now)) (settled old.now) result old new

-- Failed comes only where the count of faults rose; at Ok and out of memory it is what it was
pub record HasReadCause {T : Type 0} (before now : ℕ) (result : Result T ReadFault) : Type 0 where
  pub later : before ≤ now
  pub failed : IsErrOf result Failed → Rose before now
  pub memory : IsErrOf result Memory → now ≡ before
  pub same : OnOk result (now ≡ before)
