-- A medium in memory.
use Rattle.std.specs.Prelude.{ℕ, ◌-◌, ◌^◌, Option, Some, None, option_map, List, [], ◌∷◌, map, slice_get}
use Rattle.kept_wire.specs.Disk.{Content, Absent, Written, Synced, Torn, Disk}
use Rattle.kept_wire.specs.Calls.{Told}
use Rattle.kept_wire.specs.declared.medium_memory.Stored.{Stored}
use Rattle.kept_wire.specs.declared.medium_memory.Stored.TheVariants as stored
use Rattle.kept_wire.specs.declared.medium_memory.MemoryDisk.{MemoryDisk}
use Rattle.kept_wire.specs.declared.medium_memory.Moments.{Moments}

-- a file in memory as one of a disk
abbrev pub content_of : Stored → Content
content_of stored.Absent = Absent
content_of (stored.Written v) = Written v.items
content_of (stored.Synced v) = Synced v.items

abbrev pub disk_of : MemoryDisk → Disk
disk_of d = record { file = content_of d.file; next = content_of d.next; earlier = map content_of d.earlier.items }

abbrev pub told_of : Moments → Told
told_of m = record { past = map (λ s. disk_of s.value) m.past.items; now = disk_of m.disk }

-- what contracts see of a medium in memory. calls: how many calls may still go on
pub record MemoryView : Type 0 where
  pub told : Told
  pub calls : ℕ
  pub faults : ℕ

-- FILE has these bytes, or, where it is None, there is none
abbrev pub file_of : Option (List ℕ) → Content
file_of None = Absent
file_of (Some bytes) = Synced bytes

-- a disk with this FILE alone
abbrev pub disk_with : Option (List ℕ) → Disk
disk_with left = record { file = file_of left; next = Absent; earlier = [] }

-- the file that a crash leaves, where it leaves these bytes of those that were not synced
abbrev pub left_of : Content → List ℕ → Option (List ℕ)
left_of Absent torn = None
left_of (Written bytes) torn = Some torn
left_of (Synced bytes) torn = Some bytes
left_of Torn torn = Some torn

-- the file that a crash leaves, where it brings back what FILE was so many changes ago. None where they are more than since the folder
-- was synced
abbrev pub left_back : Disk → ℕ → List ℕ → Option (Option (List ℕ))
left_back d back torn = option_map (λ c. left_of c torn) (slice_get (d.file ∷ d.earlier) back)

-- nothing has passed
abbrev pub started : Option (List ℕ) → ℕ → MemoryView
started left calls = record { told = record { past = []; now = disk_with left }; calls = calls; faults = 0 }

-- the next process, over the same disk
abbrev pub restarted : Disk → MemoryView
restarted d = record { told = record { past = []; now = d }; calls = 2 ^ 64 - 1; faults = 0 }
