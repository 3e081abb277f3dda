-- A disk with FILE and FILE.new, and what a crash may leave of FILE.
use Rattle.std.specs.Prelude.{◌≡◌, ◌⊎◌, ℕ, Option, Some, None, List, [], ◌∷◌}
use Rattle.kept_wire.specs.declared.medium.Name.{Name}
use Rattle.kept_wire.specs.declared.medium.Name.TheVariants.{File, Next}

-- a file: there is none; its bytes were written and not synced; they were synced; or a call on it failed, and they may be any
pub data Content : Type 0 where
  Absent : Content
  Written : List ℕ → Content
  Synced : List ℕ → Content
  Torn : Content

-- a crash may leave the file with these bytes, or, for None, leave no file. Of `Written` bytes `ab` it may leave `a`, `xy` or no file
abbrev pub Leaves : Content → Option (List ℕ) → Type 0
Leaves Absent left = left ≡ None
Leaves (Written bytes) left = Unit {0}
Leaves (Synced bytes) left = left ≡ Some bytes
Leaves Torn left = Unit {0}

-- file and next: FILE and FILE.new as they are; earlier: what FILE was since the folder was synced, the last first. A crash may bring
-- each of these back
pub record Disk : Type 0 where
  pub file : Content
  pub next : Content
  pub earlier : List Content

-- it may leave so one of these files
abbrev pub LeavesOneOf : List Content → Option (List ℕ) → Type 0
LeavesOneOf [] left = ⊥
LeavesOneOf (c ∷ cs) left = Leaves c left ⊎ LeavesOneOf cs left

-- a crash may leave FILE so. After a rename of the synced bytes `b` over `a`, before the folder is synced: with `a` or with `b`
abbrev pub MayLeave : Disk → Option (List ℕ) → Type 0
MayLeave d left = LeavesOneOf (d.file ∷ d.earlier) left

-- a crash leaves FILE with these bytes
abbrev pub LeavesOnly : List ℕ → Disk → Type 0
LeavesOnly bytes d = (left : Option (List ℕ)) → MayLeave d left → left ≡ Some bytes

-- the file of that name becomes this. Where FILE was `a` and becomes `b`, `a` stands in front of the earlier ones
abbrev pub with_content : Name → Content → Disk → Disk
with_content File c d = record { file = c; next = d.next; earlier = d.file ∷ d.earlier }
with_content Next c d = record d { next = c }

-- the file once it is synced: `Written` bytes are `Synced` ones, and any other file is as it was
abbrev pub synced : Content → Content
synced Absent = Absent
synced (Written bytes) = Synced bytes
synced (Synced bytes) = Synced bytes
synced Torn = Torn

-- the file once a sync of it failed: `Written` bytes may be lost, and any other file is as it was
abbrev pub lost : Content → Content
lost Absent = Absent
lost (Written bytes) = Torn
lost (Synced bytes) = Synced bytes
lost Torn = Torn

-- the disk once FILE.new is renamed to FILE
abbrev pub renamed : Disk → Disk
renamed d = record { file = d.next; next = Absent; earlier = d.file ∷ d.earlier }

-- the disk once the folder is synced: a crash brings nothing back
abbrev pub settled : Disk → Disk
settled d = record d { earlier = [] }

-- a read of the file gives these bytes, and None where there is no file
abbrev pub IsSeen : Content → Option (List ℕ) → Type 0
IsSeen Absent seen = seen ≡ None
IsSeen (Written bytes) seen = seen ≡ Some bytes
IsSeen (Synced bytes) seen = seen ≡ Some bytes
IsSeen Torn seen = Unit {0}
