-- FILE is as it was while it is opened.
use Rattle.std.proofs.Common.{◌≡◌, ◌≢◌, inl, inr, ℕ, List, [], Option, None, refl, sym, ◌∙◌, subst}
use Rattle.kept_wire.specs.declared.medium.Name.TheVariants.{File}
use Rattle.kept_wire.specs.Disk.{Content, Absent, Written, Synced, Torn, Disk, Leaves, IsSeen, synced, lost, settled}
use Rattle.kept_wire.specs.Calls.{with_synced, with_lost}
use Rattle.kept_wire.specs.Replaced.{IsWhole}
use Rattle.kept_wire.specs.Opened.{LeavesJust}

was_synced : (c : Content) (left : Option (List ℕ)) → Leaves (synced c) left → Leaves c left
was_synced Absent left l = l
was_synced (Written bytes) left l = tt
was_synced (Synced bytes) left l = l
was_synced Torn left l = tt

was_lost : (c : Content) (left : Option (List ℕ)) → Leaves (lost c) left → Leaves c left
was_lost Absent left l = l
was_lost (Written bytes) left l = tt
was_lost (Synced bytes) left l = l
was_lost Torn left l = tt

pub same_whole : (old d : Disk) → d ≡ old → IsWhole old [] d
same_whole old d is = subst (IsWhole old []) (sym is) (λ left may. inl may)

pub synced_whole : (old d : Disk) → d ≡ with_synced File old → IsWhole old [] d
synced_whole old d is = subst (IsWhole old []) (sym is) (λ left may. elim may [
  | inl l ↦ inl (inl (was_synced old.file left l))
  | inr l ↦ inl (inr l)
])

pub lost_whole : (old d : Disk) → d ≡ with_lost File old → IsWhole old [] d
lost_whole old d is = subst (IsWhole old []) (sym is) (λ left may. elim may [
  | inl l ↦ inl (inl (was_lost old.file left l))
  | inr l ↦ inl (inr l)
])

-- once the folder is synced too
pub settled_whole : (old mid d : Disk) → IsWhole old [] mid → d ≡ settled mid → IsWhole old [] d
settled_whole old mid d whole is = subst (IsWhole old []) (sym is) (λ left may. elim may [
  | inl l ↦ whole left (inl l)
  | inr none ↦ absurd none
])

seen_just : (c : Content) (seen left : Option (List ℕ)) → c ≢ Torn → IsSeen c seen → Leaves (synced c) left → left ≡ seen
seen_just Absent seen left not_torn is l = l ∙ sym is
seen_just (Written bytes) seen left not_torn is l = l ∙ sym is
seen_just (Synced bytes) seen left not_torn is l = l ∙ sym is
seen_just Torn seen left not_torn is l = absurd (not_torn refl)

unseen_just : (c : Content) (left : Option (List ℕ)) → c ≢ Torn → IsSeen c None → Leaves c left → left ≡ None
unseen_just Absent left not_torn is l = l
unseen_just (Written bytes) left not_torn is l = absurd (cc is)
unseen_just (Synced bytes) left not_torn is l = absurd (cc is)
unseen_just Torn left not_torn is l = absurd (not_torn refl)

-- a crash leaves what was seen, once it and its name are synced
pub leaves_seen : (old new : Disk) (seen : Option (List ℕ)) → IsSeen old.file seen → new ≡ settled (with_synced File old)
    → old.file ≢ Torn → LeavesJust seen new
leaves_seen old new seen is same not_torn = subst (LeavesJust seen) (sym same) (λ left may. elim may [
  | inl l ↦ seen_just old.file seen left not_torn is l
  | inr none ↦ absurd none
])

-- and no file, where there was none
pub leaves_none : (old new : Disk) → IsSeen old.file None → new ≡ settled old → old.file ≢ Torn → LeavesJust None new
leaves_none old new is same not_torn = subst (LeavesJust None) (sym same) (λ left may. elim may [
  | inl l ↦ unseen_just old.file left not_torn is l
  | inr none ↦ absurd none
])
