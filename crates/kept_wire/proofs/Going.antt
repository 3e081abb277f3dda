-- FILE stays as it was, or becomes one of these, from call to call.
use Rattle.std.proofs.Common.{inl, ℕ, List, [], ◌++◌, Result, sym, ◌∙◌, ap, append_assoc}
use Rattle.std.proofs.lemmas.List.{append-nil}
use Rattle.std.proofs.lemmas.List.Elements.{All-append, All-nil}
use Rattle.kept_wire.specs.Disk.{Disk}
use Rattle.kept_wire.specs.Calls.{Told, Passes}
use Rattle.kept_wire.specs.Replaced.{IsWhole, StaysWhole}

pub starts : (all : List (List ℕ)) (old : Told) → StaysWhole all old old
starts all old = record {
  passed = [];
  past = sym (append-nil old.past);
  each = All-nil (IsWhole old.now all);
  last = λ left may. inl may;
}

-- one call more
pub goes_on : {T E : Type 0} (all : List (List ℕ)) (old : Told) (May : Disk → Type 0) (done : Disk) (result : Result T E) (mid new : Told)
    → StaysWhole all old mid → Passes May done result mid new
    → ((d : Disk) → May d → IsWhole old.now all d) → StaysWhole all old new
goes_on all old May done result mid new so_far call whole = record {
  passed = so_far.passed ++ call.passed;
  past = call.past ∙ ap (λ (l : List Disk). l ++ call.passed) so_far.past ∙ append_assoc old.past so_far.passed call.passed;
  each = All-append (IsWhole old.now all) so_far.passed call.passed so_far.each (λ k d lt. whole _ (call.each k d lt));
  last = whole new.now call.last;
}
