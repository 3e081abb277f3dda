-- Replacements in a row.
use Rattle.std.proofs.Common.{inl, inr, ⊎_elim, ℕ, List, [], ◌∷◌, ◌++◌, Option, slice_index_or, ◌∙◌, ap, append_assoc}
use Rattle.std.proofs.lemmas.List.Elements.{All-append}
use Rattle.kept_wire.specs.Disk.{Disk}
use Rattle.kept_wire.specs.Calls.{Told}
use Rattle.kept_wire.specs.Replaced.{IsOneOf, IsWhole, StaysWhole}

in_first : (first later : List (List ℕ)) (left : Option (List ℕ)) → IsOneOf first left → IsOneOf (first ++ later) left
in_first [] later left one = absurd one
in_first (bytes ∷ first) later left (inl is) = inl is
in_first (bytes ∷ first) later left (inr one) = inr (in_first first later left one)

in_later : (first later : List (List ℕ)) (left : Option (List ℕ)) → IsOneOf later left → IsOneOf (first ++ later) left
in_later [] later left one = one
in_later (bytes ∷ first) later left one = inr (in_later first later left one)

module _ (first later : List (List ℕ)) where
  -- a moment of the first ones
  sooner : (old d : Disk) → IsWhole old first d → IsWhole old (first ++ later) d
  sooner old d whole left may = ⊎_elim (λ was. inl was) (λ one. inr (in_first first later left one)) (whole left may)

  -- a moment of the later ones
  after : (old mid d : Disk) → IsWhole old first mid → IsWhole mid later d → IsWhole old (first ++ later) d
  after old mid d first_whole whole left may =
      ⊎_elim (λ was. sooner old mid first_whole left was) (λ one. inr (in_later first later left one)) (whole left may)

  pub in_a_row : (old mid new : Told) → StaysWhole first old mid → StaysWhole later mid new → StaysWhole (first ++ later) old new
  in_a_row old mid new a b = record {
    passed = a.passed ++ b.passed;
    past = b.past ∙ ap (λ (l : List Disk). l ++ b.passed) a.past ∙ append_assoc old.past a.passed b.passed;
    each = All-append (IsWhole old.now (first ++ later)) a.passed b.passed
        (λ k d lt. sooner old.now (slice_index_or a.passed k d) (a.each k d lt))
        (λ k d lt. after old.now mid.now (slice_index_or b.passed k d) a.last (b.each k d lt));
    last = after old.now mid.now new.now a.last b.last;
  }
