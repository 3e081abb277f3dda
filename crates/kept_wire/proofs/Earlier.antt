-- What a crash may bring back.
use Rattle.std.proofs.Common.{◌≡◌, ◌-◌, ℕ, zero, suc, ◌<◌, ◌≤◌, List, [], ◌∷◌, length, map, slice_index_or, Option, Some, None, inl, inr, refl, sym, ◌∙◌, ap, subst, arith}
use Rattle.std.proofs.lemmas.Option.{slice_get-map, slice_get_past, slice_get_read}
use Rattle.std.specs.Prelude.{option_map, slice_get}
use Rattle.kept_wire.specs.Disk.{Content, Absent, Written, Synced, Torn, Leaves, LeavesOneOf}
use Rattle.kept_wire.specs.MediumMemory.{content_of, left_of}
use Rattle.kept_wire.specs.declared.medium_memory.Stored.{Stored}

-- a file that was taken out of the earlier ones
pub taken_back : (files : List Stored) (f : Content) (k : ℕ) (d : Stored) → 0 < k → k ≤ length files → d ≡ slice_index_or files (k - 1) d
    → Some (content_of d) ≡ slice_get (f ∷ map content_of files) k
taken_back files f zero d some low e = absurd (omega (arith, some))
taken_back files f (suc k) d some low e =
    let same : suc k - 1 ≡ k = omega arith in
    sym (slice_get-map content_of files k
    ∙ ap (option_map content_of) (slice_get_read files (length files) k d refl (omega (arith, low)) (subst (λ i. d ≡ slice_index_or files i d) same e)))

-- and none where there are fewer
pub none_back : (files : List Stored) (f : Content) (k : ℕ) → length files < k → None ≡ slice_get (f ∷ map content_of files) k
none_back files f zero low = absurd (omega (arith, low))
none_back files f (suc k) low =
    sym (slice_get-map content_of files k ∙ ap (option_map content_of) (slice_get_past files k (omega (arith, low))))

leaves_left : (c : Content) (torn : List ℕ) → Leaves c (left_of c torn)
leaves_left Absent torn = refl
leaves_left (Written bytes) torn = tt
leaves_left (Synced bytes) torn = refl
leaves_left Torn torn = tt

-- what is left of one of the files may be left of them all
pub one_of_them : (files : List Content) (k : ℕ) (torn : List ℕ) (left : Option (List ℕ))
    → option_map (λ c. left_of c torn) (slice_get files k) ≡ Some left → LeavesOneOf files left
one_of_them [] k torn left is = absurd (cc is)
one_of_them (c ∷ files) zero torn left is = inl (subst (Leaves c) ((cc is)) (leaves_left c torn))
one_of_them (c ∷ files) (suc k) torn left is = inr (one_of_them files k torn left is)
