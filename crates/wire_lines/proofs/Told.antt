-- What a wire in memory tells after a read and after a write.
use Rattle.std.proofs.Common.{◌≡◌, ℕ, suc, ◌+◌, List, [], ◌∷◌, ◌++◌, length, take, drop, Some, refl, ap, sym, ◌∙◌, arith}
use Rattle.std.proofs.lemmas.List.{map-append, take-append-le}
use Rattle.std.proofs.lemmas.Slice.{between_is}
use Rattle.std.proofs.Math.Seq.{drop-append_seam}
use Rattle.std.specs.List.{All, between}
use Rattle.wire_lines.specs.Journal.{Entry, Out, Adds}
use Rattle.wire_lines.specs.Memory.{told_of, entry_of, IsWithin}
use Rattle.wire_lines.specs.declared.memory.WireStep.{WireStep}
use Rattle.wire_lines.specs.declared.memory.WireStep.TheVariants as steps

-- the journal was told before and now
pub adds_told : {a b K : List Entry} → b ≡ a ++ K → Adds (Some a) (Some b) K
adds_told {a} {b} {K} e = record { added = λ told is. ap Some e ∙ ap (λ (x : List Entry). Some (x ++ K)) ((cc)) }

-- an entry stays what it is when more bytes are written
entry_keeps : (input output more : List ℕ) (s : WireStep) → IsWithin input output s → entry_of input (output ++ more) s ≡ entry_of input output s
entry_keeps input output more (steps.In from to) w = refl
entry_keeps input output more (steps.Out from to) w =
    ap Out (between_is (output ++ more) from to ∙ ap (drop from) (take-append-le to output more w.1) ∙ sym (between_is output from to))

-- and so do all
told_keeps : (input output more : List ℕ) (ss : List WireStep) → All (IsWithin input output) ss → told_of input (output ++ more) ss ≡ told_of input output ss
told_keeps input output more [] w = refl
told_keeps input output more (s ∷ ss) w =
    ap (λ x. x ∷ told_of input (output ++ more) ss) (entry_keeps input output more s (w 0 s (omega arith)))
    ∙ ap (λ x. entry_of input output s ∷ x) (told_keeps input output more ss (λ k d h. w (suc k) d (omega arith)))

last_part : (a b : List ℕ) → between (length a) (length a + length b) (a ++ b) ≡ take (length b) b
last_part a b = rw (drop-append_seam a b) (ap (λ n. take n b) (omega arith))

told_write_at : (input output piece : List ℕ) (ss : List WireStep) → All (IsWithin input output) ss →
    told_of input (output ++ piece) (ss ++ steps.Out (length output) (length output + length piece) ∷ []) ≡ told_of input output ss ++ Out (take (length piece) piece) ∷ []
told_write_at input output piece ss w =
    map-append (entry_of input (output ++ piece)) ss (steps.Out (length output) (length output + length piece) ∷ [])
    ∙ ap (λ x. x ++ Out (between (length output) (length output + length piece) (output ++ piece)) ∷ []) (told_keeps input output piece ss w)
    ∙ ap (λ x. told_of input output ss ++ Out x ∷ []) (last_part output piece)

-- one more write
pub told_write : (input output piece : List ℕ) (ss : List WireStep) (from : ℕ) → from ≡ length output → All (IsWithin input output) ss →
    told_of input (output ++ piece) (ss ++ steps.Out from (from + length piece) ∷ []) ≡ told_of input output ss ++ Out (take (length piece) piece) ∷ []
told_write input output piece ss from e w = rw e (told_write_at input output piece ss w)
