use borrow.Rule.Slice.PartMut.{put_mid}
use Rattle.std.proofs.Common.{◌≡◌, ◌≤◌, ◌∙◌, ◌-◌, ◌++◌, ℕ, List, length, take, drop, sym, ap, subst, arith}
use Rattle.std.specs.List.Sorted.{IsPermutation}
use Rattle.std.proofs.lemmas.List.{append-nil, drop_all, length-drop, length-take-le, take_all}
use Rattle.std.proofs.Math.Seq.{drop-append_seam}
use Rattle.sweep_sides.proofs.endings.sift_from.Goals as goal

written : {X : Type 0} (xs ys : List X) (a : ℕ) → a ≤ length xs → drop a (put_mid a (length xs - a) xs ys) ≡ ys
written xs ys a low =
    let rest = drop_all (length xs - a) (drop a xs) (omega (arith, length-drop a xs)) in
    ap (λ n. drop n (take a xs ++ (ys ++ drop (length xs - a) (drop a xs)))) (sym (length-take-le a xs low))
    ∙ (drop-append_seam (take a xs) (ys ++ drop (length xs - a) (drop a xs))
    ∙ (ap (λ l. ys ++ l) rest ∙ append-nil ys))

pub returns : goal.returns
returns c =
    let ends = c.args.ends.now in
    let from = c.args.from in
    let whole = take_all (length ends - from) (drop from ends) (omega (arith, length-drop from ends)) in
    subst (IsPermutation (drop from ends)) (sym (written ends c.sift.new.ends from c.requires))
    (subst (λ l. IsPermutation l c.sift.new.ends) whole c.sift.ensures)
