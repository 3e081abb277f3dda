use Rattle.std.specs.Prelude.{◌≡◌, ℕ, List, [], ◌∷◌, IfSome, refl}
use Rattle.std.proofs.Common.{sym, ◌∙◌, ap, subst}
use Rattle.tw_rows.specs.declared.cells.Datum.{Datum}
use Rattle.tw_rows.specs.SameCells.{same_cells}
use Rattle.key_nodes.specs.Coalesced.{how_often}
use Rattle.synopsis.specs.Kept.{ends_of, starts_of, AreOnce}
use Rattle.synopsis.specs.Holding.{since_of}
use Rattle.synopsis.proofs.Lone.{tells_of}
use Rattle.synopsis.proofs.instant.tell_instant.Goals as goal

pub returns-clause-tells : goal.returns-clause-tells
returns-clause-tells c = λ f low moves is.
    let ms = c.as_slice.result.now in
    let value = c.as_slice.ensures.value in
    let once = subst AreOnce (sym value) c.in_ok-moves.ensures.once in
    tells_of f c.args.at ms (λ r. how_often same_cells r c.args.lost.now) (λ r. how_often same_cells r c.args.won.now) (since_of c.args.held.now) c.args.answer.now.items c.tell-2.new.answer.items low moves is once
    (λ r. ap (λ l. ends_of l r) value ∙ c.in_ok-moves.ensures.ends r) (λ r. ap (λ l. starts_of l r) value ∙ c.in_ok-moves.ensures.starts r)
    (c.in_ok-tell-2.ensures.told once) (c.in_ok-tell-2.ensures.order low)

pub returns-in-Some-clause-tells : goal.returns-in-Some-clause-tells
returns-in-Some-clause-tells c = λ f low moves is.
    let m = c.in-Some.alone in
    let lost : List Datum → ℕ = λ r. how_often same_cells r c.args.lost.now in
    let won : List Datum → ℕ = λ r. how_often same_cells r c.args.won.now in
    tells_of f c.args.at (m ∷ []) lost won (since_of c.args.held.now) c.args.answer.now.items c.tell.new.answer.items low moves is (refl, tt)
    (subst (λ o. IfSome o (λ n. (r : List Datum) → ends_of (n ∷ []) r ≡ lost r)) c.in-Some.is c.in_ok-alone.ensures.ends)
    (subst (λ o. IfSome o (λ n. (r : List Datum) → starts_of (n ∷ []) r ≡ won r)) c.in-Some.is c.in_ok-alone.ensures.starts)
    (c.in_ok-tell.ensures.told (refl, tt)) (c.in_ok-tell.ensures.order low)
