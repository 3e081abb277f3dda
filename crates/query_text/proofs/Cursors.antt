-- The word that stands first.
use Rattle.std.proofs.Common.{◌≡◌, ℕ, zero, suc, ◌+◌, ◌-◌, ◌^◌, ◌<◌, ◌≤◌, Bool, true, false, not, Some, None, List, [], ◌∷◌, ◌++◌, length, take, drop, map, get_or, All, IsUtf8, IsCharBoundary, ℤ, pos, append_assoc, refl, ap, sym, subst, ◌∙◌, arith, rules, Fits, w64, to_z}
use Rattle.std.proofs.lemmas.List.{drop-map, drop-drop}
use Rattle.std.proofs.lemmas.Bool.{ne_eqb}
use Rattle.std.specs.List.{slice_range}
use Rattle.std.proofs.lemmas.List.Elements.{All-get_or, All-drop}
use Rattle.std.proofs.Math.Seq.{drop-cons}
use Rattle.std.proofs.lemmas.Int.{to_z_pos}
use denote.Enum.Bare.{sameb, same_true, true_same}
use Rattle.plan_model.specs.IsExpr.{IsOneLine}
use Rattle.query_text.specs.declared.word.Sign.{Sign}
use Rattle.query_text.specs.declared.word.Sign.TheVariants as S
use Rattle.query_text.specs.declared.word.Word.{Word}
use Rattle.query_text.specs.declared.word.Spot.{Spot}
use Rattle.query_text.specs.contracts.word.Sign.{the_type}
use Rattle.query_text.specs.Words.{words_of}
use Rattle.query_text.specs.Spots.{IsQuotedAt, IsSpotIn, IsSpotAt, IsSpotCut, IsSpotCutAt}
use Rattle.query_text.proofs.Spots.{spots, spots_cut}
use Rattle.query_text.specs.Token.{Token, name, int, str, fixed, token_at, token_of, unquoted}
use Rattle.query_text.specs.TokenForm.{IsSound, IsLineText}
use Rattle.query_text.proofs.TokenForm.{tokens_sound}
use Rattle.query_text.specs.Grammar as G
use Rattle.query_text.specs.Grammar.{atom_then}
use Rattle.query_text.specs.declared.tree.TreeNode.TheVariants as N
use Rattle.query_text.specs.Reading.{Lacks, TakesValue, Any, IsSmall, IsSmallDec, dec_of, IsParens, TakesLeaf}

pub first : (text : List ℕ) (words : List Spot) (at : ℕ) (spot : Spot) (w : Word) → at < length words → spot ≡ get_or words at spot → spot.word ≡ w
    → map (token_of text) (drop at words) ≡ token_at text spot.at w ∷ map (token_of text) (drop (at + 1) words)
first text words at spot w within same is =
    let next : suc at ≡ at + 1 = omega arith in
    ap (map (token_of text)) (drop-cons words at spot within)
    ∙ ap (λ s. token_of text s ∷ map (token_of text) (drop (suc at) words)) (sym same)
    ∙ ap (λ v. token_at text spot.at v ∷ map (token_of text) (drop (suc at) words)) is
    ∙ ap (λ i. token_at text spot.at w ∷ map (token_of text) (drop i words)) next

pub form : (text : List ℕ) (words : List Spot) (at : ℕ) (spot : Spot) (w : Word) → words ≡ words_of text → at < length words → spot ≡ get_or words at spot → spot.word ≡ w → IsSpotAt text spot.at w
form text words at spot w all within same is =
    let every : All (IsSpotIn text) words = subst (λ ws. All (IsSpotIn text) ws) (sym all) (spots text) in
    subst (λ v. IsSpotAt text spot.at v) is (subst (IsSpotIn text) (sym same) (All-get_or (IsSpotIn text) words at spot within every))

pub cut : (text : List ℕ) (words : List Spot) (at : ℕ) (spot : Spot) (w : Word) → IsUtf8 text → words ≡ words_of text → at < length words → spot ≡ get_or words at spot → spot.word ≡ w → IsSpotCutAt text spot.at w
cut text words at spot w utf8 all within same is =
    let every : All (IsSpotCut text) words = subst (λ ws. All (IsSpotCut text) ws) (sym all) (spots_cut text utf8) in
    subst (λ v. IsSpotCutAt text spot.at v) is (subst (IsSpotCut text) (sym same) (All-get_or (IsSpotCut text) words at spot within every))

pub one_sign : (a b : Sign) → sameb the_type a b ≡ true → a ≡ b
one_sign a b h = same_true the_type (search rules) a b h

pub sign_itself : (s : Sign) → sameb the_type s s ≡ true
sign_itself s = true_same the_type s s refl

pub not_false : (b : Bool) → not b ≡ false → b ≡ true
not_false true e = refl
not_false false e = cc

pub other_sign : (found sign : Sign) (ts more z : List Token) → ts ≡ fixed found ∷ more → ts ≡ fixed sign ∷ z → not (sameb the_type found sign) ≡ true → ⊥
other_sign found sign ts more z e f h =
    let g : fixed found ≡ fixed sign = cc in
    let s : found ≡ sign = cc in
    let t : sameb the_type found sign ≡ true = subst (λ x. sameb the_type found x ≡ true) s (sign_itself found) in
    let u : not (sameb the_type found sign) ≡ false = ap not t in cc

pub above_zero : (n : ℕ) → (n ≡ 0 → ⊥) → 1 ≤ n
above_zero zero h = absurd (h refl)
above_zero (suc n) h = omega arith

pub fits : (at n size : ℕ) → at + n ≤ size → size < 2 ^ 64 → Fits w64 (at + n)
fits at n size h k = omega arith

pub sign_taken : (found sign : Sign) (ts more : List Token) → ts ≡ fixed found ∷ more → found ≡ sign → ts ≡ fixed sign ∷ more
sign_taken found sign ts more e same = e ∙ ap (λ s. fixed s ∷ more) same

-- the token of a word keeps its form
pub sound : (text : List ℕ) (words : List Spot) (at : ℕ) (spot : Spot) (w : Word) → IsUtf8 text → words ≡ words_of text → at < length words → spot ≡ get_or words at spot → spot.word ≡ w → IsSound (token_at text spot.at w)
sound text words at spot w utf8 all within same is =
    let every : All IsSound (map (token_of text) words) = subst (λ ws. All IsSound (map (token_of text) ws)) (sym all) (tokens_sound text utf8) in
    let rest : All IsSound (drop at (map (token_of text) words)) = All-drop IsSound at (map (token_of text) words) every in
    let these : drop at (map (token_of text) words) ≡ token_at text spot.at w ∷ map (token_of text) (drop (at + 1) words) = drop-map (token_of text) at words ∙ first text words at spot w within same is in
    let some : All IsSound (token_at text spot.at w ∷ map (token_of text) (drop (at + 1) words)) = subst (λ ts. All IsSound ts) these rest in
    some 0 (token_at text spot.at w) (omega arith)

pub fits_one : (text : List ℕ) (at n : ℕ) → IsQuotedAt text at n → length text < 2 ^ 64 → Fits w64 (at + 1)
fits_one text at n q k = let a = q.both in let b = q.within in omega arith

pub behind_one : (text : List ℕ) (at n : ℕ) → IsQuotedAt text at n → 1 ≤ at + n
behind_one text at n q = let a = q.both in omega arith

pub in_order : (text : List ℕ) (at n : ℕ) → IsQuotedAt text at n → at + 1 ≤ at + n - 1
in_order text at n q = let a = q.both in omega arith

pub end_boundary : (text : List ℕ) (at n : ℕ) → IsQuotedAt text at n → IsCharBoundary text (at + 1 + (n - 2)) → IsCharBoundary text (at + n - 1)
end_boundary text at n q b = let a = q.both in let same : at + 1 + (n - 2) ≡ at + n - 1 = omega arith in subst (IsCharBoundary text) same b

-- a text's bytes, as its node keeps them
pub one_line : (bytes : List ℕ) → IsLineText bytes → IsOneLine bytes
one_line bytes t = λ k d within. let h = t.line k d within in (h.1, h.0)

-- the bytes between the quotes, cut out of the text
between : (text : List ℕ) (at n : ℕ) → IsQuotedAt text at n → slice_range text (at + 1) (at + n - 1) ≡ take (n - 2) (drop (at + 1) text)
between text at n q = let a = q.both in let same : at + n - 1 - (at + 1) ≡ n - 2 = omega arith in ap (λ m. take m (drop (at + 1) text)) same

pub inside : (text : List ℕ) (at n : ℕ) (got : List ℕ) → IsQuotedAt text at n → got ≡ slice_range text (at + 1) (at + n - 1) → unquoted got ≡ unquoted (take (n - 2) (drop (at + 1) text))
inside text at n got q e = ap unquoted (e ∙ between text at n q)

-- the text between quotes, byte by byte

unquoted_quote : (bs : List ℕ) → unquoted (39 ∷ bs) ≡ 39 ∷ unquoted (drop 1 bs)
unquoted_quote [] = refl
unquoted_quote (b ∷ bs) = refl

unquoted_plain : (b : ℕ) (bs : List ℕ) → (b ≡ 39 → ⊥) → unquoted (b ∷ bs) ≡ b ∷ unquoted bs
unquoted_plain b [] h = refl
unquoted_plain b (c ∷ bs) h = rw (ne_eqb b 39 h) refl

pub quote_step : (text found new : List ℕ) (at step b : ℕ) → found ++ unquoted (drop at text) ≡ unquoted text → at < length text → b ≡ get_or text at 0 → b ≡ 39 → new ≡ found ++ b ∷ [] → step ≡ 2 → new ++ unquoted (drop (at + step) text) ≡ unquoted text
quote_step text found new at step b so within is quote pushed two =
    let here : drop at text ≡ 39 ∷ drop (suc at) text = drop-cons text at 0 within ∙ ap (λ x. x ∷ drop (suc at) text) (sym is ∙ quote) in
    let next : suc at + 1 ≡ at + step = omega arith in
    let rest : drop 1 (drop (suc at) text) ≡ drop (at + step) text = drop-drop 1 (suc at) text ∙ ap (λ i. drop i text) next in
    ap (λ x. x ++ unquoted (drop (at + step) text)) (pushed ∙ ap (λ x. found ++ x ∷ []) quote)
    ∙ append_assoc found (39 ∷ []) (unquoted (drop (at + step) text))
    ∙ ap (λ x. found ++ 39 ∷ unquoted x) (sym rest)
    ∙ ap (λ x. found ++ x) (sym (unquoted_quote (drop (suc at) text)))
    ∙ ap (λ x. found ++ unquoted x) (sym here)
    ∙ so

pub plain_step : (text found new : List ℕ) (at step b : ℕ) → found ++ unquoted (drop at text) ≡ unquoted text → at < length text → b ≡ get_or text at 0 → (b ≡ 39 → ⊥) → new ≡ found ++ b ∷ [] → step ≡ 1 → new ++ unquoted (drop (at + step) text) ≡ unquoted text
plain_step text found new at step b so within is plain pushed one =
    let here : drop at text ≡ b ∷ drop (suc at) text = drop-cons text at 0 within ∙ ap (λ x. x ∷ drop (suc at) text) (sym is) in
    let next : suc at ≡ at + step = omega arith in
    ap (λ x. x ++ unquoted (drop (at + step) text)) pushed
    ∙ append_assoc found (b ∷ []) (unquoted (drop (at + step) text))
    ∙ ap (λ i. found ++ b ∷ unquoted (drop i text)) (sym next)
    ∙ ap (λ x. found ++ x) (sym (unquoted_plain b (drop (suc at) text) plain))
    ∙ ap (λ x. found ++ unquoted x) (sym here)
    ∙ so

pub step_within : (at step size most : ℕ) → at < size → step ≡ most → most ≤ 2 → at + step ≤ size + 1
step_within at step size most h e k = omega arith

-- an atom of one word

pub leaf_name : (n : List ℕ) (old new : List Token) → old ≡ name n ∷ new → TakesLeaf (Some (N.Name n)) old new
leaf_name n old new e (G.column m) z f = let g : n ≡ m = cc in let h : new ≡ z = cc in (h, λ nodes. ap (λ x. nodes ++ N.Name x ∷ []) g)
leaf_name n old new e (G.number m) z f = absurd (cc)
leaf_name n old new e (G.decimal u p) z f = absurd (cc)
leaf_name n old new e (G.text m) z f = absurd (cc)
leaf_name n old new e G.true_ z f = absurd (cc)
leaf_name n old new e G.false_ z f = absurd (cc)
leaf_name n old new e (G.parens x) z f = absurd (cc)

pub leaf_text : (n : List ℕ) (old new : List Token) → old ≡ str n ∷ new → TakesLeaf (Some (N.Text n)) old new
leaf_text n old new e (G.text m) z f = let g : n ≡ m = cc in let h : new ≡ z = cc in (h, λ nodes. ap (λ x. nodes ++ N.Text x ∷ []) g)
leaf_text n old new e (G.number m) z f = absurd (cc)
leaf_text n old new e (G.decimal u p) z f = absurd (cc)
leaf_text n old new e (G.column m) z f = absurd (cc)
leaf_text n old new e G.true_ z f = absurd (cc)
leaf_text n old new e G.false_ z f = absurd (cc)
leaf_text n old new e (G.parens x) z f = absurd (cc)

pub leaf_int : (n : ℕ) (i : ℤ) (old new : List Token) → old ≡ int n ∷ new → i ≡ pos n → TakesLeaf (Some (N.Int i)) old new
leaf_int n i old new e same (G.number m) z f = let g : n ≡ m = cc in let h : new ≡ z = cc in (h, λ nodes. ap (λ x. nodes ++ N.Int x ∷ []) (same ∙ ap pos g))
leaf_int n i old new e same (G.decimal u p) z f = absurd (cc)
leaf_int n i old new e same (G.text m) z f = absurd (cc)
leaf_int n i old new e same (G.column m) z f = absurd (cc)
leaf_int n i old new e same G.true_ z f = absurd (cc)
leaf_int n i old new e same G.false_ z f = absurd (cc)
leaf_int n i old new e same (G.parens x) z f = absurd (cc)

pub leaf_dec : (d : ℕ × ℕ) (i : ℤ) (old new : List Token) → old ≡ dec_of d ∷ new → i ≡ pos d.0 → TakesLeaf (Some (N.Dec i d.1)) old new
leaf_dec d i old new e same (G.decimal u p) z f =
    let g : d.0 ≡ u = cc in
    let k : d.1 ≡ p = cc in
    let h : new ≡ z = cc in
    (h, λ nodes. ap (λ x. nodes ++ N.Dec x d.1 ∷ []) (same ∙ ap pos g) ∙ ap (λ x. nodes ++ N.Dec (pos u) x ∷ []) k)
leaf_dec d i old new e same (G.number m) z f = absurd (cc)
leaf_dec d i old new e same (G.text m) z f = absurd (cc)
leaf_dec d i old new e same (G.column m) z f = absurd (cc)
leaf_dec d i old new e same G.true_ z f = absurd (cc)
leaf_dec d i old new e same G.false_ z f = absurd (cc)
leaf_dec d i old new e same (G.parens x) z f = absurd (cc)

pub leaf_true : (old new : List Token) → old ≡ fixed S.True ∷ new → TakesLeaf (Some (N.Bool true)) old new
leaf_true old new e G.true_ z f = let h : new ≡ z = cc in (h, λ nodes. refl)
leaf_true old new e (G.number m) z f = absurd (cc)
leaf_true old new e (G.decimal u p) z f = absurd (cc)
leaf_true old new e (G.text m) z f = absurd (cc)
leaf_true old new e (G.column m) z f = absurd (cc)
leaf_true old new e G.false_ z f = absurd (cc)
leaf_true old new e (G.parens x) z f = absurd (cc)

pub leaf_false : (old new : List Token) → old ≡ fixed S.False ∷ new → TakesLeaf (Some (N.Bool false)) old new
leaf_false old new e G.false_ z f = let h : new ≡ z = cc in (h, λ nodes. refl)
leaf_false old new e (G.number m) z f = absurd (cc)
leaf_false old new e (G.decimal u p) z f = absurd (cc)
leaf_false old new e (G.text m) z f = absurd (cc)
leaf_false old new e (G.column m) z f = absurd (cc)
leaf_false old new e G.true_ z f = absurd (cc)
leaf_false old new e (G.parens x) z f = absurd (cc)

pub leaf_none : (old a b d g e new : List Token) → TakesValue name Any None old a → TakesValue str IsOneLine None a b → TakesValue int IsSmall None b d → TakesValue dec_of IsSmallDec None d g → (e ≡ g) × Lacks (fixed S.True) g → (new ≡ e) × Lacks (fixed S.False) e → TakesLeaf None old new
leaf_none old a b d g e new h i j q k l = (l.0 ∙ k.0 ∙ q.0 ∙ j.0 ∙ i.0 ∙ h.0, only)
  where
    only : (x : G.Atom) (z : List Token) → old ≡ atom_then x z → IsParens x
    only (G.column m) z f = absurd (h.1 m z f)
    only (G.text m) z f = absurd (i.1 m z (h.0 ∙ f))
    only (G.number m) z f = absurd (j.1 m z (i.0 ∙ h.0 ∙ f))
    only (G.decimal u p) z f = absurd (q.1 (u, p) z (j.0 ∙ i.0 ∙ h.0 ∙ f))
    only G.true_ z f = absurd (k.1 z (q.0 ∙ j.0 ∙ i.0 ∙ h.0 ∙ f))
    only G.false_ z f = absurd (l.1 z (k.0 ∙ q.0 ∙ j.0 ∙ i.0 ∙ h.0 ∙ f))
    only (G.parens x) z f = (x, refl)

pub whole : (n : ℕ) → n < 2 ^ 63 → to_z w64 n ≡ pos n
whole n h = to_z_pos w64 n h
