-- A text has only one answer.
use Rattle.std.proofs.Common.{◌≡◌, ℕ, suc, ◌<◌, ◌≤◌, Bool, true, false, nat_lt, nat_le, map, Option, Some, None, List, length, take, drop, refl, ap, sym, ◌∙◌, arith, length-drop}
use Rattle.std.proofs.lemmas.Bool.Decides.{nat_tests}
use Rattle.query_text.specs.Words.{words_of}
use Rattle.query_text.specs.declared.fault.Fault.{Fault}
use Rattle.query_text.specs.declared.fault.Fault.TheVariants.{Syntax, LongExpr}
use Rattle.query_text.specs.Token.{Token, tokens_of}
use Rattle.query_text.specs.Fault.{IsFront, IsFault}
use Rattle.query_text.specs.Limit.{IsShortQuery}
use Rattle.query_text.specs.Answer.{offset_of, IsSyntaxAt, IsLongExprAt, IsAnswer}
use Rattle.query_text.specs.Machine.{start}
use Rattle.query_text.specs.Parsing.{place, spot_kind, first_long}
use Rattle.query_text.proofs.Limits.{short_query, short_syntax, long_syntax, long_expr, long_within}
use Rattle.query_text.proofs.Stops.{no_fault}
use Rattle.query_text.proofs.Long.{front_past, front_length, fault_front, long_clash}

-- the first fault is not before another
no_later : (ts : List Token) (i j : ℕ) → IsFault ts (drop i ts) → IsFault ts (drop j ts) → i ≤ length ts → j ≤ length ts → i < j → ⊥
no_later ts i j f g l m h =
    let good : IsFront (take j ts) = fault_front ts j g m in
    front_past ts (drop i ts) f j (omega (arith, length-drop i ts)) (let a = front_length ts i f l in omega arith) good

-- one of two numbers is less, or they are the same
same_unless : (i j : ℕ) → (i < j → ⊥) → (j < i → ⊥) → i ≡ j
same_unless i j f g = here (nat_lt i j) (nat_lt j i) refl refl
  where
    here : (x y : Bool) → nat_lt i j ≡ x → nat_lt j i ≡ y → i ≡ j
    here true y e h = absurd (f (grind (arith, nat_tests)))
    here false true e h = absurd (g (grind (arith, nat_tests)))
    here false false e h = let a : j ≤ i = grind (arith, nat_tests) in let b : i ≤ j = grind (arith, nat_tests) in omega arith

same_syntax : (text : List ℕ) (a b : ℕ) → IsSyntaxAt text a → IsSyntaxAt text b → a ≡ b
same_syntax text a b f g =
    let ts = tokens_of text in
    let e : f.index ≡ g.index = same_unless f.index g.index (no_later ts f.index g.index f.fault g.fault f.within g.within) (no_later ts g.index f.index g.fault f.fault g.within f.within) in
    f.stands ∙ ap (offset_of (length text) (words_of text)) e ∙ sym g.stands

no_earlier : (text : List ℕ) (a b : ℕ) (f : IsLongExprAt text a) (g : IsLongExprAt text b) → f.index < g.index → ⊥
no_earlier text a b f g h = g.first (suc f.index) h f.long

same_long : (text : List ℕ) (a b : ℕ) → IsLongExprAt text a → IsLongExprAt text b → a ≡ b
same_long text a b f g =
    let e : f.index ≡ g.index = same_unless f.index g.index (no_earlier text a b f g) (no_earlier text b a g f) in
    f.stands ∙ ap (offset_of (length text) (words_of text)) e ∙ sym g.stands

no_syntax : (text : List ℕ) (a : ℕ) → IsShortQuery (tokens_of text) → IsSyntaxAt text a → ⊥
no_syntax text a q f = no_fault (tokens_of text) (drop f.index (tokens_of text)) (q.0, q.1) f.fault

no_long : (text : List ℕ) (a : ℕ) → IsShortQuery (tokens_of text) → IsLongExprAt text a → ⊥
no_long text a q f = long_clash (tokens_of text) q (suc f.index) f.long

not_both : (text : List ℕ) (a b : ℕ) → IsSyntaxAt text a → IsLongExprAt text b → ⊥
not_both text a b f g = f.short (suc g.index) g.long

pub one_answer : (text : List ℕ) (a b : Option Fault) → IsAnswer text a → IsAnswer text b → a ≡ b
one_answer text None None f g = refl
one_answer text None (Some (Syntax b)) f g = absurd (no_syntax text b f g)
one_answer text None (Some (LongExpr b)) f g = absurd (no_long text b f g)
one_answer text (Some (Syntax a)) None f g = absurd (no_syntax text a g f)
one_answer text (Some (LongExpr a)) None f g = absurd (no_long text a g f)
one_answer text (Some (Syntax a)) (Some (Syntax b)) f g = ap (λ x. Some (Syntax x)) (same_syntax text a b f g)
one_answer text (Some (Syntax a)) (Some (LongExpr b)) f g = absurd (not_both text a b f g)
one_answer text (Some (LongExpr a)) (Some (Syntax b)) f g = absurd (not_both text b a g f)
one_answer text (Some (LongExpr a)) (Some (LongExpr b)) f g = ap (λ x. Some (LongExpr x)) (same_long text a b f g)

-- some answer of a text
pub record Answered (text : List ℕ) : Type 0 where
  pub answer : Option Fault
  pub is : IsAnswer text answer

pub answered : (text : List ℕ) → Answered text
answered text = here (first_long 0 (map spot_kind (words_of text))) refl
  where
    short : (p : Option ℕ) → p ≡ place start (map spot_kind (words_of text)) → first_long 0 (map spot_kind (words_of text)) ≡ None → Answered text
    short None e f = record { answer = None; is = short_query text f e }
    short (Some i) e f = record { answer = Some (Syntax (offset_of (length text) (words_of text) i)); is = short_syntax text i _ f e refl }

    long : (j : ℕ) (p : Option ℕ) → p ≡ place start (map spot_kind (take (suc j) (words_of text))) → first_long 0 (map spot_kind (words_of text)) ≡ Some j → j < length (words_of text) → Answered text
    long j None e f l = record { answer = Some (LongExpr (offset_of (length text) (words_of text) j)); is = long_expr text None j _ f l e (λ i g. cc) refl }
    long j (Some i) e f l = near (nat_le i j) refl
      where
        near : (x : Bool) → nat_le i j ≡ x → Answered text
        near true g = record { answer = Some (Syntax (offset_of (length text) (words_of text) i)); is = long_syntax text i j _ f l e (grind (arith, nat_tests)) refl }
        near false g = record { answer = Some (LongExpr (offset_of (length text) (words_of text) j)); is = long_expr text (Some i) j _ f l e (λ k h. let q : i ≡ k = cc in let r : j < i = grind (arith, nat_tests) in omega arith) refl }

    here : (r : Option ℕ) → first_long 0 (map spot_kind (words_of text)) ≡ r → Answered text
    here None f = short (place start (map spot_kind (words_of text))) refl f
    here (Some j) f = long j (place start (map spot_kind (take (suc j) (words_of text)))) refl f (long_within (words_of text) (Some j) j (sym f) refl)
