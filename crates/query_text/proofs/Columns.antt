-- A column begins with its name.
use Rattle.std.proofs.Common.{◌≡◌, ◌≤◌, ℕ, List, ◌∷◌, Bool, true, false, ◌&&◌, nat_le, refl, arith}
use Rattle.std.proofs.lemmas.Bool.Decides.{nat_tests}
use Rattle.query_text.specs.declared.word.Sign.TheVariants as S
use Rattle.query_text.specs.Token.{Token, fixed}
use Rattle.query_text.specs.Grammar as G
use Rattle.query_text.specs.Grammar.{col_then}
use Rattle.query_text.specs.Reading.{name_then, places_then}

pub col_free : {X : Type 0} (old : List Token) → ((n : List ℕ) (w : List Token) → old ≡ name_then n w → X) → (c : G.Col) (z : List Token) → old ≡ col_then c z → X
col_free old f (G.int_col n) z e = f n _ e
col_free old f (G.bool_col n) z e = f n _ e
col_free old f (G.text_col n) z e = f n _ e
col_free old f (G.dec_col n p) z e = f n _ e

-- a decimal column, by its word
pub col_dec : (P : G.Col → List Token → Type 0) (old mid new : List Token) (v : List ℕ) → ((n : List ℕ) (w : List Token) → Unit {0} → old ≡ name_then n w → (mid ≡ w) × (v ≡ n)) → mid ≡ fixed S.DecKind ∷ new
    → ((n : List ℕ) (p : G.Places) (z : List Token) → v ≡ n → new ≡ places_then p z → P (G.dec_col n p) z) → (c : G.Col) (z : List Token) → Unit {0} → old ≡ col_then c z → P c z
col_dec P old mid new v f e g (G.dec_col n p) z end h = let u = f n _ tt h in let a = u.0 in let s : new ≡ places_then p z = cc in g n p z u.1 s
col_dec P old mid new v f e g (G.int_col n) z end h = let u = f n _ tt h in let a = u.0 in absurd (cc)
col_dec P old mid new v f e g (G.bool_col n) z end h = let u = f n _ tt h in let a = u.0 in absurd (cc)
col_dec P old mid new v f e g (G.text_col n) z end h = let u = f n _ tt h in let a = u.0 in absurd (cc)

holds_is : (b : Bool) → G.Holds b → b ≡ true
holds_is true h = refl
holds_is false h = absurd h

-- at most 18
pub few_places : (p : G.Places) → p.number ≤ 18
few_places p = let e : (nat_le 1 p.number && nat_le p.number 18) ≡ true = holds_is (G.is_places p.number) p.few in grind (arith, nat_tests)
