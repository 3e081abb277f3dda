-- The place where the machine stops.
use Rattle.std.proofs.Common.{◌≡◌, ◌≤◌, ◌<◌, ℕ, zero, suc, List, [], ◌∷◌, length, drop, map, get_or, Bool, true, false, cond, Option, Some, None, refl, ap, sym, ◌∙◌, arith, option_map}
use Rattle.query_text.specs.declared.word.Word.{Word}
use Rattle.query_text.specs.declared.word.Word.TheVariants as W
use Rattle.query_text.specs.declared.word.Spot.{Spot}
use Rattle.query_text.specs.Words.{words_of}
use Rattle.query_text.specs.declared.symbol.Symbol.{Symbol}
use Rattle.query_text.specs.Token.{Token, kind, token_at, token_of, tokens_of, word_kind}
use Rattle.query_text.specs.Machine.{after, all_may_end, stuck, stuck_then, start}
use Rattle.query_text.specs.Fault.{IsFault, IsQuery}
use Rattle.query_text.specs.Parsing.{place, place_then, spot_kind}
use Rattle.query_text.specs.Answer.{offset_of}
use Rattle.query_text.proofs.Stops.{read_query, fault_of}

-- the tokens from the place on
abbrev pub FoundAt : List Token → Option ℕ → Option (List Token) → Type 0
FoundAt ts None found = found ≡ None
FoundAt ts (Some i) found = (i ≤ length ts) × (found ≡ Some (drop i ts))

found_then : (t : Token) (ts : List Token) (k : Option (List Symbol)) → ((k' : List Symbol) → FoundAt ts (place k' (map kind ts)) (stuck k' ts))
    → FoundAt (t ∷ ts) (place_then (λ k'. place k' (map kind ts)) k) (stuck_then (λ k'. stuck k' ts) k (t ∷ ts))
found_then t ts None h = (omega arith, refl)
found_then t ts (Some k) h = more (place k (map kind ts)) (h k)
  where
    more : (p : Option ℕ) → FoundAt ts p (stuck k ts) → FoundAt (t ∷ ts) (option_map (λ n. suc n) p) (stuck k ts)
    more None f = f
    more (Some i) f = (let g = f.0 in omega arith, f.1)

pub found_at : (k : List Symbol) (ts : List Token) → FoundAt ts (place k (map kind ts)) (stuck k ts)
unfolding place stuck
found_at k [] = ends (all_may_end k)
  where
    ends : (b : Bool) → FoundAt [] (cond b None (Some 0)) (cond b None (Some []))
    ends true = refl
    ends false = (omega arith, refl)
found_at k (t ∷ ts) = found_then t ts (after k (kind t)) (λ k'. found_at k' ts)

kind_at : (text : List ℕ) (at : ℕ) (w : Word) → kind (token_at text at w) ≡ word_kind w
kind_at text at (W.Name n) = refl
kind_at text at (W.Number n) = refl
kind_at text at (W.Decimal u p) = refl
kind_at text at (W.Quoted n) = refl
kind_at text at (W.Fixed s) = refl
kind_at text at W.Bad = refl

pub kinds_of : (text : List ℕ) (spots : List Spot) → map kind (map (token_of text) spots) ≡ map spot_kind spots
kinds_of text [] = refl
kinds_of text (s ∷ ss) = ap (λ k. k ∷ map kind (map (token_of text) ss)) (kind_at text s.at s.word) ∙ ap (λ ks. spot_kind s ∷ ks) (kinds_of text ss)

-- the place of the text's fault among its words
pub fault_at : (text : List ℕ) (i : ℕ) → Some i ≡ place start (map spot_kind (words_of text)) → (i ≤ length (tokens_of text)) × IsFault (tokens_of text) (drop i (tokens_of text))
fault_at text i e = here (place start (map kind (tokens_of text))) (ap (place start) (kinds_of text (words_of text)) ∙ sym e) (found_at start (tokens_of text))
  where
    here : (p : Option ℕ) → p ≡ Some i → FoundAt (tokens_of text) p (stuck start (tokens_of text)) → (i ≤ length (tokens_of text)) × IsFault (tokens_of text) (drop i (tokens_of text))
    here None e f = cc
    here (Some j) e f = let q : j ≡ i = cc in rw (← q) (f.0, fault_of (tokens_of text) (drop j (tokens_of text)) f.1)

-- a text without a fault spells a query
pub answer_none : (ts : List Token) → None ≡ place start (map kind ts) → IsQuery ts
answer_none ts e = read_query ts (here (place start (map kind ts)) (sym e) (found_at start ts))
  where
    here : (p : Option ℕ) → p ≡ None → FoundAt ts p (stuck start ts) → stuck start ts ≡ None
    here None e f = f
    here (Some i) e f = cc

pub offset_within : (end i : ℕ) (spots : List Spot) (d : Spot) → i < length spots → (get_or spots i d).at ≡ offset_of end spots i
offset_within end i [] d h = absurd (omega arith)
offset_within end zero (s ∷ ss) d h = refl
offset_within end (suc i) (s ∷ ss) d h = offset_within end i ss d (omega arith)

pub offset_behind : (end i : ℕ) (spots : List Spot) → length spots ≤ i → end ≡ offset_of end spots i
offset_behind end i [] h = refl
offset_behind end zero (s ∷ ss) h = absurd (omega arith)
offset_behind end (suc i) (s ∷ ss) h = offset_behind end i ss (omega arith)
