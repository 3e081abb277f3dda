-- The fault of a text, from where the machine stops and where the first long run is.
use Rattle.std.proofs.Common.{Bool, true, false, if◌then◌else◌, nat_lt, ◌≡◌, ℕ, suc, ◌+◌, ◌<◌, ◌≤◌, Option, Some, None, option_map, List, [], ◌∷◌, ◌++◌, length, take, drop, map, get_or, refl, ap, sym, subst, ◌∙◌, arith, append-nil, take-append-drop, length-take-le}
use Rattle.std.specs.List.{take-map}
use Rattle.std.proofs.lemmas.List.{drop_all, length-map}
use Rattle.query_text.specs.declared.word.Spot.{Spot}
use Rattle.query_text.specs.Words.{words_of}
use Rattle.query_text.specs.declared.kind.Kind.{Kind}
use Rattle.query_text.specs.declared.symbol.Symbol.{Symbol}
use Rattle.query_text.specs.Token.{Token, kind, token_of, tokens_of}
use Rattle.query_text.specs.Machine.{after, stuck, start}
use Rattle.query_text.specs.Fault.{IsFront}
use Rattle.query_text.specs.Limit.{IsShortQuery}
use Rattle.query_text.specs.Parsing.{place, place_then, spot_kind, run_after, first_long}
use Rattle.query_text.specs.Answer.{offset_of, IsSyntaxAt, IsLongExprAt}
use Rattle.query_text.proofs.Stops.{fault_of}
use Rattle.query_text.proofs.Places.{offset_within, kinds_of, fault_at, answer_none, FoundAt, found_at}
use Rattle.query_text.proofs.Long.{Finds, finds, never_long, first_is, within_short, fault_first, front_long}

-- what comes behind the place where the machine stops does not move it
place_append : (k : List Symbol) (xs ys : List Kind) (i : ℕ) → place k xs ≡ Some i → i < length xs → place k (xs ++ ys) ≡ Some i
unfolding place
place_append k [] ys i e h = absurd (omega arith)
place_append k (x ∷ xs) ys i e h = here (after k x) e (λ k' j f l. place_append k' xs ys j f l)
  where
    more : (p q : Option ℕ) → option_map (λ n. suc n) p ≡ Some i → ((j : ℕ) → p ≡ Some j → j < length xs → q ≡ Some j) → option_map (λ n. suc n) q ≡ Some i
    more None q e g = cc
    more (Some j) q e g = let f : suc j ≡ i = cc in rw (g j refl (omega arith)) (ap (λ x. Some x) f)

    here : (a : Option (List Symbol)) → place_then (λ k'. place k' xs) a ≡ Some i → ((k' : List Symbol) (j : ℕ) → place k' xs ≡ Some j → j < length xs → place k' (xs ++ ys) ≡ Some j) → place_then (λ k'. place k' (xs ++ ys)) a ≡ Some i
    here None e g = e
    here (Some k') e g = more (place k' xs) (place k' (xs ++ ys)) e (g k')

text_finds : (text : List ℕ) (r : Option ℕ) → first_long 0 (map spot_kind (words_of text)) ≡ r → Finds 0 (tokens_of text) r
text_finds text r e = subst (Finds 0 (tokens_of text)) (ap (first_long 0) (kinds_of text (words_of text)) ∙ e) (finds 0 (tokens_of text) (omega arith))

-- a text without a long run
pub short_query : (text : List ℕ) → first_long 0 (map spot_kind (words_of text)) ≡ None → None ≡ place start (map spot_kind (words_of text)) → IsShortQuery (tokens_of text)
short_query text f e =
    let q = answer_none (tokens_of text) (e ∙ ap (place start) (sym (kinds_of text (words_of text)))) in
    (q.0, q.1, within_short q.0 (tokens_of text) q.1 (text_finds text None f))

pub short_syntax : (text : List ℕ) (i at : ℕ) → first_long 0 (map spot_kind (words_of text)) ≡ None → Some i ≡ place start (map spot_kind (words_of text)) → at ≡ offset_of (length text) (words_of text) i → IsSyntaxAt text at
short_syntax text i at f e s = let g = fault_at text i e in record { index = i; within = g.0; stands = s; fault = g.1; short = never_long (tokens_of text) (text_finds text None f) }

-- a text with a long run, whose front up to it has a fault
seen_place : (text : List ℕ) (i j : ℕ) → Some i ≡ place start (map spot_kind (take (suc j) (words_of text))) → i < length (take (suc j) (words_of text)) → Some i ≡ place start (map spot_kind (words_of text))
seen_place text i j e l =
    let words = words_of text in
    let whole : map spot_kind (take (suc j) words) ++ drop (suc j) (map spot_kind words) ≡ map spot_kind words = ap (λ z. z ++ drop (suc j) (map spot_kind words)) (sym (take-map spot_kind (suc j) words)) ∙ take-append-drop (suc j) (map spot_kind words) in
    sym (place_append start (map spot_kind (take (suc j) words)) (drop (suc j) (map spot_kind words)) i (sym e) (omega (arith, length-map (take (suc j) words) spot_kind))) ∙ ap (place start) whole

tokens_length : (text : List ℕ) → length (tokens_of text) ≡ length (words_of text)
tokens_length text = length-map (words_of text) (token_of text)

pub long_syntax : (text : List ℕ) (i j at : ℕ) → first_long 0 (map spot_kind (words_of text)) ≡ Some j → j < length (words_of text) → Some i ≡ place start (map spot_kind (take (suc j) (words_of text))) → i ≤ j
    → at ≡ offset_of (length text) (words_of text) i → IsSyntaxAt text at
long_syntax text i j at f w e l s =
    let g = fault_at text i (seen_place text i j e (omega (arith, length-take-le (suc j) (words_of text) w))) in
    let t = text_finds text (Some j) f in
    record { index = i; within = g.0; stands = s; fault = g.1; short = fault_first (tokens_of text) i j g.1 (omega (arith, tokens_length text)) l t.2 }

-- what the machine reads to its end begins a query
reads_front : (ts : List Token) (p : Option ℕ) → p ≡ place start (map kind ts) → ((i : ℕ) → p ≡ Some i → length ts ≤ i) → IsFront ts
reads_front ts None e h = let q = answer_none ts e in record { query = q.0; rest = []; begins = q.1 ∙ sym (append-nil ts) }
reads_front ts (Some i) e h = here (place start (map kind ts)) (sym e) (found_at start ts)
  where
    here : (p : Option ℕ) → p ≡ Some i → FoundAt ts p (stuck start ts) → IsFront ts
    here None e f = cc
    here (Some j) e f =
        let q : j ≡ i = cc in
        let nothing : drop j ts ≡ [] = rw q (drop_all i ts (h i refl)) in
        let g = fault_of ts [] (f.1 ∙ ap (λ z. Some z) nothing) in
        subst IsFront (sym (g.whole ∙ append-nil g.front)) g.good

pub long_expr : (text : List ℕ) (p : Option ℕ) (j at : ℕ) → first_long 0 (map spot_kind (words_of text)) ≡ Some j → j < length (words_of text) → p ≡ place start (map spot_kind (take (suc j) (words_of text)))
    → ((i : ℕ) → p ≡ Some i → j < i) → at ≡ offset_of (length text) (words_of text) j → IsLongExprAt text at
long_expr text p j at f w e h s =
    let t = text_finds text (Some j) f in
    let seen : map kind (take (suc j) (tokens_of text)) ≡ map spot_kind (take (suc j) (words_of text)) = sym (take-map kind (suc j) (tokens_of text)) ∙ ap (take (suc j)) (kinds_of text (words_of text)) ∙ take-map spot_kind (suc j) (words_of text) in
    let front = reads_front (take (suc j) (tokens_of text)) p (e ∙ ap (place start) (sym seen)) (λ i q. let l = h i q in omega (arith, length-take-le (suc j) (tokens_of text) (omega (arith, tokens_length text)))) in
    record { index = j; within = t.0; stands = s; long = front_long (tokens_of text) j t.0 t.1 front; first = first_is (tokens_of text) j t.2 }

pub long_syntax_at : (text : List ℕ) (words : List Spot) (i j : ℕ) (d : Spot) (p : Option ℕ) → words ≡ words_of text → first_long 0 (map spot_kind words) ≡ Some j → j < length words
    → p ≡ place start (map spot_kind (take (j + 1) words)) → p ≡ Some i → i ≤ j → IsSyntaxAt text (get_or words i d).at
long_syntax_at text words i j d p w f l e s h =
    let n : j + 1 ≡ suc j = omega arith in
    long_syntax text i j (get_or words i d).at (rw (← w) f) (rw (← w) l) (sym s ∙ e ∙ ap (λ k. place start (map spot_kind (take k words))) n ∙ ap (λ x. place start (map spot_kind (take (suc j) x))) w) h
    (ap (λ x. (get_or x i d).at) w ∙ offset_within (length text) i (words_of text) d (omega (arith, ap length w)))

pub long_expr_at : (text : List ℕ) (words : List Spot) (j : ℕ) (d : Spot) (p : Option ℕ) → words ≡ words_of text → first_long 0 (map spot_kind words) ≡ Some j → j < length words
    → p ≡ place start (map spot_kind (take (j + 1) words)) → ((i : ℕ) → p ≡ Some i → j < i) → IsLongExprAt text (get_or words j d).at
long_expr_at text words j d p w f l e h =
    let n : j + 1 ≡ suc j = omega arith in
    long_expr text p j (get_or words j d).at (rw (← w) f) (rw (← w) l) (e ∙ ap (λ k. place start (map spot_kind (take k words))) n ∙ ap (λ x. place start (map spot_kind (take (suc j) x))) w) h
    (ap (λ x. (get_or x j d).at) w ∙ offset_within (length text) j (words_of text) d (omega (arith, ap length w)))

pub behind : (p : Option ℕ) (k j : ℕ) → p ≡ Some k → j < k → (i : ℕ) → p ≡ Some i → j < i
behind p k j e h i f = let q : k ≡ i = cc in omega arith

pub no_place : (p : Option ℕ) (j : ℕ) → p ≡ None → (i : ℕ) → p ≡ Some i → j < i
no_place p j e i f = cc

-- the first long run is at a word
run_within : (n j : ℕ) (ks : List Kind) → first_long n ks ≡ Some j → j < length ks
unfolding first_long
run_within n j [] e = cc
run_within n j (k ∷ ks) e = here (nat_lt 200 (run_after n k)) e (λ i. run_within (run_after n k) i ks)
  where
    more : (p : Option ℕ) → option_map (λ i. suc i) p ≡ Some j → ((i : ℕ) → p ≡ Some i → i < length ks) → j < suc (length ks)
    more None e g = cc
    more (Some i) e g = let q : suc i ≡ j = cc in let h = g i refl in omega arith

    here : (x : Bool) → (if x then Some 0 else option_map (λ i. suc i) (first_long (run_after n k) ks)) ≡ Some j → ((i : ℕ) → first_long (run_after n k) ks ≡ Some i → i < length ks) → j < suc (length ks)
    here true e g = let q : 0 ≡ j = cc in omega arith
    here false e g = more (first_long (run_after n k) ks) e g

pub long_within : (words : List Spot) (r : Option ℕ) (j : ℕ) → r ≡ first_long 0 (map spot_kind words) → r ≡ Some j → j < length words
long_within words r j e f = let h = run_within 0 j (map spot_kind words) (sym e ∙ f) in omega (arith, length-map words spot_kind)

pub short_query_at : (text : List ℕ) (words : List Spot) (p : Option ℕ) → words ≡ words_of text → first_long 0 (map spot_kind words) ≡ None → p ≡ place start (map spot_kind words) → p ≡ None → IsShortQuery (tokens_of text)
short_query_at text words p w f e s = short_query text (rw (← w) f) (rw (← w) (sym s ∙ e))

pub short_syntax_at : (text : List ℕ) (words : List Spot) (i at : ℕ) (p : Option ℕ) → words ≡ words_of text → first_long 0 (map spot_kind words) ≡ None → p ≡ place start (map spot_kind words) → p ≡ Some i → at ≡ offset_of (length text) words i → IsSyntaxAt text at
short_syntax_at text words i at p w f e s o = short_syntax text i at (rw (← w) f) (rw (← w) (sym s ∙ e)) (rw (← w) o)
