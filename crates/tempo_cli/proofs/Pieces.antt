-- Bytes that are sent in pieces.
use Rattle.std.proofs.Common.{◌≡◌, ◌≤◌, ◌<◌, ◌+◌, ℕ, zero, suc, List, [], ◌∷◌, ◌++◌, length, map, drop, get_or, refl, sym, ◌∙◌, ap, arith, append_assoc, subst}
use Rattle.std.specs.Borrow.{Bor}
use Rattle.std.proofs.lemmas.List.{drop_all}
use Rattle.std.proofs.lemmas.List.Elements.{All-append}
use Rattle.wire_lines.specs.Journal.{Entry, outs, IsOut, SentAll, SentFront}
use Rattle.wire_lines.proofs.Growth.{SentBefore, outs-append}
use Rattle.tempo_cli.specs.Status.{joined_pieces}

-- all of one piece, and then what follows it is still to come
pub piece_sent : (bytes piece rest : List ℕ) (J K : List Entry) → SentBefore bytes (piece ++ rest) J → SentAll piece K → SentBefore bytes rest (J ++ K)
piece_sent bytes piece rest J K p q = record {
  outs_alone = All-append IsOut J K p.outs_alone q.outs_alone;
  so_far = p.so_far ∙ (ap (λ x. outs J ++ (x ++ rest)) (sym q.all) ∙ (sym (append_assoc (outs J) (outs K) rest) ∙ ap (λ x. x ++ rest) (sym (outs-append J K))));
}

-- a prefix of one piece
pub piece_failed : (bytes piece rest : List ℕ) (J K : List Entry) → SentBefore bytes (piece ++ rest) J → SentFront piece K → SentFront bytes (J ++ K)
piece_failed bytes piece rest J K p q = record {
  outs_alone = All-append IsOut J K p.outs_alone q.outs_alone;
  after = q.after ++ rest;
  front = p.so_far ∙ (ap (λ x. outs J ++ (x ++ rest)) q.front ∙ (ap (λ x. outs J ++ x) (append_assoc (outs K) q.after rest)
      ∙ (sym (append_assoc (outs J) (outs K) (q.after ++ rest)) ∙ ap (λ x. x ++ (q.after ++ rest)) (sym (outs-append J K)))));
}

-- the pieces from one on
pub pieces_from : {X : Type 0} (f : X → List ℕ) (xs : List X) (i : ℕ) (d : X) → i < length xs → joined_pieces (map f (drop i xs)) ≡ f (get_or xs i d) ++ joined_pieces (map f (drop (suc i) xs))
pieces_from f [] i d low = absurd (omega arith)
pieces_from f (x ∷ xs) zero d low = refl
pieces_from f (x ∷ xs) (suc i) d low = pieces_from f xs i d (omega arith)

pub pieces_done : {X : Type 0} (f : X → List ℕ) (xs : List X) (i : ℕ) → length xs ≤ i → joined_pieces (map f (drop i xs)) ≡ []
pieces_done f xs i low = ap (λ ys. joined_pieces (map f ys)) (drop_all i xs low)

-- the bytes behind references, one after the other
abbrev pub texts : List (Bor (List ℕ)) → List ℕ
texts ps = joined_pieces (map (λ p. p.now) ps)

pub failed_at : (ps : List (Bor (List ℕ))) (i : ℕ) (d : Bor (List ℕ)) (J K : List Entry) → i < length ps → SentBefore (texts ps) (texts (drop i ps)) J → SentFront (get_or ps i d).now K → SentFront (texts ps) (J ++ K)
failed_at ps i d J K low p s = piece_failed (texts ps) (get_or ps i d).now (texts (drop (suc i) ps)) J K (subst (λ x. SentBefore (texts ps) x J) (pieces_from (λ (q : Bor (List ℕ)). q.now) ps i d low) p) s

pub sent_at : (ps : List (Bor (List ℕ))) (i : ℕ) (d : Bor (List ℕ)) (J K : List Entry) → i < length ps → SentBefore (texts ps) (texts (drop i ps)) J → SentAll (get_or ps i d).now K → SentBefore (texts ps) (texts (drop (i + 1) ps)) (J ++ K)
sent_at ps i d J K low p s =
    let e : suc i ≡ i + 1 = omega arith in
    subst (λ n. SentBefore (texts ps) (texts (drop n ps)) (J ++ K)) e
    (piece_sent (texts ps) (get_or ps i d).now (texts (drop (suc i) ps)) J K (subst (λ x. SentBefore (texts ps) x J) (pieces_from (λ (q : Bor (List ℕ)). q.now) ps i d low) p) s)
