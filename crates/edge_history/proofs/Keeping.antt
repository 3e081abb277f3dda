-- The rule of edges, edge after edge.
use Rattle.std.proofs.Common.{◌≡◌, ◌≤◌, ◌<◌, ℕ, ◌+◌, List, [], ◌∷◌, ◌++◌, length, get_or, drop, take, subst, arith, sym, ◌∙◌, drop-cons, add-one}
use Rattle.std.specs.Prelude.{All, ◌↔◌}
use Rattle.std.proofs.lemmas.List.Elements.{All-nil, All-cons, All-head, All-tail}
use Rattle.std.proofs.lemmas.List.{take-append-drop, take_more}
use Rattle.tw_rows.specs.declared.edge.Edge.{Edge}
use Rattle.edge_history.specs.Order.{rank, Rises, IsReal, KeepsOrder}
use Rattle.edge_history.proofs.Rising.{Rises-front, Rises-back}

-- the edges keep the rule from a rank on
pub record Goes (least : ℕ) (es : List Edge) : Type 0 where
  pub rises : Rises least es
  pub real : All IsReal es

pub Goes-nil : (least : ℕ) → Goes least []
Goes-nil least = record { rises = tt; real = All-nil IsReal }

pub Goes-cons : (least : ℕ) (e : Edge) (es : List Edge) → least ≤ rank e → IsReal e → Goes (rank e) es → Goes least (e ∷ es)
Goes-cons least e es le real rest = record { rises = (le, rest.rises); real = All-cons IsReal e es real rest.real }

pub Goes-low : (least : ℕ) (e : Edge) (es : List Edge) → Goes least (e ∷ es) → least ≤ rank e
Goes-low least e es h = h.rises.0

pub Goes-real : (least : ℕ) (e : Edge) (es : List Edge) → Goes least (e ∷ es) → IsReal e
Goes-real least e es h = All-head IsReal e es h.real

pub Goes-rest : (least : ℕ) (e : Edge) (es : List Edge) → Goes least (e ∷ es) → Goes (rank e) es
Goes-rest least e es h = record { rises = h.rises.1; real = All-tail IsReal e es h.real }

-- a part of a list that keeps the rule keeps it
All-left : {X : Type 0} (P : X → Type 0) (xs ys : List X) → All P (xs ++ ys) → All P xs
All-left P [] ys h = All-nil P
All-left P (x ∷ xs) ys h = All-cons P x xs (All-head P x (xs ++ ys) h) (All-left P xs ys (All-tail P x (xs ++ ys) h))

All-right : {X : Type 0} (P : X → Type 0) (xs ys : List X) → All P (xs ++ ys) → All P ys
All-right P [] ys h = h
All-right P (x ∷ xs) ys h = All-right P xs ys (All-tail P x (xs ++ ys) h)

pub KeepsOrder-nil : KeepsOrder []
KeepsOrder-nil = record { rises = tt; real = All-nil IsReal }

pub KeepsOrder-front : (xs ys : List Edge) → KeepsOrder (xs ++ ys) → KeepsOrder xs
KeepsOrder-front xs ys h = record { rises = Rises-front 0 xs ys h.rises; real = All-left IsReal xs ys h.real }

pub KeepsOrder-back : (xs ys : List Edge) → KeepsOrder (xs ++ ys) → KeepsOrder ys
KeepsOrder-back xs ys h = record { rises = Rises-back 0 xs ys h.rises; real = All-right IsReal xs ys h.real }

pub KeepsOrder-take : (n : ℕ) (es : List Edge) → KeepsOrder es → KeepsOrder (take n es)
KeepsOrder-take n es h = KeepsOrder-front (take n es) (drop n es) (subst KeepsOrder (sym (take-append-drop n es)) h)

pub KeepsOrder-next : (es xs : List Edge) (i : ℕ) (e : Edge) → i < length es → e ≡ get_or es i e → xs ≡ take i es → KeepsOrder es → KeepsOrder (xs ++ e ∷ [])
KeepsOrder-next es xs i e lt is so_far h =
    let one_more : take (i + 1) es ≡ xs ++ e ∷ [] = take_more es i e lt ∙ (λ j. sym so_far j ++ sym is j ∷ []) in
    subst KeepsOrder one_more (KeepsOrder-take (i + 1) es h)

-- one edge is looked at
pub Goes-step : (es : List Edge) (i least n : ℕ) (e : Edge) → i < length es → e ≡ get_or es i e → n ≡ rank e → least ≤ n → IsReal e → (Goes least (drop i es) ↔ KeepsOrder es) → Goes n (drop (i + 1) es) ↔ KeepsOrder es
Goes-step es i least n e lt is rank_is le real so_far =
    let here : drop i es ≡ e ∷ drop (i + 1) es = drop-cons es i e lt ∙ (λ j. sym is j ∷ drop (sym (add-one i) j) es) in
    let le' : least ≤ rank e = omega (arith, le, rank_is) in (
      λ rest. so_far.0 (subst (Goes least) (sym here) (Goes-cons least e (drop (i + 1) es) le' real (subst (λ m. Goes m (drop (i + 1) es)) rank_is rest))),
      λ whole. subst (λ m. Goes m (drop (i + 1) es)) (sym rank_is) (Goes-rest least e (drop (i + 1) es) (subst (Goes least) here (so_far.1 whole))),
    )
