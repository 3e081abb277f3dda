-- What is free in pools while columns are taken and given one after another.
use Rattle.std.proofs.Common.{◌≡◌, ℕ, ◌+◌, ◌-◌, ◌<◌, ◌≤◌, min, List, [], ◌∷◌, ◌++◌, map, length, take, get_or, Result, Ok, Err, OnErr, refl, ap, sym, ◌∙◌, subst, arith}
use Rattle.std.specs.Prelude.{All}
use Rattle.std.proofs.lemmas.List.{map-append, take_more, take-map, length-append, get_or_append_left}
use Rattle.tw_rows.specs.Kinds.{cell_kind_of}
use Rattle.tw_rows.specs.declared.kind.Kind.{Kind}
use Rattle.batch.specs.declared.payload.Payload.{Payload}
use Rattle.batch.specs.Payloads.{payload_kind, payload_capacity}
use Rattle.tw_rows.specs.declared.kind.CellKind.{CellKind}
use Rattle.tw_rows.specs.declared.kind.CellKind.TheVariants.{Whole, Bit, Place}
use Rattle.batch.specs.PoolsView.{PoolsView, taken, given, all_taken, all_given, first_taken, IsPartTaken, AreSomeTaken, NoMore}

pub all_taken-push : (s : PoolsView) (ks : List CellKind) (k : CellKind) → all_taken s (ks ++ k ∷ []) ≡ taken (all_taken s ks) k
all_taken-push s [] k = refl
all_taken-push s (j ∷ ks) k = all_taken-push (taken s j) ks k

pub all_given-push : (s : PoolsView) (ks : List CellKind) (k : CellKind) → all_given s (ks ++ k ∷ []) ≡ all_given (given s k) ks
all_given-push s [] k = refl
all_given-push s (j ∷ ks) k = ap (λ t. given t j) (all_given-push s ks k)

pub NoMore-refl : (s : PoolsView) → NoMore s s
NoMore-refl s = record { words = omega arith; ints = omega arith; bits = omega arith; occupancies = omega arith; limit = refl; capacity = refl }

pub NoMore-trans : (a b c : PoolsView) → NoMore a b → NoMore b c → NoMore a c
NoMore-trans a b c p q = record {
  words = omega (arith, p.words, q.words);
  ints = omega (arith, p.ints, q.ints);
  bits = omega (arith, p.bits, q.bits);
  occupancies = omega (arith, p.occupancies, q.occupancies);
  limit = q.limit ∙ p.limit;
  capacity = q.capacity ∙ p.capacity;
}

pub NoMore-taken : (s : PoolsView) (k : CellKind) → NoMore s (taken s k)
NoMore-taken s Whole = record { words = omega arith; ints = omega arith; bits = omega arith; occupancies = omega arith; limit = refl; capacity = refl }
NoMore-taken s Bit = record { words = omega arith; ints = omega arith; bits = omega arith; occupancies = omega arith; limit = refl; capacity = refl }
NoMore-taken s Place = record { words = omega arith; ints = omega arith; bits = omega arith; occupancies = omega arith; limit = refl; capacity = refl }

pub NoMore-all : (s : PoolsView) (ks : List CellKind) → NoMore s (all_taken s ks)
NoMore-all s [] = NoMore-refl s
NoMore-all s (k ∷ ks) = NoMore-trans s (taken s k) (all_taken (taken s k) ks) (NoMore-taken s k) (NoMore-all (taken s k) ks)

pub given-capacity : (s : PoolsView) (k : CellKind) → (given s k).capacity ≡ s.capacity
given-capacity s Whole = refl
given-capacity s Bit = refl
given-capacity s Place = refl

pub kinds_next : (ks : List Kind) (n : ℕ) (d : Kind) (k : CellKind) → n < length ks → k ≡ cell_kind_of (get_or ks n d) → map cell_kind_of (take (n + 1) ks) ≡ map cell_kind_of (take n ks) ++ k ∷ []
kinds_next ks n d k lt e =
    ap (map cell_kind_of) (take_more ks n d lt) ∙ map-append cell_kind_of (take n ks) (get_or ks n d ∷ []) ∙ ap (λ x. map cell_kind_of (take n ks) ++ x ∷ []) (sym e)

-- columns that were taken one after another, and one more
pub some_told : (a b c : PoolsView) (ks : List Kind) (n : ℕ) (d : Kind) (k : CellKind) → n < length ks → k ≡ cell_kind_of (get_or ks n d) →
    b ≡ all_taken a (map cell_kind_of (take n ks)) → c ≡ taken b k → AreSomeTaken a c (map cell_kind_of ks)
some_told a b c ks n d k lt is so_far one = record {
  count = n + 1;
  is = one ∙ ap (λ s. taken s k) so_far ∙ sym (all_taken-push a (map cell_kind_of (take n ks)) k)
      ∙ ap (all_taken a) (sym (kinds_next ks n d k lt is) ∙ sym (take-map cell_kind_of (n + 1) ks));
}

-- some first columns of words
pub words_told : (a b : PoolsView) (kinds : List CellKind) (n : ℕ) → n ≤ 4 → b ≡ record a { words = a.words - n } → IsPartTaken a b kinds
words_told a b kinds n few is =
    let words_left : a.words - min n 4 ≡ a.words - n = omega arith in
    let all_left : a.occupancies - min (n - 4) 1 ≡ a.occupancies = omega arith in
    let no_kind : n - 5 ≡ 0 = omega arith in
    record {
      count = n;
      is = is ∙ sym ((λ i. all_taken (record a { words = words_left i; occupancies = all_left i }) (take (no_kind i) kinds)));
    }

pub one_word_more : (a b c : PoolsView) (n m : ℕ) → n + 1 ≡ m → b ≡ record a { words = a.words - n } → c ≡ taken b Place → c ≡ record a { words = a.words - m }
one_word_more a b c n m e is one =
    let next : a.words - n - 1 ≡ a.words - m = omega (arith, e) in
    let with_words : ℕ → PoolsView = (λ w. record a { words = w }) in
    one ∙ ap (λ s. taken s Place) is ∙ ap with_words next

-- the columns of words, the bit vector, and some first payload columns
pub payload_told : (a b c : PoolsView) (kinds : List CellKind) → b ≡ record a { words = a.words - 4; occupancies = a.occupancies - 1 } → AreSomeTaken b c kinds → IsPartTaken a c kinds
payload_told a b c kinds is some =
    let n = some.count in
    let four : min (5 + n) 4 ≡ 4 = omega arith in
    let one : min (5 + n - 4) 1 ≡ 1 = omega arith in
    let rest : 5 + n - 5 ≡ n = omega arith in
    record {
      count = 5 + n;
      is = some.is ∙ ap (λ s. all_taken s (take n kinds)) is ∙ sym ((λ i. all_taken (record a { words = a.words - four i; occupancies = a.occupancies - one i }) (take (rest i) kinds)));
    }

-- what is left once a part is taken is no more than there was
pub NoMore-part : (a b : PoolsView) (kinds : List CellKind) → IsPartTaken a b kinds → NoMore a b
NoMore-part a b kinds part =
    let first : PoolsView = record a { words = a.words - min part.count 4; occupancies = a.occupancies - min (part.count - 4) 1 } in
    subst (NoMore a) (sym part.is)
    (NoMore-trans a first (first_taken part.count a kinds)
    (record { words = omega arith; ints = omega arith; bits = omega arith; occupancies = omega arith; limit = refl; capacity = refl })
    (NoMore-all first (take (part.count - 5) kinds)))

pub always : {A E : Type 0} (r : Result A E) (P : Type 0) → P → OnErr r P
always (Ok x) P p = tt
always (Err e) P p = p

pub columns_next : (ps new : List Payload) (p : Payload) (k : CellKind) → new ≡ ps ++ p ∷ [] → payload_kind p ≡ k → map payload_kind new ≡ map payload_kind ps ++ k ∷ []
columns_next ps new p k e is = ap (map payload_kind) e ∙ map-append payload_kind ps (p ∷ []) ∙ ap (λ x. map payload_kind ps ++ x ∷ []) is

-- the columns before the last one are of the capacity too
pub room_left : (xs old : List Payload) (x : Payload) (m n : ℕ) → old ≡ xs ++ x ∷ [] → n ≡ m → All (λ p. payload_capacity p ≡ m) old → All (λ p. payload_capacity p ≡ n) xs
room_left xs old x m n e same all k d lt =
    let long = length-append xs (x ∷ []) in
    let long' = ap length e in
    ap payload_capacity (sym (get_or_append_left xs (x ∷ []) d k lt)) ∙ ap (λ l. payload_capacity (get_or l k d)) (sym e) ∙ all k d (omega (arith, lt, long, long')) ∙ sym same
