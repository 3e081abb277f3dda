-- What the reader does word by word.
use Rattle.std.proofs.Common.{◌≡◌, ◌≤◌, ◌<◌, ◌+◌, ℕ, suc, List, [], ◌∷◌, length, drop, map, get_or, Bool, true, false, Option, Some, None, refl, ap, sym, ◌∙◌, arith, option_map, drop-cons, add-one, nat_lt, if◌then◌else◌}
use Rattle.std.proofs.lemmas.Bool.{lt-ltb, le-ltb}
use Rattle.std.proofs.lemmas.List.{drop_all}
use Rattle.query_text.specs.declared.word.Spot.{Spot}
use Rattle.query_text.specs.declared.kind.Kind.{Kind}
use Rattle.query_text.specs.declared.symbol.Symbol.{Symbol}
use Rattle.query_text.specs.declared.stack.Taken.{Taken}
use Rattle.query_text.specs.declared.stack.Taken.TheVariants as R
use Rattle.query_text.specs.Machine.{Choice, take, skip, no, pushed, choose, after, all_may_end}
use Rattle.query_text.specs.Parsing.{Did, Reads, place, spot_kind, run_after, first_long}

pushed_word : (c : Choice) (rest new : List Symbol) (x : Option (List Symbol)) → Did c R.Word rest new → pushed c rest x ≡ Some new
pushed_word (take g) rest new x d = ap (λ z. Some z) (sym d)
pushed_word skip rest new x d = absurd d
pushed_word no rest new x d = absurd d

pushed_nothing : (c : Choice) (t : Kind) (rest new : List Symbol) → Did c R.Nothing rest new → pushed c rest (after rest t) ≡ after new t
pushed_nothing (take g) t rest new d = absurd d
pushed_nothing skip t rest new d = rw d refl
pushed_nothing no t rest new d = absurd d

pushed_stop : (c : Choice) (rest new : List Symbol) (x : Option (List Symbol)) → Did c R.Stop rest new → pushed c rest x ≡ None
pushed_stop (take g) rest new x d = absurd d
pushed_stop skip rest new x d = absurd d
pushed_stop no rest new x d = refl

pub read_word : (s : Symbol) (t : Kind) (k rest new : List Symbol) (x : Taken) → k ≡ s ∷ rest → x ≡ R.Word → Did (choose s t) x rest new → after k t ≡ Some new
unfolding after
read_word s t k rest new x e f d = rw e (pushed_word (choose s t) rest new (after rest t) (rw (← f) d))

pub read_nothing : (s : Symbol) (t : Kind) (k rest new : List Symbol) (x : Taken) → k ≡ s ∷ rest → x ≡ R.Nothing → Did (choose s t) x rest new → after k t ≡ after new t
unfolding after
read_nothing s t k rest new x e f d = rw e (pushed_nothing (choose s t) t rest new (rw (← f) d))

pub read_stop : (s : Symbol) (t : Kind) (k rest new : List Symbol) (x : Taken) → k ≡ s ∷ rest → x ≡ R.Stop → Did (choose s t) x rest new → after k t ≡ None
unfolding after
read_stop s t k rest new x e f d = rw e (pushed_stop (choose s t) rest new (after rest t) (rw (← f) d))

pub read_empty : (t : Kind) (k : List Symbol) → k ≡ [] → after k t ≡ None
unfolding after
read_empty t k e = rw e refl

-- the kinds from a word on
pub kinds_at : (spots : List Spot) (at : ℕ) (d : Spot) → at < length spots → map spot_kind (drop at spots) ≡ spot_kind (get_or spots at d) ∷ map spot_kind (drop (at + 1) spots)
kinds_at spots at d h = rw (drop-cons spots at d h, add-one at) refl

-- the word can't come
pub stops_here : (k new : List Symbol) (t : Kind) (spots : List Spot) (at : ℕ) (d : Spot) (all : Option ℕ) (b : Bool) → at < length spots → t ≡ spot_kind (get_or spots at d) → b ≡ false → Reads b (after k t) new
    → option_map (λ n. at + n) (place k (map spot_kind (drop at spots))) ≡ all → Some at ≡ all
unfolding place
stops_here k new t spots at d all b h e f r w =
    let g : after k (spot_kind (get_or spots at d)) ≡ None = rw (← e) (fails b f r) in
    let p : option_map (λ n. at + n) (place k (map spot_kind (drop at spots))) ≡ Some (at + 0) = rw (kinds_at spots at d h, g) refl in
    let z : at + 0 ≡ at = omega arith in
    ap (λ x. Some x) (sym z) ∙ sym p ∙ w
  where
    fails : (b : Bool) → b ≡ false → Reads b (after k t) new → after k t ≡ None
    fails true e r = cc
    fails false e r = r

pub shifted : (at : ℕ) (p : Option ℕ) → option_map (λ n. at + 1 + n) p ≡ option_map (λ n. at + n) (option_map (λ n. suc n) p)
shifted at None = refl
shifted at (Some n) = let e : at + 1 + n ≡ at + suc n = omega arith in ap (λ x. Some x) e

-- the word can come
pub goes_on : (k new : List Symbol) (t : Kind) (spots : List Spot) (at : ℕ) (d : Spot) (all : Option ℕ) (b : Bool) → at < length spots → t ≡ spot_kind (get_or spots at d) → b ≡ true → Reads b (after k t) new
    → option_map (λ n. at + n) (place k (map spot_kind (drop at spots))) ≡ all → option_map (λ n. at + 1 + n) (place new (map spot_kind (drop (at + 1) spots))) ≡ all
unfolding place
goes_on k new t spots at d all b h e f r w =
    let g : after k (spot_kind (get_or spots at d)) ≡ Some new = rw (← e) (reads b f r) in
    let p : option_map (λ n. at + n) (place k (map spot_kind (drop at spots))) ≡ option_map (λ n. at + n) (option_map (λ n. suc n) (place new (map spot_kind (drop (at + 1) spots)))) = rw (kinds_at spots at d h, g) refl in
    shifted at (place new (map spot_kind (drop (at + 1) spots))) ∙ sym p ∙ w
  where
    reads : (b : Bool) → b ≡ true → Reads b (after k t) new → after k t ≡ Some new
    reads true e r = r
    reads false e r = cc

-- all words are read
pub ends_well : (k : List Symbol) (spots : List Spot) (at : ℕ) (all : Option ℕ) → length spots ≤ at → all_may_end k ≡ true
    → option_map (λ n. at + n) (place k (map spot_kind (drop at spots))) ≡ all → None ≡ all
unfolding place
ends_well k spots at all h e w = let p : option_map (λ n. at + n) (place k (map spot_kind (drop at spots))) ≡ None = rw (drop_all at spots h, e) refl in sym p ∙ w

pub ends_early : (k : List Symbol) (spots : List Spot) (at : ℕ) (all : Option ℕ) → length spots ≤ at → all_may_end k ≡ false
    → option_map (λ n. at + n) (place k (map spot_kind (drop at spots))) ≡ all → Some at ≡ all
unfolding place
ends_early k spots at all h e w =
    let p : option_map (λ n. at + n) (place k (map spot_kind (drop at spots))) ≡ Some (at + 0) = rw (drop_all at spots h, e) refl in
    let z : at + 0 ≡ at = omega arith in
    ap (λ x. Some x) (sym z) ∙ sym p ∙ w

run_at : (run r : ℕ) (spots : List Spot) (at : ℕ) (d : Spot) → at < length spots → r ≡ run_after run (spot_kind (get_or spots at d))
    → first_long run (map spot_kind (drop at spots)) ≡ (if nat_lt 200 r then Some 0 else option_map (λ i. suc i) (first_long r (map spot_kind (drop (at + 1) spots))))
unfolding first_long
run_at run r spots at d h e = rw (kinds_at spots at d h, e) refl

-- here the run is too long
pub long_here : (run r : ℕ) (spots : List Spot) (at : ℕ) (d : Spot) (all : Option ℕ) → at < length spots → r ≡ run_after run (spot_kind (get_or spots at d)) → 200 < r
    → option_map (λ n. at + n) (first_long run (map spot_kind (drop at spots))) ≡ all → Some at ≡ all
long_here run r spots at d all h e l w =
    let b : nat_lt 200 r ≡ true = lt-ltb 200 r l in
    let p : option_map (λ n. at + n) (first_long run (map spot_kind (drop at spots))) ≡ Some (at + 0) = rw (run_at run r spots at d h e, b) refl in
    let z : at + 0 ≡ at = omega arith in
    ap (λ x. Some x) (sym z) ∙ sym p ∙ w

-- here it isn't
pub long_on : (run r : ℕ) (spots : List Spot) (at : ℕ) (d : Spot) (all : Option ℕ) → at < length spots → r ≡ run_after run (spot_kind (get_or spots at d)) → r ≤ 200
    → option_map (λ n. at + n) (first_long run (map spot_kind (drop at spots))) ≡ all → option_map (λ n. at + 1 + n) (first_long r (map spot_kind (drop (at + 1) spots))) ≡ all
long_on run r spots at d all h e l w =
    let b : nat_lt 200 r ≡ false = le-ltb 200 r l in
    let p : first_long run (map spot_kind (drop at spots)) ≡ option_map (λ i. suc i) (first_long r (map spot_kind (drop (at + 1) spots))) = rw (run_at run r spots at d h e, b) refl in
    shifted at (first_long r (map spot_kind (drop (at + 1) spots))) ∙ ap (option_map (λ n. at + n)) (sym p) ∙ w

pub long_end : (run : ℕ) (spots : List Spot) (at : ℕ) (all : Option ℕ) → length spots ≤ at → option_map (λ n. at + n) (first_long run (map spot_kind (drop at spots))) ≡ all → None ≡ all
unfolding first_long
long_end run spots at all h w = let p : option_map (λ n. at + n) (first_long run (map spot_kind (drop at spots))) ≡ None = rw (drop_all at spots h) refl in sym p ∙ w
