-- The fault that is told of several answers, and the lists of answers that are none.
use Rattle.std.specs.Prelude.{◌≡◌, ℕ, suc, ◌<◌, ◌≤◌, ◌⊎◌, nat_le, min, Bool, true, false, Option, Some, None, List, [], ◌∷◌, ◌++◌, map, flat_map, fold, length, Ok, Err, IsOk, IfOk, All, refl}
use Rattle.std.proofs.Common.{◌∙◌, sym, ap, subst, arith, get_or, inl, inr}
use Rattle.std.proofs.lemmas.Bool.{cases_lt}
use Rattle.std.proofs.lemmas.Bool.Decides.{nat_tests}
use Rattle.std.proofs.lemmas.List.{get_or-map, length-map}
use Rattle.std.proofs.lemmas.List.Elements.{All-nil, All-cons}
use Rattle.edge_stream.specs.Listing.{EdgeListView, cells_of}
use Rattle.edge_stream.specs.declared.saved.StepFault.{StepFault}
use Rattle.edge_stream.specs.declared.saved.StepFault.TheVariants.{Overflow, Memory}
use Rattle.shard_apply.specs.Shards.{Answer}
use Rattle.shard_apply.specs.Stepping.{edges_answered, first_list, is_fine_before, IsLeastOverflow, fault_of, worse_of, worst_of}

abbrev step : Option StepFault → Answer → Option StepFault
step worst answer = worse_of worst (fault_of answer)

worse_none : (a b : Option StepFault) → worse_of a b ≡ None → (a ≡ None) × (b ≡ None)
worse_none None b h = (refl, h)
worse_none (Some Memory) b h = absurd (cc)
worse_none (Some (Overflow t)) None h = absurd (cc)
worse_none (Some (Overflow t)) (Some Memory) h = absurd (cc)
worse_none (Some (Overflow t)) (Some (Overflow u)) h = absurd (cc)

ok_of_none : (r : Answer) → fault_of r ≡ None → IsOk r
ok_of_none (Ok list) h = refl
ok_of_none (Err fault) h = absurd (cc)

fold_fine : (w : Option StepFault) (rs : List Answer) → fold step w rs ≡ None → (w ≡ None) × All IsOk rs
fold_fine w [] h = (h, All-nil IsOk)
fold_fine w (r ∷ rs) h =
    let rest = fold_fine (step w r) rs h in
    let both = worse_none w (fault_of r) rest.0 in
    (both.0, All-cons IsOk r rs (ok_of_none r both.1) rest.1)

-- where no fault is told, none answered one
pub all_fine : (rs : List Answer) → worst_of rs ≡ None → All IsOk rs
all_fine rs h = (fold_fine None rs h).1

fine_fault : ℕ → Option StepFault → Bool
fine_fault time None = true
fine_fault time (Some Memory) = false
fine_fault time (Some (Overflow other)) = nat_le time other

fine_same : (time : ℕ) (r : Answer) → is_fine_before time r ≡ fine_fault time (fault_of r)
unfolding fine_fault
fine_same time (Ok list) = refl
fine_same time (Err Memory) = refl
fine_same time (Err (Overflow other)) = refl

fine_parts : (time : ℕ) (a b : Option StepFault) → fine_fault time (worse_of a b) ≡ true → (fine_fault time a ≡ true) × (fine_fault time b ≡ true)
unfolding fine_fault
fine_parts time None b h = (refl, h)
fine_parts time (Some Memory) b h = absurd (cc)
fine_parts time (Some (Overflow t)) None h = (h, refl)
fine_parts time (Some (Overflow t)) (Some Memory) h = absurd (cc)
fine_parts time (Some (Overflow t)) (Some (Overflow u)) h =
    let low : time ≤ min t u = grind (arith, nat_tests, h) in
    let a : time ≤ t = omega (arith, low) in
    let b : time ≤ u = omega (arith, low) in
    (grind (arith, nat_tests, a), grind (arith, nat_tests, b))

time_of : ℕ → Option StepFault → ℕ
time_of d None = d
time_of d (Some Memory) = d
time_of d (Some (Overflow t)) = t

one_of_two : (time : ℕ) (a b : Option StepFault) → worse_of a b ≡ Some (Overflow time) → (a ≡ Some (Overflow time)) ⊎ (b ≡ Some (Overflow time))
unfolding time_of
one_of_two time None b h = inr h
one_of_two time (Some Memory) b h = absurd (cc)
one_of_two time (Some (Overflow t)) None h = inl h
one_of_two time (Some (Overflow t)) (Some Memory) h = absurd (cc)
one_of_two time (Some (Overflow t)) (Some (Overflow u)) h =
    let is : min t u ≡ time = ap (time_of 0) h in
    elim (cases_lt t u) [
      | inl less ↦ (let same : t ≡ time = omega (arith, is, less) in inl (ap (λ x. Some (Overflow x)) same))
      | inr more ↦ (let same : u ≡ time = omega (arith, is, more) in inr (ap (λ x. Some (Overflow x)) same))
    ]

abbrev no_fault : Option StepFault
no_fault = None

record IsAt (time : ℕ) (rs : List Answer) : Type 0 where
  place : ℕ
  within : place < length rs
  there : (d : Answer) → get_or rs place d ≡ Err (Overflow time)

record IsTold (time : ℕ) (w : Option StepFault) (rs : List Answer) : Type 0 where
  first : fine_fault time w ≡ true
  rest : All (λ r. is_fine_before time r ≡ true) rs
  at : (w ≡ Some (Overflow time)) ⊎ IsAt time rs

err_of_some : (r : Answer) (fault : StepFault) → fault_of r ≡ Some fault → r ≡ Err fault
err_of_some (Ok list) fault h = absurd (cc)
err_of_some (Err other) fault h = cc

fold_told : (time : ℕ) (w : Option StepFault) (rs : List Answer) → fold step w rs ≡ Some (Overflow time) → IsTold time w rs
unfolding fine_fault
fold_told time w [] h = record {
  first = ap (fine_fault time) h ∙ (grind (arith, nat_tests));
  rest = All-nil (λ r. is_fine_before time r ≡ true);
  at = inl h;
}
fold_told time w (r ∷ rs) h =
    let told = fold_told time (step w r) rs h in
    let both = fine_parts time w (fault_of r) told.first in
    record {
      first = both.0;
      rest = All-cons (λ x. is_fine_before time x ≡ true) r rs (fine_same time r ∙ both.1) told.rest;
      at = place told.at;
    }
  where
    here : (fault_of r ≡ Some (Overflow time)) → IsAt time (r ∷ rs)
    here is = record { place = 0; within = omega arith; there = λ d. err_of_some r (Overflow time) is }

    later : IsAt time rs → IsAt time (r ∷ rs)
    later at = record { place = suc at.place; within = omega (arith, at.within); there = λ d. at.there d }

    split : (w ≡ Some (Overflow time)) ⊎ (fault_of r ≡ Some (Overflow time)) → (w ≡ Some (Overflow time)) ⊎ IsAt time (r ∷ rs)
    split (inl is) = inl is
    split (inr is) = inr (here is)

    place : (step w r ≡ Some (Overflow time)) ⊎ IsAt time rs → (w ≡ Some (Overflow time)) ⊎ IsAt time (r ∷ rs)
    place (inl is) = split (one_of_two time w (fault_of r) is)
    place (inr at) = inr (later at)

-- an overflow that is told is the least, and none is out of memory
pub least_told : (time : ℕ) (rs : List Answer) → worst_of rs ≡ Some (Overflow time) → IsLeastOverflow time rs
least_told time rs h = take told.at
  where
    told : IsTold time None rs
    told = fold_told time None rs h

    take : (no_fault ≡ Some (Overflow time)) ⊎ IsAt time rs → IsLeastOverflow time rs
    take (inl is) = absurd (cc)
    take (inr at) = record { place = at.place; within = at.within; there = at.there; least = told.rest }

-- each of the lists is an answer
module _ {S : Type 0} (answer : S → Answer) (lists : List EdgeListView) (shards : List S) (are : map Ok lists ≡ map answer shards) where
  pub as_many : length lists ≡ length shards
  as_many = sym (length-map lists Ok) ∙ ap length are ∙ length-map shards answer

  pub list_is : (i : ℕ) (d : EdgeListView) (s : S) → i < length lists → answer (get_or shards i s) ≡ Ok (get_or lists i d)
  list_is i d s low =
      let many = as_many in
      sym (get_or-map answer shards i s (Ok d) (omega (arith, low, many))) ∙ ap (λ rs. get_or rs i (Ok d)) (sym are) ∙ get_or-map Ok lists i d (Ok d) low

  pub lists_alike : (s : S) → 1 ≤ length shards → ((i j : ℕ) (d : S) → i < length shards → j < length shards →
      IfOk (answer (get_or shards i d)) (λ a. IfOk (answer (get_or shards j d)) (λ b. cells_of a ≡ cells_of b))) →
      (k : ℕ) (d : EdgeListView) → k < length lists → cells_of (get_or lists k d) ≡ cells_of (first_list lists)
  lists_alike s some alike k d low =
      let many = as_many in
      let both = alike k 0 s (omega (arith, low, many)) some in
      let here = subst (λ r. IfOk r (λ a. IfOk (answer (get_or shards 0 s)) (λ b. cells_of a ≡ cells_of b))) (list_is k d s low) both in
      subst (λ r. IfOk r (λ b. cells_of (get_or lists k d) ≡ cells_of b)) (list_is 0 _ s (omega (arith, low))) here

pub with_item : {X R : Type 0} (xs : List X) → 1 ≤ length xs → (X → R) → R
with_item [] some f = absurd (omega (arith, some))
with_item (x ∷ xs) some f = f x

pub edges_of_lists : (lists : List EdgeListView) → flat_map edges_answered (map Ok lists) ≡ flat_map (λ l. l.edges) lists
edges_of_lists [] = refl
edges_of_lists (l ∷ ls) = ap (λ es. l.edges ++ es) (edges_of_lists ls)

pub edges_of_shards : {S : Type 0} (answer : S → Answer) (shards : List S) → flat_map edges_answered (map answer shards) ≡ flat_map (λ s. edges_answered (answer s)) shards
edges_of_shards answer [] = refl
edges_of_shards answer (s ∷ ss) = ap (λ es. edges_answered (answer s) ++ es) (edges_of_shards answer ss)
