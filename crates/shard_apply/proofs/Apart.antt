-- A step of several shards, from what each of them owes and what was gathered.
use Rattle.std.specs.Prelude.{◌≡◌, ℕ, zero, suc, ◌<◌, ◌≤◌, nat_eq, nat_le, is_ok, Bool, true, false, List, [], ◌∷◌, ◌++◌, map, flat_map, length, take, Ok, Err, is_err, IsOk, IfOk, IfErr, OnOk, All, refl}
use Rattle.std.proofs.Common.{◌∙◌, sym, ap, subst, arith, get_or}
use Rattle.std.proofs.lemmas.List.{get_or-map, length-map, take_all, take-append-le}
use Rattle.std.proofs.lemmas.Bool.{eq-eqb}
use Rattle.std.proofs.lemmas.Bool.Decides.{nat_tests}
use Rattle.std.proofs.lemmas.List.Elements.{All-nil, All-cons}
use Rattle.tw_rows.specs.Bag.{SameBag}
use Rattle.tw_rows.proofs.Bags.{SameBag-refl}
use Rattle.tw_rows.specs.Kinds.{cell_kind_of}
use Rattle.tw_rows.specs.declared.kind.CellKind.{CellKind}
use Rattle.tw_rows.specs.declared.edge.Edge.{Edge}
use Rattle.key_nodes.specs.Shards.{over_shards}
use Rattle.edge_history.specs.Order.{KeepsOrder}
use Rattle.edge_stream.specs.Listing.{EdgeListView, cells_of}
use Rattle.edge_stream.specs.Shards.{key_cells, shard_of, shard_by, edges_in_shard}
use Rattle.edge_stream.specs.declared.saved.StepFault.{StepFault}
use Rattle.edge_stream.specs.declared.saved.StepFault.TheVariants.{Overflow, Memory}
use Rattle.edge_stream.specs.Standing.{Standing, Keeping}
use Rattle.shard_apply.specs.Stepping.{CanTake, CanStep, HasStepped, edges_answered, is_fine_before, IsLeastOverflow}
use Rattle.shard_apply.specs.Shards.{Answer}
use Rattle.shard_apply.specs.Whole.{Whole, side_by_side, first_of, standing_in, AreInStep, IsWhole, ShardsKeep}
use Rattle.shard_apply.proofs.Faults.{edges_of_shards}
use Rattle.shard_apply.proofs.Stepped.{stepped_with}
use Rattle.shard_apply.proofs.WholeSteps.{shard_low, over_list, stands_as, in_step_now, stepped_ok, stepped_err}

pub both_of : {R : Type 0} (r : Answer) (P Q : EdgeListView → Type 0) → IsOk r → IfOk r P → IfOk r Q → ((a : EdgeListView) → P a → Q a → R) → R
both_of (Ok a) P Q ok p q f = f a p q
both_of (Err e) P Q ok p q f = absurd (cc)

module _ {O S : Type 0} (standing : O → Standing) (keeps : O → Keeping) (operator : S → O) (answer : S → Answer) (before after : List S) (ns : List O)
    (left_key right_key : List ℕ) (left right : List Edge) (u v : ℕ)
    (in_step : AreInStep (map standing (map operator before)) left_key right_key)
    (long : length after ≡ length before) (same : ns ≡ map operator after)
    (each : (i : ℕ) (d : S) → i < length before → HasStepped (standing (operator (get_or before i d))) (standing (operator (get_or after i d)))
    (keeps (operator (get_or before i d))) (keeps (operator (get_or after i d)))
    (edges_in_shard (length before) left_key i left) (edges_in_shard (length before) right_key i right) u v (answer (get_or after i d)))
    (left_rises : (first_of (map standing (map operator before))).left_closed ≤ u) (right_rises : (first_of (map standing (map operator before))).right_closed ≤ v)
    (s : S) where
  abbrev os : List O
  os = map operator before

  abbrev old : Whole O
  old = side_by_side os left_key right_key false

  abbrev new : Bool → Whole O
  new failed = side_by_side ns left_key right_key failed

  abbrev answers : List Answer
  answers = map answer after

  many : length os ≡ length before
  many = length-map before operator

  many_now : length ns ≡ length os
  many_now = ap length same ∙ length-map after operator ∙ long ∙ sym many

  many_answers : length answers ≡ length os
  many_answers = length-map after answer ∙ long ∙ sym many

  abbrev Owes : ℕ → O → O → ℕ → Answer → Type 0
  Owes i a b n r = HasStepped (standing a) (standing b) (keeps a) (keeps b) (edges_in_shard n left_key i left) (edges_in_shard n right_key i right) u v r

  answer_is : (i : ℕ) → i < length before → get_or answers i (Err Memory) ≡ answer (get_or after i s)
  answer_is i low = get_or-map answer after i s (Err Memory) (omega (arith, low, long))

  each_operator : (i : ℕ) (d : O) → i < length os → Owes i (get_or os i d) (get_or ns i d) (length os) (get_or answers i (Err Memory))
  each_operator i d low_os =
      let low : i < length before = omega (arith, low_os, many) in
      let a = get_or-map operator before i s d low in
      let b = ap (λ l. get_or l i d) same ∙ get_or-map operator after i s d (omega (arith, low, long)) in
      subst (λ o. Owes i o (get_or ns i d) (length os) (get_or answers i (Err Memory))) (sym a)
      (subst (λ o. Owes i (operator (get_or before i s)) o (length os) (get_or answers i (Err Memory))) (sym b)
      (subst (λ n. Owes i (operator (get_or before i s)) (operator (get_or after i s)) n (get_or answers i (Err Memory))) (sym many)
      (subst (λ r. Owes i (operator (get_or before i s)) (operator (get_or after i s)) (length before) r) (sym (answer_is i low)) (each i s low))))

  item : O
  item = operator s

  some : 1 ≤ length before
  some = omega (arith, in_step.some, length-map os standing, many)

  -- where some answered a fault
  pub apart_err : (fault : StepFault) → ((time : ℕ) → fault ≡ Overflow time → IsLeastOverflow time answers) →
      HasStepped (standing_in standing old) (standing_in standing (new true)) (ShardsKeep standing keeps old) (ShardsKeep standing keeps (new true)) left right u v (Err fault)
  apart_err fault least =
      stepped_err standing keeps old (new true) left right u v answers refl in_step many_now many_answers refl refl each_operator left_rises right_rises item fault least

  -- where all answered edges
  module _ (fine : All (λ x. IsOk (answer x)) after) where
    fine_at : (i : ℕ) → i < length os → IsOk (get_or answers i (Err Memory))
    fine_at i low_os =
        let low : i < length before = omega (arith, low_os, many) in
        subst IsOk (sym (answer_is i low)) (fine i s (omega (arith, low, long)))

    pub apart_in_step : AreInStep (map standing ns) left_key right_key
    apart_in_step = in_step_now standing keeps old (new false) left right u v answers refl in_step many_now many_answers refl refl each_operator left_rises right_rises item fine_at

    pub apart_ok : (list : EdgeListView) → SameBag list.edges (flat_map (λ x. edges_answered (answer x)) after) → KeepsOrder list.edges →
        All (λ x. IfOk (answer x) (λ a. cells_of list ≡ cells_of a)) after → list.capacity ≡ (first_of (map standing os)).batch_rows →
        HasStepped (standing_in standing old) (standing_in standing (new false)) (ShardsKeep standing keeps old) (ShardsKeep standing keeps (new false)) left right u v (Ok list)
    apart_ok list bag order kinds capacity =
        let lists : ℕ → List Edge = λ i. edges_answered (get_or answers i (Err Memory)) in
        let all : over_shards lists (length os) ≡ flat_map (λ x. edges_answered (answer x)) after =
        over_list edges_answered answers (Err Memory) (length os) (omega (arith, many_answers))
        ∙ ap (flat_map edges_answered) (take_all (length os) answers (omega (arith, many_answers))) ∙ edges_of_shards answer after in
        let same_bag : SameBag list.edges (over_shards lists (length os)) = subst (SameBag list.edges) (sym all) bag in
        let own : cells_of list ≡ (first_of (map standing os)).own_kinds =
        both_of (answer (get_or after 0 s)) (λ a. cells_of list ≡ cells_of a) (λ a. cells_of a ≡ (standing (operator (get_or before 0 s))).own_kinds)
        (fine 0 s (omega (arith, some, long))) (kinds 0 s (omega (arith, some, long))) (each 0 s some).kinds
        (λ a p q. p ∙ q ∙ ap (λ o. (standing o).own_kinds) (sym (get_or-map operator before 0 s item some)) ∙ ap (λ x. x.own_kinds) (stands_as standing os (first_of (map standing os)) in_step.alike 0 item (omega (arith, some, many)))) in
        stepped_ok standing keeps old (new false) left right u v answers refl in_step many_now many_answers refl refl each_operator left_rises right_rises item
        fine_at refl list order.rises same_bag own capacity

  -- whatever was gathered
  pub apart : (r : Answer) → OnOk r (All (λ x. IsOk (answer x)) after) → IfOk r (λ l. SameBag l.edges (flat_map (λ x. edges_answered (answer x)) after)) →
      IfOk r (λ l. KeepsOrder l.edges) → IfOk r (λ l. All (λ x. IfOk (answer x) (λ a. cells_of l ≡ cells_of a)) after) →
      IfOk r (λ l. l.capacity ≡ (first_of (map standing os)).batch_rows) →
      IfErr r (λ fault. (time : ℕ) → fault ≡ Overflow time → IsLeastOverflow time answers) →
      HasStepped (standing_in standing old) (standing_in standing (new (is_err r))) (ShardsKeep standing keeps old) (ShardsKeep standing keeps (new (is_err r))) left right u v r
  apart (Ok list) fine bag order kinds capacity least = apart_ok fine list bag order kinds capacity
  apart (Err fault) fine bag order kinds capacity least = apart_err fault least

  pub apart_goes_on : (r : Answer) → OnOk r (All (λ x. IsOk (answer x)) after) → OnOk r (AreInStep (map standing ns) left_key right_key)
  apart_goes_on (Ok list) fine = apart_in_step fine
  apart_goes_on (Err fault) fine = tt

-- each of some shards can take its step
module _ {O S : Type 0} (standing : O → Standing) (operator : S → O) (shards : List S) (left_key right_key : List ℕ)
    (in_step : AreInStep (map standing (map operator shards)) left_key right_key) where
  abbrev first : Standing
  first = first_of (map standing (map operator shards))

  pub shard_stands : (i : ℕ) (d : S) → i < length shards → standing (operator (get_or shards i d)) ≡ first
  shard_stands i d low =
      ap standing (sym (get_or-map operator shards i d (operator d) low))
      ∙ stands_as standing (map operator shards) first in_step.alike i (operator d) (omega (arith, low, length-map shards operator))

  pub columns : (kinds : List CellKind) (list : EdgeListView) (key : List ℕ) → cells_of list ≡ kinds → All (λ column. column < length kinds) key →
      All (λ column. column < length list.kinds) key
  columns kinds list key is all i d low =
      let long = length-map list.kinds cell_kind_of in
      let same = ap length is in
      let column = all i d low in
      omega (arith, long, same, column)

  pub can_step : (i : ℕ) (d : S) (count own room u v : ℕ) (left right : EdgeListView) → i < length shards → count ≡ length shards → own ≡ room →
      CanTake first room left right u v → CanStep (standing (operator (get_or shards i d))) own count left_key right_key left right u v
  can_step i d count own room u v left right low many same can =
      subst (λ x. CanStep x own count left_key right_key left right u v) (sym (shard_stands i d low)) (record {
        take = subst (λ x. CanTake first x left right u v) (sym same) can;
        some = omega (arith, low, many);
        left_columns = columns first.left_kinds left left_key can.left_kinds in_step.left_columns;
        right_columns = columns first.right_kinds right right_key can.right_kinds in_step.right_columns;
      })

pub alike_answers : (a b : Answer) (kinds own other : List CellKind) → own ≡ kinds → other ≡ kinds → IfOk a (λ x. cells_of x ≡ own) → IfOk b (λ y. cells_of y ≡ other) →
    IfOk a (λ x. IfOk b (λ y. cells_of x ≡ cells_of y))
alike_answers (Ok x) (Ok y) kinds own other p q one two = one ∙ p ∙ sym q ∙ sym two
alike_answers (Ok x) (Err f) kinds own other p q one two = tt
alike_answers (Err e) b kinds own other p q one two = tt

-- lists that f does not tell apart
pub maps_same : {S X : Type 0} (f : S → X) (xs ys : List S) → length xs ≡ length ys →
    ((i : ℕ) (d : S) → i < length xs → f (get_or xs i d) ≡ f (get_or ys i d)) → map f xs ≡ map f ys
maps_same f [] [] long each = refl
maps_same f [] (y ∷ ys) long each = absurd (omega (arith, long))
maps_same f (x ∷ xs) [] long each = absurd (omega (arith, long))
maps_same f (x ∷ xs) (y ∷ ys) long each =
    λ j. each 0 x (omega arith) j ∷ maps_same f xs ys (omega (arith, long)) (λ i d low. each (suc i) d (omega (arith, low))) j

nat_le_self : (t : ℕ) → nat_le t t ≡ true
nat_le_self t = grind (arith, nat_tests)

-- one shard has all edges
all_in_one : (n s : ℕ) (key : List ℕ) (es : List Edge) → n ≡ 1 → s < n → edges_in_shard n key s es ≡ es
all_in_one n s key [] one low = refl
all_in_one n s key (e ∷ es) one low =
    let less : shard_of n (key_cells key e.cells) < n = shard_low n (omega (arith, one)) (key_cells key e.cells) in
    let here : nat_eq (shard_by n key e.cells) s ≡ true = eq-eqb _ _ (omega (arith, less, one, low)) in
    rw here (ap (λ l. e ∷ l) (all_in_one n s key es one low))

-- the step of a node in one shard, from what its operator owes
module _ {O : Type 0} (standing : O → Standing) (keeps : O → Keeping) (os ns : List O) (left_key right_key : List ℕ) (left right : List Edge) (u v : ℕ)
    (in_step : AreInStep (map standing os) left_key right_key) (one : length os ≡ 1) (one_now : length ns ≡ 1) (r : Answer)
    (owes : (d : O) → HasStepped (standing (get_or os 0 d)) (standing (get_or ns 0 d)) (keeps (get_or os 0 d)) (keeps (get_or ns 0 d)) left right u v r)
    (left_rises : (first_of (map standing os)).left_closed ≤ u) (right_rises : (first_of (map standing os)).right_closed ≤ v) (item : O) where
  abbrev old_one : Whole O
  old_one = side_by_side os left_key right_key false

  abbrev new_one : Bool → Whole O
  new_one failed = side_by_side ns left_key right_key failed

  each_one : (s : ℕ) (d : O) → s < length os → HasStepped (standing (get_or os s d)) (standing (get_or ns s d)) (keeps (get_or os s d)) (keeps (get_or ns s d))
      (edges_in_shard (length os) left_key s left) (edges_in_shard (length os) right_key s right) u v (get_or (r ∷ []) s (Err Memory))
  each_one zero d low = stepped_with _ _ _ _ _ left _ right u v r (sym (all_in_one (length os) 0 left_key left one low)) (sym (all_in_one (length os) 0 right_key right one low)) (owes d)
  each_one (suc s) d low = absurd (omega (arith, low, one))

  abbrev fine_one : Type 0
  fine_one = (s : ℕ) → s < length os → IsOk (get_or (r ∷ []) s (Err Memory))

  fine_if : IsOk r → fine_one
  fine_if ok zero low = ok
  fine_if ok (suc s) low = absurd (omega (arith, low, one))

  pub alone_goes_on : IsOk r → AreInStep (map standing ns) left_key right_key
  alone_goes_on ok =
      in_step_now standing keeps old_one (new_one false) left right u v (r ∷ []) refl in_step (one_now ∙ sym one) (sym one) refl refl each_one left_rises right_rises item (fine_if ok)

  pub alone_err : (fault : StepFault) → r ≡ Err fault →
      HasStepped (standing_in standing old_one) (standing_in standing (new_one true)) (ShardsKeep standing keeps old_one) (ShardsKeep standing keeps (new_one true)) left right u v (Err fault)
  alone_err fault is =
      stepped_err standing keeps old_one (new_one true) left right u v (r ∷ []) refl in_step (one_now ∙ sym one) (sym one) refl refl each_one left_rises right_rises item
      fault (λ time at. record {
        place = 0;
        within = omega arith;
        there = λ d. is ∙ ap Err at;
        least = least time (is ∙ ap Err at);
      })
    where
      least : (time : ℕ) → r ≡ Err (Overflow time) → All (λ x. is_fine_before time x ≡ true) (r ∷ [])
      least time told = All-cons (λ x. is_fine_before time x ≡ true) r [] (ap (is_fine_before time) told ∙ nat_le_self time) (All-nil (λ x. is_fine_before time x ≡ true))

  pub alone_ok : (list : EdgeListView) → r ≡ Ok list → KeepsOrder list.edges →
      HasStepped (standing_in standing old_one) (standing_in standing (new_one false)) (ShardsKeep standing keeps old_one) (ShardsKeep standing keeps (new_one false)) left right u v (Ok list)
  alone_ok list is order =
      let own = owes item in
      let stands = stands_as standing os (first_of (map standing os)) in_step.alike 0 item (omega (arith, one)) in
      let kinds : cells_of list ≡ (standing (get_or os 0 item)).own_kinds = subst (λ x. IfOk x (λ l. cells_of l ≡ (standing (get_or os 0 item)).own_kinds)) is own.kinds in
      let capacity : list.capacity ≡ (standing (get_or os 0 item)).batch_rows = subst (λ x. IfOk x (λ l. l.capacity ≡ (standing (get_or os 0 item)).batch_rows)) is own.capacity in
      stepped_ok standing keeps old_one (new_one false) left right u v (r ∷ []) refl in_step (one_now ∙ sym one) (sym one) refl refl each_one left_rises right_rises item
      (fine_if (ap is_ok is)) refl list order.rises
      (subst (λ m. SameBag list.edges (over_shards (λ s. edges_answered (get_or (r ∷ []) s (Err Memory))) m)) (sym one) (subst (SameBag list.edges) (ap edges_answered (sym is)) (SameBag-refl list.edges)))
      (kinds ∙ ap (λ x. x.own_kinds) stands) (capacity ∙ ap (λ x. x.batch_rows) stands)

  -- whatever the operator answered
  pub alone : IfOk r (λ l. KeepsOrder l.edges) →
      HasStepped (standing_in standing old_one) (standing_in standing (new_one (is_err r))) (ShardsKeep standing keeps old_one) (ShardsKeep standing keeps (new_one (is_err r))) left right u v r
  alone = by_case r refl
    where
      Stepped : Answer → Type 0
      Stepped x = HasStepped (standing_in standing old_one) (standing_in standing (new_one (is_err x))) (ShardsKeep standing keeps old_one) (ShardsKeep standing keeps (new_one (is_err x))) left right u v x

      by_case : (x : Answer) → r ≡ x → IfOk x (λ l. KeepsOrder l.edges) → Stepped x
      by_case (Ok list) is order = alone_ok list is order
      by_case (Err fault) is order = alone_err fault is

pub ok_where : (r : Answer) → is_err r ≡ false → IsOk r
ok_where (Ok list) is = refl
ok_where (Err fault) is = absurd (cc)

pub on_ok_where : (r : Answer) (P : Type 0) → OnOk r P → is_err r ≡ false → P
on_ok_where (Ok list) P h is = h
on_ok_where (Err fault) P h is = absurd (cc)

-- the same, where lists, keys and flags are named otherwise
pub stepped_of : {O : Type 0} (standing : O → Standing) (keeps : O → Keeping) (os old_os ns new_ns : List O) (left_key left_named right_key right_named : List ℕ)
    (failed failed_named : Bool) (w : Whole O) (left right : List Edge) (u v : ℕ) (r : Answer) → os ≡ old_os → ns ≡ new_ns → left_key ≡ left_named → right_key ≡ right_named →
    failed ≡ failed_named → side_by_side old_os left_named right_named false ≡ w →
    HasStepped (standing_in standing (side_by_side os left_key right_key false)) (standing_in standing (side_by_side ns left_key right_key failed))
    (ShardsKeep standing keeps (side_by_side os left_key right_key false)) (ShardsKeep standing keeps (side_by_side ns left_key right_key failed)) left right u v r →
    HasStepped (standing_in standing w) (standing_in standing (side_by_side new_ns left_named right_named failed_named))
    (ShardsKeep standing keeps w) (ShardsKeep standing keeps (side_by_side new_ns left_named right_named failed_named)) left right u v r
stepped_of standing keeps os old_os ns new_ns left_key left_named right_key right_named failed failed_named w left right u v r a b p q e is h =
    let old : side_by_side os left_key right_key false ≡ w = (λ i. side_by_side (a i) (p i) (q i) false) ∙ is in
    let new : side_by_side ns left_key right_key failed ≡ side_by_side new_ns left_named right_named failed_named = λ i. side_by_side (b i) (p i) (q i) (e i) in
    subst (λ x. HasStepped (standing_in standing w) (standing_in standing x) (ShardsKeep standing keeps w) (ShardsKeep standing keeps x) left right u v r) new
    (subst (λ x. HasStepped (standing_in standing x) (standing_in standing (side_by_side ns left_key right_key failed)) (ShardsKeep standing keeps x)
    (ShardsKeep standing keeps (side_by_side ns left_key right_key failed)) left right u v r) old h)

-- the whole goes on
pub whole_goes_on : {O : Type 0} (standing : O → Standing) (os ns : List O) (capacities later left_key right_key : List ℕ) (failed failed_now : Bool) →
    IsWhole (map standing os) capacities left_key right_key failed → failed ≡ false → length ns ≡ length os → later ≡ capacities →
    (failed_now ≡ false → AreInStep (map standing ns) left_key right_key) → (first_of (map standing ns)).batch_rows ≡ (first_of (map standing os)).batch_rows →
    IsWhole (map standing ns) later left_key right_key failed_now
whole_goes_on standing os ns capacities later left_key right_key failed failed_now whole works long same in_step like = record {
  some = omega (arith, whole.some, long, length-map os standing, length-map ns standing);
  few = omega (arith, whole.few, long, length-map os standing, length-map ns standing);
  in_step = in_step;
  rooms = λ is. subst (λ b. All (λ capacity. capacity ≡ b) later) (sym like) (subst (All (λ capacity. capacity ≡ (first_of (map standing os)).batch_rows)) (sym same) (whole.rooms works));
}

-- a slice of a whole list is written back
pub written_back : {X : Type 0} (n : ℕ) (xs ys : List X) → n ≡ length xs → take n (xs ++ ys) ≡ xs
written_back n xs ys is =
    let low : n ≤ length xs = omega (arith, is) in
    take-append-le n xs ys low ∙ take_all n xs (omega (arith, is))
