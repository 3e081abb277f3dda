-- A step of all shards is a step of the whole.
use Rattle.std.specs.Prelude.{◌≡◌, ℕ, zero, suc, ◌/◌, ◌%◌, ◌^◌, ◌<◌, ◌≤◌, nat_eq, Bool, true, false, Option, Some, None, List, [], ◌∷◌, ◌++◌, map, filter, flat_map, length, take, Result, Ok, Err, IsOk, IfOk, IfErr, OnOk, All, refl}
use Rattle.std.proofs.Common.{◌∙◌, sym, ap, subst, arith, get_or, add-one}
use Rattle.std.proofs.lemmas.List.{get_or-map, length-map, take_more, append-nil}
use Rattle.std.proofs.lemmas.Result.{IfErr-weaker, on_ok_weaker}
use Rattle.std.proofs.lemmas.List.Elements.{All-filter, filter-append}
use Rattle.std.proofs.lemmas.Grind.{flat_map-append}
use Rattle.std.proofs.lemmas.Bool.Decides.{nat_tests}
use Rattle.tw_rows.specs.Bag.{SameBag}
use Rattle.tw_rows.specs.Event.{alive}
use Rattle.tw_rows.specs.Cells.{ArePlaced}
use Rattle.tw_rows.specs.declared.cells.Datum.{Datum}
use Rattle.tw_rows.specs.declared.edge.Edge.{Edge}
use Rattle.key_nodes.specs.Shards.{over_shards}
use Rattle.edge_history.specs.Order.{failing, Rises, is_below, is_from, IsHistory}
use Rattle.edge_history.proofs.Sums.{failing-append, failing-filter, failing-same, weaker}
use Rattle.edge_stream.specs.Listing.{EdgeListView, cells_of}
use Rattle.edge_stream.specs.Shards.{hash_of_key, shard_of, shard_by, edges_in_shard}
use Rattle.edge_stream.specs.declared.saved.StepFault.{StepFault}
use Rattle.edge_stream.specs.declared.saved.StepFault.TheVariants.{Overflow, Memory}
use Rattle.plan_model.specs.Keys.{value_ops}
use Rattle.plan_model.specs.Meaning.{node_closes}
use Rattle.plan_model.specs.declared.node.Node.{Node}
use Rattle.plan_model.specs.declared.node.Node.TheVariants.{Session, Clip, Group, Join, Anti}
use Rattle.plan_laws.specs.Undefined.{is_group, undefined_over, first_below}
use Rattle.plan_laws.proofs.Undefinedness.{first_below_same, first_below_some, first_below_none}
use Rattle.plan_laws.specs.Places.{AreDistinct, read_of, EdgesArePlaced}
use Rattle.plan_laws.specs.Shards.{is_keyed, left_key_of, right_key_of, any_shard}
use Rattle.plan_laws.proofs.ShardSteps.{none_fail}
use Rattle.edge_stream.specs.Standing.{Standing, Keeping, IsLike, closing}
use Rattle.edge_stream.specs.Steps.{MayCome, ComeBetween, AnswersBetween, StaysKept, IsFirstUndefined}
use Rattle.plan_laws.specs.Parts.{left_part}
use Rattle.plan_laws.proofs.Histories.{history_where, answers_add, rises_on}
use Rattle.plan_laws.proofs.Sums.{undefined_by_shards, least_of_shards, none_of_shards}
use Rattle.shard_apply.specs.Stepping.{HasStepped, edges_answered, is_fine_before, IsLeastOverflow}
use Rattle.shard_apply.specs.Whole.{Whole, first_of, standing_in, AreInStep, ShardsKeep}

-- what may come to a side may come to a shard of it
pub may_come_where : (test : List Datum → Bool) (texts : List (List ℕ)) (x : ℕ) (h l : List Edge) → MayCome texts x h l →
    MayCome texts x (filter (λ e. test e.cells) h) (filter (λ e. test e.cells) l)
may_come_where test texts x h l may =
    let both = filter-append (λ (e : Edge). test e.cells) h l in
    record {
      history = subst IsHistory both (history_where test (h ++ l) may.history);
      placed = subst (EdgesArePlaced texts) both (All-filter (λ e. test e.cells) (λ e. ArePlaced texts e.cells) (h ++ l) may.placed);
      from = failing-filter (λ e. test e.cells) (is_from x) l may.from;
    }

-- the closing of a node with a key rises with those of its sides
keyed_rises : (n : Node) → is_keyed n ≡ true → (x y u v : ℕ) → x ≤ u → y ≤ v → node_closes n x y ≤ node_closes n u v
keyed_rises (Session of timeout key) k x y u v h j = h
keyed_rises (Clip left right left_key right_key) k x y u v h j = omega (arith, h, j)
keyed_rises (Group of key aggs) k x y u v h j = h
keyed_rises (Join left right left_key right_key) k x y u v h j = omega (arith, h, j)
keyed_rises (Anti left right left_key right_key) k x y u v h j = omega (arith, h, j)
keyed_rises n k x y u v h j = absurd (cc)

below_later : (c d : ℕ) (es : List Edge) → c ≤ d → failing (is_below c) es ≡ 0 → failing (is_below d) es ≡ 0
below_later c d es le none = weaker (is_below c) (is_below d) es (λ e h. grind (arith, nat_tests, le, h)) none

-- a number is below what it is taken modulo
modulo_low : (x n : ℕ) → 1 ≤ n → x % n < n
modulo_low x n some = omega (arith, some)

pub shard_low : (n : ℕ) → 1 ≤ n → (key : List Datum) → shard_of n key < n
shard_low n some key = modulo_low (hash_of_key key / 2 ^ 32) n some

-- the edges of a shard in two parts, however the number of shards and the key are named
parts_both : (n m : ℕ) (key other : List ℕ) (s : ℕ) (a b : List Edge) → m ≡ n → other ≡ key →
    edges_in_shard n key s a ++ edges_in_shard n key s b ≡ edges_in_shard m other s (a ++ b)
parts_both n m key other s a b same alike =
    sym (filter-append (λ e. nat_eq (shard_by n key e.cells) s) a b) ∙ (λ i. edges_in_shard (sym same i) (sym alike i) s (a ++ b))

-- one list after another
pub over_list : {X : Type 0} (f : X → List Edge) (xs : List X) (d : X) (n : ℕ) → n ≤ length xs →
    over_shards (λ s. f (get_or xs s d)) n ≡ flat_map f (take n xs)
over_list f xs d zero le = refl
over_list f xs d (suc n) le =
    ap (λ l. l ++ f (get_or xs n d)) (over_list f xs d n (omega (arith, le)))
    ∙ ap (λ l. flat_map f (take n xs) ++ l) (sym (append-nil (f (get_or xs n d))))
    ∙ sym (flat_map-append f (take n xs) (get_or xs n d ∷ []))
    ∙ ap (flat_map f) (sym (take_more xs n d (omega (arith, le))))
    ∙ ap (λ m. flat_map f (take m xs)) (add-one n)

-- an operator that is like another one, up to where its sides are closed now
pub standing_is : (a b : Standing) (u v : ℕ) → IsLike a b → b.left_closed ≡ u → b.right_closed ≡ v → b.has_failed ≡ a.has_failed →
    b ≡ record a { left_closed = u; right_closed = v }
standing_is a b u v like left right works = λ i. record {
  node = like.node i;
  left_closed = left i;
  right_closed = right i;
  left_kinds = like.left_kinds i;
  right_kinds = like.right_kinds i;
  own_kinds = like.own_kinds i;
  batch_rows = like.batch_rows i;
  has_failed = works i;
}

-- how each of operators stands, where all stand alike
pub stands_as : {O : Type 0} (standing : O → Standing) (os : List O) (f : Standing) → All (λ s. s ≡ f) (map standing os) →
    (s : ℕ) (d : O) → s < length os → standing (get_or os s d) ≡ f
stands_as standing os f alike s d low =
    sym (get_or-map standing os s d f low) ∙ alike s f (omega (arith, low, length-map os standing))

pub all_as : {O : Type 0} (standing : O → Standing) (os : List O) (f : Standing) → ((s : ℕ) (d : O) → s < length os → standing (get_or os s d) ≡ f) →
    (d : O) → All (λ s. s ≡ f) (map standing os)
all_as standing os f each o s d low =
    let within : s < length os = omega (arith, low, length-map os standing) in
    get_or-map standing os s o d within ∙ each s o within

pub first_as : {O : Type 0} (standing : O → Standing) (os : List O) (d : O) → 1 ≤ length os → first_of (map standing os) ≡ standing (get_or os 0 d)
first_as standing os d some = get_or-map standing os 0 d _ some

in_answer : (r : Result EdgeListView StepFault) (P : EdgeListView → Type 0) (Q : List Edge → Type 0) → ((l : EdgeListView) → P l → Q l.edges) →
    IsOk r → IfOk r P → Q (edges_answered r)
in_answer (Ok l) P Q to ok h = to l h
in_answer (Err e) P Q to ok h = absurd (cc)

pub on_answer : (r : Result EdgeListView StepFault) (P : Type 0) → IsOk r → OnOk r P → P
on_answer (Ok l) P ok h = h
on_answer (Err e) P ok h = absurd (cc)

module _ {O : Type 0} (standing : O → Standing) (keeps : O → Keeping) (old new : Whole O) (left right : List Edge) (u v : ℕ)
    (answers : List (Result EdgeListView StepFault)) (works : old.failed ≡ false)
    (in_step : AreInStep (map standing old.operators) old.left_key old.right_key)
    (long : length new.operators ≡ length old.operators) (as_many : length answers ≡ length old.operators)
    (left_same : new.left_key ≡ old.left_key) (right_same : new.right_key ≡ old.right_key)
    (each : (s : ℕ) (d : O) → s < length old.operators → HasStepped (standing (get_or old.operators s d)) (standing (get_or new.operators s d))
    (keeps (get_or old.operators s d)) (keeps (get_or new.operators s d))
    (edges_in_shard (length old.operators) old.left_key s left) (edges_in_shard (length old.operators) old.right_key s right) u v
    (get_or answers s (Err Memory)))
    (left_rises : (first_of (map standing old.operators)).left_closed ≤ u) (right_rises : (first_of (map standing old.operators)).right_closed ≤ v)
    (item : O) where
  abbrev n : ℕ
  n = length old.operators

  abbrev f : Standing
  f = first_of (map standing old.operators)

  abbrev answer_at : ℕ → Result EdgeListView StepFault
  answer_at s = get_or answers s (Err Memory)

  some : 1 ≤ n
  some = omega (arith, in_step.some, length-map old.operators standing)

  stands : (s : ℕ) (d : O) → s < n → standing (get_or old.operators s d) ≡ f
  stands s d low = stands_as standing old.operators f in_step.alike s d low

  pub like : IsLike (standing_in standing old) (standing_in standing new)
  like =
      let zero_low : 0 < n = some in
      let l = (each 0 item zero_low).like in
      let o = stands 0 item zero_low in
      let e = first_as standing new.operators item (omega (arith, long, some)) in
      record {
        node = ap (λ s. s.node) e ∙ l.node ∙ ap (λ s. s.node) o;
        left_kinds = ap (λ s. s.left_kinds) e ∙ l.left_kinds ∙ ap (λ s. s.left_kinds) o;
        right_kinds = ap (λ s. s.right_kinds) e ∙ l.right_kinds ∙ ap (λ s. s.right_kinds) o;
        own_kinds = ap (λ s. s.own_kinds) e ∙ l.own_kinds ∙ ap (λ s. s.own_kinds) o;
        batch_rows = ap (λ s. s.batch_rows) e ∙ l.batch_rows ∙ ap (λ s. s.batch_rows) o;
      }

  -- where none answered a fault
  module _ (fine : (s : ℕ) → s < n → IsOk (answer_at s)) where
    abbrev lists : ℕ → List Edge
    lists s = edges_answered (answer_at s)

    abbrev g : Standing
    g = record f { left_closed = u; right_closed = v }

    stands_now : (s : ℕ) (d : O) → s < n → standing (get_or new.operators s d) ≡ g
    stands_now s d low =
        let h = each s d low in
        let ok = fine s low in
        let o = stands s d low in
        let moved : Standing → Standing = λ x. record x { left_closed = u; right_closed = v } in
        standing_is (standing (get_or old.operators s d)) (standing (get_or new.operators s d)) u v h.like
        (on_answer (answer_at s) _ ok h.left_to) (on_answer (answer_at s) _ ok h.right_to)
        (on_answer (answer_at s) _ ok h.works ∙ sym (ap (λ x. x.has_failed) o ∙ in_step.works))
        ∙ ap moved o

    pub first_now : first_of (map standing new.operators) ≡ g
    first_now = first_as standing new.operators item (omega (arith, long, some)) ∙ stands_now 0 item some

    pub in_step_now : AreInStep (map standing new.operators) new.left_key new.right_key
    in_step_now = record {
      some = omega (arith, some, long, length-map new.operators standing);
      alike = all_as standing new.operators (first_of (map standing new.operators)) (λ s d low. stands_now s d (omega (arith, low, long)) ∙ sym first_now) item;
      works = ap (λ s. s.has_failed) first_now ∙ in_step.works;
      keyed = ap (λ s. is_keyed s.node) first_now ∙ in_step.keyed;
      left_key_is = left_same ∙ in_step.left_key_is ∙ ap (λ s. left_key_of s.node) (sym first_now);
      right_key_is = right_same ∙ in_step.right_key_is ∙ ap (λ s. right_key_of s.node) (sym first_now);
      left_columns = subst (λ s. All (λ column. column < length s.left_kinds) new.left_key) (sym first_now)
          (subst (All (λ column. column < length f.left_kinds)) (sym left_same) in_step.left_columns);
      right_columns = subst (λ s. All (λ column. column < length s.right_kinds) new.right_key) (sym first_now)
          (subst (All (λ column. column < length f.right_kinds)) (sym right_same) in_step.right_columns);
    }

    closes_later : closing f ≤ node_closes f.node u v
    closes_later = keyed_rises f.node in_step.keyed f.left_closed f.right_closed u v left_rises right_rises

    -- each answers between the closings
    come : (s : ℕ) → s < n → failing (is_from f.left_closed) left ≡ 0 → failing (is_from f.right_closed) right ≡ 0 →
        ComeBetween (closing f) (node_closes f.node u v) (lists s)
    come s low from_left from_right =
        let h = each s item low in
        let o = stands s item low in
        let old_standing = standing (get_or old.operators s item) in
        let part_left : List Edge = edges_in_shard n old.left_key s left in
        let part_right : List Edge = edges_in_shard n old.right_key s right in
        let between : AnswersBetween old_standing part_left part_right u v (lists s) =
        in_answer (answer_at s) (λ l. AnswersBetween old_standing part_left part_right u v l.edges) (λ es. AnswersBetween old_standing part_left part_right u v es) (λ l b. b) (fine s low) h.between in
        let moved : AnswersBetween f part_left part_right u v (lists s) = subst (λ x. AnswersBetween x part_left part_right u v (lists s)) o between in
        moved (failing-filter (λ e. nat_eq (shard_by n old.left_key e.cells) s) (is_from f.left_closed) left from_left)
        (failing-filter (λ e. nat_eq (shard_by n old.right_key e.cells) s) (is_from f.right_closed) right from_right)

    module _ (answer : List Edge) (order : Rises 0 answer) (same : SameBag answer (over_shards lists n)) where
      pub between_together : AnswersBetween (standing_in standing old) left right u v answer
      between_together from_left from_right = record {
        from = failing-same (is_from (closing f)) answer (over_shards lists n) same (none_fail (is_from (closing f)) n lists (λ s low. (come s low from_left from_right).from));
        below = failing-same (is_below (node_closes f.node u v)) answer (over_shards lists n) same
            (none_fail (is_below (node_closes f.node u v)) n lists (λ s low. (come s low from_left from_right).below));
      }

      pub kept_together : new.failed ≡ false → StaysKept (standing_in standing old) (ShardsKeep standing keeps old) (ShardsKeep standing keeps new) left right answer
      kept_together works_now texts hl hr out k ml mr =
          let between = between_together ml.from mr.from in
          let below_out : failing (is_below (closing f)) out ≡ 0 = failing-same (is_below (closing f)) out (over_shards k.outs n) k.same (none_fail (is_below (closing f)) n k.outs k.below) in
          record {
            works = works_now;
            in_step = in_step_now;
            left_history = ml.history;
            right_history = mr.history;
            left_placed = ml.placed;
            right_placed = mr.placed;
            outs = λ s. k.outs s ++ lists s;
            shards = λ s d low_now. shard_keeps s d (omega (arith, low_now, long));
            below = λ s low_now.
                let low : s < n = omega (arith, low_now, long) in
                subst (λ x. failing (is_below (closing x)) (k.outs s ++ lists s) ≡ 0) (sym first_now)
                (failing-append (is_below (node_closes f.node u v)) (k.outs s) (lists s)
                (below_later (closing f) (node_closes f.node u v) (k.outs s) closes_later (k.below s low)) (come s low ml.from mr.from).below);
            order = rises_on (closing f) 0 out answer k.order below_out order between.from (omega arith);
            same = subst (λ m. SameBag (out ++ answer) (over_shards (λ s. k.outs s ++ lists s) m)) (sym long) (answers_add n k.outs lists out answer k.same same);
          }
        where
          shard_keeps : (s : ℕ) (d : O) → s < n → keeps (get_or new.operators s d) texts
              (edges_in_shard (length new.operators) new.left_key s (hl ++ left)) (edges_in_shard (length new.operators) new.right_key s (hr ++ right)) (k.outs s ++ lists s)
          shard_keeps s d low =
              let old_standing = standing (get_or old.operators s d) in
              let before = keeps (get_or old.operators s d) in
              let after = keeps (get_or new.operators s d) in
              let hls : List Edge = edges_in_shard n old.left_key s hl in
              let hrs : List Edge = edges_in_shard n old.right_key s hr in
              let ls : List Edge = edges_in_shard n old.left_key s left in
              let rs : List Edge = edges_in_shard n old.right_key s right in
              let stays : StaysKept old_standing before after ls rs (lists s) =
              in_answer (answer_at s) (λ l. StaysKept old_standing before after ls rs l.edges) (λ es. StaysKept old_standing before after ls rs es) (λ l b. b) (fine s low) (each s d low).kept in
              let come_left : MayCome texts old_standing.left_closed hls ls =
              subst (λ x. MayCome texts x.left_closed hls ls) (sym (stands s d low)) (may_come_where (λ cells. nat_eq (shard_by n old.left_key cells) s) texts f.left_closed hl left ml) in
              let come_right : MayCome texts old_standing.right_closed hrs rs =
              subst (λ x. MayCome texts x.right_closed hrs rs) (sym (stands s d low)) (may_come_where (λ cells. nat_eq (shard_by n old.right_key cells) s) texts f.right_closed hr right mr) in
              let base : after texts (hls ++ ls) (hrs ++ rs) (k.outs s ++ lists s) = stays texts hls hrs (k.outs s) (k.shards s d low) come_left come_right in
              subst (λ (a : List Edge). after texts a (edges_in_shard (length new.operators) new.right_key s (hr ++ right)) (k.outs s ++ lists s)) (parts_both n (length new.operators) old.left_key new.left_key s hl left long left_same)
              (subst (λ (b : List Edge). after texts (hls ++ ls) b (k.outs s ++ lists s)) (parts_both n (length new.operators) old.right_key new.right_key s hr right long right_same) base)

  -- whether a shard is undefined at an instant, over the edges that are read
  abbrev undefined_in : List (List ℕ) → List Edge → ℕ → ℕ → Bool
  undefined_in texts h s t = undefined_over value_ops f.node (alive (read_of texts (left_part (shard_of n) f.node s h)) t)

  -- the edges of a shard are those of its part of the node's left side
  part_is : (s : ℕ) (h : List Edge) → edges_in_shard n old.left_key s h ≡ left_part (shard_of n) f.node s h
  part_is s h = ap (λ key. edges_in_shard n key s h) in_step.left_key_is

  module _ (texts : List (List ℕ)) (apart : AreDistinct texts) (hl hr out : List Edge) (k : ShardsKeep standing keeps old texts hl hr out)
      (may : MayCome texts f.left_closed hl left) where
    -- a shard is undefined first at that instant, or at none
    shard_first : (s : ℕ) (low : s < n) (found : Option ℕ) →
        IsFirstUndefined (standing (get_or old.operators s item)) (keeps (get_or old.operators s item)) (edges_in_shard n old.left_key s left) u v found →
        first_below (undefined_in texts (hl ++ left) s) (node_closes f.node u v) ≡ found
    shard_first s low found is =
        let old_standing = standing (get_or old.operators s item) in
        let hls : List Edge = edges_in_shard n old.left_key s hl in
        let ls : List Edge = edges_in_shard n old.left_key s left in
        let come_left : MayCome texts old_standing.left_closed hls ls =
        subst (λ x. MayCome texts x.left_closed hls ls) (sym (stands s item low)) (may_come_where (λ cells. nat_eq (shard_by n old.left_key cells) s) texts f.left_closed hl left may) in
        let base = is texts hls (edges_in_shard n old.right_key s hr) (k.outs s) apart (k.shards s item low) come_left in
        let whole : hls ++ ls ≡ left_part (shard_of n) f.node s (hl ++ left) = parts_both n n old.left_key old.left_key s hl left refl refl ∙ part_is s (hl ++ left) in
        subst (λ (h : List Edge). first_below (λ t. undefined_over value_ops f.node (alive (read_of texts h) t)) (node_closes f.node u v) ≡ found) whole
        (subst (λ x. first_below (λ t. undefined_over value_ops x.node (alive (read_of texts (hls ++ ls)) t)) (node_closes x.node u v) ≡ found) (stands s item low) base)

    -- the node is undefined where a shard is
    by_shards : (found : Option ℕ) → first_below (λ t. any_shard (λ s. undefined_in texts (hl ++ left) s t) n) (node_closes f.node u v) ≡ found →
        first_below (λ t. undefined_over value_ops f.node (alive (read_of texts (hl ++ left)) t)) (node_closes f.node u v) ≡ found
    by_shards found is =
        first_below_same _ _ (node_closes f.node u v)
        (λ t low. undefined_by_shards (shard_of n) n (shard_low n some) texts apart (hl ++ left) may.history may.placed t f.node in_step.keyed) ∙ is

  pub defined_together : ((s : ℕ) → s < n → IsOk (answer_at s)) → IsFirstUndefined (standing_in standing old) (ShardsKeep standing keeps old) left u v None
  defined_together fine texts hl hr out apart k may =
      by_shards texts apart hl hr out k may None
      (none_of_shards (undefined_in texts (hl ++ left)) n (node_closes f.node u v)
      (λ s low. shard_first texts apart hl hr out k may s low None (on_answer (answer_at s) _ (fine s low) (each s item low).defined)))

  -- before the time no shard that answered so is undefined
  early : (r : Result EdgeListView StepFault) (q : ℕ → Bool) (c time w : ℕ) → is_fine_before time r ≡ true → w < time → time < c →
      OnOk r (first_below q c ≡ None) → IfErr r (λ fault. (at : ℕ) → fault ≡ Overflow at → first_below q c ≡ Some at) → q w ≡ false
  early (Ok l) q c time w fine less high none some_at = first_below_none q c none w (omega (arith, less, high))
  early (Err Memory) q c time w fine less high none some_at = absurd (cc)
  early (Err (Overflow at)) q c time w fine less high none some_at =
      let later : time ≤ at = grind (arith, nat_tests, fine) in
      (first_below_some q c at (some_at at refl)).2 w (omega (arith, less, later))

  pub overflow_together : (time : ℕ) → IsLeastOverflow time answers → IsFirstUndefined (standing_in standing old) (ShardsKeep standing keeps old) left u v (Some time)
  overflow_together time least texts hl hr out apart k may =
      let c = node_closes f.node u v in
      let q : ℕ → ℕ → Bool = undefined_in texts (hl ++ left) in
      let s = least.place in
      let low : s < n = omega (arith, least.within, as_many) in
      let at : first_below (q s) c ≡ Some time =
      shard_first texts apart hl hr out k may s low (Some time)
      (subst (λ r. IfErr r (λ fault. (w : ℕ) → fault ≡ Overflow w → IsFirstUndefined (standing (get_or old.operators s item)) (keeps (get_or old.operators s item))
      (edges_in_shard n old.left_key s left) u v (Some w))) (least.there (Err Memory)) (each s item low).overflow time refl) in
      let below = (first_below_some (q s) c time at).0 in
      by_shards texts apart hl hr out k may (Some time)
      (least_of_shards q n c s time low at
      (λ j within w less. early (answer_at j) (q j) c time w (least.least j (Err Memory) (omega (arith, within, as_many))) less below
      (to_none j within) (to_some j within)))
    where
      to_none : (j : ℕ) (within : j < n) → OnOk (answer_at j) (first_below (undefined_in texts (hl ++ left) j) (node_closes f.node u v) ≡ None)
      to_none j within =
          on_ok_weaker (answer_at j) (λ h. shard_first texts apart hl hr out k may j within None h) (each j item within).defined

      to_some : (j : ℕ) (within : j < n) → IfErr (answer_at j) (λ fault. (at : ℕ) → fault ≡ Overflow at →
          first_below (undefined_in texts (hl ++ left) j) (node_closes f.node u v) ≡ Some at)
      to_some j within =
          IfErr-weaker (answer_at j) _ _ (λ fault h at is. shard_first texts apart hl hr out k may j within (Some at) (h at is)) (each j item within).overflow

  pub group_together : (time : ℕ) → IsLeastOverflow time answers → is_group f.node ≡ true
  group_together time least =
      let s = least.place in
      let low : s < n = omega (arith, least.within, as_many) in
      let own = subst (λ r. IfErr r (λ fault. (w : ℕ) → fault ≡ Overflow w → is_group (standing (get_or old.operators s item)).node ≡ true)) (least.there (Err Memory)) (each s item low).group time refl in
      ap (λ x. is_group x.node) (sym (stands s item low)) ∙ own

  -- where some answered a fault
  pub stepped_err : (fault : StepFault) → ((time : ℕ) → fault ≡ Overflow time → IsLeastOverflow time answers) →
      HasStepped (standing_in standing old) (standing_in standing new) (ShardsKeep standing keeps old) (ShardsKeep standing keeps new) left right u v (Err fault)
  stepped_err fault least = record {
    kept = tt;
    between = tt;
    defined = tt;
    overflow = λ time is. overflow_together time (least time is);
    group = λ time is. group_together time (least time is);
    kinds = tt;
    capacity = tt;
    left_to = tt;
    right_to = tt;
    works = tt;
    like = like;
  }

  -- where all answered edges
  pub stepped_ok : (fine : (s : ℕ) → s < n → IsOk (answer_at s)) → new.failed ≡ false → (list : EdgeListView) → Rises 0 list.edges →
      SameBag list.edges (over_shards (λ s. edges_answered (answer_at s)) n) → cells_of list ≡ f.own_kinds → list.capacity ≡ f.batch_rows →
      HasStepped (standing_in standing old) (standing_in standing new) (ShardsKeep standing keeps old) (ShardsKeep standing keeps new) left right u v (Ok list)
  stepped_ok fine works_now list order same kinds capacity = record {
    kept = kept_together fine list.edges order same works_now;
    between = between_together fine list.edges order same;
    defined = defined_together fine;
    overflow = tt;
    group = tt;
    kinds = kinds;
    capacity = capacity;
    left_to = ap (λ x. x.left_closed) (first_now fine);
    right_to = ap (λ x. x.right_closed) (first_now fine);
    works = works_now;
    like = like;
  }
