-- A draft as an item grows it: its nodes, each of which fits behind those before it, are those of a plan.
use Rattle.std.specs.Prelude.{◌≡◌, ℕ, suc, ◌+◌, ◌<◌, ◌≤◌, nat_lt, Bool, true, false, ◌||◌, not, Option, Some, None, ok_or, Result, Ok, Err, List, [], ◌∷◌, ◌++◌, map, length, slice_get, slice_index_or, All, refl}
use Rattle.std.specs.List.{list_any, list_all}
use Rattle.std.proofs.Common.{sym, ◌∙◌, ap, subst, arith, append_assoc, append-nil}
use Rattle.std.proofs.lemmas.Bool.{both_ways, not-true, not-false, and_from, ltb-false, and_parts, or_parts}
use Rattle.std.proofs.lemmas.List.{length-append, length-map, length_push}
use Rattle.std.proofs.lemmas.List.Elements.{All-nil, All-cons, All-weaker}
use Rattle.tw_rows.specs.declared.schema.ColumnDef.{ColumnDef}
use Rattle.tw_rows.specs.declared.schema.StreamDef.{StreamDef}
use Rattle.tw_rows.specs.Instant.{instants}
use Rattle.plan_model.specs.declared.fault.QueryFault.{QueryFault}
use Rattle.plan_model.specs.declared.fault.QueryFault.TheVariants as F
use Rattle.plan_model.specs.declared.node.Node.{Node}
use Rattle.plan_model.specs.IsPlan.{kinds_of_schema, kinds_at, kinds_of_stream, node_kinds, IsSoundOver, ReadsStream, IsOverEvents, HasKeysOnRight, HasCountBelow, AreNodes, most_reach, most_nodes, most_columns}
use Rattle.plan_model.specs.Meaning.{left_child, right_child, left_of, right_of, HasLower, reads_events, reads_right_events}
use Rattle.plan_model.specs.Reach.{reach, event_level}
use Rattle.plan_model.proofs.Growing.{reach_grows, reach_of_new, nodes_grow}
use Rattle.query_plan.specs.Schemas.{name_twice}
use Rattle.query_plan.specs.Draft.{Planned, Draft, and_then, needs, with_nodes, has_key_twice, reaches_too_far, admitted}

-- what is answered where there is no fault
pub same_Ok : {A : Type 0} (a b : A) → ◌≡◌ {A = Result A QueryFault} (Ok a) (Ok b) → a ≡ b
same_Ok a b h = cc

-- what came before has no fault either
pub goes_on : {A B : Type 0} (r : Result A QueryFault) (next : A → Result B QueryFault) (b : B) → and_then r next ≡ Ok b → (a : A) × (r ≡ Ok a) × (next a ≡ Ok b)
goes_on (Err fault) next b h = absurd (cc)
goes_on (Ok a) next b h = (a, refl, h)

-- the value was there
pub takes : {A B : Type 0} (o : Option A) (fault : QueryFault) (next : A → Result B QueryFault) (b : B) → and_then (ok_or o fault) next ≡ Ok b → (a : A) × (o ≡ Some a) × (next a ≡ Ok b)
takes None fault next b h = absurd (cc)
takes (Some a) fault next b h = (a, refl, h)

-- the test holds
pub passes : {B : Type 0} (test : Bool) (fault : QueryFault) (next : Unit {0} → Result B QueryFault) (b : B) → and_then (needs test fault) next ≡ Ok b → (test ≡ true) × (next tt ≡ Ok b)
passes true fault next b h = (refl, h)
passes false fault next b h = absurd (cc)

four_pass : {B : Type 0} (t1 t2 t3 t4 : Bool) (f1 f2 f3 f4 : QueryFault) (a b : B) →
    and_then (needs t1 f1) (λ u. and_then (needs t2 f2) (λ u. and_then (needs t3 f3) (λ u. and_then (needs t4 f4) (λ u. Ok a)))) ≡ Ok b →
    (t1 ≡ true) × (t2 ≡ true) × (t3 ≡ true) × (t4 ≡ true) × (a ≡ b)
four_pass true true true true f1 f2 f3 f4 a b h = (refl, refl, refl, refl, same_Ok a b h)
four_pass false t2 t3 t4 f1 f2 f3 f4 a b h = absurd (cc)
four_pass true false t3 t4 f1 f2 f3 f4 a b h = absurd (cc)
four_pass true true false t4 f1 f2 f3 f4 a b h = absurd (cc)
four_pass true true true false f1 f2 f3 f4 a b h = absurd (cc)

-- what an item keeps of the nodes that it puts behind a draft
pub record IsAdmitted (d : Draft) (ps : List Planned) : Type 0 where
  pub near : reaches_too_far (with_nodes d ps).nodes (length d.nodes) (length ps) ≡ false
  pub room : nat_lt most_nodes (length d.nodes + length ps) ≡ false
  pub narrow : list_any (λ p. nat_lt most_columns (length p.schema)) ps ≡ false

pub admitted_is : (item : ℕ) (d e : Draft) (ps : List Planned) → admitted item d ps ≡ Ok e → IsAdmitted d ps × (with_nodes d ps ≡ e)
admitted_is item d e ps h =
    let far = reaches_too_far (with_nodes d ps).nodes (length d.nodes) (length ps) in
    let many = nat_lt most_nodes (length d.nodes + length ps) in
    let wide = list_any (λ (p : Planned). nat_lt most_columns (length p.schema)) ps in
    let twice = list_any (λ (p : Planned). name_twice p.schema || has_key_twice p.node) ps in
    let all = four_pass (not far) (not many) (not wide) (not twice)
    (F.ReachTooLong item) (F.TooManyNodes item) (F.TooManyColumns item) (F.NameTaken item) (with_nodes d ps) e h in
    (record { near = not-true far all.0; room = not-true many all.1; narrow = not-true wide all.2 }, all.4)

-- what is asked of a node, with its schema, that is put behind these nodes, but for how far it reaches and how large it is
pub record IsFit (streams : List StreamDef) (nodes : List Node) (schemas : List (List ColumnDef)) (n : Node) (schema : List ColumnDef) : Type 0 where
  pub left_lower : HasLower (length nodes) (left_child n)
  pub right_lower : HasLower (length nodes) (right_child n)
  pub streamed : ReadsStream streams n
  pub over_events : IsOverEvents nodes n
  pub sound : IsSoundOver n (left_of [] (kinds_of_stream streams) (kinds_at schemas) n) (right_of [] (kinds_at schemas) n)
  pub kinds : kinds_of_schema schema ≡ node_kinds n (left_of [] (kinds_of_stream streams) (kinds_at schemas) n) (right_of [] (kinds_at schemas) n)
  pub partnered : HasKeysOnRight nodes n
  pub counted : HasCountBelow nodes n

fit_grows : (streams : List StreamDef) (nodes : List Node) (schemas : List (List ColumnDef)) (n : Node) (schema : List ColumnDef) →
    AreNodes streams nodes schemas → IsFit streams nodes schemas n schema → reach (nodes ++ n ∷ []) (length nodes) ≤ most_reach → length schema ≤ most_columns → length nodes < most_nodes →
    AreNodes streams (nodes ++ n ∷ []) (schemas ++ schema ∷ [])
fit_grows streams nodes schemas n schema kept fit near narrow room = nodes_grow streams nodes schemas n schema kept (record {
  left_lower = fit.left_lower;
  right_lower = fit.right_lower;
  streamed = fit.streamed;
  over_events = fit.over_events;
  sound = fit.sound;
  kinds = fit.kinds;
  partnered = fit.partnered;
  counted = fit.counted;
  near = subst (λ r. r ≤ most_reach) (reach_of_new nodes n) near;
  narrow = narrow;
  room = room;
})

-- each of the nodes fits behind the nodes and those of the list before it
abbrev pub AllFit : List StreamDef → List Node → List (List ColumnDef) → List Planned → Type 0
AllFit streams nodes schemas [] = Unit {0}
AllFit streams nodes schemas (p ∷ ps) = IsFit streams nodes schemas p.node p.schema × AllFit streams (nodes ++ p.node ∷ []) (schemas ++ p.schema ∷ []) ps

-- how far a node reaches is the same whatever stands behind it
reach_stays : (nodes more : List Node) (i : ℕ) → i < length nodes → reach (nodes ++ more) i ≡ reach nodes i
reach_stays nodes [] i low = ap (λ l. reach l i) (append-nil nodes)
reach_stays nodes (m ∷ ms) i low =
    ap (λ l. reach l i) (sym (append_assoc nodes (m ∷ []) ms))
    ∙ (reach_stays (nodes ++ m ∷ []) ms i (let long = length_push nodes m in omega (arith, low, long)) ∙ reach_grows nodes m i low)

not_above : (most x : ℕ) → nat_lt most x ≡ false → x ≤ most
not_above most x h = ltb-false most x h

-- nodes that fit one behind the other grow a plan
all_grow : (streams : List StreamDef) (nodes : List Node) (schemas : List (List ColumnDef)) (ps : List Planned) → AreNodes streams nodes schemas → AllFit streams nodes schemas ps →
    reaches_too_far (nodes ++ map (λ (p : Planned). p.node) ps) (length nodes) (length ps) ≡ false → list_any (λ (p : Planned). nat_lt most_columns (length p.schema)) ps ≡ false → length nodes + length ps ≤ most_nodes →
    AreNodes streams (nodes ++ map (λ (p : Planned). p.node) ps) (schemas ++ map (λ (p : Planned). p.schema) ps)
all_grow streams nodes schemas [] kept fits near narrow room =
    subst (λ l. AreNodes streams l (schemas ++ [])) (sym (append-nil nodes)) (subst (AreNodes streams nodes) (sym (append-nil schemas)) kept)
all_grow streams nodes schemas (p ∷ ps) kept fits near narrow room =
    let front = nodes ++ p.node ∷ [] in
    let more = map (λ (x : Planned). x.node) ps in
    let long : length front ≡ length nodes + 1 = length_push nodes p.node in
    let next : suc (length nodes) ≡ length front = omega (arith, long) in
    let whole : front ++ more ≡ nodes ++ p.node ∷ more = append_assoc nodes (p.node ∷ []) more in
    let whole_schemas : (schemas ++ p.schema ∷ []) ++ map (λ (x : Planned). x.schema) ps ≡ schemas ++ p.schema ∷ map (λ (x : Planned). x.schema) ps = append_assoc schemas (p.schema ∷ []) (map (λ (x : Planned). x.schema) ps) in
    let nears = or_parts (nat_lt most_reach (reach (nodes ++ p.node ∷ more) (length nodes))) (list_any (λ j. nat_lt most_reach (reach (nodes ++ p.node ∷ more) j)) (instants (suc (length nodes)) (length ps))) near in
    let narrows = or_parts (nat_lt most_columns (length p.schema)) (list_any (λ (x : Planned). nat_lt most_columns (length x.schema)) ps) narrow in
    let here : reach front (length nodes) ≤ most_reach =
    subst (λ r. r ≤ most_reach) (ap (λ l. reach l (length nodes)) (sym whole) ∙ reach_stays front more (length nodes) (omega (arith, long)))
    (not_above most_reach (reach (nodes ++ p.node ∷ more) (length nodes)) nears.0) in
    let one = fit_grows streams nodes schemas p.node p.schema kept fits.0 here (not_above most_columns (length p.schema) narrows.0) (omega (arith, room)) in
    let rest = all_grow streams front (schemas ++ p.schema ∷ []) ps one fits.1
    (subst (λ l. reaches_too_far l (length front) (length ps) ≡ false) (sym whole) (subst (λ k. reaches_too_far (nodes ++ p.node ∷ more) k (length ps) ≡ false) next nears.1))
    narrows.1
    (omega (arith, room, long)) in
    subst (AreNodes streams (nodes ++ p.node ∷ more)) whole_schemas
    (subst (λ l. AreNodes streams l ((schemas ++ p.schema ∷ []) ++ map (λ (x : Planned). x.schema) ps)) whole rest)

-- a draft whose nodes are those of a plan, and whose names stand for some of them
pub record IsDraft (streams : List StreamDef) (d : Draft) : Type 0 where
  pub nodes_are : AreNodes streams d.nodes d.schemas
  pub named : All (λ n. n.node < length d.nodes) d.names

pub more_named : (d : Draft) (m n : ℕ) → m ≤ n → All (λ x. x.node < m) d.names → All (λ x. x.node < n) d.names
more_named d m n more named = All-weaker (λ x. x.node < m) (λ x. x.node < n) (λ x low. omega (arith, low, more)) d.names named

grown : (streams : List StreamDef) (d : Draft) (ps : List Planned) → IsDraft streams d → AllFit streams d.nodes d.schemas ps → IsAdmitted d ps → IsDraft streams (with_nodes d ps)
grown streams d ps kept fits admits = record {
  nodes_are = all_grow streams d.nodes d.schemas ps kept.nodes_are fits admits.near admits.narrow (not_above most_nodes (length d.nodes + length ps) admits.room);
  named = more_named d (length d.nodes) (length (d.nodes ++ map (λ (p : Planned). p.node) ps)) (let long = length-append d.nodes (map (λ (p : Planned). p.node) ps) in omega (arith, long)) kept.named;
}

-- the nodes of an item that fit are put behind the draft
pub all_keep : (streams : List StreamDef) (item : ℕ) (d e : Draft) (qs ps : List Planned) → IsDraft streams d → AllFit streams d.nodes d.schemas qs →
    ◌≡◌ {A = Result (List Planned) QueryFault} (Ok qs) (Ok ps) → admitted item d ps ≡ Ok e → IsDraft streams e
all_keep streams item d e qs ps kept fits made admits =
    let all = admitted_is item d e ps admits in
    subst (IsDraft streams) all.1
    (subst (λ l. IsAdmitted d l → IsDraft streams (with_nodes d l)) (same_Ok qs ps made) (grown streams d qs kept fits) all.0)

pub one_keeps : (streams : List StreamDef) (item : ℕ) (d e : Draft) (p : Planned) (ps : List Planned) → IsDraft streams d → IsFit streams d.nodes d.schemas p.node p.schema →
    ◌≡◌ {A = Result (List Planned) QueryFault} (Ok (p ∷ [])) (Ok ps) → admitted item d ps ≡ Ok e → IsDraft streams e
one_keeps streams item d e p ps kept fit made admits = all_keep streams item d e (p ∷ []) ps kept (fit, tt) made admits

-- a node that reads no events stands over any nodes
pub calm : (nodes : List Node) (n : Node) → reads_events n ≡ false → reads_right_events n ≡ false → IsOverEvents nodes n
calm nodes n left right = record {
  on_left = λ reads. absurd (both_ways (reads_events n) left reads);
  on_right = λ reads. absurd (both_ways (reads_right_events n) right reads);
}

-- and one that reads events on the left alone over a child that has them
pub eventful : (nodes : List Node) (n : Node) → left_of true (λ s. true) (event_level nodes) n ≡ true → reads_right_events n ≡ false → IsOverEvents nodes n
eventful nodes n level right = record {
  on_left = λ reads. level;
  on_right = λ reads. absurd (both_ways (reads_right_events n) right reads);
}
