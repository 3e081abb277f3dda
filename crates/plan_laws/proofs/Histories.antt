-- The edges of a shard are a history, a bag of placed edges is placed, and answers add up.
use Rattle.std.specs.Prelude.{◌≡◌, ℕ, zero, suc, ◌*◌, ◌<◌, ◌≤◌, ◌&&◌, nat_lt, Bool, true, IsTrue, List, [], ◌∷◌, ◌++◌, length, refl}
use Rattle.std.proofs.Common.{arith}
use Rattle.std.proofs.lemmas.Bool.Decides.{nat_tests}
use Rattle.std.proofs.lemmas.List.Elements.{All-weaker}
use Rattle.tw_rows.specs.Bag.{SameBag}
use Rattle.tw_rows.proofs.Bags.{SameBag-refl, SameBag-trans, SameBag-append, total-append}
use Rattle.key_nodes.specs.Shards.{over_shards}
use Rattle.tw_rows.specs.Cells.{IsPlaced, ArePlaced}
use Rattle.tw_rows.specs.declared.cells.Datum.{Datum}
use Rattle.tw_rows.specs.declared.cells.Datum.TheVariants.{Int as IntDatum, Bool as FlagDatum, Text as PlaceDatum}
use Rattle.tw_rows.specs.declared.edge.Edge.{Edge}
use Rattle.edge_history.specs.Order.{failing, rank, Rises, is_real, is_below, is_from, IsHistory}
use Rattle.edge_history.specs.History.{of}
use Rattle.edge_history.specs.Made.{edges_where, events_where}
use Rattle.edge_history.proofs.Sums.{failing-same, failing-filter, failing-All}
use Rattle.edge_history.proofs.Made.{events_of_where, paired_from_events}
use Rattle.edge_history.proofs.Retaining.{events_of_are}
use Rattle.edge_history.proofs.Standing.{rises_filter}
use Rattle.plan_laws.specs.Places.{EdgesArePlaced}

-- edges that are picked by their cells are a history where all are
pub history_where : (test : List Datum → Bool) (h : List Edge) → IsHistory h → IsHistory (edges_where test h)
history_where test h is =
    let real = failing-filter (λ e. test e.cells) is_real h is.real in
    record {
      order = rises_filter (λ e. test e.cells) 0 h is.order;
      real = real;
      paired = paired_from_events (edges_where test h) (events_where test (of h)) real (events_of_where test h (of h) (events_of_are h is));
    }

abbrev datum_in : ℕ → Datum → Bool
datum_in n (IntDatum x) = true
datum_in n (FlagDatum b) = true
datum_in n (PlaceDatum id) = nat_lt id n

abbrev cells_in : ℕ → List Datum → Bool
cells_in n [] = true
cells_in n (d ∷ ds) = datum_in n d && cells_in n ds

into_test : (texts : List (List ℕ)) (d : Datum) → IsPlaced texts d → IsTrue (datum_in (length texts) d)
into_test texts (IntDatum x) h = refl
into_test texts (FlagDatum b) h = refl
into_test texts (PlaceDatum id) h = grind (arith, nat_tests, h)

out_of_test : (texts : List (List ℕ)) (d : Datum) → IsTrue (datum_in (length texts) d) → IsPlaced texts d
out_of_test texts (IntDatum x) h = tt
out_of_test texts (FlagDatum b) h = tt
out_of_test texts (PlaceDatum id) h = grind (arith, nat_tests, h)

cells_into : (texts : List (List ℕ)) (ds : List Datum) → ArePlaced texts ds → IsTrue (cells_in (length texts) ds)
cells_into texts [] h = refl
cells_into texts (d ∷ ds) h =
    let a = into_test texts d h.0 in
    let b = cells_into texts ds h.1 in
    grind (arith, a, b)

cells_out : (texts : List (List ℕ)) (ds : List Datum) → IsTrue (cells_in (length texts) ds) → ArePlaced texts ds
cells_out texts [] h = tt
cells_out texts (d ∷ ds) h =
    let a : IsTrue (datum_in (length texts) d) = grind (arith, h) in
    let b : IsTrue (cells_in (length texts) ds) = grind (arith, h) in
    (out_of_test texts d a, cells_out texts ds b)

-- a bag of placed edges is placed
pub placed_bag : (texts : List (List ℕ)) (a b : List Edge) → SameBag a b → EdgesArePlaced texts b → EdgesArePlaced texts a
placed_bag texts a b same placed =
    let test : Edge → Bool = λ e. cells_in (length texts) e.cells in
    let tested = All-weaker (λ e. ArePlaced texts e.cells) (λ e. IsTrue (test e)) (λ e h. cells_into texts e.cells h) b placed in
    let none = failing-same test a b same ((failing-All test b).1 tested) in
    All-weaker (λ e. IsTrue (test e)) (λ e. ArePlaced texts e.cells) (λ e h. cells_out texts e.cells h) a ((failing-All test a).0 none)

-- what the shards answered before and now, together
bags_step : {X : Type 0} (n : ℕ) (f g : ℕ → List X) → SameBag (over_shards f n ++ over_shards g n) (over_shards (λ s. f s ++ g s) n)
bags_step zero f g = SameBag-refl []
bags_step (suc n) f g = record {
  weigh = λ w.
      let rest = (bags_step n f g).weigh w in
      let a = total-append w (over_shards f n ++ f n) (over_shards g n ++ g n) in
      let b = total-append w (over_shards f n) (f n) in
      let c = total-append w (over_shards g n) (g n) in
      let d = total-append w (over_shards f n) (over_shards g n) in
      let e = total-append w (over_shards (λ s. f s ++ g s) n) (f n ++ g n) in
      let h = total-append w (f n) (g n) in
      omega (arith, rest, a, b, c, d, e, h);
}

pub answers_add : {X : Type 0} (n : ℕ) (outs answers : ℕ → List X) (out answer : List X) → SameBag out (over_shards outs n) → SameBag answer (over_shards answers n) →
    SameBag (out ++ answer) (over_shards (λ s. outs s ++ answers s) n)
answers_add n outs answers out answer a b =
    SameBag-trans _ _ _ (SameBag-append out (over_shards outs n) answer (over_shards answers n) a b) (bags_step n outs answers)

-- answers below c, and then answers from c on, are in order
rises_behind : (c r : ℕ) (answer : List Edge) → Rises 0 answer → failing (is_from c) answer ≡ 0 → r ≤ 2 * c → Rises r answer
rises_behind c r [] up from low = tt
rises_behind c r (x ∷ xs) up from low =
    let at : c ≤ x.sync = grind (arith, nat_tests, from) in
    (omega (arith, at, low), up.1)

pub rises_on : (c r : ℕ) (out answer : List Edge) → Rises r out → failing (is_below c) out ≡ 0 → Rises 0 answer → failing (is_from c) answer ≡ 0 → r ≤ 2 * c →
    Rises r (out ++ answer)
rises_on c r [] answer up below more from low = rises_behind c r answer more from low
rises_on c r (x ∷ xs) answer up below more from low =
    let at : x.sync < c = grind (arith, nat_tests, below) in
    let rest : failing (is_below c) xs ≡ 0 = omega (arith, below) in
    let high : rank x ≤ 2 * c = grind (arith, nat_tests, at) in
    (up.0, rises_on c (rank x) xs answer up.1 rest more from high)
