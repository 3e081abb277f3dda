-- Ends that come, of starts that are due.
use Rattle.std.specs.Prelude.{◌≡◌, ℕ, ◌+◌, ◌<◌, List, [], ◌∷◌, ◌++◌, nat_lt, cond, length, get_or, refl}
use Rattle.std.specs.List.Sorted.{IsPermutation}
use Rattle.std.proofs.Common.{sym, ◌∙◌, ap, subst, arith, length-append}
use Rattle.std.proofs.Math.ListN.{get_or-append}
use Rattle.std.proofs.Math.Seq.{get_or-append_seam}
use Rattle.std.proofs.lemmas.List.Elements.{All-nil, All-cons, All-head, All-tail}
use Rattle.std.proofs.lemmas.List.Sorted.{All-permutation}
use Rattle.tw_rows.specs.Bag.{total}
use Rattle.tw_rows.specs.declared.edge.Edge.{Edge}
use Rattle.tw_rows.proofs.Bags.{total-map, SameBag-from_IsPermutation}
use Rattle.edge_history.specs.Order.{failing, is_below}
use Rattle.sweep_sides.proofs.Queued.{zero_of, lt_true}
use Rattle.sweep_sides.specs.declared.endings.Ending.{Ending}
use Rattle.sweep_sides.specs.Ends.{end_of, ends_of, HaveStarts, KeepsStarts}

-- an end keeps its start
kept_end : (due more : List Edge) (p : Ending) → p.start < length due → end_of (due ++ more) p ≡ end_of due p
kept_end due more p low =
    ap (λ (e : Edge). record e { sync = p.sync; other = e.sync; cells = e.cells }) (get_or-append due more (record { sync = 0; other = 0; cells = [] }) p.start low)

kept : (due more : List Edge) → KeepsStarts due (due ++ more)
kept due more [] h = (All-nil (λ (p : Ending). p.start < length (due ++ more)), refl)
kept due more (p ∷ ends) h =
    let here = All-head (λ (p : Ending). p.start < length due) p ends h in
    let rest = kept due more ends (All-tail (λ (p : Ending). p.start < length due) p ends h) in
    let same = kept_end due more p here in
    let l = length-append due more in
    (All-cons (λ (p : Ending). p.start < length (due ++ more)) p ends (omega (arith, here, l)) rest.0, λ i. same i ∷ rest.1 i)

-- one more that is due
pub starts_kept : (due due2 : List Edge) (e : Edge) → due2 ≡ due ++ e ∷ [] → KeepsStarts due due2
starts_kept due due2 e more = subst (λ (l : List Edge). KeepsStarts due l) (sym more) (kept due (e ∷ []))

pub none_more : (due : List Edge) → KeepsStarts due due
none_more due ends h = (h, refl)

pub kept_on : (due due2 due3 : List Edge) → KeepsStarts due due2 → KeepsStarts due2 due3 → KeepsStarts due due3
kept_on due due2 due3 a b ends h =
    let x = a ends h in
    let y = b ends x.0 in
    (y.0, y.1 ∙ x.1)

-- one more end that comes
pub ending_weighs : (w : Edge → ℕ) (due : List Edge) (ends ends2 : List Ending) (p : Ending) → IsPermutation (p ∷ ends) ends2 →
    total w (ends_of due ends2) ≡ total w (ends_of due ends) + w (end_of due p)
ending_weighs w due ends ends2 p more =
    let a = total-map w (end_of due) ends in
    let b = total-map w (end_of due) ends2 in
    let c = (SameBag-from_IsPermutation (p ∷ ends) ends2 more).weigh (λ (q : Ending). w (end_of due q)) in
    omega (arith, a, b, c)

pub ending_starts : (due : List Edge) (ends ends2 : List Ending) (p : Ending) → IsPermutation (p ∷ ends) ends2 → p.start < length due → HaveStarts due ends → HaveStarts due ends2
ending_starts due ends ends2 p more low h =
    All-permutation (λ (p : Ending). p.start < length due) (p ∷ ends) ends2 more (All-cons (λ (p : Ending). p.start < length due) p ends low h)

pub early_ending : (to : ℕ) (due : List Edge) (ends ends2 : List Ending) (p : Ending) → IsPermutation (p ∷ ends) ends2 → p.sync < to →
    failing (is_below to) (ends_of due ends) ≡ 0 → failing (is_below to) (ends_of due ends2) ≡ 0
early_ending to due ends ends2 p more low h =
    let a = ending_weighs (λ e. cond (is_below to e) 0 1) due ends ends2 p more in
    let z = zero_of (nat_lt p.sync to) (lt_true p.sync to low) in
    omega (arith, a, h, z)

-- an end whose start was pushed
pub pushed_end : (due due2 : List Edge) (x : Edge) (n sync : ℕ) → due2 ≡ due ++ x ∷ [] → n ≡ length due →
    end_of due2 (record { sync = sync; start = n }) ≡ record { sync = sync; other = x.sync; cells = x.cells }
pushed_end due due2 x n sync more is =
    ap (λ (e : Edge). record e { sync = sync; other = e.sync; cells = e.cells })
    (ap (λ l. get_or l n (record { sync = 0; other = 0; cells = [] })) more
    ∙ (ap (λ k. get_or (due ++ x ∷ []) k (record { sync = 0; other = 0; cells = [] })) is
    ∙ get_or-append_seam due x [] (record { sync = 0; other = 0; cells = [] })))

pub one_kept : (due due2 : List Edge) (p : Ending) → KeepsStarts due due2 → p.start < length due → (p.start < length due2) × (end_of due2 p ≡ end_of due p)
one_kept due due2 p keeps low =
    let one = keeps (p ∷ []) (All-cons (λ (q : Ending). q.start < length due) p [] low (All-nil (λ (q : Ending). q.start < length due))) in
    (All-head (λ (q : Ending). q.start < length due2) p [] one.0, ap (λ l. get_or l 0 (end_of due p)) one.1)
