-- Lists that are cut.
use Rattle.std.specs.Prelude.{◌≡◌, ℕ, ◌+◌, ◌≤◌, not, Bool, true, false, List, ◌++◌, take, drop, refl}
use Rattle.std.proofs.Common.{sym, ◌∙◌, ap, arith}
use Rattle.std.proofs.Math.Seq.{take-add}
use Rattle.std.proofs.lemmas.List.{take-append-drop}
use Rattle.tw_rows.specs.Bag.{total}
use Rattle.tw_rows.specs.declared.edge.Edge.{Edge}
use Rattle.tw_rows.specs.declared.edge.HeldRow.{HeldRow}
use Rattle.tw_rows.proofs.Bags.{total-append, total-flat_map}
use Rattle.edge_history.specs.Opens.{started_of, started_rows}
pub use Rattle.sweep_laws.proofs.Instants.{drop_past}

pub no_not : (b : Bool) → not b ≡ false → b ≡ true
no_not true h = refl
no_not false h = absurd (cc)

-- the rows that start in parts of a list
starts_parts : (w : HeldRow → ℕ) (xs ys : List Edge) → total w (started_rows (xs ++ ys)) ≡ total w (started_rows xs) + total w (started_rows ys)
starts_parts w xs ys =
    let a = total-flat_map w started_of (xs ++ ys) in
    let b = total-append (λ x. total w (started_of x)) xs ys in
    let c = total-flat_map w started_of xs in
    let d = total-flat_map w started_of ys in
    omega (arith, a, b, c, d)

pub starts_before : (w : HeldRow → ℕ) (due rest : List Edge) (i n : ℕ) → rest ≡ drop i due →
    total w (started_rows (take (i + n) due)) ≡ total w (started_rows (take i due)) + total w (started_rows (take n rest))
starts_before w due rest i n e =
    ap (λ (l : List Edge). total w (started_rows l)) (take-add i n due) ∙ (starts_parts w (take i due) (take n (drop i due))
    ∙ ap (λ (l : List Edge). total w (started_rows (take i due)) + total w (started_rows (take n l))) (sym e))

pub starts_part : (w : HeldRow → ℕ) (due : List Edge) (i : ℕ) → total w (started_rows (take i due)) ≤ total w (started_rows due)
starts_part w due i =
    let a = ap (λ (l : List Edge). total w (started_rows l)) (take-append-drop i due) in
    let b = starts_parts w (take i due) (drop i due) in
    omega (arith, a, b)
