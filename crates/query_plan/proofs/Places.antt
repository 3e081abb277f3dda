-- The first column of a name.
use Rattle.std.proofs.Common.{◌≡◌, ℕ, suc, ◌+◌, ◌<◌, ◌≤◌, Bool, true, false, Some, None, List, ◌∷◌, length, drop, get_or, ap, sym, ◌∙◌, arith, nat_eq}
use Rattle.std.specs.Prelude.{if◌then◌else◌}
use Rattle.std.proofs.lemmas.List.{drop_more, drop_all}
use lib.Pointwise.{pointwise}
use Rattle.tw_rows.specs.declared.schema.ColumnDef.{ColumnDef}
use Rattle.query_plan.specs.Names.{column_from, column_of}

at : (i : ℕ) (schema : List ColumnDef) (name : List ℕ) (c : ColumnDef) (same : Bool) → i < length schema → c ≡ get_or schema i c → pointwise nat_eq c.name name ≡ same → column_from i (drop i schema) name ≡ (if same then Some i else column_from (suc i) (drop (i + 1) schema) name)
at i schema name c same low is e =
    ap (λ l. column_from i l name) (drop_more schema i c low)
    ∙ ap (λ d. column_from i (d ∷ drop (i + 1) schema) name) (sym is)
    ∙ ap (λ b. if b then Some i else column_from (suc i) (drop (i + 1) schema) name) e

pub column_here : (i : ℕ) (schema : List ColumnDef) (name : List ℕ) (c : ColumnDef) → column_from i (drop i schema) name ≡ column_of schema name → i < length schema → c ≡ get_or schema i c → pointwise nat_eq c.name name ≡ true → Some i ≡ column_of schema name
column_here i schema name c h low is e = sym (at i schema name c true low is e) ∙ h

pub column_past : (i : ℕ) (schema : List ColumnDef) (name : List ℕ) (c : ColumnDef) → column_from i (drop i schema) name ≡ column_of schema name → i < length schema → c ≡ get_or schema i c → pointwise nat_eq c.name name ≡ false → column_from (i + 1) (drop (i + 1) schema) name ≡ column_of schema name
column_past i schema name c h low is e =
    let next : i + 1 ≡ suc i = omega arith in
    ap (λ n. column_from n (drop (i + 1) schema) name) next ∙ sym (at i schema name c false low is e) ∙ h

pub column_end : (i : ℕ) (schema : List ColumnDef) (name : List ℕ) → column_from i (drop i schema) name ≡ column_of schema name → length schema ≤ i → None ≡ column_of schema name
column_end i schema name h past = ap (λ l. column_from i l name) (sym (drop_all i schema past)) ∙ h
