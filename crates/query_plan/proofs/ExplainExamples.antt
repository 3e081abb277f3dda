-- Texts of two plans, worked out.
use Rattle.std.specs.Prelude.{◌≡◌, ℕ, pos, List, [], ◌∷◌, codes, refl}
use Rattle.std.specs.Fmt.{digits}
use Rattle.tw_rows.specs.declared.kind.Kind.TheVariants as K
use Rattle.tw_rows.specs.declared.schema.ColumnDef.{ColumnDef}
use Rattle.plan_model.specs.declared.agg.Agg.TheVariants as A
use Rattle.plan_model.specs.declared.expr.ExprNode.TheVariants as E
use Rattle.plan_model.specs.declared.expr.CompareOp.TheVariants as C
use Rattle.plan_model.specs.declared.node.Node.TheVariants.{Source, Where, Select, Delay, Hop, Group, Join}
use Rattle.plan_model.specs.IsPlan.{PlanParts}
use Rattle.query_plan.specs.Explained.{explained}

abbrev int : List ℕ → ColumnDef
int name = record { name = name; kind = K.Int }

abbrev text : List ℕ → ColumnDef
text name = record { name = name; kind = K.Text }

-- stream s(k text, v int); s | where v > 10 | select k
abbrev of_filter : PlanParts
of_filter = record {
  streams = record { name = codes "s"; schema = text (codes "k") ∷ int (codes "v") ∷ [] } ∷ [];
  nodes =
      Source 0
      ∷ Where 0 (E.Column 1 ∷ E.Int (pos 10) ∷ E.Compare C.Gt 0 1 ∷ [])
      ∷ Select 1 ((E.Column 0 ∷ []) ∷ [])
      ∷ [];
  schemas =
      (text (codes "k") ∷ int (codes "v") ∷ [])
      ∷ (text (codes "k") ∷ int (codes "v") ∷ [])
      ∷ (text (codes "k") ∷ [])
      ∷ [];
  root = 2;
}

filter_text : explained of_filter ≡ codes "0 source - event 0 k:text,v:int\n1 where 0 event 0 k:text,v:int\n2 select 1 event 0 k:text\nroot 2\n"
unfolding digits
filter_text = refl

abbrev ticks : List ColumnDef
ticks = text (codes "sym") ∷ int (codes "px") ∷ int (codes "qty") ∷ []

abbrev totals : List ColumnDef
totals = text (codes "sym") ∷ int (codes "n") ∷ int (codes "q") ∷ []

-- the totals of a hop, joined with those of the hop before
abbrev of_windows : PlanParts
of_windows = record {
  streams = record { name = codes "ticks"; schema = ticks } ∷ [];
  nodes =
      Source 0
      ∷ Hop 0 60 60
      ∷ Group 1 (0 ∷ []) (A.Count ∷ A.Sum 2 ∷ [])
      ∷ Delay 2 60
      ∷ Select 3 ((E.Column 0 ∷ []) ∷ (E.Column 2 ∷ []) ∷ [])
      ∷ Join 2 4 (0 ∷ []) (0 ∷ [])
      ∷ [];
  schemas =
      ticks
      ∷ ticks
      ∷ totals
      ∷ totals
      ∷ (text (codes "sym") ∷ int (codes "q0") ∷ [])
      ∷ (text (codes "sym") ∷ int (codes "n") ∷ int (codes "q") ∷ int (codes "q0") ∷ [])
      ∷ [];
  root = 5;
}

windows_text : explained of_windows ≡ codes "0 source - event 0 sym:text,px:int,qty:int\n1 hop 0 event 60 sym:text,px:int,qty:int\n2 group 1 snapshot 60 sym:text,n:int,q:int\n3 delay 2 snapshot 120 sym:text,n:int,q:int\n4 select 3 snapshot 120 sym:text,q0:int\n5 join 2,4 snapshot 120 sym:text,n:int,q:int,q0:int\nroot 5\n"
unfolding digits
windows_text = refl
