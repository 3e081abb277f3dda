-- What an operator, or one shard of a node, is given for a step and owes of it.
use Rattle.std.specs.Prelude.{◌≡◌, ℕ, ◌≤◌, ◌<◌, nat_le, Bool, true, false, Option, Some, None, List, [], Result, Ok, Err, length, All, IfOk, IfErr, OnOk, slice_index_or, fold, min}
use Rattle.tw_rows.specs.declared.edge.Edge.{Edge}
use Rattle.edge_stream.specs.Listing.{EdgeListView, cells_of}
use Rattle.edge_stream.specs.declared.saved.StepFault.{StepFault}
use Rattle.edge_stream.specs.declared.saved.StepFault.TheVariants.{Overflow, Memory}
use Rattle.plan_laws.specs.Undefined.{is_group}
use Rattle.edge_stream.specs.Standing.{Standing, Keeping, IsLike}
use Rattle.edge_stream.specs.Steps.{AnswersBetween, StaysKept, IsFirstUndefined}

-- what a step of an operator that stands so asks: it works, its sides are not closed beyond u and v, the columns of the
-- lists are stored as it reads them, and lists and pools have its room
pub record CanTake (s : Standing) (room : ℕ) (left right : EdgeListView) (u v : ℕ) : Type 0 where
  pub works : s.has_failed ≡ false
  pub left_rises : s.left_closed ≤ u
  pub right_rises : s.right_closed ≤ v
  pub left_kinds : cells_of left ≡ s.left_kinds
  pub right_kinds : cells_of right ≡ s.right_kinds
  pub left_room : left.capacity ≡ s.batch_rows
  pub right_room : right.capacity ≡ s.batch_rows
  pub own_room : room ≡ s.batch_rows

-- the same of a shard, of so many: the columns of the keys are among those of the lists
pub record CanStep (s : Standing) (room count : ℕ) (left_key right_key : List ℕ) (left right : EdgeListView) (u v : ℕ) : Type 0 where
  pub take : CanTake s room left right u v
  pub some : 1 ≤ count
  pub left_columns : All (λ column. column < length left.kinds) left_key
  pub right_columns : All (λ column. column < length right.kinds) right_key

-- the clauses of a step of an operator that stood as old and stands as new, with edges left and right, up to u and v; but
-- out of memory may come before the operator is asked
pub record HasStepped (old new : Standing) (before after : Keeping) (left right : List Edge) (u v : ℕ)
    (answer : Result EdgeListView StepFault) : Type 0 where
  pub kept : IfOk answer (λ list. StaysKept old before after left right list.edges)
  pub between : IfOk answer (λ list. AnswersBetween old left right u v list.edges)
  pub defined : OnOk answer (IsFirstUndefined old before left u v None)
  pub overflow : IfErr answer (λ fault. (time : ℕ) → fault ≡ Overflow time →
      IsFirstUndefined old before left u v (Some time))
  pub group : IfErr answer (λ fault. (time : ℕ) → fault ≡ Overflow time → is_group old.node ≡ true)
  pub kinds : IfOk answer (λ list. cells_of list ≡ old.own_kinds)
  pub capacity : IfOk answer (λ list. list.capacity ≡ old.batch_rows)
  pub left_to : OnOk answer (new.left_closed ≡ u)
  pub right_to : OnOk answer (new.right_closed ≡ v)
  pub works : OnOk answer (new.has_failed ≡ false)
  pub like : IsLike old new

-- the edges of an answer, and none of a fault
abbrev pub edges_answered : Result EdgeListView StepFault → List Edge
edges_answered (Ok list) = list.edges
edges_answered (Err fault) = []

-- the answer is not out of memory, and no overflow before the time
abbrev pub is_fine_before : ℕ → Result EdgeListView StepFault → Bool
is_fine_before time (Ok list) = true
is_fine_before time (Err Memory) = false
is_fine_before time (Err (Overflow other)) = nat_le time other

-- one of the answers is an overflow at the time, and none is out of memory or an overflow before it
pub record IsLeastOverflow (time : ℕ) (answers : List (Result EdgeListView StepFault)) : Type 0 where
  pub place : ℕ
  pub within : place < length answers
  pub there : (d : Result EdgeListView StepFault) → slice_index_or answers place d ≡ Err (Overflow time)
  pub least : All (λ answer. is_fine_before time answer ≡ true) answers

-- the fault of an answer, if it is one
abbrev pub fault_of : Result EdgeListView StepFault → Option StepFault
fault_of (Ok list) = None
fault_of (Err fault) = Some fault

-- the fault of two that is told: out of memory, and else the earlier overflow
abbrev pub worse_of : Option StepFault → Option StepFault → Option StepFault
worse_of None b = b
worse_of (Some Memory) b = Some Memory
worse_of (Some (Overflow t)) None = Some (Overflow t)
worse_of (Some (Overflow t)) (Some Memory) = Some Memory
worse_of (Some (Overflow t)) (Some (Overflow u)) = Some (Overflow (min t u))

-- the fault that is told of several answers. Of an overflow at 5, edges, and an overflow at 3: the one at 3
abbrev pub worst_of : List (Result EdgeListView StepFault) → Option StepFault
worst_of answers = fold (λ worst answer. worse_of worst (fault_of answer)) None answers

-- the first of some lists
abbrev pub first_list : List EdgeListView → EdgeListView
first_list lists = slice_index_or lists 0 (record { edges = []; kinds = []; capacity = 0; batches = 0; room = 0 })
