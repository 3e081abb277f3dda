-- Which nodes of a plan read the list of a stream or of a node last.
use Rattle.std.specs.Prelude.{◌≡◌, ◌↔◌, ℕ, ◌<◌, Option, Some, None, List, length, slice_index_or, slice_set}
use Rattle.plan_model.specs.IsPlan.{PlanParts}
use Rattle.dataflow.specs.Held.{IsRead, IsNeededStream}
use Rattle.dataflow.specs.declared.readers.Readers.{Readers}

-- the numbers, that of a list which is read now one. Of 0, 2 with the list 0 read and the number 3: 3, 2
abbrev pub with_last : List ℕ → Option ℕ → ℕ → List ℕ
with_last last None number = last
with_last last (Some at) number = slice_set last at number

-- a node from a number on reads the list of a node, or a source that of a stream, just where the number of the list is greater.
-- Of a source 0 of the one stream, a where 1 over it and a union 2 of both, they are 3, 3, 0, and 1 for the stream
pub record AreReaders (plan : PlanParts) (last : Readers) : Type 0 where
  pub nodes : length last.nodes.items ≡ length plan.nodes
  pub streams : length last.streams.items ≡ length plan.streams
  pub of_nodes : (from k : ℕ) → k < length plan.nodes → (from < slice_index_or last.nodes.items k 0) ↔ IsRead plan from k
  pub of_streams : (from s : ℕ) → s < length plan.streams → (from < slice_index_or last.streams.items s 0) ↔ IsNeededStream plan from s
