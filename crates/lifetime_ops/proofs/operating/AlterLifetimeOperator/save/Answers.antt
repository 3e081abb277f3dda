use Rattle.std.proofs.Common.{◌++◌, ◌∙◌, ap, length, arith}
use Rattle.edge_stream.specs.Listing.{cells_of}
use Rattle.edge_stream.specs.Entries.{entries_of}
use Rattle.edge_stream.proofs.CarriedParts.{saved_length}
use Rattle.lifetime_ops.specs.Nodes.{node_of}
use Rattle.lifetime_ops.proofs.Saving.{life_saved, life_resumed}
use Rattle.lifetime_ops.proofs.operating.AlterLifetimeOperator.save.Goals as goal

pub returns-clause-few : goal.returns-clause-few
returns-clause-few c =
    let len = saved_length c.new-saved.result c.save_part.new.saved 0 c.args.self.now.carried.edges c.in_ok-save_part.ensures.entries in
    let none = ap length c.new-saved.ensures in
    omega (arith, len, none)

pub returns-clause-sound : goal.returns-clause-sound
returns-clause-sound c =
    let s = c.args.self.now in
    life_saved (node_of s.change) (cells_of s.carried) s.left_to s.carried.edges c.save_part.new.saved (c.in_ok-save_part.ensures.entries ∙ ap (λ l. l ++ entries_of 0 s.carried.edges) c.new-saved.ensures)
    c.save_part.ensures.order c.in_ok-save_part.ensures.cells (s.late c.requires)

pub returns-clause-resumes : goal.returns-clause-resumes
returns-clause-resumes c = λ texts hl hr out k.
    let s = c.args.self.now in
    life_resumed (node_of s.change) (cells_of s.carried) texts s.left_to s.right_to s.carried.edges hl hr out c.save_part.new.saved
    (c.in_ok-save_part.ensures.entries ∙ ap (λ l. l ++ entries_of 0 s.carried.edges) c.new-saved.ensures) (returns-clause-sound c) k
