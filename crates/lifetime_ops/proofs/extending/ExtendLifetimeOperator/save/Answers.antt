use Rattle.std.proofs.Common.{◌++◌, ◌∙◌, ap}
use Rattle.edge_stream.specs.Listing.{cells_of}
use Rattle.edge_stream.specs.Entries.{entries_of}
use Rattle.lifetime_ops.proofs.Loading.{extend_few, extend_saved, extend_resumed}
use Rattle.lifetime_ops.proofs.extending.ExtendLifetimeOperator.save.Goals as goal

pub returns-clause-few : goal.returns-clause-few
returns-clause-few c =
    let s = c.args.self.now in
    extend_few s.carried.edges s.ends c.deref.result.now c.save_part.new.saved c.save_edges.new.saved (c.deref.ensures.value ∙ c.in_ok-ends.ensures) (c.in_ok-save_part.ensures.entries ∙ ap (λ l. l ++ entries_of 0 s.carried.edges) c.new-saved.ensures) c.in_ok-save_edges.ensures

pub returns-clause-sound : goal.returns-clause-sound
returns-clause-sound c =
    let s = c.args.self.now in
    extend_saved s.carried.edges s.ends c.deref.result.now c.save_part.new.saved c.save_edges.new.saved (c.deref.ensures.value ∙ c.in_ok-ends.ensures) (c.in_ok-save_part.ensures.entries ∙ ap (λ l. l ++ entries_of 0 s.carried.edges) c.new-saved.ensures) c.in_ok-save_edges.ensures
    (cells_of s.carried) s.left_to c.save_part.ensures.order c.in_ok-save_part.ensures.cells (s.late c.requires) c.len.ensures.order s.waiting (s.due c.requires)

pub returns-clause-resumes : goal.returns-clause-resumes
returns-clause-resumes c = λ texts hl hr out k.
    let s = c.args.self.now in
    extend_resumed s.carried.edges s.ends c.deref.result.now c.save_part.new.saved c.save_edges.new.saved (c.deref.ensures.value ∙ c.in_ok-ends.ensures) (c.in_ok-save_part.ensures.entries ∙ ap (λ l. l ++ entries_of 0 s.carried.edges) c.new-saved.ensures) c.in_ok-save_edges.ensures
    s.by (cells_of s.carried) texts s.left_to s.right_to hl hr out (returns-clause-sound c) k
