use Rattle.std.proofs.Common.{◌++◌, ◌∙◌, ap}
use Rattle.edge_stream.specs.Listing.{cells_of}
use Rattle.edge_stream.specs.Entries.{entries_of}
use Rattle.union_clip.proofs.Saving.{union_few, union_saved, union_resumed}
use Rattle.union_clip.proofs.operating.UnionOperator.save.Goals as goal

pub returns-clause-few : goal.returns-clause-few
returns-clause-few c =
    let s = c.args.self.now in
    union_few s.left.edges s.right.edges c.save_part.new.saved c.save_part-2.new.saved (c.in_ok-save_part.ensures.entries ∙ ap (λ l. l ++ entries_of 0 s.left.edges) c.new-saved.ensures) c.in_ok-save_part-2.ensures.entries

pub returns-clause-sound : goal.returns-clause-sound
returns-clause-sound c =
    let s = c.args.self.now in
    union_saved s.left.edges s.right.edges c.save_part.new.saved c.save_part-2.new.saved (c.in_ok-save_part.ensures.entries ∙ ap (λ l. l ++ entries_of 0 s.left.edges) c.new-saved.ensures) c.in_ok-save_part-2.ensures.entries
    (cells_of s.left) (cells_of s.right) s.left_to s.right_to s.alike c.save_part.ensures.order c.save_part-2.ensures.order c.in_ok-save_part.ensures.cells c.in_ok-save_part-2.ensures.cells (s.left_late c.requires) (s.right_late c.requires)

pub returns-clause-resumes : goal.returns-clause-resumes
returns-clause-resumes c = λ texts hl hr out k.
    let s = c.args.self.now in
    union_resumed s.left.edges s.right.edges c.save_part.new.saved c.save_part-2.new.saved (c.in_ok-save_part.ensures.entries ∙ ap (λ l. l ++ entries_of 0 s.left.edges) c.new-saved.ensures) c.in_ok-save_part-2.ensures.entries
    (cells_of s.left) texts s.left_to s.right_to hl hr out (returns-clause-sound c) k
