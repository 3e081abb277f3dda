use Rattle.std.specs.Prelude.{◌++◌, map}
use Rattle.std.proofs.Common.{◌∙◌, ap}
use Rattle.ingress.specs.Keeping.{opens_in}
use Rattle.ingress.specs.Loaded.{entry_of_open, waits_from}
use Rattle.ingress.proofs.SavedAll.{saved_resumes, saved_sound, saved_few}
use Rattle.ingress.proofs.ingress.Ingress.save.Goals as goal

pub returns-clause-resumes : goal.returns-clause-resumes
returns-clause-resumes c = λ texts a given bounds marks k timed time same.
    let h = c.args.self.now.held in
    let entries = c.in_ok-save.ensures.entries ∙ ap (λ l. l ++ (waits_from 0 h.waiting.items ++ map entry_of_open (opens_in h.opens.starts.entries))) c.in_ok-saved.ensures in
    let sound = saved_sound texts a given c.args.self.now c.save.new.saved entries c.in_ok-save.ensures.unique bounds marks k timed time (λ s less. (same s less).0) (λ s less. (same s less).1) in
    saved_resumes texts a given c.args.self.now c.save.new.saved entries c.in_ok-save.ensures.unique k.follows bounds marks sound (λ s less. (same s less).0) (λ s less. (same s less).1)

pub returns-clause-few : goal.returns-clause-few
returns-clause-few c = λ texts a given f.
    let h = c.args.self.now.held in
    saved_few texts a given c.args.self.now c.save.new.saved
    (c.in_ok-save.ensures.entries ∙ ap (λ l. l ++ (waits_from 0 h.waiting.items ++ map entry_of_open (opens_in h.opens.starts.entries))) c.in_ok-saved.ensures)
    c.in_ok-save.ensures.unique f
