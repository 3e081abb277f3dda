use Rattle.std.specs.Prelude.{max}
use Rattle.std.proofs.Common.{◌∙◌, ap, sym, refl, arith}
use Rattle.std.proofs.lemmas.List.{length-map}
use Rattle.admission.specs.Admission.{raised, admit}
use Rattle.row_reader.specs.declared.entry.Entry.TheVariants.{Punct}
use Rattle.ingress.specs.Streams.{bound_in, mark_in}
use Rattle.ingress.proofs.Marks.{above_raised, above_all}
use Rattle.ingress.proofs.Lines.{raised_same, raised_above, follows_marks}
use Rattle.ingress.proofs.ingress.Ingress.punctuate.Goals as goal

pub invariant_of-self : goal.invariant_of-self
invariant_of-self c = let i = c.args.self.now in record {
  shape = (let h = i.shape in record { marks = c.raise.ensures.len ∙ h.marks; waiting = h.waiting; room = h.room; width = h.width; fit = h.fit });
  above = λ s.
      let a = above_raised c.in-Some.stream c.args.time (mark_in i.watermarks.streams.items) (bound_in i.watermarks.streams.items) s (i.above s) in
      let b = c.raise.ensures.bounds s in
      let m = c.raise.ensures.marks s in
      omega (arith, a, b, m);
}

pub invariant_of-self-in-None : goal.invariant_of-self-in-None
invariant_of-self-in-None c = let i = c.args.self.now in record {
  shape = (let h = i.shape in record { marks = c.raise_all.ensures.len ∙ h.marks; waiting = h.waiting; room = h.room; width = h.width; fit = h.fit });
  above = above_all c.args.time i.watermarks.streams.items c.raise_all.new.self.streams.items c.raise_all.ensures.len c.raise_all.ensures.bounds c.raise_all.ensures.marks i.above;
}

pub returns-in-Some-clause-admits : goal.returns-in-Some-clause-admits
returns-in-Some-clause-admits c = λ texts a given k.
    let i = c.args.self.now in
    let s = c.in-Some.stream in
    let t = c.args.time in
    let f = k.follows in (
      record a { bound = raised s t a.bound; mark = raised s t a.mark },
      (
        ap (λ o. admit i.policy a (Punct o t)) c.in-Some.is,
        record {
          follows = follows_marks texts given a i f (record a { bound = raised s t a.bound; mark = raised s t a.mark }) _ refl refl refl
              (λ j less. raised_same s t a.bound (bound_in i.watermarks.streams.items) j (f.bounds j less) ∙ sym (c.raise.ensures.bounds j))
              (λ j less. raised_same s t a.mark (mark_in i.watermarks.streams.items) j (f.marks j less) ∙ sym (c.raise.ensures.marks j))
              (λ j. refl) refl;
          low = λ j less. (let b = k.low j less in let u = raised_above s t a.bound j in omega (arith, b, u));
        },
      ),
    )

pub returns-in-None-clause-admits : goal.returns-in-None-clause-admits
returns-in-None-clause-admits c = λ texts a given k.
    let i = c.args.self.now in
    let t = c.args.time in
    let f = k.follows in
    let l = i.shape.marks ∙ length-map i.kinds.items _ in (
      record a { bound = λ s. max (a.bound s) t; mark = λ s. max (a.mark s) t },
      (
        ap (λ o. admit i.policy a (Punct o t)) c.in-None.is,
        record {
          follows = follows_marks texts given a i f (record a { bound = λ s. max (a.bound s) t; mark = λ s. max (a.mark s) t }) _ refl refl refl
              (λ j less. ap (λ x. max x t) (f.bounds j less) ∙ sym (c.raise_all.ensures.bounds j (omega (arith, l, less))))
              (λ j less. ap (λ x. max x t) (f.marks j less) ∙ sym (c.raise_all.ensures.marks j (omega (arith, l, less))))
              (λ j. refl) refl;
          low = λ j less. (let b = k.low j less in omega (arith, b));
        },
      ),
    )
