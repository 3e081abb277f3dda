use Rattle.std.proofs.Common.{◌≡◌, ◌∙◌, ◌&&◌, false, map, get_or, ap, sym}
use Rattle.batch.proofs.Views.{occupied_place, bits_of_rows}
use Rattle.batch.proofs.batch.Batch.is_kept.Goals as goal

pub is_set-requires : goal.is_set-requires
is_set-requires c = occupied_place c.self.inside c.args.self.now c.self.view_is c.self.invariant c.args.i c.requires.place

pub returns-then-is_set : goal.returns-then-is_set
returns-then-is_set c =
    let bits = bits_of_rows c.self.inside c.args.self.now c.self.view_is c.self.invariant in
    let bit : get_or (map (λ r. r.occupied) c.args.self.now.rows) c.args.i false ≡ c.is_set.result = ap (λ xs. get_or xs c.args.i false) bits ∙ sym c.is_set.ensures in
    c.is_set-then-is_set.ensures ∙ ap (λ b. b && get_or c.args.mask.now.items c.args.i false) (sym (bit ∙ c.if-is_set.true))

pub returns-else-is_set : goal.returns-else-is_set
returns-else-is_set c =
    let bits = bits_of_rows c.self.inside c.args.self.now c.self.view_is c.self.invariant in
    let bit : get_or (map (λ r. r.occupied) c.args.self.now.rows) c.args.i false ≡ c.is_set.result = ap (λ xs. get_or xs c.args.i false) bits ∙ sym c.is_set.ensures in
    c.if-is_set.false ∙ ap (λ b. b && get_or c.args.mask.now.items c.args.i false) (sym (bit ∙ c.if-is_set.false))
