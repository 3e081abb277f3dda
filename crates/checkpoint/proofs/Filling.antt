-- What is left of a line to be appended, and the room for it.
use Rattle.std.proofs.Common.{◌≡◌, ◌≤◌, ℕ, List, [], ◌∷◌, ◌++◌, length, map, take, drop, Result, Ok, Err, sym, ◌∙◌, ap, arith, append_assoc}
use Rattle.std.specs.Prelude.{Vec, vec_capacity, OnErr, codes, decimal, flat_map}
use Rattle.std.proofs.lemmas.List.{length-append, take-append-drop}
use Rattle.std.proofs.lemmas.Grind.{flat_map-append}
use Rattle.std.proofs.lemmas.List.Folds.{flat_map-map}
use Rattle.tw_rows.specs.declared.cells.Datum.{Datum}
use Rattle.row_reader.specs.FieldTexts.{time_text}
use Rattle.edge_stream.specs.declared.saved.SavedEntry.{SavedEntry}
use Rattle.frozen_state.specs.declared.owner.Owner.{Owner}
use Rattle.checkpoint.specs.Lines.{owner_text, datum_text, cell_texts, entry_line}
use Rattle.checkpoint.specs.Pieces.{line_head}
use Rattle.checkpoint.specs.Room.{LacksRoom}

pub on_err : {T E : Type 0} (r : Result T E) (P : Type 0) → P → OnErr r P
on_err (Ok x) P h = tt
on_err (Err e) P h = h

-- where there is no room for a text, there was none for it behind what stands before it and with what follows
pub then_full : {Z : Type 0} (old mid : Vec ℕ Z) (part after rest all : List ℕ) → rest ≡ part ++ after → mid.items ++ rest ≡ old.items ++ all → vec_capacity old ≤ vec_capacity mid →
    LacksRoom mid part → LacksRoom old all
then_full old mid part after rest all cut e room full =
    let l = ap length e in
    let k = ap length cut in
    omega (arith, full, room, l, k, length-append part after, length-append mid.items rest, length-append old.items all)

-- the first n cells, and then the others
pub cells_cut : (n : ℕ) (cells few more : List Datum) → few ≡ take n cells → more ≡ drop n cells → cell_texts cells ≡ cell_texts few ++ cell_texts more
cells_cut n cells few more front back =
    ap cell_texts (sym (take-append-drop n cells)) ∙ flat_map-append (λ (d : Datum). 44 ∷ datum_text d) (take n cells) (drop n cells)
    ∙ (λ i. cell_texts (sym front i) ++ cell_texts (sym back i))

-- the cells are fields
cell_fields : (cells : List Datum) → cell_texts cells ≡ flat_map (λ (f : List ℕ). 44 ∷ f) (map datum_text cells)
cell_fields cells = sym (flat_map-map (λ (f : List ℕ). 44 ∷ f) datum_text cells)

six_and : (w a b c d e rest : List ℕ) → (w ++ (a ++ (b ++ (c ++ (d ++ (e ++ [])))))) ++ rest ≡ w ++ (a ++ (b ++ (c ++ (d ++ (e ++ rest)))))
six_and w a b c d e rest = simp append_assoc

-- an entry's line is its head and its cells
pub head_and_cells : (owner : Owner) (shard : ℕ) (e : SavedEntry) → line_head owner shard e ++ cell_texts e.cells ≡ entry_line owner shard e
head_and_cells owner shard e =
    ap (λ (l : List ℕ). line_head owner shard e ++ l) (cell_fields e.cells)
    ∙ six_and (codes "#entry") (44 ∷ owner_text owner) (44 ∷ decimal shard) (44 ∷ decimal e.part) (44 ∷ time_text e.sync) (44 ∷ time_text e.other) (flat_map (λ (f : List ℕ). 44 ∷ f) (map datum_text e.cells))

-- once the head was appended, the cells are left
pub cells_left : (old mid head cells all : List ℕ) → mid ≡ old ++ head → head ++ cells ≡ all → mid ++ cells ≡ old ++ all
cells_left old mid head cells all before is = ap (λ (l : List ℕ). l ++ cells) before ∙ append_assoc old head cells ∙ ap (λ (l : List ℕ). old ++ l) is
