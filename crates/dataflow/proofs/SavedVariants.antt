-- The operators of stages: what each calls sound and resumed is so of the node that it names.
use Rattle.std.specs.Prelude.{◌≡◌, ℕ, zero, suc, nat_eq, nat_lt, false, cond, Some, None, List, [], ◌∷◌, map, slice_get}
use Rattle.std.proofs.Common.{refl, arith}
use Rattle.std.proofs.lemmas.Bool.Decides.{nat_tests}
use Rattle.tw_rows.specs.Kinds.{cell_kind_of}
use Rattle.tw_rows.specs.declared.edge.Edge.{Edge}
use Rattle.tw_rows.specs.declared.kind.CellKind.{CellKind}
use Rattle.edge_stream.specs.Listing.{cells_of}
use Rattle.edge_stream.specs.declared.saved.PartRow.{PartRow}
use Rattle.edge_stream.specs.declared.saved.PartRow.TheVariants.{Left, Right, KeyFirst}
use Rattle.edge_stream.specs.declared.saved.SavedEntry.{SavedEntry}
use Rattle.plan_laws.specs.Shards.{is_keyed}
use Rattle.lifetime_ops.specs.Nodes.{node_of}
use Rattle.lifetime_ops.specs.Saving.{LifeSound, LifeResumes, row_of as life_row}
use Rattle.lifetime_ops.specs.ExtendSaving.{row_of as extend_row}
use Rattle.union_clip.specs.Saving.{row_of as union_row}
use Rattle.lifetime_ops.specs.declared.change.Change.{Change}
use Rattle.lifetime_ops.specs.declared.change.Change.TheVariants.{Delay, Hop, Duration, Mean}
use Rattle.lifetime_ops.specs.Operating.{standing as life_standing, IsState as IsLifeState, IsResumed as IsLifeResumed}
use Rattle.lifetime_ops.specs.ExtendOperating.{standing as extend_standing, IsState as IsExtendState, IsResumed as IsExtendResumed}
use Rattle.union_clip.specs.UnionOperating.{standing as union_standing, IsState as IsUnionState, IsResumed as IsUnionResumed}
use Rattle.coalesce_op.specs.Operating.{coalesce_row}
use Rattle.follow_op.specs.Operating.{standing as follow_standing, IsSound as IsFollowSound, Resumes as FollowGoesOn, row_of_part as follow_row}
use Rattle.outer_top.specs.Operating.{top_row}
use Rattle.snapshot_agg.specs.Operating.{standing as group_standing, group_row}
use Rattle.snapshot_agg.specs.Saving.{GroupSound, GroupResumes}
use Rattle.snapshot_agg.specs.declared.grouped.Grouped.{Grouped}
use Rattle.sweep_sides.specs.Operating.{standing as swept_standing, IsSound as IsSweptSound, Resumes as SweptGoesOn}
use Rattle.temporal_join.specs.Operating.{join_row}
use Rattle.anti_join.specs.Operating.{anti_row}
use Rattle.union_clip.specs.Operating.{clip_row}
use Rattle.session_window.specs.Operating.{session_row}
use Rattle.edge_stream.specs.Standing.{Keeping}
use Rattle.dataflow.specs.declared.stage.Stage.TheVariants.{Life as LifeStage, Union as UnionStage, Extend as ExtendStage, Join as JoinStage, Group as GroupStage, Anti as AntiStage, Session as SessionStage, Clip as ClipStage, Coalesce as CoalesceStage, Follow as FollowStage, Top as TopStage}
use Rattle.dataflow.specs.Saving.{NodeSound, NodeResumes, row_in}
use Rattle.dataflow.proofs.SavedStages.{SavesAsOne, SavesApart}

-- a Delay, a Hop, a Duration and a Mean
life_sound : (change : Change) (l r own : List CellKind) (saved : List SavedEntry) (x y : ℕ) → LifeSound (node_of change) l x saved → NodeSound l r own (node_of change) saved x y
life_sound (Delay by) l r own saved x y h = h
life_sound (Hop size period) l r own saved x y h = h
life_sound (Duration by) l r own saved x y h = h
life_sound (Mean at) l r own saved x y h = h

life_sounds : (change : Change) (l r own : List CellKind) (saved : List SavedEntry) (x y : ℕ) → NodeSound l r own (node_of change) saved x y → LifeSound (node_of change) l x saved
life_sounds (Delay by) l r own saved x y h = h
life_sounds (Hop size period) l r own saved x y h = h
life_sounds (Duration by) l r own saved x y h = h
life_sounds (Mean at) l r own saved x y h = h

life_resumed : (change : Change) (l r own : List CellKind) (saved : List SavedEntry) (x y : ℕ) (texts : List (List ℕ)) (hl hr out : List Edge) →
    LifeResumes (node_of change) l texts x y saved hl hr out → NodeResumes texts l r own (node_of change) saved x y hl hr out
life_resumed (Delay by) l r own saved x y texts hl hr out h = h
life_resumed (Hop size period) l r own saved x y texts hl hr out h = h
life_resumed (Duration by) l r own saved x y texts hl hr out h = h
life_resumed (Mean at) l r own saved x y texts hl hr out h = h

life_resumes : (change : Change) (l r own : List CellKind) (saved : List SavedEntry) (x y : ℕ) (texts : List (List ℕ)) (hl hr out : List Edge) →
    NodeResumes texts l r own (node_of change) saved x y hl hr out → LifeResumes (node_of change) l texts x y saved hl hr out
life_resumes (Delay by) l r own saved x y texts hl hr out h = h
life_resumes (Hop size period) l r own saved x y texts hl hr out h = h
life_resumes (Duration by) l r own saved x y texts hl hr out h = h
life_resumes (Mean at) l r own saved x y texts hl hr out h = h

pub life_plain : (change : Change) → is_keyed (node_of change) ≡ false
life_plain (Delay by) = refl
life_plain (Hop size period) = refl
life_plain (Duration by) = refl
life_plain (Mean at) = refl

-- the rows of parts, by their list
two_left : (part : ℕ) → cond (nat_lt part 2) (Some Left) None ≡ slice_get (Left ∷ Left ∷ []) part
two_left zero = refl
two_left (suc zero) = refl
two_left (suc (suc k)) = grind (arith, nat_tests)

three_left : (part : ℕ) → cond (nat_lt part 3) (Some Left) None ≡ slice_get (Left ∷ Left ∷ Left ∷ []) part
three_left zero = refl
three_left (suc zero) = refl
three_left (suc (suc zero)) = refl
three_left (suc (suc (suc k))) = grind (arith, nat_tests)

one_left : (part : ℕ) → cond (nat_eq part 0) (Some Left) None ≡ slice_get (Left ∷ []) part
one_left zero = refl
one_left (suc k) = grind (arith, nat_tests)

two_rows : (a b : PartRow) (part : ℕ) → cond (nat_eq part 0) (Some a) (cond (nat_eq part 1) (Some b) None) ≡ slice_get (a ∷ b ∷ []) part
two_rows a b zero = refl
two_rows a b (suc zero) = refl
two_rows a b (suc (suc k)) = grind (arith, nat_tests)

three_rows : (a b c : PartRow) (part : ℕ) → cond (nat_eq part 0) (Some a) (cond (nat_eq part 1) (Some b) (cond (nat_eq part 2) (Some c) None)) ≡ slice_get (a ∷ b ∷ c ∷ []) part
three_rows a b c zero = refl
three_rows a b c (suc zero) = refl
three_rows a b c (suc (suc zero)) = refl
three_rows a b c (suc (suc (suc k))) = grind (arith, nat_tests)

four_rows : (a b c d : PartRow) (part : ℕ) → cond (nat_eq part 0) (Some a) (cond (nat_eq part 1) (Some b) (cond (nat_eq part 2) (Some c) (cond (nat_eq part 3) (Some d) None))) ≡ slice_get (a ∷ b ∷ c ∷ d ∷ []) part
four_rows a b c d zero = refl
four_rows a b c d (suc zero) = refl
four_rows a b c d (suc (suc zero)) = refl
four_rows a b c d (suc (suc (suc zero))) = refl
four_rows a b c d (suc (suc (suc (suc k)))) = grind (arith, nat_tests)

five_rows : (a b c d e : PartRow) (part : ℕ) → cond (nat_eq part 0) (Some a) (cond (nat_eq part 1) (Some b) (cond (nat_eq part 2) (Some c) (cond (nat_eq part 3) (Some d) (cond (nat_eq part 4) (Some e) None)))) ≡ slice_get (a ∷ b ∷ c ∷ d ∷ e ∷ []) part
five_rows a b c d e zero = refl
five_rows a b c d e (suc zero) = refl
five_rows a b c d e (suc (suc zero)) = refl
five_rows a b c d e (suc (suc (suc zero))) = refl
five_rows a b c d e (suc (suc (suc (suc zero)))) = refl
five_rows a b c d e (suc (suc (suc (suc (suc k))))) = grind (arith, nat_tests)

life_rows : (change : Change) (part : ℕ) → life_row part ≡ row_in (node_of change) part
life_rows (Delay by) part = one_left part
life_rows (Hop size period) part = one_left part
life_rows (Duration by) part = one_left part
life_rows (Mean at) part = one_left part

pub life_saving : SavesAsOne LifeStage life_standing IsLifeState IsLifeResumed life_row
life_saving = record {
  saving = record {
    sound = λ o saved x y h. life_sound o.change (cells_of o.carried) _ _ saved x y h;
    sounds = λ o saved x y h. life_sounds o.change (cells_of o.carried) _ _ saved x y h;
    resumed = λ o saved x y texts hl hr out h. life_resumed o.change (cells_of o.carried) _ _ saved x y texts hl hr out h;
    resumes = λ o saved x y texts hl hr out h. life_resumes o.change (cells_of o.carried) _ _ saved x y texts hl hr out h;
  };
  one = λ o. refl;
  rows = λ o part. life_rows o.change part;
  no_key = λ o. life_plain o.change;
}

pub union_saving : SavesAsOne UnionStage union_standing IsUnionState IsUnionResumed union_row
union_saving = record {
  saving = record { sound = λ o saved x y h. h; sounds = λ o saved x y h. h; resumed = λ o saved x y texts hl hr out h. h; resumes = λ o saved x y texts hl hr out h. h };
  one = λ o. refl;
  rows = λ o part. two_rows Left Right part;
  no_key = λ o. refl;
}

pub extend_saving : SavesAsOne ExtendStage extend_standing IsExtendState IsExtendResumed extend_row
extend_saving = record {
  saving = record { sound = λ o saved x y h. h; sounds = λ o saved x y h. h; resumed = λ o saved x y texts hl hr out h. h; resumes = λ o saved x y texts hl hr out h. h };
  one = λ o. refl;
  rows = λ o part. two_left part;
  no_key = λ o. refl;
}

pub coalesce_saving : SavesAsOne CoalesceStage swept_standing IsSweptSound SweptGoesOn coalesce_row
coalesce_saving = record {
  saving = record { sound = λ o saved x y h. h; sounds = λ o saved x y h. h; resumed = λ o saved x y texts hl hr out h. h; resumes = λ o saved x y texts hl hr out h. h };
  one = λ o. refl;
  rows = λ o part. two_left part;
  no_key = λ o. refl;
}

pub follow_saving : SavesAsOne FollowStage follow_standing IsFollowSound FollowGoesOn follow_row
follow_saving = record {
  saving = record { sound = λ o saved x y h. h; sounds = λ o saved x y h. h; resumed = λ o saved x y texts hl hr out h. h; resumes = λ o saved x y texts hl hr out h. h };
  one = λ o. refl;
  rows = λ o part. three_rows Left Left Right part;
  no_key = λ o. refl;
}

pub top_saving : SavesAsOne TopStage swept_standing IsSweptSound SweptGoesOn top_row
top_saving = record {
  saving = record { sound = λ o saved x y h. h; sounds = λ o saved x y h. h; resumed = λ o saved x y texts hl hr out h. h; resumes = λ o saved x y texts hl hr out h. h };
  one = λ o. refl;
  rows = λ o part. three_left part;
  no_key = λ o. refl;
}

pub join_saving : SavesApart JoinStage swept_standing IsSweptSound SweptGoesOn join_row
join_saving = record {
  saving = record { sound = λ o saved x y h. h; sounds = λ o saved x y h. h; resumed = λ o saved x y texts hl hr out h. h; resumes = λ o saved x y texts hl hr out h. h };
  lists = λ w. refl;
  rows = λ o part. four_rows Left Right Left Right part;
}

pub anti_saving : SavesApart AntiStage swept_standing IsSweptSound SweptGoesOn anti_row
anti_saving = record {
  saving = record { sound = λ o saved x y h. h; sounds = λ o saved x y h. h; resumed = λ o saved x y texts hl hr out h. h; resumes = λ o saved x y texts hl hr out h. h };
  lists = λ w. refl;
  rows = λ o part. five_rows Left Right Left Right Left part;
}

pub clip_saving : SavesApart ClipStage swept_standing IsSweptSound SweptGoesOn clip_row
clip_saving = record {
  saving = record { sound = λ o saved x y h. h; sounds = λ o saved x y h. h; resumed = λ o saved x y texts hl hr out h. h; resumes = λ o saved x y texts hl hr out h. h };
  lists = λ w. refl;
  rows = λ o part. three_rows Left Left Right part;
}

-- the operator of a Group
abbrev pub IsGroupSound : Grouped → List SavedEntry → ℕ → ℕ → Type 0
IsGroupSound o saved x y = GroupSound (map cell_kind_of o.left_kinds.items) (map cell_kind_of o.kinds.items) x saved

abbrev pub GroupGoesOn : Grouped → List SavedEntry → ℕ → ℕ → Keeping
GroupGoesOn o saved x y texts hl hr out =
    GroupResumes (map cell_kind_of o.left_kinds.items) (map cell_kind_of o.kinds.items) o.groups.key.items o.groups.aggs.items texts x saved hl hr out

pub group_saving : SavesApart GroupStage group_standing IsGroupSound GroupGoesOn group_row
group_saving = record {
  saving = record { sound = λ o saved x y h. h; sounds = λ o saved x y h. h; resumed = λ o saved x y texts hl hr out h. h; resumes = λ o saved x y texts hl hr out h. h };
  lists = λ w. refl;
  rows = λ o part. three_rows Left Left KeyFirst part;
}

pub session_saving : SavesApart SessionStage swept_standing IsSweptSound SweptGoesOn session_row
session_saving = record {
  saving = record {
    sound = λ o saved x y h. h;
    sounds = λ o saved x y h. h;
    resumed = λ o saved x y texts hl hr out h. record { sound = h.sound; came = h.came; kept = record { ends = h.kept.ends; kept = h.kept.kept } };
    resumes = λ o saved x y texts hl hr out h. record { sound = h.sound; came = h.came; kept = record { ends = h.kept.ends; kept = h.kept.kept } };
  };
  lists = λ w. refl;
  rows = λ o part. two_left part;
}
