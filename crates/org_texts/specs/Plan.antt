-- What a command changes: edits of one text, or of two.
use Rattle.std.specs.Prelude.{◌≡◌, ℕ, ◌+◌, ◌≤◌, List, [], ◌∷◌, length, Option, Some, None, IsSomeAnd}
use Rattle.std.specs.Option.{ForSome}
use Rattle.org_splice.specs.declared.edit.Edit.{Edit}
use Rattle.org_splice.specs.Edits.{CanApply, applied}
use Rattle.org_splice.specs.Lines.{terminated}
use Rattle.org_splice.specs.Texts.{spliced_each}
use Rattle.org_texts.specs.declared.plan.FileEdits.{FileEdits}
use Rattle.org_texts.specs.declared.plan.Plan.{Plan}
use Rattle.org_texts.specs.Texts.{TextSet, text_of, with_change, with_name}

-- the texts with the edits of one of them, which is dirty from then on
abbrev pub with_edits : FileEdits → TextSet → TextSet
with_edits change set = record {
  texts = with_change change.file (spliced_each change.edits.items) set.texts;
  dirty = with_name change.file set.dirty;
}

abbrev pub with_second : Option FileEdits → TextSet → TextSet
with_second None set = set
with_second (Some change) set = with_edits change set

-- the texts that a plan makes
abbrev pub planned : Plan → TextSet → TextSet
planned plan set = with_second plan.second (with_edits plan.first set)

-- the edits lie in the text, each in the one that those before it leave
abbrev pub LieIn : List Edit → List ℕ → Type 0
LieIn [] text = Unit {0}
LieIn (e ∷ es) text = (e.at + e.removed ≤ length text) × LieIn es (applied e text)

-- the edits can be made of the text of their name, which is held
abbrev pub CanEdit : FileEdits → TextSet → Type 0
CanEdit change set =
    IsSomeAnd (text_of set change.file) (λ text. LieIn change.edits.items text.bytes)

-- .. they are edits of lines: of a terminated text, and each leaves one
abbrev pub EditsLines : FileEdits → TextSet → Type 0
EditsLines change set = IsSomeAnd (text_of set change.file)
    (λ text. (terminated text.bytes ≡ text.bytes) × CanApply change.edits.items text.bytes)

-- A plan for these texts: its edits can be made, the second file's after the first's.
pub record IsPlan (plan : Plan) (set : TextSet) : Type 0 where
  pub first : CanEdit plan.first set
  pub second : ForSome plan.second (λ change. CanEdit change (with_edits plan.first set))

-- All of its edits are edits of lines.
pub record IsOfLines (plan : Plan) (set : TextSet) : Type 0 where
  pub first : EditsLines plan.first set
  pub second : ForSome plan.second (λ change. EditsLines change (with_edits plan.first set))
