-- Edits of one text, in order, as callers see them.
use Rattle.std.specs.Prelude.{List}
use Rattle.org_splice.specs.declared.edit.Edit.{Edit}

pub record EditList : Type 0 where
  pub items : List Edit
