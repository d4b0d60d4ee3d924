use Rattle.std.proofs.Common.{◌≡◌, ◌∷◌, ◌-◌, length, drop}
use Rattle.org_splice.specs.Edits.{edited}
use Rattle.org_splice.specs.Ranges.{AreChanged}
use Rattle.org_splice.specs.Texts.{spliced_each}
use Rattle.org_splice.specs.Versions.{text_of_parts}
use Rattle.org_splice.proofs.window.edited_part.Given as goal

-- the other edits make of the text with this part what all make of the text
abbrev pub invariant-loop-edit : goal.invariant-loop-edit
invariant-loop-edit l = record {
  made : spliced_each (drop l.edit-index l.rest) (text_of_parts (edited l.part.start (l.part.end - l.part.start) l.window.items l.text) l.changed.items)
      ≡ spliced_each (l.first ∷ l.rest) (text_of_parts l.text l.changed-2);
  changed : AreChanged (length (edited l.part.start (l.part.end - l.part.start) l.window.items l.text)) l.changed.items;
}
