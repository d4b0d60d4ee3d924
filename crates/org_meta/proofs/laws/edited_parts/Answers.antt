use Rattle.std.proofs.Common.{refl}
use Rattle.org_meta.specs.Notes.{note_line}
use Rattle.org_meta.specs.Sections.{property_line}
use Rattle.org_meta.proofs.Resplit.{split_note, split_put, split_planned}
use Rattle.org_meta.proofs.Reading.{line_said, note_starts_none}
use Rattle.org_meta.proofs.laws.edited_parts.Goals as goal

pub returns-clause-note : goal.returns-clause-note
returns-clause-note c = λ new old now lines. split_note (note_line new old now) lines refl (note_starts_none new old now)

pub returns-clause-put : goal.returns-clause-put
returns-clause-put c = λ name value lines good. let s = line_said name value good in split_put name (property_line name value) lines s.0 s.1

pub returns-clause-planning : goal.returns-clause-planning
returns-clause-planning c = split_planned
