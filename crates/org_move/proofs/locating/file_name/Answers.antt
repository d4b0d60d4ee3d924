use Rattle.std.proofs.Common.{◌≡◌, true, refl, ◌∙◌}
use Rattle.std.specs.Str.{is_utf8}
use Rattle.org_disk.specs.Names.{is_file_name}
use Rattle.org_move.proofs.Utf8.{is_no_utf8, is_some_utf8}
use Rattle.org_move.proofs.locating.file_name.Goals as goal

pub returns-in-Ok-new : goal.returns-in-Ok-new
returns-in-Ok-new c =
    let same = c.in-Ok.ensures.cases.0 in
    let text : is_utf8 c.args.bytes.now ≡ true = is_some_utf8 _ c.in-Ok.ensures.cases.1 in
    let accepted : is_file_name c.args.bytes.now ≡ true = rw same at c.in-Ok-new.ensures.accepted in
    (c.in-Ok-new.ensures.name ∙ same, rw (text, accepted) refl)

pub returns-in_default : goal.returns-in_default
returns-in_default c = (refl, rw (is_no_utf8 c.args.bytes.now c.in_default.ensures.cases.0) refl)

pub returns-in-Err-OutOfMemory : goal.returns-in-Err-OutOfMemory
returns-in-Err-OutOfMemory c = tt
