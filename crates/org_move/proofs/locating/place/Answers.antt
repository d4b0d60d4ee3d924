use Rattle.std.proofs.Common.{◌≡◌, ap, ℕ, List, Some, sym, rules}
use Rattle.std.specs.Option.{option_map}
use Rattle.std.proofs.lemmas.Result.{err_from_is_err_and}
use Rattle.org_move.specs.Location.{Destination, and_file, file_named}
use Rattle.org_move.proofs.Places.{no_memory, name_fault}
use Rattle.org_move.proofs.locating.place.Goals as goal

pub returns-in_err-file : goal.returns-in_err-file
returns-in_err-file c =
    let p = err_from_is_err_and c.from_residual.result c.from_residual.ensures.1 in
    rw (p.1, p.2) (no_memory _)

pub returns-in_err-file-2 : goal.returns-in_err-file-2
returns-in_err-file-2 c =
    let p = err_from_is_err_and c.from_residual-in_err-file-2.result c.from_residual-in_err-file-2.ensures.1 in
    let made : Some c.in-Some.file.items ≡ file_named c.args.name.now c.args.file.now = search rules in
    let to : Destination = record { file = c.in-Some.file.items; level = c.args.level; title = c.args.title.now } in
    rw (p.1, p.2)
    (name_fault c.deref.result.now to _ _ _
    (ap (λ file. and_file (option_map (λ (f : List ℕ). let to : Destination = record { file = f; level = c.args.level; title = c.args.title.now } in to) file)) (sym made))
    c.deref.ensures.value c.file_name.ensures c.in_err-file-2.was)
