use Rattle.std.proofs.Common.{◌∷◌, [], sym, subst}
use Rattle.org_splice.specs.Searched.{IsSearched}
use Rattle.org_move.specs.Location.{has_archive_line}
use Rattle.org_commands.proofs.Archives.{heading_in}
use Rattle.org_commands.proofs.Noted.{known_lines, known_text}
use Rattle.org_commands.proofs.Plans.{is_ready, one_name}
use Rattle.org_commands.proofs.commands.archive.find_location.Goals as goal

pub outline_in-requires : goal.outline_in-requires
outline_in-requires g c = is_ready (c.args.command.now.file ∷ []) c.args.files.now.held c.args.command.now.file c.requires.ready (one_name c.args.command.now.file)

pub location_searched-found-requires-clause-node : goal.location_searched-found-requires-clause-node
location_searched-found-requires-clause-node g c = heading_in c.args.files.now.held.now c.args.command.now.file c.args.node c.outline_in.result.text c.outline_in.ensures.0 c.requires.heading

pub location_searched-found-requires-clause-searched : goal.location_searched-found-requires-clause-searched
location_searched-found-requires-clause-searched g c =
    let seen = known_text c.args.files.now.held c.args.command.now.file c.requires.ready c.searched-searches.result c.searched-searches.ensures in
    subst (IsSearched has_archive_line c.searched-searches.result.archive_lines) (sym c.outline_in.ensures.0) seen.archive_lines

pub note-requires-clause-now : goal.note-requires-clause-now
note-requires-clause-now g c =
    let lines = c.location_searched-found.new.searched in
    (known_lines c.args.files.now.held c.args.command.now.file c.requires.ready c.searched-searches.result c.searched-searches.ensures lines
    (subst (IsSearched has_archive_line lines) c.outline_in.ensures.0 c.location_searched-found.ensures.searched)).0

pub note-requires-clause-before : goal.note-requires-clause-before
note-requires-clause-before g c =
    let lines = c.location_searched-found.new.searched in
    (known_lines c.args.files.now.held c.args.command.now.file c.requires.ready c.searched-searches.result c.searched-searches.ensures lines
    (subst (IsSearched has_archive_line lines) c.outline_in.ensures.0 c.location_searched-found.ensures.searched)).1
