use Rattle.std.proofs.lemmas.List.Elements.{recursion_from_All}
use Rattle.org_store.specs.OnePlace.{MayMove, MayRefile}
use Rattle.org_store.proofs.Listed.{calls_same, calls_small, prefix_nodes, prefix_same}
use Rattle.org_store.proofs.MovedCounts.{archive_moves, calls_move}
use Rattle.org_store.proofs.OnePlace.{holds_nodes, names_apart, run_keeps}
use Rattle.org_store.proofs.laws.one_place.Goals as goal

pub returns-clause-held : goal.returns-clause-held
returns-clause-held g c = λ given s others image texts of small held. holds_nodes given s of others texts image small held

pub returns-clause-any_moment : goal.returns-clause-any_moment
returns-clause-any_moment g c = λ given first last calls others image least of lists small run.
    let d = g.D.Disk in
    prefix_nodes given first.store.session others last.texts least image of (calls_small d first last calls run lists small)

pub returns-clause-refiles : goal.returns-clause-refiles
returns-clause-refiles g c = λ given first last calls others image least of lists small run only same.
    let d = g.D.Disk in
    let s = first.store.session in
    prefix_same given s others last.texts least image of
    (calls_same d first last calls run lists small s.files (names_apart given s of) (recursion_from_All MayRefile calls only) same)

pub returns-clause-kept : goal.returns-clause-kept
returns-clause-kept g c = λ given old new commands answers of run whole only. run_keeps old new commands answers (names_apart given old of) of.files only whole run

pub returns-clause-archive : goal.returns-clause-archive
returns-clause-archive g c = λ given first last it answer of sound lists named made.
    let d = g.D.Disk in
    let s = first.store.session in
    archive_moves first last lists (names_apart given s of) it named of.files.one_each sound made.1

pub returns-clause-moves : goal.returns-clause-moves
returns-clause-moves g c = λ given first last calls of lists small run only.
    let d = g.D.Disk in
    calls_move d first last calls run lists small (names_apart given first.store.session of) (recursion_from_All MayMove calls only)
