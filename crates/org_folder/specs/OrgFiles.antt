-- The texts that name Org files.
use Rattle.std.specs.Prelude.{ℕ, Bool, not, ◌&&◌, List}
use Rattle.org_disk.specs.Names.{is_file_name, is_archive_name}

-- the name of an Org file, which isn't an archive file
abbrev pub is_org_file : List ℕ → Bool
is_org_file name = is_file_name name && not (is_archive_name name)
