-- Folders that are the same have the same files at each place.
use Rattle.std.proofs.Common.{◌≡◌, ℕ, ◌<◌, List, length, map, get_or, sym, ap, ◌∙◌}
use Rattle.std.proofs.lemmas.List.{get_or-map}
use Rattle.org_account.specs.Units.{File}
use Rattle.org_merge.specs.declared.file.Source.{Source}
use Rattle.org_merge.specs.Identity.{file_given}

pub same_at : (one other : List Source) (i : ℕ) (d e : Source) → i < length one → i < length other → map file_given one ≡ map file_given other → file_given (get_or one i d) ≡ file_given (get_or other i e)
same_at one other i d e in_one in_other same =
    sym (get_or-map file_given one i d (file_given d) in_one)
    ∙ ap (λ (files : List File). get_or files i (file_given d)) same
    ∙ get_or-map file_given other i e (file_given d) in_other
