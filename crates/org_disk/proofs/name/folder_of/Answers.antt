use Rattle.std.proofs.Common.{◌≡◌, ◌+◌, ◌-◌, ap, sym, ◌∙◌, take, Some, None, arith}
use Rattle.std.proofs.lemmas.Str.Pattern.{rfind_char}
use Rattle.org_disk.proofs.Folders.{no_slash, slash_last}
use Rattle.org_disk.proofs.name.folder_of.Goals as goal

pub returns-in-Some : goal.returns-in-Some
returns-in-Some c =
    let path = c.args.path.now in
    let found = rfind_char 47 path (Some c.in-Some.at) c.in-Some.ensures.cases (omega arith) in
    let same : (c.in-Some.at + 1) - 0 ≡ c.in-Some.at + 1 = omega arith in
    c.range.ensures.value ∙ ap (λ n. take n path) same ∙ sym (slash_last path c.in-Some.at found.0 found.1 found.2)

pub returns-in-None : goal.returns-in-None
returns-in-None c = sym (no_slash c.args.path.now (rfind_char 47 c.args.path.now None c.in-None.ensures.cases (omega arith)))
