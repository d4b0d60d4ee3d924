use Rattle.std.proofs.Common.{◌++◌, List, ℕ, inl, ap, sym, subst, ◌∙◌}
use Rattle.org_disk.specs.Names.{IsDiskName, archive_suffix}
use Rattle.org_disk.proofs.Names.{archive_accepted}
use Rattle.org_disk.proofs.name.FileName.archive.Goals as goal

pub returns-in_err-text-clause-accepted : goal.returns-in_err-text-clause-accepted
returns-in_err-text-clause-accepted c = archive_accepted c.args.self.now (subst IsDiskName c.self.view_is c.self.invariant) c.requires.not_archive c.requires.not_journal

pub returns-in_err-push_str-clause-accepted : goal.returns-in_err-push_str-clause-accepted
returns-in_err-push_str-clause-accepted c = archive_accepted c.args.self.now (subst IsDiskName c.self.view_is c.self.invariant) c.requires.not_archive c.requires.not_journal

pub returns-clause-accepted : goal.returns-clause-accepted
returns-clause-accepted c = archive_accepted c.args.self.now (subst IsDiskName c.self.view_is c.self.invariant) c.requires.not_archive c.requires.not_journal

pub invariant_of-result : goal.invariant_of-result
invariant_of-result c =
    let named = c.in_ok-push_str.ensures.bytes ∙ ap (λ (b : List ℕ). b ++ archive_suffix) (c.in_ok-text.ensures.cases ∙ c.self.view_is) in
    subst IsDiskName (sym named) (inl (archive_accepted c.args.self.now (subst IsDiskName c.self.view_is c.self.invariant) c.requires.not_archive c.requires.not_journal))

pub returns-clause-name : goal.returns-clause-name
returns-clause-name c = c.in_ok-push_str.ensures.bytes ∙ ap (λ (b : List ℕ). b ++ archive_suffix) (c.in_ok-text.ensures.cases ∙ c.self.view_is)
