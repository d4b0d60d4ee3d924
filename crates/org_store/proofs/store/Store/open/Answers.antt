use Rattle.std.proofs.Common.{◌∙◌, refl, sym, ap}
use Rattle.org_journal.specs.Recovered.{contents}
use Rattle.org_commands.specs.declared.tally.Group.TheVariants.{Of}
use Rattle.org_texts.specs.Texts.{TextSet}
use Rattle.org_fileset.proofs.Openings.{opened_as, refused_as}
use Rattle.org_store.proofs.Reopening.{only_faults}
use Rattle.org_store.proofs.Settled.{none_counted, settled_new}
use Rattle.org_store.proofs.store.Store.open.Goals as goal

pub returns-in-Ok-clause-opened : goal.returns-in-Ok-clause-opened
returns-in-Ok-clause-opened g c =
    let opened = c.in-Ok.ensures.opened in
    record {
      session = rw (opened.2, opened.0) refl;
      set = opened.3;
      dirty_files = ap (λ (s : TextSet). s.dirty) opened.2;
    }

pub returns-in-Err-clause-opened : goal.returns-in-Err-clause-opened
returns-in-Err-clause-opened g c = tt

pub returns-in-Ok-clause-opens : goal.returns-in-Ok-clause-opens
returns-in-Ok-clause-opens g c = opened_as c.in-Ok.ensures.opens

pub returns-in-Err-clause-opens : goal.returns-in-Err-clause-opens
returns-in-Err-clause-opens g c = refused_as c.in-Err.ensures.opens

pub returns-in-Ok-clause-again : goal.returns-in-Ok-clause-again
returns-in-Ok-clause-again g c = tt

pub returns-in-Err-clause-again : goal.returns-in-Err-clause-again
returns-in-Err-clause-again g c honest can =
    let refused = c.in-Err.refused in
    only_faults c.args.names.items (g.D.Disk.honest refused.disk) (contents (g.D.Disk.files c.args.disk)) (contents (g.D.Disk.files refused.disk)) refused.fault c.requires honest can
    c.in-Err.ensures.opens.refused.reason

pub invariant_of-result : goal.invariant_of-result
invariant_of-result g c = record { ordered = none_counted }

pub invariant_of-result-in-Ok : goal.invariant_of-result-in-Ok
invariant_of-result-in-Ok g c =
    let files = c.in-Ok.files in
    let opened = c.in-Ok.ensures.opened in
    (opened.1 ∙ sym opened.2, λ honest. settled_new g.D.Disk.files c.args.states files (record { accepted = 0; acknowledged = 0; group = Of 1; ordered = none_counted }) opened.2)
