use Rattle.std.proofs.Common.{◌≡◌, ◌⊎◌, ⊎_elim, ◌∙◌, false, Err, refl, sym, ap, subst, rules}
use Rattle.org_journal.specs.Recovered.{contents}
use Rattle.org_texts.specs.Texts.{TextSet, held_over}
use Rattle.org_commands.specs.Files.{AreSmallToWrite, CommitsTexts}
use Rattle.org_commands.specs.InOrder.{texts_of}
use Rattle.org_commands.proofs.Commits.{commit_done, commit_failed, made_held, pairs_edits, pairs_named, pairs_small, sound_settled, starved, texts_settled_are}
use Rattle.org_commands.proofs.Held.{sound_still}
use Rattle.org_commands.proofs.Noted.{noted_settled, noted_still}
use Rattle.org_commands.proofs.Handing.{handed_on}
use Rattle.org_commands.proofs.files.Files.commit.Goals as goal

pub commit-requires : goal.commit-requires
commit-requires g c =
    let inside = c.self.inside in
    let texts = inside.texts in
    let live = (inside.set.broken ≡ false) × g.D.Disk.honest inside.set.disk in
    let files = contents (g.D.Disk.files inside.set.disk) in
    let may : (texts.now ≡ texts.before) ⊎ AreSmallToWrite texts.now = rw (← c.self.view_is) at c.requires.small in
    record {
      named = pairs_named inside.set.names live files texts.now c.self.invariant.0.now;
      small = pairs_small texts.now (⊎_elim (λ same. subst AreSmallToWrite (sym same) c.self.invariant.0.small) (λ small. small) may);
      edits = λ unbroken honest. pairs_edits inside.set.names live files texts.now c.self.invariant.0.now (unbroken, honest);
    }

pub invariant_of-self : goal.invariant_of-self
invariant_of-self g c =
    let inside = c.self.inside in
    let new = c.commit.new.self in
    let made = c.commit.ensures.commits in
    let unbroken : inside.set.broken ≡ false = rw (← c.self.view_is) at c.requires.unbroken in (
      sound_still inside.set.names new.names ((inside.set.broken ≡ false) × g.D.Disk.honest inside.set.disk) ((new.broken ≡ false) × g.D.Disk.honest new.disk)
          (contents (g.D.Disk.files inside.set.disk)) (contents (g.D.Disk.files new.disk)) inside.texts c.self.invariant.0 made.set.same_names
          (λ n.
          let same = made.memory (starved c.commit.result c.in_err-commit.field-0.0 inside.set.broken new.broken c.in_err-commit.was unbroken made.set.refuses made.set.breaks n.0) in
          ((unbroken, made.accounts.was_honest n.1), rw same refl)),
      noted_still inside.set.names new.names inside.notes inside.texts made.set.same_names c.self.invariant.1,
    )

pub returns-in_err-commit-clause-commits : goal.returns-in_err-commit-clause-commits
returns-in_err-commit-clause-commits g c =
    let d = g.D.Disk in
    let inside = c.self.inside in
    let fault = c.in_err-commit.field-0.0 in
    let unbroken : inside.set.broken ≡ false = rw (← c.self.view_is) at c.requires.unbroken in
    let given : c.from_residual.result ≡ Err fault = handed_on c.from_residual.result _ c.from_residual.ensures.1 in
    record {
      commits = rw (← c.self.view_is) (λ honest.
          subst (λ r. CommitsTexts d inside.set.names inside.texts.now.dirty (texts_of (held_over inside.texts.now (contents (d.files inside.set.disk))) inside.set.names) inside.set.disk c.commit.new.self.disk r) (sym given)
          (commit_failed d inside.set.names ((inside.set.broken ≡ false) × d.honest inside.set.disk) inside.set.disk c.commit.new.self.disk inside.texts.now c.self.invariant.0.apart c.self.invariant.0.now
          (unbroken, c.commit.ensures.commits.accounts.was_honest honest) c.commit.result fault (c.commit.ensures.commits.commits honest) (c.commit.ensures.commits.left honest)));
      texts = search rules;
    }

pub invariant_of-self-2 : goal.invariant_of-self-2
invariant_of-self-2 g c =
    let d = g.D.Disk in
    let inside = c.self.inside in
    let live = (inside.set.broken ≡ false) × d.honest inside.set.disk in
    let now = (c.commit.new.self.broken ≡ false) × d.honest c.commit.new.self.disk in
    let unbroken : inside.set.broken ≡ false = rw (← c.self.view_is) at c.requires.unbroken in (
      sound_settled inside.set.names c.commit.new.self.names live now (contents (d.files inside.set.disk)) (contents (d.files c.commit.new.self.disk)) inside.texts c.settle.new.self
          c.commit.ensures.commits.set.same_names c.settle.ensures.now c.settle.ensures.before
          (λ n. made_held d inside.set.names live inside.set.disk c.commit.new.self.disk inside.texts.now c.self.invariant.0.apart c.self.invariant.0.now
          (unbroken, c.commit.ensures.commits.accounts.was_honest n.1) (c.in_ok-commit.ensures.commits.commits n.1).done.made)
          c.self.invariant.0,
      noted_settled c.commit.new.self.names inside.notes inside.texts c.settle.new.self c.settle.ensures.now c.settle.ensures.before
          (noted_still inside.set.names c.commit.new.self.names inside.notes inside.texts c.commit.ensures.commits.set.same_names c.self.invariant.1),
    )

pub returns-clause-commits : goal.returns-clause-commits
returns-clause-commits g c =
    let d = g.D.Disk in
    let inside = c.self.inside in
    let files = contents (d.files inside.set.disk) in
    let left = contents (d.files c.commit.new.self.disk) in
    let live = (inside.set.broken ≡ false) × d.honest inside.set.disk in
    let unbroken : inside.set.broken ≡ false = rw (← c.self.view_is) at c.requires.unbroken in
    record {
      commits = rw (← c.self.view_is) (λ honest.
          commit_done d inside.set.names live inside.set.disk c.commit.new.self.disk inside.texts.now c.self.invariant.0.apart c.self.invariant.0.now
          (unbroken, c.commit.ensures.commits.accounts.was_honest honest) tt (c.in_ok-commit.ensures.commits.commits honest) (c.in_ok-commit.ensures.commits.left honest));
      texts = rw (← c.self.view_is) (λ honest.
          ap (λ (s : TextSet). texts_of (held_over s left) inside.set.names) c.settle.ensures.before
          ∙ texts_settled_are inside.set.names files left inside.texts.now c.self.invariant.0.apart
          (made_held d inside.set.names live inside.set.disk c.commit.new.self.disk inside.texts.now c.self.invariant.0.apart c.self.invariant.0.now
          (unbroken, c.commit.ensures.commits.accounts.was_honest honest) (c.in_ok-commit.ensures.commits.commits honest).done.made));
    }
