use Rattle.std.proofs.Common.{◌≡◌, ◌∙◌, false, Ok, sym, ap, subst}
use Rattle.std.specs.Option.{ForSome, IsSome}
use Rattle.org_journal.specs.Recovered.{contents}
use Rattle.org_texts.specs.Plan.{IsPlan}
use Rattle.org_texts.specs.Texts.{Holding, TextSet, text_of}
use Rattle.org_commands.specs.Files.{AreSmallToWrite, AreTouched, OpenFiles, PutsPlan, files_of, has_large, new_texts, texts_in}
use Rattle.org_commands.proofs.Held.{first_held, second_held, small_put, sound_put, sound_undone}
use Rattle.org_commands.proofs.Noted.{noted_not_put, noted_put, noted_undone}
use Rattle.org_commands.proofs.files.Files.put.Goals as goal

pub is_large-requires-clause-first : goal.is_large-requires-clause-first
is_large-requires-clause-first g c =
    let plan = c.args.plan.now in
    let is : IsPlan plan c.self.inside.texts.now = rw (← c.self.view_is) at c.requires.is in
    subst (λ (set : TextSet). IsSome (text_of set plan.first.file)) (sym c.in_ok-apply.ensures.now) (first_held plan c.self.inside.texts.now is)

pub is_large-requires-clause-second : goal.is_large-requires-clause-second
is_large-requires-clause-second g c =
    let plan = c.args.plan.now in
    let is : IsPlan plan c.self.inside.texts.now = rw (← c.self.view_is) at c.requires.is in
    subst (λ (set : TextSet). ForSome plan.second (λ change. IsSome (text_of set change.file))) (sym c.in_ok-apply.ensures.now) (second_held plan c.self.inside.texts.now is)

pub invariant_of-self-else-is_large : goal.invariant_of-self-else-is_large
invariant_of-self-else-is_large g c =
    let inside = c.self.inside in
    let plan = c.args.plan.now in
    let is : IsPlan plan inside.texts.now = rw (← c.self.view_is) at c.requires.is in
    let now = c.in_ok-apply.ensures.now in
    let before = c.in_ok-apply.ensures.before in
    let named : c.names.result.now ≡ inside.set.names = c.names.ensures in (
      sound_put plan inside.set.names ((inside.set.broken ≡ false) × g.D.Disk.honest inside.set.disk) (contents (g.D.Disk.files inside.set.disk)) inside.texts c.apply.new.self is now before c.self.invariant.0,
      noted_put plan inside.set.names c.names.result.now inside.notes c.lower_plan.new.self inside.texts c.apply.new.self named now before c.lower_plan.ensures.stays c.lower_plan.ensures.follows c.self.invariant.1,
    )

pub returns-clause-puts : goal.returns-clause-puts
returns-clause-puts g c =
    let inside = c.self.inside in
    let plan = c.args.plan.now in
    let now = c.in_ok-apply.ensures.now in
    let touched : AreTouched (files_of plan) inside.texts = rw (← c.self.view_is) at c.requires.touched in
    let test : c.is_large.result ≡ has_large (texts_in c.apply.new.self.now (files_of plan)) = c.is_large.ensures in
    let small : has_large (new_texts plan inside.texts.now) ≡ false =
    subst (λ (set : TextSet). has_large (texts_in set (files_of plan)) ≡ false) now (sym test ∙ c.if-is_large.false) in
    let same : inside.texts ≡ c.args.self.now.held = ap (λ (f : OpenFiles g.row.D.Denot). f.held) c.self.view_is in
    subst (λ (h : Holding). PutsPlan plan h (Ok tt) c.apply.new.self) same (small, now, subst AreSmallToWrite (sym now) (small_put plan inside.texts touched c.self.invariant.0.small small))

pub invariant_of-self-then-is_large : goal.invariant_of-self-then-is_large
invariant_of-self-then-is_large g c =
    let inside = c.self.inside in
    let plan = c.args.plan.now in
    let is : IsPlan plan inside.texts.now = rw (← c.self.view_is) at c.requires.is in
    let now = c.in_ok-apply.ensures.now in
    let before = c.in_ok-apply.ensures.before in
    let live = (inside.set.broken ≡ false) × g.D.Disk.honest inside.set.disk in
    let files = contents (g.D.Disk.files inside.set.disk) in
    let named : c.names.result.now ≡ inside.set.names = c.names.ensures in (
      sound_undone inside.set.names live files c.apply.new.self c.undo.new.self c.undo.ensures.now c.undo.ensures.before
          (sound_put plan inside.set.names live files inside.texts c.apply.new.self is now before c.self.invariant.0),
      noted_undone inside.set.names c.lower_plan.new.self c.apply.new.self c.undo.new.self c.undo.ensures.now c.undo.ensures.before
          (noted_put plan inside.set.names c.names.result.now inside.notes c.lower_plan.new.self inside.texts c.apply.new.self named now before c.lower_plan.ensures.stays c.lower_plan.ensures.follows c.self.invariant.1),
    )

pub invariant_of-self : goal.invariant_of-self
invariant_of-self g c =
    let inside = c.self.inside in
    let live = (inside.set.broken ≡ false) × g.D.Disk.honest inside.set.disk in
    let named : c.names.result.now ≡ inside.set.names = c.names.ensures in (
      sound_undone inside.set.names live (contents (g.D.Disk.files inside.set.disk)) inside.texts c.apply.new.self c.in_err-apply.ensures.err c.in_err-apply.ensures.before c.self.invariant.0,
      noted_not_put inside.set.names c.names.result.now inside.notes c.lower_plan.new.self inside.texts c.apply.new.self named c.in_err-apply.ensures.err c.in_err-apply.ensures.before c.lower_plan.ensures.stays
          c.self.invariant.1,
    )
