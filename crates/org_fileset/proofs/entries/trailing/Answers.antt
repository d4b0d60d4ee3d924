use Rattle.std.proofs.Common.{◌≡◌, ◌+◌, ◌∙◌, ℕ, length, take, drop, ap, arith}
use Rattle.std.proofs.lemmas.Bool.{eq-eqb}
use Rattle.org_splice.specs.Patches.{last_end}
use Rattle.org_splice.specs.Texts.{pairs_of}
use Rattle.org_journal.specs.Record.{most_context}
use Rattle.org_journal.proofs.Ends.{last_is, some_patch}
use Rattle.org_fileset.proofs.entries.trailing.Goals as goal

pub overflow_add-last : goal.overflow_add-last
overflow_add-last c =
    let patches = c.args.patches.now in
    let last = c.index-patches-patches in
    record { fits = omega (arith, last_is patches last.result (some_patch patches (length c.args.text.now) c.requires) last.is, c.len.ensures, c.requires.within) }

pub after-requires : goal.after-requires
after-requires c =
    let patches = c.args.patches.now in
    let last = c.index-patches-patches in
    omega (arith, last_is patches last.result (some_patch patches (length c.args.text.now) c.requires) last.is, c.len.ensures, c.requires.within)

pub returns : goal.returns
returns c =
    let patches = c.args.patches.now in
    let text = c.args.text.now in
    let last = c.index-patches-patches in
    let end : last.result.from + c.len.result ≡ last_end 0 (pairs_of patches) =
    ap (λ (k : ℕ). last.result.from + k) c.len.ensures ∙ last_is patches last.result (some_patch patches (length text) c.requires) last.is in
    rw (eq-eqb c.args.size (length text) c.if-size-text.false) (c.after.ensures ∙ ap (λ (n : ℕ). take most_context (drop n text)) end)
