use Rattle.std.proofs.Common.{arith, sym, subst, ◌∙◌}
use Rattle.org_serve.specs.Grammar.{Parses}
use Rattle.org_serve.proofs.Fields.{is_time, is_archive, is_clock_in, is_todo, is_edit, is_refile, is_capture, no_time, no_clock, no_todo, no_refile, no_capture, no_longer}
use Rattle.org_serve.proofs.reading.command_within.Goals as goal
use Rattle.org_serve.proofs.reading.command_within.Goals.{in_default-via-in-empty+else-is, in_default-via-in-len1-2+else-is-3, in_default-via-in-len2-2+else-is-5, in_default-via-in-len3+else-is-6, in_default-via-in-len4+else-is-7, in_default-via-else-more-lt1+else-more-lt2+else-more-lt3+else-more-lt4+else-more-lt5}

pub returns-in-empty : goal.returns-in-empty
returns-in-empty c =
    subst (Parses c.time.result) (sym (is_time c.args.word.now c.args.name.now c.args.titles.now c.args.more.now c.in-empty.len_below (sym c.is.ensures ∙ c.if-is.true))) c.time.ensures

pub returns-in-len1 : goal.returns-in-len1
returns-in-len1 c =
    subst (Parses c.archive.result) (sym (is_archive c.args.word.now c.args.name.now c.args.titles.now c.args.more.now c.in-len1.len_at_least c.in-len1.len_below (sym c.is-then-more-lt2.ensures ∙ c.if-is-2.true))) c.archive.ensures

pub returns-in-len1-2 : goal.returns-in-len1-2
returns-in-len1-2 c =
    subst (Parses c.clock_in.result) (sym (is_clock_in c.args.word.now c.args.name.now c.args.titles.now c.args.more.now c.in-len1.len_at_least c.in-len1.len_below (sym c.is-then-more-lt2.ensures ∙ c.if-is-2.false) (sym c.is-then-more-lt2-2.ensures ∙ c.if-is-3.true))) c.clock_in.ensures

pub returns-in-len2 : goal.returns-in-len2
returns-in-len2 c =
    subst (Parses c.todo.result) (sym (is_todo c.args.word.now c.args.name.now c.args.titles.now c.args.more.now c.in-len2.len_at_least c.in-len2.len_below (sym c.is-then-more-lt3.ensures ∙ c.if-is-4.true))) c.todo.ensures

pub returns-in-len2-2 : goal.returns-in-len2-2
returns-in-len2-2 c =
    subst (Parses c.edit.result) (sym (is_edit c.args.word.now c.args.name.now c.args.titles.now c.args.more.now c.in-len2.len_at_least c.in-len2.len_below (sym c.is-then-more-lt3.ensures ∙ c.if-is-4.false) (sym c.is-then-more-lt3-2.ensures ∙ c.if-is-5.true))) c.edit.ensures

pub returns-in-len3 : goal.returns-in-len3
returns-in-len3 c =
    subst (Parses c.refile.result) (sym (is_refile c.args.word.now c.args.name.now c.args.titles.now c.args.more.now c.in-len3.len_at_least c.in-len3.len_below (sym c.is-then-more-lt4.ensures ∙ c.if-is-6.true))) c.refile.ensures

pub returns-in-len4 : goal.returns-in-len4
returns-in-len4 c =
    subst (Parses c.capture.result) (sym (is_capture c.args.word.now c.args.name.now c.args.titles.now c.args.more.now c.in-len4.len_at_least c.in-len4.len_below (sym c.is-then-more-lt5.ensures ∙ c.if-is-7.true))) c.capture.ensures

pub returns-in_default : goal.returns-in_default
returns-in_default c =
    let word = c.args.word.now in
    let name = c.args.name.now in
    let place = c.args.titles.now in
    let more = c.args.more.now in
    elim c.in_default.branch [
      | in_default-via-in-empty+else-is w ↦ no_time word name place more w.in-empty.len_below (sym w.is.ensures ∙ w.if-is.false)
      | in_default-via-in-len1-2+else-is-3 w ↦
          no_clock word name place more w.in-len1.len_at_least w.in-len1.len_below (sym w.is-then-more-lt2.ensures ∙ w.if-is-2.false) (sym w.is-then-more-lt2-2.ensures ∙ w.if-is-3.false)
      | in_default-via-in-len2-2+else-is-5 w ↦
          no_todo word name place more w.in-len2.len_at_least w.in-len2.len_below (sym w.is-then-more-lt3.ensures ∙ w.if-is-4.false) (sym w.is-then-more-lt3-2.ensures ∙ w.if-is-5.false)
      | in_default-via-in-len3+else-is-6 w ↦ no_refile word name place more w.in-len3.len_at_least w.in-len3.len_below (sym w.is-then-more-lt4.ensures ∙ w.if-is-6.false)
      | in_default-via-in-len4+else-is-7 w ↦ no_capture word name place more w.in-len4.len_at_least w.in-len4.len_below (sym w.is-then-more-lt5.ensures ∙ w.if-is-7.false)
      | in_default-via-else-more-lt1+else-more-lt2+else-more-lt3+else-more-lt4+else-more-lt5 w ↦ no_longer word name place more (grind arith)
    ]
