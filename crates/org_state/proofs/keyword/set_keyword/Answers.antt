use Rattle.std.proofs.Common.{◌≡◌, List, ℕ, length, ◌≤◌, take, drop, subst, sym, ap, ◌∙◌, arith}
use Rattle.std.specs.Prelude.{Vec}
use Rattle.std.specs.Global.{Global}
use Rattle.org_splice.specs.Blanks.{is_blank, front, behind}
use Rattle.org_state.proofs.Words.{Exchanges, keyword_gives, keyword_room, none_is, some_is, word_goes, word_comes, word_changes}
use Rattle.org_state.proofs.keyword.set_keyword.Goals as goal
use Rattle.org_state.proofs.keyword.set_keyword.Goals.{then-is_empty, else-is_empty+then-is_empty-2+in_ok-push, else-is_empty+else-is_empty-2}

pub returns : goal.returns
returns c =
    let states = c.args.states.now in
    let rest : List ℕ = c.args.rest.now in
    let word : List ℕ = c.args.word.now in
    let old : List ℕ = c.of.result.keyword.now in
    let text : List ℕ = c.split_at.result.1.now in
    let text_is : text ≡ behind is_blank rest = c.split_at.ensures.back ∙ ap (λ n. drop n rest) c.blank_count.ensures.count in
    let gap_is : c.split_at.result.0.now ≡ front is_blank rest = c.split_at.ensures.front ∙ ap (λ n. take n rest) c.blank_count.ensures.count in
    let room : length old ≤ length text = keyword_room states rest old text c.of.ensures.keyword text_is in
    let ex : Exchanges old text word c.if-is_empty.bytes.items c.if-is_empty.removed =
    elim c.if-is_empty.branch [
      | then-is_empty w ↦ word_goes old text c.if-is_empty.removed w.blank_count-removed.result c.if-is_empty.bytes.items word w.split_at-then-is_empty.result.1.now room (none_is word w.if-is_empty.ensures) (ap (λ (v : Vec ℕ Global). v.items) w.bytes-is ∙ c.in_ok-bytes.ensures.items) w.removed-is w.split_at-then-is_empty.ensures.back w.blank_count-removed.ensures.count w.blank_count-removed.ensures.within
      | else-is_empty+then-is_empty-2+in_ok-push w ↦ word_comes old text c.if-is_empty.removed c.if-is_empty.bytes.items c.in_ok-bytes.bytes.items word room (none_is old w.if-is_empty-2.ensures) (some_is word w.if-is_empty.ensures) c.in_ok-bytes.ensures.items (ap (λ (v : Vec ℕ Global). v.items) w.bytes-is ∙ w.in_ok-push.ensures.items) w.removed-is
      | else-is_empty+else-is_empty-2 w ↦ word_changes old text c.if-is_empty.removed c.if-is_empty.bytes.items word room (some_is old w.if-is_empty-2.ensures) (some_is word w.if-is_empty.ensures) (ap (λ (v : Vec ℕ Global). v.items) w.bytes-is ∙ c.in_ok-bytes.ensures.items) w.removed-is
    ] in
    let made : Exchanges old text word c.new.result c.if-is_empty.removed = subst (λ (b : List ℕ). Exchanges old text word b c.if-is_empty.removed) (sym c.new.ensures) ex in
    keyword_gives _ states rest word old text c.of.ensures.keyword text_is (ap length gap_is) made

pub overflow_add-removed : goal.overflow_add-removed
overflow_add-removed c =
    let text : List ℕ = c.split_at.result.1.now in
    let text_is : text ≡ behind is_blank c.args.rest.now = c.split_at.ensures.back ∙ ap (λ n. drop n c.args.rest.now) c.blank_count.ensures.count in
    let room : length c.of.result.keyword.now ≤ length text = keyword_room c.args.states.now c.args.rest.now c.of.result.keyword.now text c.of.ensures.keyword text_is in
    omega (arith, room, c.blank_count-removed.ensures.within, c.split_at-then-is_empty.ensures.back_len, c.split_at.ensures.back_len)

pub split_at-requires-then-is_empty : goal.split_at-requires-then-is_empty
split_at-requires-then-is_empty c =
    let rest : List ℕ = c.args.rest.now in
    let text : List ℕ = c.split_at.result.1.now in
    let text_is : text ≡ behind is_blank rest = c.split_at.ensures.back ∙ ap (λ n. drop n rest) c.blank_count.ensures.count in
    keyword_room c.args.states.now rest c.of.result.keyword.now text c.of.ensures.keyword text_is
