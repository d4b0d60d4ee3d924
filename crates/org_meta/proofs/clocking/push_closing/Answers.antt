use Rattle.std.proofs.Common.{◌≡◌, ◌++◌, ◌∙◌, ℕ, List, ap, codes, subst, append_assoc}
use Rattle.std.specs.Prelude.{OnOk}
use Rattle.org_stamp.specs.Stamp.{duration_text}
use Rattle.org_meta.specs.Moments.{moment_text}
use Rattle.org_meta.proofs.Pushed.{put_whole}
use Rattle.org_meta.proofs.clocking.push_closing.Goals as goal

closing_bytes : (o0 o1 a m b d e : List ℕ) → o1 ≡ o0 ++ (a ++ (m ++ b)) → d ≡ e → o1 ++ d ≡ o0 ++ (a ++ (m ++ (b ++ e)))
closing_bytes o0 o1 a m b d e e1 same =
    let built : o1 ++ d ≡ o0 ++ (a ++ (m ++ b)) ++ e = ap (λ (t : List ℕ). t ++ d) e1 ∙ ap (λ (t : List ℕ). o0 ++ (a ++ (m ++ b)) ++ t) same in
    built ∙ simp append_assoc

pub returns : goal.returns
returns c =
    subst (λ (t : List ℕ). OnOk c.extend_from_slice.result (c.extend_from_slice.new.self.items ≡ t))
    (closing_bytes c.args.out.now.items c.push_moment.new.out.items (codes "--") (moment_text c.args.now) (codes " => ") c.deref.result.now (duration_text c.args.minutes 2)
    c.in_ok-push_moment.ensures (c.deref.ensures.value ∙ c.in_ok-duration.ensures))
    (put_whole c.extend_from_slice.result _ _ _ c.extend_from_slice.ensures.items)
