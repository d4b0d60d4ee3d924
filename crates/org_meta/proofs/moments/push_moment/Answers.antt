use Rattle.std.proofs.Common.{◌≡◌, [], ◌++◌, List, ℕ, ap, ◌∙◌, append-nil}
use Rattle.org_stamp.specs.Stamp.{stamp_text}
use Rattle.org_meta.specs.Moments.{moment_text}
use Rattle.org_meta.proofs.Pushed.{put_same}
use Rattle.org_meta.proofs.moments.push_moment.Goals as goal

between : (o before d m after : List ℕ) → d ≡ m → o ++ (before ++ (d ++ (after ++ []))) ≡ o ++ (before ++ (m ++ after))
between o before d m after is = ap (λ (t : List ℕ). o ++ (before ++ (t ++ (after ++ [])))) is ∙ ap (λ (t : List ℕ). o ++ (before ++ (m ++ t))) (append-nil after)

pub returns : goal.returns
returns c =
    put_same c.push_all.result c.push_all.new.out.items _ _
    (between c.args.out.now.items c.args.before.now c.deref.result.now (moment_text c.args.now) c.args.after.now (c.deref.ensures.value ∙ c.in_ok-stamp.ensures.value ∙ ap stamp_text c.at.ensures)) c.push_all.ensures
