use Rattle.std.proofs.Common.{◌≡◌, ℕ, ◌+◌, ◌/◌, ◌%◌, ◌^◌, ◌<◌, List, [], ◌∷◌, ◌++◌, codes, refl, subst, arith, rules}
use Rattle.std.specs.Fmt.{decimal}
use Rattle.org_serve.specs.Writes.{Writes}
use Rattle.org_serve.proofs.Times.{time_reply}
use Rattle.org_serve.proofs.replies.write_time.Goals as goal

pub returns : goal.returns
returns g c =
    let minutes = c.args.minutes in
    let first = 48 + minutes % 60 / 10 in
    let second = 48 + minutes % 60 % 10 in
    let tail = 58 ∷ first ∷ second ∷ 10 ∷ [] in
    let small : minutes < 2 ^ 64 = omega (arith, c.ranges.minutes) in
    let wrote = λ (text : List ℕ). Writes g.W.Sink c.args.writer.now c.write_pieces.new.writer c.write_pieces.result text in
    let hours : c.as_bytes.result.now ≡ decimal (minutes / 60) = search rules in
    subst wrote (time_reply minutes first second small refl refl) (subst (λ (d : List ℕ). wrote (codes "time " ++ d ++ tail)) hours c.write_pieces.ensures)
