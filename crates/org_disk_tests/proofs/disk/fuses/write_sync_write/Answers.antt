use Rattle.std.proofs.Common.{◌≡◌, ℕ, ◌+◌, ◌≤◌, List, length, take, drop, refl, ◌∙◌, ap, subst, arith}
use Rattle.std.specs.Prelude.{Result, Ok, Err, OnOk}
use Rattle.std.proofs.lemmas.List.{take_at}
use Rattle.org_splice.specs.Overwritten.{overwritten}
use Rattle.org_splice.proofs.Overwritten.{length-overwritten}
use Rattle.org_disk.specs.Disk.{FileState, IsImage, stable, write}
use Rattle.org_disk.proofs.Back.{before_write}
use Rattle.org_disk.proofs.Images.{only_image, stable_is}
use Rattle.org_disk_tests.proofs.disk.fuses.write_sync_write.Goals as goal

-- what was written first and synced, a write after it leaves
stays : (first second text image : List ℕ) → IsImage (write (length first) second (stable (overwritten 0 first text))) image → take (length first) image ≡ first
stays first second text image is =
    let content : List ℕ = overwritten 0 first text in
    let within : length first ≤ length content = omega (arith, length-overwritten 0 first text (omega arith)) in
    let own : IsImage (stable content) content = record { no_shorter = omega arith; no_longer = omega arith; fixed = λ i inside. refl } in
    let earlier = before_write (length first) second (stable content) within own image is in
    earlier.2.before ∙ ap (take (length first)) (only_image (stable_is content) earlier.0 earlier.1) ∙ take_at first (drop (0 + length first) text) (length first) refl

-- what follows where all is honest, of a result that is Ok
on_ok : {A E H P Q : Type 0} (result : Result A E) → (H → OnOk result P) → (H → P → Q) → OnOk result (H → Q)
on_ok (Ok _) given follows = λ honest. follows honest (given honest)
on_ok (Err _) given follows = tt

pub returns : goal.returns
returns c c' =
    let name = c'.args.name.now in
    let first = c'.args.first.now in
    let second = c'.args.second.now in
    on_ok c'.write_at-2.result (λ honest. (c'.write_at-2.ensures.effect honest).ok) (λ honest third image are.
    let synced = c'.write_at-2.ensures.accounts.was_honest honest in
    let written = c'.in_ok-sync.ensures.accounts.was_honest synced in
    let one = (c'.in_ok-write_at.ensures.effect written).ok in
    let two = (c'.in_ok-sync.ensures.effect synced).ok in
    let is = third ∙ ap (write (length first) second) (two ∙ ap (λ (f : FileState). stable f.content) one) in
    stays first second _ (image name) (subst (λ (f : FileState). IsImage f (image name)) is (are name)))
