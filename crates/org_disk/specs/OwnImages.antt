-- The content of a file is one of its images: what each call makes of that.
use Rattle.std.specs.Prelude.{ℕ, ◌+◌, List, ◌++◌, length, take, drop, refl}
use Rattle.std.proofs.Common.{arith, length-append, length-take, length-drop}
use Rattle.org_disk.specs.Disk.{FileState, IsImage, stable, write, cut, sync}

-- the content of a file is one of its images
abbrev pub IsOwnImage : FileState → Type 0
IsOwnImage file = IsImage file file.content

pub stable_own : (content : List ℕ) → IsOwnImage (stable content)
stable_own content =
    record { no_shorter = omega arith; no_longer = omega arith; fixed = λ i fixed. refl }

pub write_own : (from : ℕ) (bytes : List ℕ) (file : FileState) → IsOwnImage file
    → IsOwnImage (write from bytes file)
write_own from bytes file own =
    let long = length-append (take from file.content ++ bytes)
    (drop (from + length bytes) file.content) in
    let front = length-append (take from file.content) bytes in
    let start = length-take from file.content in
    let end = length-drop (from + length bytes) file.content in
    record {
      no_shorter = omega (arith, own.no_shorter, long, front, start, end);
      no_longer = omega (arith, own.no_longer, long, front, start, end);
      fixed = λ i fixed. refl;
    }

pub cut_own : (n : ℕ) (file : FileState) → IsOwnImage file → IsOwnImage (cut n file)
cut_own n file own = record {
  no_shorter = omega (arith, own.no_shorter, length-take n file.content);
  no_longer = omega (arith, own.no_longer, length-take n file.content);
  fixed = λ i fixed. refl;
}

pub sync_own : (file : FileState) → IsOwnImage (sync file)
sync_own file = stable_own file.content
