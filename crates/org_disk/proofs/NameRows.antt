-- Names at their edges.
use Rattle.std.proofs.Common.{◌≡◌, ◌++◌, ℕ, List, [], true, false, ◌∷◌, codes, replicate, refl}
use Rattle.org_disk.specs.Names.{is_file_name, is_archive_name, archive_name, journal_name, folder_of, folders_on, last_part}

org : is_file_name (codes "inbox.org") ≡ true
org = refl

archive : is_file_name (codes "inbox.org_archive") ≡ true
archive = refl

other_suffix : is_file_name (codes "a.txt") ≡ false
other_suffix = refl

hidden : is_file_name (codes ".org") ≡ false
hidden = refl

hidden_archive : is_file_name (codes ".org_archive") ≡ false
hidden_archive = refl

folder : is_file_name (codes "a/b.org") ≡ true
folder = refl

deep_archive : is_file_name (codes "a/b c/d.org_archive") ≡ true
deep_archive = refl

above : is_file_name (codes "../b.org") ≡ false
above = refl

here : is_file_name (codes "a/./b.org") ≡ false
here = refl

absolute : is_file_name (codes "/b.org") ≡ false
absolute = refl

empty_part : is_file_name (codes "a//b.org") ≡ false
empty_part = refl

no_file : is_file_name (codes "a/") ≡ false
no_file = refl

hidden_folder : is_file_name (codes "a/.git/b.org") ≡ false
hidden_folder = refl

hidden_below : is_file_name (codes "a/.org") ≡ false
hidden_below = refl

folder_in_org : is_file_name (codes "a.org/b.org") ≡ false
folder_in_org = refl

folder_in_archive : is_file_name (codes "a.org_archive/b.org") ≡ false
folder_in_archive = refl

folder_in_suffix : is_file_name (codes "a_archive/b.org") ≡ true
folder_in_suffix = refl

longest_folder : is_file_name (replicate 200 97 ++ codes "/b.org") ≡ true
longest_folder = refl

too_long_folder : is_file_name (replicate 201 97 ++ codes "/b.org") ≡ false
too_long_folder = refl

hundred : List ℕ
hundred = replicate 99 97 ++ 47 ∷ []

nine_folders : List ℕ
unfolding hundred
nine_folders = hundred ++ hundred ++ hundred ++ hundred ++ hundred ++ hundred ++ hundred ++ hundred ++ hundred

longest_way : is_file_name (archive_name (nine_folders ++ replicate 96 97 ++ codes ".org")) ≡ true
unfolding nine_folders hundred
longest_way = refl

too_long_way : is_file_name (nine_folders ++ replicate 97 97 ++ codes ".org") ≡ false
unfolding nine_folders hundred
too_long_way = refl

way : folder_of (codes "a/b c/d.org") ≡ codes "a/b c/"
way = refl

no_way : folder_of (codes "d.org") ≡ []
no_way = refl

last : last_part (codes "a/b c/d.org") ≡ codes "d.org"
last = refl

control : is_file_name (31 ∷ codes ".org") ≡ false
control = refl

delete : is_file_name (127 ∷ codes ".org") ≡ false
delete = refl

longest : is_file_name (replicate 196 97 ++ codes ".org") ≡ true
longest = refl

longest_archive : is_file_name (archive_name (replicate 196 97 ++ codes ".org")) ≡ true
longest_archive = refl

too_long : is_file_name (replicate 197 97 ++ codes ".org") ≡ false
too_long = refl

too_long_archive : is_file_name (archive_name (replicate 197 97 ++ codes ".org")) ≡ false
too_long_archive = refl

archive_of_archive : is_file_name (codes "a.org_archive_archive") ≡ false
archive_of_archive = refl

journal : is_file_name journal_name ≡ false
journal = refl

journal_archive : is_archive_name journal_name ≡ false
journal_archive = refl

folders : folders_on (codes "a/b c/d.org") ≡ codes "a" ∷ codes "a/b c" ∷ []
folders = refl

no_folders : folders_on (codes "d.org") ≡ []
no_folders = refl
