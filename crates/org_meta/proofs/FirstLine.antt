-- The first newline of a closed text ends its first line.
use Rattle.std.proofs.Common.{◌≡◌, ℕ, List, [], ◌∷◌, ◌++◌, take, drop, Option, Some, None, arith, eq-eqb}
use Rattle.std.proofs.lemmas.Grind.{common_steps}
use Rattle.std.proofs.lemmas.List.{append_cancel_left, drop-drop}
use Rattle.memchr.specs.Find.{IsFirstByte, is_byte}
use Rattle.org_splice.specs.Lines.{terminated, IsLine}
use Rattle.org_splice.proofs.Lines.{lines_of-append, terminated-append}
use Rattle.org_splice.proofs.LineWalk.{cut_found, no_line, tail_is}
use Rattle.org_meta.specs.Lines.{BeginsWith}

begins_with : (text line rest : List ℕ) → IsLine line → text ≡ line ++ 10 ∷ rest → BeginsWith text line rest
begins_with text line rest unbroken bytes = grind (arith, common_steps, lines_of-append)

pub rest_terminated : (text line rest : List ℕ) → terminated text ≡ text → BeginsWith text line rest → terminated rest ≡ rest
rest_terminated text line rest whole b = grind (arith, common_steps, terminated-append, tail_is, append_cancel_left)

-- the line up to the newline that was found
first_found : (text : List ℕ) (e : ℕ) → IsFirstByte (is_byte 10) text (Some e) → BeginsWith text (take e text) (drop 1 (drop e text))
first_found text e found = grind (arith, common_steps, cut_found, drop-drop, begins_with)

-- the same as the code says it
pub first_cut : (text line middle rest : List ℕ) (r : Option ℕ) (e : ℕ) → IsFirstByte (is_byte 10) text r → r ≡ Some e → line ≡ take e text → middle ≡ drop e text → rest ≡ drop 1 middle → BeginsWith text line rest
first_cut text line middle rest r e found is is_line is_middle is_rest = grind (arith, common_steps, first_found)

pub none_found : (text : List ℕ) (r : Option ℕ) → terminated text ≡ text → IsFirstByte (is_byte 10) text r → r ≡ None → text ≡ []
none_found text r whole found is = grind (arith, common_steps, no_line, eq-eqb)
