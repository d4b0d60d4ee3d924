-- The states that a TODO keyword may name (Org manual, "TODO keywords as workflow states"): active
-- ones, and done ones.
use Rattle.std.specs.Borrow.{Bor}
use Rattle.std.specs.Prelude.{ℕ, Bool, true, ◌&&◌, ◌||◌, not, ◌==◌, nat_le, ◌+◌, map, List, [], ◌∷◌, ◌++◌, length}
use Rattle.std.specs.Char.{is_ascii_alphanumeric}
use Rattle.std.specs.List.{list_any, list_all}
use Rattle.std.specs.Str.{bytes_eq}

pub record Keywords : Type 0 where
  pub active : List (List ℕ)
  pub done : List (List ℕ)

-- an ASCII letter or digit, an underscore or a hyphen
abbrev pub is_state_byte : ℕ → Bool
is_state_byte b = is_ascii_alphanumeric b || b == 95 || b == 45

-- 1 to 24 of these bytes
abbrev pub is_state_word : List ℕ → Bool
is_state_word w = nat_le 1 (length w) && nat_le (length w) 24 && list_all is_state_byte w

-- whether a word is one of these
abbrev pub has_word : List (List ℕ) → List ℕ → Bool
has_word words w = list_any (bytes_eq w) words

-- no word equals a later one
abbrev pub all_distinct : List (List ℕ) → Bool
all_distinct [] = true
all_distinct (w ∷ ws) = not (has_word ws w) && all_distinct ws

-- the words that a caller hands in
abbrev pub words_of : List (Bor (List ℕ)) → List (List ℕ)
words_of words = map (λ w. w.now) words

-- both lists have words, 32 at most in all, and all are distinct state words
abbrev pub are_states : Keywords → Bool
are_states k =
    nat_le 1 (length k.active)
    && nat_le 1 (length k.done)
    && nat_le (length k.active + length k.done) 32
    && list_all is_state_word k.active
    && list_all is_state_word k.done
    && all_distinct (k.active ++ k.done)
