-- Bytes written over a text.
use Rattle.std.specs.Prelude.{ℕ, ◌+◌, List, ◌++◌, length, take, drop}

-- bytes written over a text from a place on: what stood there gives way, and the text grows where
-- they reach past its end
abbrev pub overwritten : ℕ → List ℕ → List ℕ → List ℕ
overwritten from bytes text = take from text ++ bytes ++ drop (from + length bytes) text
