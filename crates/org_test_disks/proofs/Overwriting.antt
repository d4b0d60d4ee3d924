-- Bytes written over a content in place, after which those that reach past its end were put.
use Rattle.std.proofs.Common.{◌≡◌, ℕ, ◌+◌, ◌-◌, ◌≤◌, min, List, ◌++◌, length, take, drop, ⊎_elim, arith}
use Rattle.std.proofs.lemmas.Grind.{common_steps}
use Rattle.std.proofs.lemmas.Bool.{cases_lt}

module _ (from : ℕ) (bytes old : List ℕ) (start inside : ℕ) (starts : start ≡ min from (length old)) (within : inside ≡ min (length bytes) (length old - start)) where
  -- what the bytes leave of the content after them
  abbrev after : List ℕ
  after = drop (from + length bytes) old

  -- they end within the content
  all_inside : length bytes ≤ length old - start → take inside bytes ++ (drop (start + inside) old ++ drop inside bytes) ≡ bytes ++ after
  all_inside le = grind (arith, common_steps)

  -- they reach past its end
  some_past : length old - start ≤ length bytes → take inside bytes ++ (drop (start + inside) old ++ drop inside bytes) ≡ bytes ++ after
  some_past le = grind (arith, common_steps)

  middle : take inside bytes ++ (drop (start + inside) old ++ drop inside bytes) ≡ bytes ++ after
  middle = ⊎_elim (λ past. some_past (omega (arith, past))) all_inside (cases_lt (length old - start) (length bytes))
