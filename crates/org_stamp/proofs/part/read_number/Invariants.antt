use Rattle.std.proofs.Common.{◌≡◌, ◌+◌, ◌-◌, ◌*◌, ◌<◌, ◌^◌, IsTrue, fold, take}
use Rattle.std.specs.List.{list_all}
use Rattle.std.specs.Char.{is_ascii_digit}
use Rattle.org_stamp.proofs.part.read_number.Given as goal

-- the digits so far write the value
abbrev pub invariant-loop-byte : goal.invariant-loop-byte
invariant-loop-byte l = record {
  value : l.value ≡ fold (λ n b. 10 * n + (b - 48)) 0 (take l.byte-index l.digits);
  bound : l.value < 10 ^ l.byte-index;
  digits : IsTrue (list_all is_ascii_digit (take l.byte-index l.digits));
}
