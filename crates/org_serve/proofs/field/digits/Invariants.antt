use Rattle.std.proofs.Common.{◌≡◌, ◌+◌, ◌-◌, ◌*◌, ◌<◌, ◌≤◌, ◌^◌, IsTrue, fold, length, take}
use Rattle.std.specs.List.{list_all}
use Rattle.std.specs.Char.{is_ascii_digit}
use Rattle.org_serve.proofs.field.digits.Given as goal

-- the digits so far write the value
abbrev pub invariant-loop-b : goal.invariant-loop-b
invariant-loop-b l = record {
  value : l.number ≡ fold (λ n b. 10 * n + (b - 48)) 0 (take l.b-index l.field);
  bound : l.number < 10 ^ l.b-index;
  within : l.b-index ≤ length l.field;
  digits : IsTrue (list_all is_ascii_digit (take l.b-index l.field));
}
