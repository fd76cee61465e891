use Rattle.std.proofs.Common.{◌≡◌, ℕ, ◌<◌, ◌≤◌, true, length, get_or, take}
use Rattle.hexadecimal.specs.Text.{symbol_of, is_known, digits}
use Rattle.hexadecimal.proofs.count.Given as goal

-- the characters so far are known, and their digits are counted
abbrev pub invariant-loop-offset : goal.invariant-loop-offset
invariant-loop-offset l = record {
  few : l.number ≤ l.offset;
  known : (k : ℕ) → k < l.offset → is_known (symbol_of (get_or l.text k 0)) ≡ true;
  counted : l.number ≡ length (digits (take l.offset l.text));
}
