use Rattle.std.proofs.Common.{◌≡◌, ℕ, ◌≤◌, [], length, get_or, take, drop}
use Rattle.archive.specs.Fields.{fields}
use Rattle.archive.proofs.reader.read_sort.Given as goal

abbrev pub invariant-loop-i : goal.invariant-loop-i
invariant-loop-i g l = record {
  step : fields (take l.i l.values) (drop l.i g.S.Sort.WIDTHS) l.left l.at (drop l.at l.bytes) ≡ fields [] g.S.Sort.WIDTHS l.bits 2 (drop 2 l.bytes);
  inside : l.at ≤ length l.bytes;
  many : length l.values ≡ g.row.N;
  zeros : (k : ℕ) → l.i ≤ k → get_or l.values k 0 ≡ 0;
}
