use Rattle.std.proofs.Common.{◌≡◌, ◌+◌, ◌*◌, ◌^◌, ◌<◌, ◌≤◌, length, drop}
use Rattle.archive.specs.Fields.{mask, written}
use Rattle.archive.proofs.writer.survey.Given as goal

abbrev pub invariant-loop-value : goal.invariant-loop-value
invariant-loop-value g l = record {
  bit : l.bit ≡ 2 ^ length l.yielded;
  below : l.bits < l.bit;
  bits : l.bits + l.bit * mask (drop (length l.yielded) l.values) ≡ mask l.values;
  narrow : l.size ≤ 8 * length l.yielded;
  size : l.size + length (written (drop (length l.yielded) g.S.Sort.WIDTHS) (drop (length l.yielded) l.values)) ≡ length (written g.S.Sort.WIDTHS l.values);
}
