use Rattle.std.proofs.Common.{◌≡◌, ◌+◌, ◌++◌, length, take, drop}
use Rattle.archive.specs.Fields.{written}
use Rattle.archive.proofs.writer.put_fields.Given as goal

abbrev pub invariant-loop-value : goal.invariant-loop-value
invariant-loop-value g l = record {
  size : l.at + length (written (drop (length l.yielded) g.S.Sort.WIDTHS) (drop (length l.yielded) l.values)) ≡ length (written g.S.Sort.WIDTHS l.values);
  front : take l.at l.bytes ++ written (drop (length l.yielded) g.S.Sort.WIDTHS) (drop (length l.yielded) l.values) ≡ written g.S.Sort.WIDTHS l.values;
  back : drop l.at l.bytes ≡ drop l.at l.initial.bytes;
}
