-- A line that was read is at least its map long.
use Rattle.std.proofs.Common.{◌≡◌, ℕ, ◌≤◌, List, length, take, ap, arith, suc}
use Rattle.std.proofs.lemmas.List.{length-take}
use Rattle.archive.specs.declared.line.Line.{Line}
use Rattle.archive.specs.Fields.{written}
use Rattle.archive.specs.Lines.{Front, tag, widths_by, values}

pub moves : (bs : List ℕ) (l : Line) (n : ℕ) → Front bs l n → 2 ≤ n
moves bs l n f =
    let e : length (take n bs) ≡ suc (suc (length (written (widths_by (tag l)) (values l)))) = ap length f.front in
    let k = length-take n bs in
    omega (arith, e, k)
