-- What a list of lines shows, and what it has gained. Assumes nothing.
use Rattle.std.specs.Prelude.{◌≡◌, ℕ, ◌+◌, List, ◌++◌, length, drop}
use Rattle.packer.specs.declared.lines.Lines.{Lines}
use Rattle.packer.specs.Lists.{lines_in, room, written}

-- its unwritten lines
abbrev pub free : {T : Type 0} → Lines T → ℕ
free l = room l.memory.now l.used

-- its lines, in order of adding
abbrev pub shown : {T : Type 0} → Lines T → List T
shown l = lines_in l.memory.now l.used

-- `after` is `before` with exactly these lines added, over the same memory, the rest of which is as it was
pub record Gained {T : Type 0} (before after : Lines T) (ls : List T) : Type 0 where
  pub lines : shown after ≡ shown before ++ ls
  pub used : after.used ≡ before.used + length ls
  pub memory : after.memory.now ≡ written before.memory.now before.used ls
  pub rest : drop after.used after.memory.now ≡ drop after.used before.memory.now
  pub same : after.memory.ghost_name ≡ before.memory.ghost_name
