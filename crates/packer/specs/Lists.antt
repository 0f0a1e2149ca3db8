-- A list of lines over memory of the caller: its lines are the first `used` places of the memory. Assumes nothing.
use Rattle.std.specs.Prelude.{ℕ, ◌+◌, ◌-◌, List, [], ◌∷◌, length, take, slice_set}

-- the lines of the list, in order of adding
abbrev pub lines_in : {T : Type 0} → List T → ℕ → List T
lines_in memory used = take used memory

-- the unwritten lines
abbrev pub room : {T : Type 0} → List T → ℕ → ℕ
room memory used = length memory - used

-- the memory with these lines written from the place `used` on
abbrev pub written : {T : Type 0} → List T → ℕ → List T → List T
written memory used [] = memory
written memory used (l ∷ ls) = written (slice_set memory used l) (used + 1) ls
