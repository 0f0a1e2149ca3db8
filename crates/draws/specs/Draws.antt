-- What the generator makes of its state. Assumes nothing.
use Rattle.std.specs.Prelude.{ℕ, ◌+◌, ◌*◌, ◌/◌, ◌%◌, ◌^◌, ◌==◌, bit_xor, if◌then◌else◌}

-- the state that a seed gives
abbrev pub seed : ℕ → ℕ
seed n = (n + 1) % 2 ^ 64 * 0x9e3779b97f4a7c15 % 2 ^ 64

-- x with itself xored in, shifted up or down by k places
abbrev pub xor_up : ℕ → ℕ → ℕ
xor_up k x = bit_xor x (x * 2 ^ k % 2 ^ 64)

abbrev pub xor_down : ℕ → ℕ → ℕ
xor_down k x = bit_xor x (x / 2 ^ k)

-- the state after one step
abbrev pub step : ℕ → ℕ
step x = xor_up 17 (xor_down 7 (xor_up 13 x))

-- the number below n that a state gives
abbrev pub drawn_below : ℕ → ℕ → ℕ
drawn_below n x = if n == 0 then 0 else x / 2 ^ 33 % n
