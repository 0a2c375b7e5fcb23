-- The version of the library, 0.1.0: a byte each for the three numbers.
use Rattle.std.specs.Prelude.{ℕ, ◌+◌, ◌*◌}

abbrev pub version : ℕ
version = 0 * 65536 + 1 * 256 + 0
