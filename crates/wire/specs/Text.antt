-- Text as bytes.
use Rattle.std.specs.Prelude.{ℕ, List, [], ◌∷◌}
use Prim.Native.Char.{Char, code}
use Prim.Native.String.{String, [] as empty, ◌∷◌ as ◌then◌}

-- a character of ASCII as its byte
abbrev pub letter : Char → ℕ
letter c = code c

-- a text of ASCII, a byte for each character
abbrev pub ascii : String → List ℕ
ascii empty = []
ascii (c then s) = letter c ∷ ascii s

-- the session of document 01's examples
abbrev pub readroom : List ℕ
readroom = ascii "READROOM01"
