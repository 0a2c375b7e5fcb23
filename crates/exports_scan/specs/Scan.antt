-- What the exported scan answers.
use Rattle.std.specs.Prelude.{ℕ, List, [], ◌∷◌}
use Rattle.soupbintcp.specs.Scan.{Scan}

-- how many packets, their bytes, and the refusal that stopped the scan: 0 where more bytes are needed
abbrev pub scan_words : Scan → List ℕ
scan_words x = x.packets ∷ x.bytes ∷ x.stop.refusal ∷ []
