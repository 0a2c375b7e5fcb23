-- Laws of the writers: l is the lent output at entry, m at exit, g a ground, bs the bytes, n a number, ks lengths, d data.
use mathlib.Core.Path.{◌≡◌, ap, sym}
use mathlib.Core.List.{List}
use mathlib.Core.Bool.{Bool, true, false, not}
use Prim.Native.Nat.{ℕ, ◌+◌, ◌*◌, ◌≤◌, ◌<◌}
use native.Mathlib.Omega.{arith}
use lib.ListN.{length, length-append}
use lib.Dec.{ltb, eqb}
use borrow.Author.Tests.{lt-ltb, le-ltb, ltb-false, eq-eqb, ne_eqb, eqb-true, eqb-false, not-false}
use mir.Val.{Fits}
use mir.Syntax.{w16, w64}
use Rattle.std.specs.Prelude.{Ok, Err}
use Rattle.wire.specs.Output.{put, Writes}
use Rattle.wire.proofs.Outputs.{writes-ground, writes_short, writes-done, put-put, length-put}
use Rattle.moldudp64.specs.Header.{header}
use Rattle.moldudp64.specs.Blocks.{blocks_of}
use Rattle.moldudp64.specs.Written.{encoded, encoded_end}
use Rattle.moldudp64_writer.specs.Writer.{cut, encoded_cut, total, add_up, packet_ground, end_ground}
use Rattle.moldudp64_writer.proofs.HeaderLaws.{length-header}
use Rattle.moldudp64_writer.proofs.CutLaws.{cut-count, cut-size}
use Rattle.moldudp64.proofs.DownstreamLaws.{past-ground}

-- ---- every packet writer, as code that has r as what its grounds gave and k as its size

pub write-short : (l bs : List ℕ) (g k : ℕ) → g ≡ 0 → length l < k → k ≡ length bs → Writes (Err (record { number = 41 })) l l g 0 bs
write-short l bs g k z h f = rw z (writes_short l 0 bs (omega arith))

pub write_done : (l m bs : List ℕ) (g k : ℕ) → g ≡ 0 → k ≤ length l → k ≡ length bs → m ≡ put l 0 bs → Writes (Ok k) l m g 0 bs
write_done l m bs g k z h f p = rw (z, f) (writes-done l 0 bs m (omega arith) p)

pub header-size : (s : List ℕ) (n c : ℕ) → length s ≡ 10 → 20 ≡ length (header s n c)
header-size s n c ten = sym (length-header s n c ten)

-- ---- end of session

pub end-13 : (n : ℕ) → n ≡ 0 → end_ground n ≡ 13
unfolding end_ground
end-13 n z = simp z

pub end-good : (n : ℕ) → (n ≡ 0 → ⊥) → end_ground n ≡ 0
unfolding end_ground
end-good n z = simp (ne_eqb _ _ z)

pub end_refused : (l bs : List ℕ) (n : ℕ) → n ≡ 0 → Writes (Err (record { number = 13 })) l l (end_ground n) 0 bs
end_refused l bs n z = rw (end-13 n z) (writes-ground l 0 bs 13 (omega arith))

pub end_short : (l s : List ℕ) (n : ℕ) → (n ≡ 0 → ⊥) → length s ≡ 10 → length l < 20 → Writes (Err (record { number = 41 })) l l (end_ground n) 0 (encoded_end s n)
unfolding encoded_end
end_short l s n z ten h = write-short l (header s n 65535) (end_ground n) 20 (end-good n z) h (header-size s n 65535 ten)

pub end-done : (l m s : List ℕ) (n : ℕ) → (n ≡ 0 → ⊥) → length s ≡ 10 → 20 ≤ length l → m ≡ put l 0 (header s n 65535)
    → Writes (Ok 20) l m (end_ground n) 0 (encoded_end s n)
unfolding encoded_end
end-done l m s n z ten h p = write_done l m (header s n 65535) (end_ground n) 20 (end-good n z) h (header-size s n 65535 ten) p

-- ---- the grounds of a packet

pub packet-42 : (n : ℕ) (ks d : List ℕ) → 65534 < length ks → 42 ≡ packet_ground n ks d
unfolding packet_ground
packet-42 n ks d h = simp (lt-ltb _ _ h)

pub packet-44 : (n : ℕ) (ks d : List ℕ) (b : Bool) → length ks ≤ 65534 → b ≡ add_up ks d → not b ≡ true → 44 ≡ packet_ground n ks d
unfolding packet_ground
packet-44 n ks d b h e f = rw (le-ltb _ _ h, ← e, f)

pub packet-13 : (n : ℕ) (ks d : List ℕ) (b : Bool) → length ks ≤ 65534 → b ≡ add_up ks d → not b ≡ false → n ≡ 0 → 13 ≡ packet_ground n ks d
unfolding packet_ground
packet-13 n ks d b h e f z = rw (le-ltb _ _ h, ← e, f, z)

pub packet-14 : (n : ℕ) (ks d : List ℕ) (b : Bool) → length ks ≤ 65534 → b ≡ add_up ks d → not b ≡ false → (n ≡ 0 → ⊥)
    → 18446744073709551615 < n + length ks → 14 ≡ packet_ground n ks d
unfolding packet_ground
packet-14 n ks d b h e f z j = rw (le-ltb _ _ h, ← e, f, ne_eqb _ _ z, lt-ltb _ _ j)

pub packet-12 : (n : ℕ) (ks d : List ℕ) (b : Bool) → length ks ≤ 65534 → b ≡ add_up ks d → not b ≡ false → (n ≡ 0 → ⊥)
    → n + length ks ≤ 18446744073709551615 → 65507 < 20 + 2 * length ks + length d → 12 ≡ packet_ground n ks d
unfolding packet_ground
packet-12 n ks d b h e f z j k = rw (le-ltb _ _ h, ← e, f, ne_eqb _ _ z, le-ltb _ _ j, lt-ltb _ _ k)

pub packet-12-data : (n : ℕ) (ks d : List ℕ) (b : Bool) → length ks ≤ 65534 → b ≡ add_up ks d → not b ≡ false → (n ≡ 0 → ⊥)
    → n + length ks ≤ 18446744073709551615 → 65507 < length d → 12 ≡ packet_ground n ks d
packet-12-data n ks d b h e f z j k = packet-12 n ks d b h e f z j (omega arith)

pub packet-good : (n : ℕ) (ks d : List ℕ) (b : Bool) → length ks ≤ 65534 → b ≡ add_up ks d → not b ≡ false → (n ≡ 0 → ⊥)
    → n + length ks ≤ 18446744073709551615 → 20 + 2 * length ks + length d ≤ 65507 → 0 ≡ packet_ground n ks d
unfolding packet_ground
packet-good n ks d b h e f z j k = rw (le-ltb _ _ h, ← e, f, ne_eqb _ _ z, le-ltb _ _ j, le-ltb _ _ k)

-- what is written has none of them
pub record Writable (n : ℕ) (ks d : List ℕ) : Type 0 where
  pub few : length ks ≤ 65534
  pub whole : total ks ≡ length d
  pub number-good : n ≡ 0 → ⊥
  pub numbers_fit : n + length ks ≤ 18446744073709551615
  pub small : 20 + 2 * length ks + length d ≤ 65507

pub writable : (n : ℕ) (ks d : List ℕ) → packet_ground n ks d ≡ 0 → Writable n ks d
unfolding packet_ground
writable n ks d e =
    let a = past-ground (ltb 65534 (length ks)) _ _ e (omega arith) in
    let b = past-ground (not (add_up ks d)) _ _ a.1 (omega arith) in
    let c = past-ground (eqb n 0) _ _ b.1 (omega arith) in
    let f = past-ground (ltb 18446744073709551615 (n + length ks)) _ _ c.1 (omega arith) in
    let g = past-ground (ltb 65507 (20 + 2 * length ks + length d)) _ _ f.1 (omega arith) in
    record {
      few = ltb-false _ _ a.0;
      whole = eqb-true _ _ (not-false _ b.0);
      number-good = eqb-false _ _ c.0;
      numbers_fit = ltb-false _ _ f.0;
      small = ltb-false _ _ g.0;
    }

pub not-writable : (n : ℕ) (ks d : List ℕ) → Writable n ks d → packet_ground n ks d ≡ 0
unfolding packet_ground
not-writable n ks d w =
    simp (le-ltb _ _ w.few, eq-eqb _ _ w.whole, ne_eqb _ _ w.number-good, le-ltb _ _ w.numbers_fit, le-ltb _ _ w.small)

-- ---- the packet, where no ground applies

module _ (n : ℕ) (ks d : List ℕ) (z : packet_ground n ks d ≡ 0) where
  pub size_fits : Fits w64 (20 + 2 * length ks + length d)
  size_fits = record { fits = let w = (writable n ks d z).small in omega arith }

  pub count_fits : Fits w16 (length ks)
  count_fits = record { fits = let w = (writable n ks d z).few in omega arith }

  pub packet-whole : total ks ≡ length d
  packet-whole = (writable n ks d z).whole

  packet-size : (s : List ℕ) → length s ≡ 10 → 20 + 2 * length ks + length d ≡ length (encoded_cut s n ks d)
  unfolding encoded
  packet-size s ten =
      let c = cut-size ks d packet-whole in
      let h = length-header s n (length (cut ks d)) ten in
      omega (arith, length-append (header s n (length (cut ks d))) (blocks_of (cut ks d)))

  pub packet-short : (l s : List ℕ) → length s ≡ 10 → length l < 20 + 2 * length ks + length d
      → Writes (Err (record { number = 41 })) l l (packet_ground n ks d) 0 (encoded_cut s n ks d)
  packet-short l s ten h = write-short l (encoded_cut s n ks d) (packet_ground n ks d) _ z h (packet-size s ten)

  pub packet-room : (l₁ l : List ℕ) (bs : List ℕ) → 20 + 2 * length ks + length d ≤ length l → l₁ ≡ put l 0 bs
      → 20 + length (blocks_of (cut ks d)) ≤ length l₁
  packet-room l₁ l bs h p =
      let c = cut-size ks d packet-whole in
      omega (arith, ap length p, length-put l 0 bs)

  pub packet-done : (l l₁ l₂ s : List ℕ) → length s ≡ 10 → 20 + 2 * length ks + length d ≤ length l
      → l₁ ≡ put l 0 (header s n (length ks)) → l₂ ≡ put l₁ 20 (blocks_of (cut ks d))
      → Writes (Ok (20 + 2 * length ks + length d)) l l₂ (packet_ground n ks d) 0 (encoded_cut s n ks d)
  unfolding encoded
  packet-done l l₁ l₂ s ten h p q =
      let c = cut-size ks d packet-whole in
      let k = cut-count ks d in
      let t = length-header s n (length ks) ten in
      let a : 0 + length (header s n (length ks)) ≡ 20 = omega arith in
      let both : l₂ ≡ put l 0 (encoded_cut s n ks d) = rw (q, p, k) (rw a at (put-put l 0 (header s n (length ks)) (blocks_of (cut ks d)) (omega arith))) in
      write_done l l₂ (encoded_cut s n ks d) (packet_ground n ks d) _ z h (packet-size s ten) both
