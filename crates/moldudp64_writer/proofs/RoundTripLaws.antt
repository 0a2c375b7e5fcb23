-- What is written reads back, and what is accepted writes back: blocks first, then whole packets.
use mathlib.Core.Path.{◌≡◌, refl, ap, sym, ◌∙◌}
use mathlib.Core.List.{List, [], ◌∷◌, ◌++◌, append_assoc, append-nil}
use mathlib.Core.Bool.{Bool, true, false}
use Prim.Native.Nat.{ℕ, zero, suc, ◌+◌, ◌^◌, ◌≤◌, ◌<◌}
use native.Mathlib.Omega.{arith}
use lib.ListN.{length, get_or, take, drop, length-append, length-take, length-drop, take-append-drop}
use lib.Seq.{take_all, take_at, drop_at, take-add}
use lib.Dec.{eqb}
use borrow.Author.Tests.{le-leb, eq-eqb, eqb-true}
use Rattle.std.specs.Prelude.{if◌then◌else◌}
use Rattle.wire.specs.Words.{says}
use Rattle.wire.specs.Bytes.{number, bytes, joined, AreBytes}
use Rattle.wire.specs.Output.{write_refusal, write_answer}
use Rattle.wire.proofs.Numbers.{length-bytes, number-bytes, bytes-number, small-number}
use Rattle.wire.proofs.Outputs.{wrote_so, wrote-front}
use Rattle.moldudp64.specs.Header.{number_of, count_of, header}
use Rattle.moldudp64.specs.Blocks.{block_length, block_size, after_block, all_fit, after_blocks, messages, blocks_refusal, blocks_of, fits}
use Rattle.moldudp64.specs.Downstream.{DownstreamKind, data_packet, heartbeat, end_of_session, kind_of_count, kind_of, block_count, values_of, refusal_of, downstream_of, downstream_session, messages_of}
use Rattle.moldudp64.specs.Written.{encoded, encoded_end}
use Rattle.moldudp64_writer.specs.Writer.{encoded_cut, cut, lengths_of, packet_ground, end_ground}
use Rattle.moldudp64.specs.Request.{request_ground, request_refusal, request_of, request_session}
use Rattle.moldudp64_writer.specs.RoundTrips.{DatagramReadsAs, WritesTo, kind_of_messages, values_of_messages, AsksFor, PacketReadsBack, PacketWritesBack, EndReadsBack, EndWritesBack, RequestReadsBack, RequestWritesBack, PacketFits, RequestFits, PacketRoundTrip, EndRoundTrip, RequestRoundTrip, PacketBytesReadBack, EndBytesReadBack, RequestBytesReadBack}
use Rattle.moldudp64_writer.proofs.HeaderLaws.{length-header, header-session, header-number, header-count, header-rest, header-again, drop-bytes}
use Rattle.moldudp64.proofs.BlockLaws.{fits-so, sound-fit, sound-end, first_fits, rest-fit}
use Rattle.moldudp64.proofs.DownstreamLaws.{kind-heartbeat, kind-end, kind-data, count-end, count-blocks, sound, accepted, said, messages-sound, count-sound, sound-ten}
use Rattle.moldudp64_writer.proofs.CutLaws.{laid, laid-front, laid-size, cut-count, cut_short, cut-size, join-again, lengths-count, lengths-total, joined-size}
use Rattle.moldudp64_writer.proofs.WriterLaws.{writable, not-writable, end-good}
use Rattle.moldudp64.proofs.RequestLaws.{request-sound, request-ten}

-- ---- one block in front of others

module _ (m rest : List ℕ) (small : length m < 2 ^ 16) where
  laid-length : block_length (laid m rest) ≡ length m
  unfolding block_length
  laid-length = rw (append_assoc (bytes 2 (length m)) m rest) (number-bytes 2 (length m) small [] (m ++ rest))

  laid-fits : fits (laid m rest) ≡ true
  laid-fits = fits-so (laid m rest) (let e = laid-length in let f = laid-size m rest in omega arith)

  laid-after : after_block (laid m rest) ≡ rest
  laid-after = rw laid-length (drop_at (bytes 2 (length m) ++ m) rest (length m + 2) (laid-front m rest))

  laid-message : take (block_length (laid m rest)) (drop 2 (laid m rest)) ≡ m
  laid-message =
      let b : drop 2 (laid m rest) ≡ m ++ rest =
      rw (append_assoc (bytes 2 (length m)) m rest) (drop_at (bytes 2 (length m)) (m ++ rest) 2 (length-bytes 2 (length m))) in
      rw (laid-length, b) (take_at m rest (length m) refl)

-- ---- blocks that were written, read

-- no message is longer than a length field can say
pub record Short (ms : List (List ℕ)) : Type 0 where
  pub each : (i : ℕ) → length (get_or ms i []) < 2 ^ 16

tail-short : (m : List ℕ) (ms : List (List ℕ)) → Short (m ∷ ms) → Short ms
tail-short m ms s = record { each = λ i. s.each (suc i) }

blocks-fit : (ms : List (List ℕ)) → Short ms → all_fit (length ms) (blocks_of ms) ≡ true
unfolding all_fit blocks_of
blocks-fit [] s = refl
blocks-fit (m ∷ ms) s =
    let h = s.each 0 in
    rw (laid-fits m (blocks_of ms) h, laid-after m (blocks_of ms) h) (blocks-fit ms (tail-short m ms s))

blocks_end : (ms : List (List ℕ)) → Short ms → after_blocks (length ms) (blocks_of ms) ≡ []
unfolding after_blocks blocks_of
blocks_end [] s = refl
blocks_end (m ∷ ms) s = ap (after_blocks (length ms)) (laid-after m (blocks_of ms) (s.each 0)) ∙ blocks_end ms (tail-short m ms s)

blocks-read : (ms : List (List ℕ)) → Short ms → messages (length ms) (blocks_of ms) ≡ ms
unfolding messages blocks_of
blocks-read [] s = refl
blocks-read (m ∷ ms) s =
    let h = s.each 0 in
    rw (laid-message m (blocks_of ms) h, laid-after m (blocks_of ms) h, blocks-read ms (tail-short m ms s))

blocks-good : (ms : List (List ℕ)) → Short ms → blocks_refusal (length ms) (blocks_of ms) ≡ 0
unfolding blocks_refusal
blocks-good ms s = rw (blocks-fit ms s, blocks_end ms s)

-- ---- blocks that were read, written

blocks-again : (n : ℕ) (l : List ℕ) → AreBytes l → all_fit n l ≡ true → length (after_blocks n l) ≡ 0 → blocks_of (messages n l) ≡ l
unfolding messages blocks_of after_blocks block_length
blocks-again zero [] small f e = refl
blocks-again zero (x ∷ l) small f e = absurd (omega arith)
blocks-again (suc n) l small f e =
    let h = first_fits n l f in
    let k : length (take (number l 0 2) (drop 2 l)) ≡ number l 0 2 = omega (arith, length-take (number l 0 2) (drop 2 l), length-drop 2 l) in
    let b : bytes 2 (number l 0 2) ≡ take 2 l = bytes-number 2 l small (omega arith) in
    let c : 2 + number l 0 2 ≡ number l 0 2 + 2 = omega arith in
    let r : blocks_of (messages n (after_block l)) ≡ after_block l = blocks-again n (after_block l) (drop-bytes (block_size l) l small) (rest-fit n l f) e in
    rw (k, b, ← take-add 2 (number l 0 2) l, c, r) (take-append-drop (number l 0 2 + 2) l)

-- ---- a header with blocks behind it, read: c is its count

module _ (s : List ℕ) (n c : ℕ) (b : List ℕ) (ten : length s ≡ 10) (fit : n < 2 ^ 64) (small : c < 2 ^ 16) where
  whole : List ℕ
  whole = header s n c ++ b

  whole-number : number_of whole ≡ n
  unfolding whole
  whole-number = header-number s n c ten b fit

  whole-count : count_of whole ≡ c
  unfolding whole
  whole-count = header-count s n c ten b small

  whole-rest : drop 20 whole ≡ b
  unfolding whole
  whole-rest = header-rest s n c ten b

  whole-session : take 10 whole ≡ s
  unfolding whole
  whole-session = header-session s n c ten b

  whole-size : length whole ≡ 20 + length b
  unfolding whole
  whole-size = omega (arith, length-append (header s n c) b, length-header s n c ten)

  -- accepted, where the number is good and its k blocks are
  module _ (k : ℕ) (blocks : block_count whole ≡ k) (nonzero : n ≡ 0 → ⊥) (sum : n + k ≤ 18446744073709551615) (size : 20 + length b ≤ 65507) (good : blocks_refusal k b ≡ 0) where
    whole-good : refusal_of whole ≡ 0
    whole-good =
        accepted whole
        (record {
          long = let z = whole-size in omega arith;
          short = let z = whole-size in omega arith;
          number-good = λ z. nonzero (sym whole-number ∙ z);
          numbers_fit = let e = whole-number in omega arith;
          blocks-good = rw (blocks, whole-rest) good;
        })

    whole-session-read : downstream_session whole ≡ s
    unfolding downstream_session
    whole-session-read = rw whole-good whole-session

    whole-messages : messages_of whole ≡ messages k b
    whole-messages = messages-sound whole whole-good ∙ rw (blocks, whole-rest)

    whole_says : (kind : DownstreamKind) → kind_of_count c ≡ kind → downstream_of whole ≡ says kind (values_of kind whole)
    whole_says kind e = said whole whole-good ∙ ap (λ (x : DownstreamKind). says x (values_of x whole)) (ap kind_of_count whole-count ∙ e)

-- ---- data and heartbeat, read back

record Packable (s : List ℕ) (n : ℕ) (ms : List (List ℕ)) : Type 0 where
  ten : length s ≡ 10
  fit : n < 2 ^ 64
  short : Short ms
  few : length ms ≤ 65534
  nonzero : n ≡ 0 → ⊥
  sum : n + length ms ≤ 18446744073709551615
  size : 20 + length (blocks_of ms) ≤ 65507

module _ (s : List ℕ) (n : ℕ) (ms : List (List ℕ)) (p : Packable s n ms) where
  small_count : length ms < 2 ^ 16
  small_count = let f = p.few in omega arith

  packed : List ℕ
  packed = whole s n (length ms) (blocks_of ms) p.ten p.fit small_count

  as-packed : encoded s n ms ≡ packed
  unfolding encoded packed whole
  as-packed = refl

  packed-blocks : block_count packed ≡ length ms
  unfolding packed
  packed-blocks = sym (count-blocks (length ms) packed (sym (whole-count s n (length ms) (blocks_of ms) p.ten p.fit small_count)) (let f = p.few in omega arith))

  packed-session : downstream_session packed ≡ s
  unfolding packed
  packed-session = whole-session-read s n (length ms) (blocks_of ms) p.ten p.fit small_count (length ms) packed-blocks p.nonzero p.sum p.size (blocks-good ms p.short)

  packed-messages : messages_of packed ≡ ms
  unfolding packed
  packed-messages =
      whole-messages s n (length ms) (blocks_of ms) p.ten p.fit small_count (length ms) packed-blocks p.nonzero p.sum p.size (blocks-good ms p.short)
      ∙ blocks-read ms p.short

  packed-says : (kind : DownstreamKind) → kind_of_count (length ms) ≡ kind → downstream_of packed ≡ says kind (values_of kind packed)
  unfolding packed
  packed-says = whole_says s n (length ms) (blocks_of ms) p.ten p.fit small_count (length ms) packed-blocks p.nonzero p.sum p.size (blocks-good ms p.short)

  packed-number : number_of packed ≡ n
  unfolding packed
  packed-number = whole-number s n (length ms) (blocks_of ms) p.ten p.fit small_count

  packed-count : count_of packed ≡ length ms
  unfolding packed
  packed-count = whole-count s n (length ms) (blocks_of ms) p.ten p.fit small_count

packet-says : (s : List ℕ) (n : ℕ) (ms : List (List ℕ)) (p : Packable s n ms) → downstream_of (packed s n ms p) ≡ says (kind_of_messages ms) (values_of_messages n ms)
packet-says s n [] p = packed-says s n [] p heartbeat (kind-heartbeat 0 refl) ∙ ap (λ (v : ℕ). says heartbeat (v ∷ [])) (packed-number s n [] p)
packet-says s n (m ∷ ms) p =
    let f = p.few in
    packed-says s n (m ∷ ms) p data_packet (kind-data (length (m ∷ ms)) (omega arith) (omega arith))
    ∙ ap (λ (v : ℕ). says data_packet (v ∷ count_of (packed s n (m ∷ ms) p) ∷ [])) (packed-number s n (m ∷ ms) p)
    ∙ ap (λ (v : ℕ). says data_packet (n ∷ v ∷ [])) (packed-count s n (m ∷ ms) p)

packet-reads : (s : List ℕ) (n : ℕ) (ms : List (List ℕ)) → Packable s n ms → DatagramReadsAs (encoded s n ms) s (kind_of_messages ms) (values_of_messages n ms) ms
packet-reads s n ms p =
    rw (as-packed s n ms p)
    (record { says_so = packet-says s n ms p; its_session = packed-session s n ms p; its_messages = packed-messages s n ms p })

packet-bytes-read-back : PacketBytesReadBack
unfolding PacketBytesReadBack
packet-bytes-read-back s n ks d ten fit short e =
    let w = writable n ks d e in
    let c = cut-count ks d in
    let z = cut-size ks d w.whole in
    packet-reads s n (cut ks d)
    (record {
      ten = ten;
      fit = fit;
      short = record { each = cut_short ks d short };
      few = let f = w.few in omega arith;
      nonzero = w.number-good;
      sum = let f = w.numbers_fit in omega arith;
      size = let f = w.small in omega arith;
    })

packet-reads-back : PacketReadsBack
unfolding PacketReadsBack PacketBytesReadBack
packet-reads-back l s n ks d k ten fit short e =
    let o = wrote_so (packet_ground n ks d) l 0 (encoded_cut s n ks d) k e in
    rw (wrote-front (packet_ground n ks d) l (encoded_cut s n ks d) k e) (packet-bytes-read-back s n ks d ten fit short o.no_ground)

-- ---- a writer with no ground whose bytes are the datagram

writes-to : (l : List ℕ) (g : ℕ) (bs : List ℕ) → g ≡ 0 → bs ≡ l → WritesTo l g bs
unfolding write_answer write_refusal
writes-to l g bs e f =
    rw (e, f)
    (record {
      answers = λ o h. let g : 0 + length l ≤ length o = omega arith in simp (le-leb _ _ g);
      leaves = λ o h. refl;
    })

-- ---- data and heartbeat, written back

module _ (l : List ℕ) (bytes-all : AreBytes l) (e : refusal_of l ≡ 0) (not_end : kind_of l ≡ end_of_session → ⊥) where
  ms : List (List ℕ)
  ms = messages_of l

  back_count : count_of l ≡ 65535 → ⊥
  back_count z = not_end (kind-end (count_of l) z)

  back-blocks : count_of l ≡ block_count l
  back-blocks = count-blocks (count_of l) l refl back_count

  back-length : length ms ≡ count_of l
  unfolding ms
  back-length = count-sound l e ∙ sym back-blocks

  back-body : blocks_of ms ≡ drop 20 l
  unfolding ms
  back-body =
      let s = sound l e in
      ap blocks_of (messages-sound l e) ∙ blocks-again (block_count l) (drop 20 l) (drop-bytes 20 l bytes-all) (sound-fit _ _ s.blocks-good) (sound-end _ _ s.blocks-good)

  back-session : downstream_session l ≡ take 10 l
  unfolding downstream_session
  back-session = rw e

  back-same : encoded_cut (downstream_session l) (number_of l) (lengths_of ms) (joined ms) ≡ l
  unfolding encoded
  back-same =
      rw (join-again ms, back-session, back-length, back-body, header-again l bytes-all (sound l e).long) (take-append-drop 20 l)

  back-few : count_of l ≤ 65534
  unfolding count_of
  back-few = let c = back_count in let h = small-number 2 l 18 bytes-all in omega arith

  back-ground : packet_ground (number_of l) (lengths_of ms) (joined ms) ≡ 0
  back-ground =
      let s = sound l e in
      let c = lengths-count ms in
      let b = back-length in
      let k = back-blocks in
      not-writable (number_of l) (lengths_of ms) (joined ms)
      (record {
        few = let f = back-few in omega arith;
        whole = lengths-total ms;
        number-good = s.number-good;
        numbers_fit = let f = s.numbers_fit in omega arith;
        small = let h = s.short in let i = s.long in omega (arith, joined-size ms, ap length back-body, length-drop 20 l);
      })

  back : WritesTo l (packet_ground (number_of l) (lengths_of ms) (joined ms)) (encoded_cut (downstream_session l) (number_of l) (lengths_of ms) (joined ms))
  back = writes-to l _ _ back-ground back-same

packet-writes-back : PacketWritesBack
unfolding PacketWritesBack ms
packet-writes-back l small e n = back l small e n

-- ---- end of session

end-blocks : (s : List ℕ) (n : ℕ) (ten : length s ≡ 10) (fit : n < 2 ^ 64) (small : 65535 < 2 ^ 16) → block_count (whole s n 65535 [] ten fit small) ≡ 0
end-blocks s n ten fit small = sym (count-end 65535 (whole s n 65535 [] ten fit small) (sym (whole-count s n 65535 [] ten fit small)) refl)

end_reads : (s : List ℕ) (n : ℕ) → length s ≡ 10 → n < 2 ^ 64 → (n ≡ 0 → ⊥) → DatagramReadsAs (encoded_end s n) s end_of_session (n ∷ []) []
unfolding encoded_end whole blocks_refusal all_fit after_blocks messages
end_reads s n ten fit z =
    let small : 65535 < 2 ^ 16 = omega arith in
    let k = end-blocks s n ten fit small in
    let f : n + 0 ≤ 18446744073709551615 = omega arith in
    let h : 20 + length {A = ℕ} [] ≤ 65507 = omega arith in
    rw (← append-nil (header s n 65535))
    (record {
      says_so =
          whole_says s n 65535 [] ten fit small 0 k z f h refl end_of_session (kind-end 65535 refl)
          ∙ ap (λ (v : ℕ). says end_of_session (v ∷ [])) (whole-number s n 65535 [] ten fit small);
      its_session = whole-session-read s n 65535 [] ten fit small 0 k z f h refl;
      its_messages = whole-messages s n 65535 [] ten fit small 0 k z f h refl;
    })

end-nonzero : (n : ℕ) → end_ground n ≡ 0 → n ≡ 0 → ⊥
unfolding end_ground
end-nonzero n e z = let k : ◌≡◌ {A = ℕ} 13 0 = rw z at e in omega arith

end-bytes-read-back : EndBytesReadBack
unfolding EndBytesReadBack
end-bytes-read-back s n ten fit e = end_reads s n ten fit (end-nonzero n e)

end-reads-back : EndReadsBack
unfolding EndReadsBack
end-reads-back l s n k ten fit e =
    let o = wrote_so (end_ground n) l 0 (encoded_end s n) k e in
    rw (wrote-front (end_ground n) l (encoded_end s n) k e) (end_reads s n ten fit (end-nonzero n o.no_ground))

-- 65,535 is the one count of an end of session
end-count : (c : ℕ) → kind_of_count c ≡ end_of_session → c ≡ 65535
unfolding kind_of_count
end-count c e = go (eqb c 0) (eqb c 65535) refl e
  where
    go : (a b : Bool) → eqb c 65535 ≡ b → if a then heartbeat else if b then end_of_session else data_packet ≡ end_of_session → c ≡ 65535
    go true b d f = let z : ◌≡◌ {A = ℕ} 0 1 = cc in absurd (omega arith)
    go false true d f = eqb-true _ _ d
    go false false d f = let z : ◌≡◌ {A = ℕ} 0 1 = cc in absurd (omega arith)

-- with no blocks the header is all
end_short : (l : List ℕ) → blocks_refusal 0 (drop 20 l) ≡ 0 → length l ≤ 20
unfolding after_blocks
end_short l e = omega (arith, sound-end 0 (drop 20 l) e, length-drop 20 l)

end-writes-back : EndWritesBack
unfolding EndWritesBack encoded_end downstream_session
end-writes-back l small e k =
    let s = sound l e in
    let c = end-count (count_of l) k in
    let b : block_count l ≡ 0 = sym (count-end (count_of l) l refl c) in
    let n = end_short l (rw b at s.blocks-good) in
    writes-to l _ _ (end-good (number_of l) s.number-good)
    (rw (e, ← c, header-again l small s.long) (take_all 20 l n))

-- ---- requests

request-reads : (s : List ℕ) (n c : ℕ) → length s ≡ 10 → n < 2 ^ 64 → c < 2 ^ 16 → request_ground n c ≡ 0 → AsksFor (header s n c) s n c
unfolding request_of request_session request_refusal whole
request-reads s n c ten fit small e =
    let a = whole-number s n c [] ten fit small in
    let b = whole-count s n c [] ten fit small in
    let d = whole-session s n c [] ten fit small in
    let k : length (header s n c ++ []) ≡ 20 = whole-size s n c [] ten fit small in
    rw (← append-nil (header s n c))
    (record {
      says_so = rw (eq-eqb _ _ k, a, b, e);
      its_session = rw (eq-eqb _ _ k, a, b, e) d;
    })

request-bytes-read-back : RequestBytesReadBack
unfolding RequestBytesReadBack
request-bytes-read-back s n c ten fit small e = request-reads s n c ten fit small e

request-reads-back : RequestReadsBack
unfolding RequestReadsBack
request-reads-back l s n c k ten fit small e =
    let o = wrote_so (request_ground n c) l 0 (header s n c) k e in
    rw (wrote-front (request_ground n c) l (header s n c) k e) (request-reads s n c ten fit small o.no_ground)

request-writes-back : RequestWritesBack
unfolding RequestWritesBack request_session
request-writes-back l small e =
    let s = request-sound l e in
    let n : length l ≤ 20 = omega (arith, s.0) in
    let m : 20 ≤ length l = omega (arith, s.0) in
    writes-to l _ _ s.1 (rw (e, header-again l small m) (take_all 20 l n))

-- ---- the writers' types hold what was read: ten bytes of session, and numbers no wider than the bytes that they were read from

lengths-fit : (n : ℕ) (l : List ℕ) → AreBytes l → (i : ℕ) → get_or (lengths_of (messages n l)) i 0 < 2 ^ 16
unfolding messages lengths_of block_length
lengths-fit zero l small i = omega arith
lengths-fit (suc n) l small zero = omega (arith, small-number 2 l 0 small, length-take (number l 0 2) (drop 2 l))
lengths-fit (suc n) l small (suc i) = lengths-fit n (after_block l) (drop-bytes (block_size l) l small) i

number_fits : (l : List ℕ) → AreBytes l → number_of l < 2 ^ 64
unfolding number_of
number_fits l small = small-number 8 l 10 small

count_fits : (l : List ℕ) → AreBytes l → count_of l < 2 ^ 16
unfolding count_of
count_fits l small = small-number 2 l 18 small

session-fits : (l : List ℕ) → refusal_of l ≡ 0 → length (downstream_session l) ≡ 10
unfolding downstream_session
session-fits l e = rw e (sound-ten l (refusal_of l) refl e)

packet-fits : (l : List ℕ) → AreBytes l → refusal_of l ≡ 0 → PacketFits l
packet-fits l small e =
    record {
      size_of_session = session-fits l e;
      number_fits = number_fits l small;
      each_length = λ i. rw (messages-sound l e) (lengths-fit (block_count l) (drop 20 l) (drop-bytes 20 l small) i);
    }

request-fits : (l : List ℕ) → AreBytes l → request_refusal l ≡ 0 → RequestFits l
unfolding request_session
request-fits l small e =
    record {
      size_of_session = rw e (request-ten l (request_refusal l) refl e);
      number_fits = number_fits l small;
      count_fits = count_fits l small;
    }

pub packet-round-trip : PacketRoundTrip
packet-round-trip =
    record {
      reads_back = packet-reads-back;
      bytes_read_back = packet-bytes-read-back;
      writes_back = packet-writes-back;
      may_be_given = packet-fits;
    }

pub end-round-trip : EndRoundTrip
end-round-trip =
    record {
      reads_back = end-reads-back;
      bytes_read_back = end-bytes-read-back;
      writes_back = end-writes-back;
      may_be_given = λ l small e. record { size_of_session = session-fits l e; number_fits = number_fits l small };
    }

pub request-round-trip : RequestRoundTrip
request-round-trip =
    record {
      reads_back = request-reads-back;
      bytes_read_back = request-bytes-read-back;
      writes_back = request-writes-back;
      may_be_given = request-fits;
    }
