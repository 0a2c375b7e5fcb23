-- The writers: each is given a name, which is the first bytes of a lent buffer, and lent the output from a place on.
use Prim.Native.Nat.{ℕ, ◌-◌}
use mathlib.Core.List.{List, []}
use mathlib.Core.Bool.{not, ◌||◌}
use mathlib.Core.Path.{◌≡◌}
use lib.ListN.{length}
use lib.Dec.{ltb, eqb}
use borrow.Rule.Slice.PartMut.{mid_of, put_mid}
use Rattle.wire.specs.Bounds.{session_size}
use Rattle.wire.specs.Output.{written_words, Writes}
use Rattle.wire.specs.Output.{Written}
use Rattle.wire.specs.Parts.{first_bytes}
use Rattle.moldudp64.specs.Header.{header}
use Rattle.moldudp64.specs.Request.{request_ground}
use Rattle.moldudp64.specs.Written.{encoded, encoded_end}
use Rattle.moldudp64_writer.specs.Writer.{cut, encoded_cut, packet_ground, end_ground}
use Rattle.host_answers.specs.Answers.{or_else, short, named, lent_from, padded, AnswersWith, AnswersWriting}
use Rattle.host_answers.proofs.WritingLaws.{writing-reported}

module _ (ws ws' l m : List ℕ) (w : Written) (r n from : ℕ) (s t : List ℕ) (a : t ≡ first_bytes session_size s)
    (e : from ≡ lent_from (not (eqb (length s) session_size) || ltb (length ws) 1) (length l))
    (h : AnswersWith r ws ws' (or_else (written_words w).refusal (short (not (eqb (length s) session_size)))) (padded 1 (written_words w).values)) where
  pub data-reported : (ks d : List ℕ) → Writes w (mid_of from (length l - from) l) m (packet_ground n ks d) 0 (encoded_cut t n ks d)
      → AnswersWriting r ws ws' l (put_mid from (length l - from) l m) (named s (packet_ground n ks d)) (encoded_cut (first_bytes session_size s) n ks d)
  data-reported ks d f = rw (← a) (writing-reported _ ws l _ from _ w r ws' m h e f)

  pub heartbeat-reported : Writes w (mid_of from (length l - from) l) m (packet_ground n [] []) 0 (encoded_cut t n [] [])
      → AnswersWriting r ws ws' l (put_mid from (length l - from) l m) (named s (packet_ground n [] [])) (encoded (first_bytes session_size s) n [])
  unfolding cut
  heartbeat-reported f = rw (← a) (writing-reported _ ws l _ from _ w r ws' m h e f)

  pub end-reported : Writes w (mid_of from (length l - from) l) m (end_ground n) 0 (encoded_end t n) → AnswersWriting r ws ws' l (put_mid from (length l - from) l m) (named s (end_ground n)) (encoded_end (first_bytes session_size s) n)
  end-reported f = rw (← a) (writing-reported _ ws l _ from _ w r ws' m h e f)

  pub request-reported : (c : ℕ) → Writes w (mid_of from (length l - from) l) m (request_ground n c) 0 (header t n c)
      → AnswersWriting r ws ws' l (put_mid from (length l - from) l m) (named s (request_ground n c)) (header (first_bytes session_size s) n c)
  request-reported c f = rw (← a) (writing-reported _ ws l _ from _ w r ws' m h e f)
