-- The writers that are given names: each is the first bytes of a lent buffer, and one of another size is 46.
use Prim.Native.Nat.{ℕ, ◌-◌}
use mathlib.Core.List.{List}
use mathlib.Core.Bool.{Bool, true, false}
use mathlib.Core.Path.{◌≡◌, refl, sym}
use native.Mathlib.Omega.{arith}
use lib.ListN.{length}
use lib.Dec.{ltb, eqb}
use borrow.Rule.Slice.PartMut.{mid_of, put_mid}
use Rattle.std.specs.Prelude.{if◌then◌else◌}
use Rattle.wire.specs.Bounds.{session_size}
use Rattle.wire.specs.Refusals.{field_not_written}
use Rattle.wire.specs.Output.{written_words, write_refusal, Writes}
use Rattle.wire.specs.Output.{Written}
use Rattle.wire.specs.Parts.{first_bytes}
use Rattle.text_fields.specs.Sound.{username_size, password_size}
use Rattle.soupbintcp.specs.Letters.{letter_accepted, letter_login}
use Rattle.soupbintcp_writer.specs.Packets.{encoded, accepted_ground, accepted_payload, login_ground, login_payload}
use Rattle.host_answers.specs.Answers.{or_else, short, unless_sized, lent_from, padded, AnswersWith, AnswersWriting}
use Rattle.host_answers.proofs.AnswerLaws.{sized-own, sized-not, or-first, no-success}
use Rattle.host_answers.proofs.WritingLaws.{writing-plain}

-- ---- another size

-- a ground is answered before anything is written
refused-first : (g : ℕ) (ws l bs : List ℕ) → g ≡ field_not_written → AnswersWriting field_not_written ws ws l l g bs
unfolding write_refusal
refused-first g ws l bs e =
    rw e
    (record {
      returns = or-first field_not_written _ (λ z. omega arith);
      words = no-success field_not_written _ ws (λ z. omega arith);
      output = no-success field_not_written _ l (λ z. omega arith);
    })

module _ (ws l bs : List ℕ) (n k g : ℕ) where
  pub missized : (n ≡ k → ⊥) → AnswersWriting field_not_written ws ws l l (unless_sized n k field_not_written g) bs
  missized e = refused-first _ ws l bs (sym (sized-not n k field_not_written g e))

  -- and so is one behind a field of the right size
  pub missized-behind : AnswersWriting field_not_written ws ws l l g bs → AnswersWriting field_not_written ws ws l l (unless_sized n k field_not_written g) bs
  unfolding unless_sized
  missized-behind a = go (eqb n k)
    where
      go : (b : Bool) → AnswersWriting field_not_written ws ws l l (if b then g else field_not_written) bs
      go true = a
      go false = refused-first field_not_written ws l bs refl

-- ---- written

module _ (ws ws' l m : List ℕ) (w : Written) (r n from : ℕ) (e : from ≡ lent_from (ltb (length ws) 1) (length l))
    (h : AnswersWith r ws ws' (or_else (written_words w).refusal (short false)) (padded 1 (written_words w).values)) where
  pub accepted-reported : (s t : List ℕ) → length s ≡ session_size → t ≡ first_bytes session_size s
      → Writes w (mid_of from (length l - from) l) m (accepted_ground t n) 0 (encoded letter_accepted (accepted_payload t n))
      → AnswersWriting r ws ws' l (put_mid from (length l - from) l m)
      (unless_sized (length s) session_size field_not_written (accepted_ground (first_bytes session_size s) n))
      (encoded letter_accepted (accepted_payload (first_bytes session_size s) n))
  accepted-reported s t z a f = rw (← a, ← sized-own (length s) session_size field_not_written (accepted_ground t n) z) (writing-plain ws l _ from _ w r ws' m h e f)

  pub login-reported : (u u' p p' s s' : List ℕ) → length u ≡ username_size → length p ≡ password_size → length s ≡ session_size
      → u' ≡ first_bytes username_size u → p' ≡ first_bytes password_size p → s' ≡ first_bytes session_size s
      → Writes w (mid_of from (length l - from) l) m (login_ground u' p' s') 0 (encoded letter_login (login_payload u' p' s' n))
      → AnswersWriting r ws ws' l (put_mid from (length l - from) l m)
      (unless_sized (length u) username_size field_not_written (unless_sized (length p) password_size field_not_written (unless_sized (length s) session_size field_not_written
      (login_ground (first_bytes username_size u) (first_bytes password_size p) (first_bytes session_size s)))))
      (encoded letter_login (login_payload (first_bytes username_size u) (first_bytes password_size p) (first_bytes session_size s) n))
  login-reported u u' p p' s s' x y z a b c f =
      rw (
        ← a,
        ← b,
        ← c,
        ← sized-own (length s) session_size field_not_written (login_ground u' p' s') z,
        ← sized-own (length p) password_size field_not_written (login_ground u' p' s') y,
        ← sized-own (length u) username_size field_not_written (login_ground u' p' s') x,
      )
      (writing-plain ws l _ from _ w r ws' m h e f)
