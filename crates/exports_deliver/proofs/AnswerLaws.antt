-- An answer w laid with the places of what it delivers of the datagram d.
use Prim.Native.Nat.{ℕ, ◌+◌, ◌-◌, ◌*◌, ◌≤◌}
use mathlib.Core.List.{List}
use mathlib.Core.Bool.{true}
use mathlib.Core.Path.{◌≡◌, ap, sym, ◌∙◌}
use lib.ListN.{length, drop}
use lib.Dec.{ltb}
use Rattle.std.specs.Prelude.{Result}
use Rattle.wire.specs.declared.refusal.Refusal.{Refusal}
use Rattle.wire.specs.Output.{put}
use Rattle.wire.specs.Words.{Words}
use Rattle.moldudp64.specs.Blocks.{all_fit, after_blocks}
use Rattle.receiver.specs.Table.{AnswerKind}
use Rattle.host_answers.specs.Answers.{or_else, short, said_refusal, said_values, words_of, AnswersWith}
use Rattle.host_answers.proofs.AnswerLaws.{success, no-success, has_room, kept-values}
use Rattle.host_answers.proofs.LadderLaws.{first-zero}
use Rattle.host_receiver.specs.Replies.{answer_number}
use Rattle.exports_deliver.specs.Places.{places_at, places_behind, places_delivered, Finds}
use Rattle.exports_deliver.specs.Calls.{BlocksThere, LaysAnswer}
use Rattle.exports_deliver.proofs.PlaceLaws.{length-places, fit-first, fit-behind, left_at}
use Rattle.exports_deliver.proofs.FindLaws.{found-places}

-- ---- the places behind the skipped blocks

module _ (d : List ℕ) (count skipped : ℕ) (e : all_fit (skipped + count) (drop 20 d) ≡ true) where
  pub behind-skipped : all_fit skipped (drop 20 d) ≡ true
  behind-skipped = fit-first skipped count (drop 20 d) e

  pub behind-counted : (at : ℕ) → at ≡ length d - length (after_blocks skipped (drop 20 d)) → all_fit count (drop at d) ≡ true
  behind-counted at a = rw (a, left_at skipped 20 d) (fit-behind skipped count (drop 20 d) e)

pub behind-laid : (d ps ps' : List ℕ) (count skipped at : ℕ) → at ≡ length d - length (after_blocks skipped (drop 20 d)) → ps' ≡ put ps 0 (places_at count at (drop at d))
    → ps' ≡ put ps 0 (places_behind count skipped d)
behind-laid d ps ps' count skipped at a e = rw (a, left_at skipped 20 d) at e

-- ---- the answer

pub lay-long : (w : Words AnswerKind) (d : List ℕ) → BlocksThere w d → 20 ≤ length d
lay-long w d b = b.long

pub lay-there : (w : Words AnswerKind) (d : List ℕ) (count skipped : ℕ) → BlocksThere w d → Finds count skipped w → all_fit (skipped + count) (drop 20 d) ≡ true
lay-there w d count skipped b f = b.there count skipped f

-- a code of 0 is given only where the places have room
pub lay-room : (ws ws' vs : List ℕ) (code q n count : ℕ) (said : Result (List ℕ) Refusal) → said_refusal said ≡ or_else q (short (ltb n (2 * count)))
    → AnswersWith code ws ws' (said_refusal said) vs → code ≡ 0 → 2 * count ≤ n
lay-room ws ws' vs code q n count said o y z = has_room (said_refusal said) q n (2 * count) o (first-zero (said_refusal said) _ (sym y.returns ∙ z))

-- own is what is said of the answer, and said it or 41 for too few places
module _ (w : Words AnswerKind) (d : List ℕ) (count skipped : ℕ) (f : Finds count skipped w) (ws ws' ps : List ℕ) (code : ℕ) (own said : Result (List ℕ) Refusal)
    (a : said_refusal own ≡ w.refusal) (v : said_values 4 own ≡ words_of answer_number 4 w)
    (o : said_refusal said ≡ or_else (said_refusal own) (short (ltb (length ps) (2 * count)))) (kept : said_refusal said ≡ 0 → said ≡ own)
    (reported : AnswersWith code ws ws' (said_refusal said) (said_values 4 said)) where
  y : AnswersWith code ws ws' (said_refusal said) (said_values 4 own)
  y = kept-values code 4 ws ws' own said kept reported

  answered : AnswersWith code ws ws' (or_else w.refusal (short (ltb (length ps) (length (places_delivered w d))))) (words_of answer_number 4 w)
  answered =
      let n : length (places_delivered w d) ≡ 2 * count = ap length (found-places w count skipped d f) ∙ length-places count _ _ in
      rw (n, ← a, ← o, ← v) y

  pub lays-not : (code ≡ 0 → ⊥) → LaysAnswer code w d ws ws' ps ps
  lays-not z = record { answers = answered; places = no-success code _ ps z }

  pub lays_all : (ps' : List ℕ) → code ≡ 0 → ps' ≡ put ps 0 (places_behind count skipped d) → LaysAnswer code w d ws ws' ps ps'
  lays_all ps' z laid = record { answers = answered; places = success code ps' _ ps z (rw (found-places w count skipped d f) laid) }
