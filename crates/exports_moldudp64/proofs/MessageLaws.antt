-- Messages located.
use Prim.Native.Nat.{ℕ}
use mathlib.Core.List.{List}
use mathlib.Core.Path.{◌≡◌}
use Rattle.std.specs.Prelude.{Ok}
use Rattle.moldudp64_messages.specs.declared.cursor.Located.{Located}
use Rattle.host_answers.specs.Answers.{said_refusal, said_values, AnswersWith}
use Rattle.host_cursor.specs.Calls.{located_words}

-- the words of what was found
pub located-answers : (p q : Located) (r : ℕ) (ws ws' vs : List ℕ) → p ≡ q → vs ≡ located_words p → AnswersWith r ws ws' 0 vs
    → AnswersWith r ws ws' 0 (located_words q)
located-answers p q r ws ws' vs e f h = rw (← e, ← f) h

-- values that were said
pub ok-answers : (r n : ℕ) (ws ws' vs : List ℕ) → AnswersWith r ws ws' (said_refusal (Ok vs)) (said_values n (Ok vs)) → AnswersWith r ws ws' 0 vs
unfolding said_refusal said_values
ok-answers r n ws ws' vs h = h
