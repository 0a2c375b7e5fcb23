-- Laws of the server's functions: s is the server, p the packet in front, size its bytes, asked its session, r what is answered.
use mathlib.Core.Path.{◌≡◌, refl, sym, ◌∙◌}
use mathlib.Core.List.{List, []}
use mathlib.Core.Bool.{Bool, false, true, not}
use Prim.Native.Nat.{ℕ, ◌≤◌, ◌<◌}
use lib.ListN.{length, take, drop}
use lib.Dec.{ltb, eqb}
use mathlib.Core.Path.{ap}
use native.Mathlib.Omega.{arith}
use borrow.Author.Tests.{lt-ltb, le-ltb, ltb-false, not-true, not-false}
use Rattle.wire.specs.Words.{Words}
use Rattle.wire.specs.declared.kinds.SequenceNumber.{SequenceNumber}
use Rattle.wire.specs.declared.refusal.Refusal.{Refusal}
use Rattle.wire.specs.Parts.{first_bytes}
use Rattle.decimal.specs.Decimal.{is_digit}
use Rattle.text_fields.specs.Session.{good_session}
use Rattle.text_fields.specs.Letters.{is_letter_or_digit}
use Rattle.text_fields.specs.Sound.{word_length, sound}
use Rattle.soupbintcp.specs.declared.packet.Sender.TheVariants.{Client}
use Rattle.soupbintcp.specs.declared.packet.Packet.{Packet}
use Rattle.soupbintcp.specs.declared.packet.Packet.TheVariants as packet
use Rattle.soupbintcp.specs.declared.front.Front.{Front}
use Rattle.soupbintcp.specs.declared.front.Front.TheVariants as front
use Rattle.soupbintcp.specs.Letters.{login, packet_kind, packet_values, letter_for}
use Rattle.soupbintcp.specs.Front.{front_words, front_of, session_of, username_of, password_of, IsInFront}
use Rattle.soupbintcp.proofs.InFrontLaws.{login_username, login_password, login_session, no_username}
use Rattle.login.specs.declared.account.Account.{Account}
use Rattle.login.specs.declared.decision.Decision.{Decision}
use Rattle.login.specs.Account.{VerdictKind, sound_account, most_accounts, is_known, lookup_of, verdict_of, Found, deciding, found_in, verdict_on}
use Rattle.login.specs.Decision.{decision_words, decision_of}
use Rattle.login.specs.Statements.{FoundDecides}
use Rattle.login.proofs.FoundLaws.{found-unsound, found-decides, says-refused, says-known}
use Rattle.soupbintcp_session.specs.declared.answer.Answer.{Answer}
use Rattle.soupbintcp_session.specs.declared.answer.Answer.TheVariants.{NeedMore, Refused}
use Rattle.soupbintcp_session.specs.Answer.{incoming, session_answer_words}
use Rattle.std.specs.Prelude.{None, Result, Ok, Err, option_to_list, if◌then◌else◌}
use Rattle.soupbintcp_server.specs.declared.server.ServerState.TheVariants.{Waiting}
use Rattle.soupbintcp_server.specs.declared.server.Server.{Server}
use Rattle.soupbintcp_server.specs.declared.server.Stepped.{Stepped}
use Rattle.soupbintcp_server.specs.Server.{server, server_start_refusal, refused_server, start_server, last_refusal, with_last, login_row, waiting_row, row_at, front_row, front_row_at, step_at, step_with, entry_of, server_step, ServerSteps}

-- what the code answers: a refusal, or a packet that is taken
abbrev refuses-with : Server → ℕ → Stepped
refuses-with s n = record { answer = Refused (record { number = n }); size = 0; server = s }

abbrev goes_to : Answer → ℕ → Server → Stepped
goes_to a size s = record { answer = a; size = size; server = s }

-- a step that answers, takes and leaves what its row says
exactly : (r : Stepped) → ServerSteps r (record { reply = session_answer_words r.answer; size = r.size; after = r.server })
exactly r = record { answers = refl; size = refl; leaves = refl }

-- ---- the start: t is what the test of the name gave

module _ (name : List ℕ) (last : ℕ) where
  pub server-start-19 : (n : ℕ) → n ≡ 19 → server_start_refusal name last ≡ 19 → n ≡ server_start_refusal name last
  server-start-19 n e f = e ∙ sym f

  pub server-refused : (x : Server) → x ≡ refused_server → server_start_refusal name last ≡ 19 → x ≡ start_server name last
  unfolding start_server
  server-refused x e f = e ∙ rw f

  module _ (t : Bool) (e : t ≡ good_session false name) where
    pub server-name-bad : not t ≡ true → server_start_refusal name last ≡ 19
    unfolding server_start_refusal
    server-name-bad f = rw (← e, not-true t f)

    pub last-small : not t ≡ false → last < 0 → server_start_refusal name last ≡ 19
    unfolding server_start_refusal
    last-small f g = rw (← e, not-false t f, lt-ltb _ _ g)

    pub last-large : not t ≡ false → 0 ≤ last → 18446744073709551614 < last → server_start_refusal name last ≡ 19
    unfolding server_start_refusal
    last-large f g h = rw (← e, not-false t f, le-ltb _ _ g, lt-ltb _ _ h)

    pub server-start-0 : not t ≡ false → 0 ≤ last → last ≤ 18446744073709551614 → 0 ≡ server_start_refusal name last
    unfolding server_start_refusal
    server-start-0 f g h = rw (← e, not-false t f, le-ltb _ _ g, le-ltb _ _ h)

    pub server-fresh : not t ≡ false → 0 ≤ last → last ≤ 18446744073709551614 → server name last Waiting ≡ start_server name last
    unfolding start_server
    server-fresh f g h = rw (← server-start-0 f g h)

-- ---- the last number moves

module _ (s : Server) (last : ℕ) where
  pub last-falls : last < s.last.0 → last_refusal s last ≡ 19
  unfolding last_refusal
  last-falls h = rw (lt-ltb _ _ h)

  pub last-passes : s.last.0 ≤ last → 18446744073709551614 < last → last_refusal s last ≡ 19
  unfolding last_refusal
  last-passes h g = rw (le-ltb _ _ h, lt-ltb _ _ g)

  pub last-good : s.last.0 ≤ last → last ≤ 18446744073709551614 → 0 ≡ last_refusal s last
  unfolding last_refusal
  last-good h g = rw (le-ltb _ _ h, le-ltb _ _ g)

  pub last-19 : (n : ℕ) → n ≡ 19 → last_refusal s last ≡ 19 → n ≡ last_refusal s last
  last-19 n e f = e ∙ sym f

  pub last-stays : (x : Server) → x ≡ s → last_refusal s last ≡ 19 → x ≡ with_last s last
  unfolding with_last
  last-stays x e f = e ∙ rw f

  pub last-moved : s.last.0 ≤ last → last ≤ 18446744073709551614 → server s.session last s.state ≡ with_last s last
  unfolding with_last
  last-moved h g = rw (← last-good h g)

-- ---- the entry

pub entry_read : (l u p a b : List ℕ) → u ≡ username_of Client l → a ≡ first_bytes 6 u → p ≡ password_of Client l → b ≡ first_bytes 10 p
    → record { username = a; password = b } ≡ entry_of l
unfolding entry_of
entry_read l u p a b e f g h = rw (← e, ← g, ← f, ← h)

-- at the places of a login request that was read in front
pub entry-there : (l u p a b : List ℕ) → IsInFront Client login l → u ≡ take 6 (drop 3 l) → a ≡ first_bytes 6 u → p ≡ take 10 (drop 9 l) → b ≡ first_bytes 10 p
    → record { username = a; password = b } ≡ entry_of l
entry-there l u p a b f e g h i = entry_read l u p a b (e ∙ login_username Client l f) g (h ∙ login_password Client l f) i

pub is-login : (l : List ℕ) (p : Packet) (n : SequenceNumber) → IsInFront Client (packet_kind p) l → p ≡ packet.Login n → IsInFront Client login l
unfolding packet_kind
is-login l p n f e = rw e at f

-- what is found for it in a table t of accounts: for another packet, which has no entry, nothing
pub found-login : (t : List Account) (l : List ℕ) (e : Account) (r : Found) → e ≡ entry_of l → r ≡ found_in t e → r ≡ found_in t (entry_of l)
found-login t l e r g h = rw g at h

no-entry : (l : List ℕ) → username_of Client l ≡ [] → sound_account (entry_of l) ≡ false
unfolding entry_of sound_account first_bytes sound word_length is_letter_or_digit is_digit
no-entry l e = rw e refl

other-letter : (p : Packet) → ((n : SequenceNumber) → p ≡ packet.Login n → ⊥) → eqb (letter_for (packet_kind p)) (letter_for login) ≡ false
unfolding letter_for packet_kind
other-letter packet.Debug h = refl
other-letter (packet.Accepted n) h = refl
other-letter (packet.Rejected reason) h = refl
other-letter packet.Sequenced h = refl
other-letter packet.ServerHeartbeat h = refl
other-letter packet.EndOfSession h = refl
other-letter (packet.Login n) h = absurd (h n refl)
other-letter packet.Unsequenced h = refl
other-letter packet.ClientHeartbeat h = refl
other-letter packet.Logout h = refl

pub found-other : (t : List Account) (l : List ℕ) (p : Packet) → length t ≤ most_accounts → IsInFront Client (packet_kind p) l
    → ((n : SequenceNumber) → p ≡ packet.Login n → ⊥) → Ok None ≡ found_in t (entry_of l)
found-other t l p h f k = sym (found-unsound t (entry_of l) h (no-entry l (no_username Client l (packet_kind p) f (other-letter p k))))

-- ---- waiting: w is what was found says of the entry

module _ (s : Server) (p : Packet) (size : ℕ) (w : Words VerdictKind) (asked : List ℕ) (r : Stepped) where
  login-row : (n : SequenceNumber) (d : Result Decision Refusal) → p ≡ packet.Login n → decision_words d ≡ decision_of w asked n.0 s.session s.last.0
      → ServerSteps r (login_row s size (decision_words d)) → ServerSteps r (waiting_row s w (incoming size (letter_for (packet_kind p)) (packet_values p) asked))
  unfolding waiting_row letter_for packet_kind packet_values
  login-row n d e g h = rw (e, ← g) h

-- the entry of the packet in front is compared with the record that was found
pub waiting-L : (s : Server) (p : Packet) (size : ℕ) (f : Found) (l : List ℕ) (r : Stepped) (n : SequenceNumber) (y : List ℕ) (e : Account) (d : Result Decision Refusal)
    → p ≡ packet.Login n → IsInFront Client (packet_kind p) l → y ≡ take 10 (drop 19 l) → e ≡ entry_of l → decision_words d ≡ decision_of (verdict_on f e) y n.0 s.session s.last.0
    → ServerSteps r (login_row s size (decision_words d))
    → ServerSteps r (waiting_row s (verdict_on f (entry_of l)) (incoming size (letter_for (packet_kind p)) (packet_values p) (session_of Client l)))
waiting-L s p size f l r n y e d g o h i j k =
    let a : y ≡ session_of Client l = h ∙ login_session Client l (is-login l p n o g) in
    login-row s p size (verdict_on f (entry_of l)) (session_of Client l) r n d g (rw (a, i) at j) k

-- ---- a step: f is what was found, e the entry in front, x the front of the stream l

pub table-refused : (s : Server) (l : List ℕ) (f : Found) (y : Refusal) (r : Stepped) → f ≡ Err y → r ≡ goes_to (Refused (record { number = 19 })) 0 s
    → ServerSteps r (step_with s (verdict_on f (entry_of l)) l)
unfolding step_at session_answer_words
table-refused s l f y r h g = rw (h, says-refused (entry_of l) y, g) (exactly _)

-- a table that isn't too long leaves it to the front
pub said-front : (s : Server) (l : List ℕ) (v : Words VerdictKind) (b : Bool) → v ≡ verdict_of b → front_row s v (session_of Client l) (front_of Client l) ≡ step_with s v l
unfolding step_at verdict_of
said-front s l v true h = rw h refl
said-front s l v false h = rw h refl

module _ (s : Server) (l : List ℕ) (f : Found) (few : (y : Refusal) → f ≡ Err y → ⊥) (x : Front) (r : Stepped) where
  by_front : front_row s (verdict_on f (entry_of l)) (session_of Client l) (front_of Client l) ≡ step_with s (verdict_on f (entry_of l)) l
  by_front = go f refl
    where
      go : (g : Found) → f ≡ g → front_row s (verdict_on f (entry_of l)) (session_of Client l) (front_of Client l) ≡ step_with s (verdict_on f (entry_of l)) l
      go (Ok a) e =
          said-front s l (verdict_on f (entry_of l)) (is_known (option_to_list a) (entry_of l))
          (ap (λ (h : Found). verdict_on h (entry_of l)) e ∙ says-known (entry_of l) a)
      go (Err y) e = absurd (few y e)

  pub server-step-more : front_words x ≡ front_of Client l → x ≡ front.NeedMore → r ≡ goes_to NeedMore 0 s
      → ServerSteps r (step_with s (verdict_on f (entry_of l)) l)
  unfolding front_row_at front_words session_answer_words
  server-step-more e g h = rw (← by_front, ← e, g, h) (exactly _)

  pub server-step-refused : (y : Refusal) → front_words x ≡ front_of Client l → x ≡ front.Refused y
      → r ≡ goes_to (Refused y) 0 s → ServerSteps r (step_with s (verdict_on f (entry_of l)) l)
  unfolding front_row_at front_words session_answer_words
  server-step-refused y e g h = rw (← by_front, ← e, g, h) (exactly _)

  pub server-step-packet : (p : Packet) (size : ℕ) → front_words x ≡ front_of Client l → x ≡ front.Whole p size
      → ServerSteps r (row_at s.state s (verdict_on f (entry_of l)) (incoming size (letter_for (packet_kind p)) (packet_values p) (session_of Client l)))
      → ServerSteps r (step_with s (verdict_on f (entry_of l)) l)
  unfolding front_row_at front_words
  server-step-packet p size e g h = rw (← by_front, ← e, g) h

-- with a table t of accounts: e is the entry in front, f what was found for it
pub server-step : (s : Server) (l : List ℕ) (t : List Account) (f : Found) (e : Account) (r : Stepped) → e ≡ entry_of l → f ≡ found_in t e → FoundDecides
    → ServerSteps r (step_with s (verdict_on f (entry_of l)) l) → ServerSteps r (server_step t s l)
unfolding server_step FoundDecides
server-step s l t f e r g h d k = rw (h, g, d t (entry_of l)) at k

-- with a table t of accounts that is lent as bytes: m is what the test of its length gave
module _ (s : Server) (l : List ℕ) (t : List Account) (m : Bool) (is : m ≡ ltb most_accounts (length t)) where
  pub step-too-long : (r : Stepped) → m ≡ true → r ≡ refuses-with s 19 → ServerSteps r (server_step t s l)
  unfolding server_step lookup_of step_at session_answer_words
  step-too-long r h g = rw (← is, h, g) (exactly _)

  module _ (few : m ≡ false) where
    abbrev f : Found
    f = found_in t (entry_of l)

    f-few : (y : Refusal) → f ≡ Err y → ⊥
    unfolding found_in
    f-few y e =
        let z : Ok (if sound_account (entry_of l) then deciding t (entry_of l) else None) ≡ Err y = rw (← is, few) at e in
        let k : ◌≡◌ {A = ℕ} 0 1 = cc in
        omega arith

    from_found : (r : Stepped) → ServerSteps r (step_with s (verdict_on f (entry_of l)) l) → ServerSteps r (server_step t s l)
    from_found r k = server-step s l t f (entry_of l) r refl refl found-decides k

    pub few-enough : length t ≤ most_accounts
    few-enough = ltb-false _ _ (sym is ∙ few)

    module _ (x : Front) (r : Stepped) where
      pub step-more : front_words x ≡ front_of Client l → x ≡ front.NeedMore → r ≡ goes_to NeedMore 0 s → ServerSteps r (server_step t s l)
      step-more e g h = from_found r (server-step-more s l f f-few x r e g h)

      pub step-refused : (y : Refusal) → front_words x ≡ front_of Client l → x ≡ front.Refused y → r ≡ goes_to (Refused y) 0 s
          → ServerSteps r (server_step t s l)
      step-refused y e g h = from_found r (server-step-refused s l f f-few x r y e g h)

      pub step-packet : (p : Packet) (size : ℕ) (y : Found) → front_words x ≡ front_of Client l → x ≡ front.Whole p size → y ≡ found_in t (entry_of l)
          → ServerSteps r (row_at s.state s (verdict_on y (entry_of l)) (incoming size (letter_for (packet_kind p)) (packet_values p) (session_of Client l)))
          → ServerSteps r (server_step t s l)
      step-packet p size y e g i h = from_found r (server-step-packet s l f f-few x r p size e g (rw i at h))
