-- Laws of the client's functions: c is the client, p the packet in front, size its bytes, given its session, r what is answered.
use mathlib.Core.Path.{◌≡◌, refl, sym, ◌∙◌}
use mathlib.Core.List.{List}
use mathlib.Core.Bool.{Bool, true, false, not}
use Prim.Native.Nat.{ℕ, ◌+◌, ◌-◌, ◌≤◌, ◌<◌}
use lib.Dec.{eqb}
use lib.ListN.{take, drop}
use borrow.Author.Tests.{lt-ltb, le-ltb, ne_eqb, not-true, not-false}
use Rattle.wire.specs.Bounds.{blank}
use Rattle.wire.specs.Bytes.{same_bytes}
use Rattle.wire.specs.declared.kinds.SequenceNumber.{SequenceNumber}
use Rattle.wire.specs.declared.refusal.Refusal.{Refusal}
use Rattle.wire.specs.Parts.{first_bytes}
use Rattle.text_fields.specs.Session.{good_session}
use Rattle.soupbintcp.specs.declared.packet.Sender.TheVariants.{Server}
use Rattle.soupbintcp.specs.declared.packet.Packet.{Packet}
use Rattle.soupbintcp.specs.declared.packet.Packet.TheVariants as packet
use Rattle.soupbintcp.specs.declared.front.Front.{Front}
use Rattle.soupbintcp.specs.declared.front.Front.TheVariants as front
use Rattle.soupbintcp.specs.Letters.{accepted, packet_kind, packet_values, letter_for}
use Rattle.soupbintcp.specs.Front.{front_words, front_of, session_of, IsInFront}
use Rattle.soupbintcp.proofs.InFrontLaws.{accepted_session}
use Rattle.soupbintcp_session.specs.declared.answer.Answer.{Answer}
use Rattle.soupbintcp_session.specs.declared.answer.Answer.TheVariants.{NeedMore, Accepted, Sequenced, Refused}
use Rattle.soupbintcp_session.specs.Answer.{incoming, session_answer_words}
use Rattle.soupbintcp_client.specs.declared.client.ClientState.TheVariants.{Asked, In}
use Rattle.soupbintcp_client.specs.declared.client.Client.{Client}
use Rattle.soupbintcp_client.specs.declared.client.Stepped.{Stepped}
use Rattle.soupbintcp_client.specs.Client.{client, client_start_refusal, refused_client, start_client, session_asked, number_asked, accepted_row, sequenced_row, asked_row, row_at, front_row_at, client_step, ClientSteps}

-- what the code answers: a refusal, or a packet that is taken
abbrev refuses-with : Client → ℕ → Stepped
refuses-with c n = record { answer = Refused (record { number = n }); size = 0; client = c }

abbrev goes_to : Answer → ℕ → Client → Stepped
goes_to a size c = record { answer = a; size = size; client = c }

-- a step that answers, takes and leaves what its row says
exactly : (r : Stepped) → ClientSteps r (record { reply = session_answer_words r.answer; size = r.size; after = r.client })
exactly r = record { answers = refl; size = refl; leaves = refl }

-- ---- the start: t is what the test of the name gave

module _ (name : List ℕ) (n : ℕ) where
  pub client-start-19 : (x : ℕ) → x ≡ 19 → client_start_refusal name n ≡ 19 → x ≡ client_start_refusal name n
  client-start-19 x e f = e ∙ sym f

  pub client-refused : (x : Client) → x ≡ refused_client → client_start_refusal name n ≡ 19 → x ≡ start_client name n
  unfolding start_client
  client-refused x e f = e ∙ rw f

  module _ (t : Bool) (e : t ≡ good_session true name) where
    pub client-name-bad : not t ≡ true → client_start_refusal name n ≡ 19
    unfolding client_start_refusal
    client-name-bad f = rw (← e, not-true t f)

    pub number_small : not t ≡ false → n < 0 → client_start_refusal name n ≡ 19
    unfolding client_start_refusal
    number_small f g = rw (← e, not-false t f, lt-ltb _ _ g)

    pub number-large : not t ≡ false → 0 ≤ n → 18446744073709551615 < n → client_start_refusal name n ≡ 19
    unfolding client_start_refusal
    number-large f g h = rw (← e, not-false t f, le-ltb _ _ g, lt-ltb _ _ h)

    pub client-start-0 : not t ≡ false → 0 ≤ n → n ≤ 18446744073709551615 → 0 ≡ client_start_refusal name n
    unfolding client_start_refusal
    client-start-0 f g h = rw (← e, not-false t f, le-ltb _ _ g, le-ltb _ _ h)

    pub client-fresh : not t ≡ false → 0 ≤ n → n ≤ 18446744073709551615 → client name n Asked ≡ start_client name n
    unfolding start_client
    client-fresh f g h = rw (← client-start-0 f g h)

-- ---- what was asked

module _ (name given : List ℕ) (t : Bool) where
  pub asks-any-session : t ≡ same_bytes name blank → t ≡ true → true ≡ session_asked name given
  unfolding session_asked
  asks-any-session e f = rw (← e, f)

  pub asks-session : (u : Bool) → t ≡ same_bytes name blank → t ≡ false → u ≡ same_bytes given name → u ≡ session_asked name given
  unfolding session_asked
  asks-session u e f g = rw (← e, f) g

module _ (asked given : ℕ) where
  pub asks-any-number : asked ≡ 0 → true ≡ number_asked asked given
  unfolding number_asked
  asks-any-number e = rw e

  pub asks-number : (asked ≡ 0 → ⊥) → eqb given asked ≡ number_asked asked given
  unfolding number_asked
  asks-number e = rw (ne_eqb _ _ e)

-- ---- A

module _ (c : Client) (size : ℕ) (given : List ℕ) (t : Bool) where
  pub other-session : (n : ℕ) (r : Stepped) → t ≡ session_asked c.session given → t ≡ false → r ≡ refuses-with c 33 → ClientSteps r (accepted_row c size given n)
  unfolding accepted_row session_answer_words
  other-session n r e f g = rw (← e, f, g) (exactly _)

  pub other-number : (n : ℕ) (u : Bool) (r : Stepped) → t ≡ session_asked c.session given → t ≡ true → u ≡ number_asked c.number.0 n → u ≡ false
      → r ≡ refuses-with c 33 → ClientSteps r (accepted_row c size given n)
  unfolding accepted_row session_answer_words
  other-number n u r e f g h i = rw (← e, f, ← g, h, i) (exactly _)

  pub logged-in : (n : SequenceNumber) (u : Bool) (name : List ℕ) → t ≡ session_asked c.session given → t ≡ true → u ≡ number_asked c.number.0 n.0
      → u ≡ true → name ≡ first_bytes 10 given
      → ClientSteps (goes_to (Accepted n) size (record { session = name; number = n; state = In })) (accepted_row c size given n.0)
  unfolding accepted_row session_answer_words
  logged-in n u name e f g h i = rw (← e, f, ← g, h, i) (exactly _)

-- ---- a login was asked for

is-accepted : (l : List ℕ) (p : Packet) (n : SequenceNumber) → IsInFront Server (packet_kind p) l → p ≡ packet.Accepted n → IsInFront Server accepted l
unfolding packet_kind
is-accepted l p n f e = rw e at f

pub asked-A : (c : Client) (p : Packet) (size : ℕ) (l : List ℕ) (r : Stepped) (n : SequenceNumber) (y : List ℕ) → p ≡ packet.Accepted n
    → IsInFront Server (packet_kind p) l → y ≡ take 10 (drop 3 l) → ClientSteps r (accepted_row c size y n.0)
    → ClientSteps r (asked_row c (incoming size (letter_for (packet_kind p)) (packet_values p) (session_of Server l)))
unfolding asked_row letter_for packet_kind packet_values
asked-A c p size l r n y e i f g =
    let h : y ≡ session_of Server l = f ∙ accepted_session Server l (is-accepted l p n i e) in
    rw (e, ← h) g

-- ---- logged in

module _ (c : Client) (size : ℕ) (r : Stepped) where
  pub used-up : eqb c.number.0 18446744073709551615 ≡ true → r ≡ refuses-with c 34 → ClientSteps r (sequenced_row c size)
  unfolding sequenced_row session_answer_words
  used-up e f = rw (e, f) (exactly _)

  pub hands_up : eqb c.number.0 18446744073709551615 ≡ false
      → r ≡ goes_to (Sequenced c.number (record { 0 = 3 }) (size - 3)) size (client c.session (c.number.0 + 1) In) → ClientSteps r (sequenced_row c size)
  unfolding sequenced_row session_answer_words
  hands_up e f = rw (e, f) (exactly _)

-- ---- a step: x is the front of the stream l

module _ (c : Client) (l : List ℕ) (x : Front) (r : Stepped) where
  pub step-more : front_words x ≡ front_of Server l → x ≡ front.NeedMore → r ≡ goes_to NeedMore 0 c → ClientSteps r (client_step c l)
  unfolding client_step front_row_at front_words session_answer_words
  step-more e f g = rw (← e, f, g) (exactly _)

  pub step-refused : (y : Refusal) → front_words x ≡ front_of Server l → x ≡ front.Refused y → r ≡ goes_to (Refused y) 0 c → ClientSteps r (client_step c l)
  unfolding client_step front_row_at front_words session_answer_words
  step-refused y e f g = rw (← e, f, g) (exactly _)

  pub step-packet : (p : Packet) (size : ℕ) → front_words x ≡ front_of Server l → x ≡ front.Whole p size
      → ClientSteps r (row_at c.state c (incoming size (letter_for (packet_kind p)) (packet_values p) (session_of Server l))) → ClientSteps r (client_step c l)
  unfolding client_step front_row_at front_words
  step-packet p size e f g = rw (← e, f) g
