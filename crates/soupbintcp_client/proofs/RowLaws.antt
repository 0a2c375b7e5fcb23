-- The rows of the table by the packet in front: c is the client, l the stream.
use mathlib.Core.Path.{◌≡◌, refl, ap, sym, ◌∙◌}
use mathlib.Core.List.{List, [], ◌∷◌}
use Prim.Native.Nat.{ℕ, ◌+◌, ◌-◌}
use lib.ListN.{drop, get_or}
use borrow.Author.Tests.{eq-eqb, ne_eqb}
use Rattle.wire.specs.Bounds.{largest_number}
use Rattle.wire.specs.Words.{Words, Case, answer, refused, says, refuses}
use Rattle.soupbintcp.specs.declared.packet.Sender.TheVariants.{Server}
use Rattle.soupbintcp.specs.Letters.{PacketKind, accepted, rejected, sequenced, server_heartbeat, debug, end_of_session, letter_for}
use Rattle.soupbintcp.specs.Front.{FrontKind, packet, wants_more, front_of, session_of}
use Rattle.soupbintcp_session.specs.Answer.{Incoming, incoming, stays, takes}
use Rattle.soupbintcp_session.specs.Statements.{StaysOver}
use Rattle.soupbintcp_session.specs.Answer as reply
use Rattle.soupbintcp_client.specs.declared.client.ClientState.TheVariants.{Asked, In, Ended, Closed}
use Rattle.soupbintcp_client.specs.declared.client.ClientState.{ClientState}
use Rattle.soupbintcp_client.specs.declared.client.Client.{Client}
use Rattle.soupbintcp_client.specs.Client.{client, becomes, sequenced_row, asked_row, in_row, row_at, front_row_at, client_step}
use Rattle.soupbintcp_client.specs.Statements.{SequencedInFront, TakesTheOthers, RefusesTheOthers, ClientStaysOver}
use Rattle.soupbintcp_client.proofs.ClientCases as cases

-- ---- S in state in

module _ (c : Client) (l : List ℕ) (size : ℕ) (q : c.state ≡ In) (e : SequencedInFront l size) where
  row-of-S : client_step c l ≡ sequenced_row c size
  unfolding letter_for row_at in_row
  row-of-S = cases.packet-row c l sequenced size [] e ∙ rw q refl

  pub when-S : (c.number.0 ≡ largest_number → ⊥)
      → client_step c l ≡ takes size (says reply.sequenced (c.number.0 ∷ 3 ∷ (size - 3) ∷ [])) (client c.session (c.number.0 + 1) In)
  unfolding sequenced_row
  when-S h = row-of-S ∙ rw (ne_eqb _ _ h) refl

  pub else_34 : c.number.0 ≡ largest_number → client_step c l ≡ stays c (refuses 34)
  unfolding sequenced_row
  else_34 h = row-of-S ∙ rw (eq-eqb _ _ h) refl

-- ---- the other packets: a row of the state q

module _ (c : Client) (l : List ℕ) (kind : PacketKind) (size : ℕ) (vs : List ℕ) (e : front_of Server l ≡ says (packet kind) (size ∷ vs)) where
  row : (state : ClientState) → c.state ≡ state → client_step c l ≡ row_at state c (incoming size (letter_for kind) vs (session_of Server l))
  row state q = cases.packet-row c l kind size vs e ∙ ap (λ (x : ClientState). row_at x c (incoming size (letter_for kind) vs (session_of Server l))) q

-- a state that stays is the client's own
own-state : (c : Client) (size : ℕ) (w : Words reply.SessionAnswerKind) (state : ClientState) → c.state ≡ state → takes size w (becomes c state) ≡ takes size w c
own-state c size w state q = sym (ap (λ (x : ClientState). takes size w (becomes c x)) q)

pub takes_the_others : TakesTheOthers
unfolding letter_for row_at asked_row in_row
takes_the_others =
    record {
      heartbeat_in = λ c l size q e. row c l server_heartbeat size [] e In q ∙ own-state c size _ In q;
      debug_in = λ c l size q e. row c l debug size [] e In q ∙ own-state c size _ In q;
      end_in = λ c l size q e. row c l end_of_session size [] e In q;
      debug_asked = λ c l size q e. row c l debug size [] e Asked q ∙ own-state c size _ Asked q;
      rejected_asked = λ c l size reason q e. row c l rejected size (reason ∷ []) e Asked q;
    }

pub refuses_the_others : RefusesTheOthers
unfolding letter_for row_at asked_row in_row
refuses_the_others =
    record {
      sequenced_asked = λ c l size q e. row c l sequenced size [] e Asked q;
      heartbeat_asked = λ c l size q e. row c l server_heartbeat size [] e Asked q;
      end_asked = λ c l size q e. row c l end_of_session size [] e Asked q;
      accepted_in = λ c l size n q e. row c l accepted size (n ∷ []) e In q;
      rejected_in = λ c l size reason q e. row c l rejected size (reason ∷ []) e In q;
      any_ended = λ c l kind size vs q e. row c l kind size vs e Ended q;
      any_closed = λ c l kind size vs q e. row c l kind size vs e Closed q;
    }

-- ---- ended and closed refuse every packet

over : (c : Client) (t : ClientState) → c.state ≡ t → ((p : Incoming) → row_at t c p ≡ stays c (refuses 32))
    → (given : List ℕ) (w : Words FrontKind) (k : Case FrontKind) → StaysOver Client c (front_row_at c given w k)
unfolding front_row_at
over c t q f given w (answer (packet p)) = at_row (incoming (get_or w.values 0 0) (letter_for p) (drop 1 w.values) given)
  where
    at_row : (p : Incoming) → StaysOver Client c (row_at c.state c p)
    at_row p = rw (ap (λ (x : ClientState). row_at x c p) q ∙ f p) (record { takes_none = refl; unchanged = refl })
over c t q f given w (answer wants_more) = record { takes_none = refl; unchanged = refl }
over c t q f given w refused = record { takes_none = refl; unchanged = refl }

pub stays_over : ClientStaysOver
unfolding client_step row_at
stays_over =
    record {
      ended = λ c l q. over c Ended q (λ p. refl) (session_of Server l) (front_of Server l) (front_of Server l).which;
      closed = λ c l q. over c Closed q (λ p. refl) (session_of Server l) (front_of Server l) (front_of Server l).which;
    }
