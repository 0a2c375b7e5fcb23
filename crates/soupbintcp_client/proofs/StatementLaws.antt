-- What the session at the client promises beside its answers: c is the client, l the stream, n the number that A carries.
use mathlib.Core.Path.{◌≡◌, refl, ap, ◌∙◌}
use mathlib.Core.List.{List, [], ◌∷◌}
use mathlib.Core.Bool.{Bool, true, false}
use Prim.Native.Nat.{ℕ}
use native.Mathlib.Omega.{arith}
use lib.ListN.{get_or}
use lib.Dec.{eqb}
use borrow.Author.Tests.{eq-eqb, eqb-true}
use Rattle.std.specs.Prelude.{if◌then◌else◌}
use Rattle.wire.specs.Bounds.{blank}
use Rattle.wire.specs.Bytes.{same_bytes}
use Rattle.wire.proofs.Same.{same-equal, same_refl}
use Rattle.wire.specs.Words.{answer, says, refuses}
use Rattle.wire.specs.Parts.{first_bytes}
use Rattle.soupbintcp.specs.declared.packet.Sender.TheVariants.{Server}
use Rattle.soupbintcp.specs.Letters.{accepted, letter_for}
use Rattle.soupbintcp.specs.Fields.{has_fields}
use Rattle.soupbintcp.specs.Front.{session_of}
use Rattle.soupbintcp_session.specs.Answer.{incoming, StepOutcome, stays, takes}
use Rattle.soupbintcp_session.specs.Answer as reply
use Rattle.soupbintcp_session.proofs.FrontCases.{numbered-in-front, accepted-takes, sequenced-takes, plain-not-accepted}
use Rattle.soupbintcp_session.proofs.StepLaws.{never-rests, changes_nothing, takes_packets, hands_up}
use Rattle.soupbintcp_session.proofs.RunLaws.{any_cutting, runs_on, runs_by_step}
use Rattle.soupbintcp_client.specs.declared.client.ClientState.TheVariants.{Asked, In}
use Rattle.soupbintcp_client.specs.declared.client.Client.{Client}
use Rattle.soupbintcp_client.specs.Client.{client, session_asked, number_asked, accepted_row, asked_row, row_at, client_row, client_step}
use Rattle.soupbintcp_client.specs.Statements.{AcceptedInFront, AcceptsA, SessionFits, any_session, this_session, NumberFits, any_number, this_number, Fits, ClientPromises}
use Rattle.soupbintcp_client.proofs.AcceptedLaws.{accepted-size, session-first}
use Rattle.soupbintcp_client.proofs.ClientCases.{ClientDoes, client-rests-or-moves, client-stable, client-steady}
use Rattle.soupbintcp_client.proofs.ClientCases as cases
use Rattle.soupbintcp_client.proofs.RowLaws.{when-S, else_34, takes_the_others, refuses_the_others, stays_over}
use Rattle.soupbintcp_client.proofs.WholeLaws.{takes_all}
use Rattle.soupbintcp_client.proofs.OrderLaws.{hands_up_in_order}
use Rattle.soupbintcp_client.proofs.ExampleLaws.{client-example}

-- ---- what A has to carry, as the tests and as the rules say it

session-test : (c : Client) (l : List ℕ) → SessionFits c l → session_asked c.session (session_of Server l) ≡ true
unfolding session_asked
session-test c l (any_session e) = rw (e, same_refl blank) refl
session-test c l (this_session e) = go (same_bytes c.session blank)
  where
    go : (x : Bool) → if x then true else same_bytes (session_of Server l) c.session ≡ true
    go true = refl
    go false = rw e (same_refl c.session)

session-fits : (c : Client) (l : List ℕ) → session_asked c.session (session_of Server l) ≡ true → SessionFits c l
unfolding session_asked
session-fits c l = go (same_bytes c.session blank) refl
  where
    go : (x : Bool) → same_bytes c.session blank ≡ x → if x then true else same_bytes (session_of Server l) c.session ≡ true → SessionFits c l
    go true e f = any_session (same-equal _ _ e)
    go false e f = this_session (same-equal _ _ f)

number-test : (c : Client) (n : ℕ) → NumberFits c n → number_asked c.number.0 n ≡ true
unfolding number_asked
number-test c n (any_number e) = rw e refl
number-test c n (this_number e) = go (eqb c.number.0 0)
  where
    go : (x : Bool) → if x then true else eqb n c.number.0 ≡ true
    go true = refl
    go false = eq-eqb _ _ e

number_fits : (c : Client) (n : ℕ) → number_asked c.number.0 n ≡ true → NumberFits c n
unfolding number_asked
number_fits c n = go (eqb c.number.0 0) refl
  where
    go : (x : Bool) → eqb c.number.0 0 ≡ x → if x then true else eqb n c.number.0 ≡ true → NumberFits c n
    go true e f = any_number (eqb-true _ _ e)
    go false e f = this_number (eqb-true _ _ f)

asked-row : (c : Client) (size n : ℕ) (given : List ℕ) → c.state ≡ Asked → session_asked c.session given ≡ true
    → number_asked c.number.0 n ≡ true
    → row_at c.state c (incoming size 65 (n ∷ []) given) ≡ takes size (says reply.accepted (n ∷ [])) (client (first_bytes 10 given) n In)
unfolding row_at asked_row accepted_row
asked-row c size n given e f g = rw (e, f, g) refl

other_row : (c : Client) (size n : ℕ) (given : List ℕ) (x y : Bool) → c.state ≡ Asked → session_asked c.session given ≡ x
    → number_asked c.number.0 n ≡ y → (x ≡ true → y ≡ true → ⊥)
    → row_at c.state c (incoming size 65 (n ∷ []) given) ≡ stays c (refuses 33)
unfolding row_at asked_row accepted_row
other_row c size n given true true e f g h = absurd (h refl refl)
other_row c size n given true false e f g h = rw (e, f, g) refl
other_row c size n given false y e f g h = rw (e, f) refl

module _ (c : Client) (l : List ℕ) (size n : ℕ) (q : c.state ≡ Asked) (e : AcceptedInFront l size n) where
  row-of-A : client_step c l ≡ client_row c (incoming size 65 (n ∷ []) (session_of Server l))
  unfolding letter_for
  row-of-A = cases.packet-row c l accepted size (n ∷ []) e

  when-fits : Fits c l n → client_step c l ≡ takes size (says reply.accepted (n ∷ [])) (client (session_of Server l) n In)
  when-fits f =
      row-of-A ∙ asked-row c size n (session_of Server l) q (session-test c l f.session) (number-test c n f.number)
      ∙ ap (λ (name : List ℕ). takes size (says reply.accepted (n ∷ [])) (client name n In)) (session-first l size (n ∷ []) e)

  else_33 : (Fits c l n → ⊥) → client_step c l ≡ stays c (refuses 33)
  else_33 f =
      row-of-A ∙ other_row c size n (session_of Server l) (session_asked c.session (session_of Server l)) (number_asked c.number.0 n) q refl refl
      (λ x y. f (record { session = session-fits c l x; number = number_fits c n y }))

sequenced-apart : answer reply.sequenced ≡ answer reply.accepted → ⊥
sequenced-apart e = let z : ◌≡◌ {A = ℕ} 0 1 = cc in omega arith

accepts-A : (c : Client) (l : List ℕ) (o : StepOutcome Client) → ClientDoes c l o → o.reply.which ≡ answer reply.accepted → AcceptsA c l
unfolding letter_for has_fields
accepts-A c l o (cases.rests w n e) z = absurd (never-rests w n reply.accepted accepted-takes (rw e at z))
accepts-A c l o (cases.logs_in k vs name i a q x y e) z =
    record {
      asked = q;
      size = k;
      number = get_or vs 0 0;
      front = numbered-in-front Server l k vs accepted i a refl;
      fits = record { session = session-fits c l x; number = number_fits c (get_or vs 0 0) y };
    }
accepts-A c l o (cases.hands_up k vs i a q e) z = absurd (sequenced-apart (rw e at z))
accepts-A c l o (cases.goes_by k vs w t i a b p q e) z = absurd (plain-not-accepted w.which p (rw e at z))

pub client-promises : ClientPromises
client-promises =
    record {
      takes_from_A =
          record {
            when = when-fits;
            else_33 = else_33;
            only_when = λ c l. accepts-A c l (client_step c l) (cases.client-does c l);
            its_size = λ l size n e. accepted-size l size (n ∷ []) e;
          };
      takes_the_others = takes_the_others;
      refuses_the_others = refuses_the_others;
      stays_over = stays_over;
      takes_S = record { when = when-S; else_34 = else_34 };
      changes_nothing = changes_nothing client_step Server reply.sequenced client-rests-or-moves;
      takes_packets = takes_packets client_step Server reply.sequenced client-rests-or-moves;
      hands_up_payload = hands_up client_step Server reply.sequenced client-rests-or-moves sequenced-takes;
      step_stable = client-stable;
      runs_on = runs_on client_step client-steady;
      runs_by_step = runs_by_step client_step client-steady;
      any_cutting = any_cutting client_step client-steady;
      example = client-example;
      hands_up_in_order = hands_up_in_order;
      takes_all = takes_all;
    }
