-- A client that is in takes a stream of S, H and + whole: c is the client, p the packet in front, m what follows it, ps the packets.
use mathlib.Core.Path.{◌≡◌, refl, ap, sym, ◌∙◌}
use mathlib.Core.List.{List, [], ◌∷◌, ◌++◌, Memᴰ}
use Prim.Native.Nat.{ℕ, ◌+◌, ◌-◌, ◌≤◌}
use native.Mathlib.Omega.{arith}
use lib.ListN.{length, drop}
use lib.Seq.{take_at, drop_at}
use Rattle.wire.specs.Bounds.{largest_number}
use Rattle.wire.specs.Bytes.{joined}
use Rattle.wire.specs.Words.{Words, answer, says}
use Rattle.soupbintcp.specs.declared.packet.Sender.TheVariants.{Server}
use Rattle.soupbintcp.specs.Letters.{PacketKind, sequenced, server_heartbeat, debug, letter_for}
use Rattle.soupbintcp.specs.Head.{letter_of, head_of}
use Rattle.soupbintcp.specs.Front.{packet, wants_more, front_at, front_of, Stable}
use Rattle.soupbintcp.proofs.KindLaws.{its-letter}
use Rattle.soupbintcp.proofs.StableLaws.{front-promises}
use Rattle.wire.proofs.Words.{which-of}
use Rattle.soupbintcp_session.specs.Answer.{SessionAnswerKind, stays, takes}
use Rattle.soupbintcp_session.specs.Answer as reply
use Rattle.soupbintcp_session.specs.Stream.{stopped, then_run, run, packets_of}
use Rattle.soupbintcp_session.specs.Statements.{TakesNothing, needs_more}
use Rattle.soupbintcp_session.proofs.FrontCases.{Plain, a-heartbeat, a-debug, plain-takes, sequenced-takes}
use Rattle.soupbintcp_session.proofs.RunLaws.{runs_by_step}
use Rattle.soupbintcp_client.specs.declared.client.ClientState.TheVariants.{In}
use Rattle.soupbintcp_client.specs.declared.client.Client.{Client}
use Rattle.soupbintcp_client.specs.Client.{client, client_step}
use Rattle.soupbintcp_client.specs.HandedUp.{Numbered, numbered_from, handed_up, is_sequenced, sequenced_in}
use Rattle.soupbintcp_client.specs.Statements.{Running, is_S, is_H, is_debug, TakesAll}
use Rattle.soupbintcp_client.proofs.ClientCases.{short-rests, client-steady}
use Rattle.soupbintcp_client.proofs.RowLaws.{when-S, takes_the_others}
use Rattle.soupbintcp_client.proofs.OrderLaws.{one-S, no-S, handed-none, handed-one}

-- ---- nothing is left

empty-front : front_of Server [] ≡ says wants_more []
unfolding front_of head_of front_at
empty-front = refl

module _ (c : Client) (q : c.state ≡ In) where
  run-empty : run client_step c [] ≡ stopped c [] (says reply.wants_more [])
  run-empty =
      let e : client_step c [] ≡ stays c (says reply.wants_more []) = short-rests c [] empty-front in
      (runs_by_step client_step client-steady c []).stops (rw e needs_more) ∙ rw e refl

  own : (k : ℕ) → k ≡ c.number.0 → c ≡ client c.session k In
  own k e = rw (e, ← q) refl

  takes_none : TakesAll c [] (run client_step c (joined []))
  unfolding joined packets_of handed_up numbered_from sequenced_in
  takes_none = rw run-empty (record { all = refl; handed = refl; after = own (c.number.0 + 0) (omega arith); left = refl; why = refl })

-- ---- one packet more

module _ (p m : List ℕ) (kind : PacketKind) (e : front_of Server p ≡ says (packet kind) (length p ∷ [])) where
  whole-front : front_of Server (p ++ m) ≡ says (packet kind) (length p ∷ [])
  unfolding Stable
  whole-front = front-promises.stable Server p m (λ z. go (which-of e) z) ∙ e
    where
      go : (front_of Server p).which ≡ answer (packet kind) → (front_of Server p).which ≡ answer wants_more → ⊥
      go a b = let z : ◌≡◌ {A = ℕ} 0 1 = cc in omega arith

-- a step that takes p goes on from what follows it
goes_on : (c : Client) (p m : List ℕ) (w : Words SessionAnswerKind) (t : Client) → (TakesNothing w.which → ⊥)
    → client_step c (p ++ m) ≡ takes (length p) w t
    → run client_step c (p ++ m) ≡ then_run (record { bytes = p; reply = w }) (run client_step t m)
goes_on c p m w t z e =
    (runs_by_step client_step client-steady c (p ++ m)).goes (rw e z)
    ∙ rw (e, take_at p m (length p) refl, drop_at p m (length p) refl) refl

module _ (c : Client) (p : List ℕ) (ps : List (List ℕ)) (q : c.state ≡ In) (fits : c.number.0 + length (sequenced_in (p ∷ ps)) ≤ largest_number) where
  module _ (e : front_of Server p ≡ says (packet sequenced) (length p ∷ [])) where
    letter-S : letter_of p ≡ 83
    unfolding letter_for
    letter-S = its-letter Server p sequenced (length p) [] e

    abbrev next : Client
    next = client c.session (c.number.0 + 1) In

    one_more : sequenced_in (p ∷ ps) ≡ drop 3 p ∷ sequenced_in ps
    one_more = one-S p ps letter-S

    left_over : next.number.0 + length (sequenced_in ps) ≤ largest_number
    left_over = let h : c.number.0 + length (drop 3 p ∷ sequenced_in ps) ≤ largest_number = rw one_more at fits in omega arith

    not_last : c.number.0 ≡ largest_number → ⊥
    not_last z = let h = left_over in omega arith

    by-S : TakesAll next ps (run client_step next (joined ps)) → TakesAll c (p ∷ ps) (run client_step c (p ++ joined ps))
    unfolding packets_of numbered_from
    by-S t =
        rw (goes_on c p (joined ps) (says reply.sequenced (c.number.0 ∷ 3 ∷ (length p - 3) ∷ [])) next sequenced-takes
        (when-S c (p ++ joined ps) (length p) q (whole-front p (joined ps) sequenced e) not_last))
        (record {
          all = ap (λ (xs : List (List ℕ)). p ∷ xs) t.all;
          handed =
              handed-one p c.number.0 (length p) (run client_step next (joined ps)).taken refl
              ∙ ap (λ (xs : List Numbered). record { number = c.number.0; message = drop 3 p } ∷ xs) t.handed
              ∙ sym (ap (numbered_from c.number.0) one_more);
          after = t.after ∙ ap (λ (k : ℕ). client c.session k In) (omega (arith, ap length one_more));
          left = t.left;
          why = t.why;
        })

  -- another packet, which hands up nothing
  module _ (kind : PacketKind) (e : front_of Server p ≡ says (packet kind) (length p ∷ [])) (other : letter_for kind ≡ 83 → ⊥) where
    no_more : sequenced_in (p ∷ ps) ≡ sequenced_in ps
    no_more = no-S p ps (rw (its-letter Server p kind (length p) [] e) other)

    by-other : (w : Words SessionAnswerKind) → Plain w.which → client_step c (p ++ joined ps) ≡ takes (length p) w c
        → is_sequenced w.which ≡ is_sequenced (answer reply.heartbeat)
        → TakesAll c ps (run client_step c (joined ps)) → TakesAll c (p ∷ ps) (run client_step c (p ++ joined ps))
    unfolding packets_of is_sequenced
    by-other w a s h t =
        rw (goes_on c p (joined ps) w c (plain-takes w.which a) s)
        (record {
          all = ap (λ (xs : List (List ℕ)). p ∷ xs) t.all;
          handed = handed-none p w (run client_step c (joined ps)).taken h ∙ t.handed ∙ sym (ap (numbered_from c.number.0) no_more);
          after = t.after ∙ ap (λ (k : ℕ). client c.session k In) (omega (arith, ap length no_more));
          left = t.left;
          why = t.why;
        })

  fits_on : (kind : PacketKind) → front_of Server p ≡ says (packet kind) (length p ∷ []) → (letter_for kind ≡ 83 → ⊥) → c.number.0 + length (sequenced_in ps) ≤ largest_number
  fits_on kind e other = rw (no_more kind e other) at fits

-- H and + are no S
heartbeat-other : letter_for server_heartbeat ≡ 83 → ⊥
unfolding letter_for
heartbeat-other z = omega arith

debug-other : letter_for debug ≡ 83 → ⊥
unfolding letter_for
debug-other z = omega arith

pub takes_all : (c : Client) (ps : List (List ℕ)) → c.state ≡ In → ((p : List ℕ) → Memᴰ p ps → Running p) → c.number.0 + length (sequenced_in ps) ≤ largest_number
    → TakesAll c ps (run client_step c (joined ps))
unfolding joined is_sequenced
takes_all c [] q r fits = takes_none c q
takes_all c (p ∷ ps) q r fits = go (r p (Memᴰ.head refl)) (λ t s. takes_all t ps s (λ x i. r x (Memᴰ.tail i)))
  where
    go : Running p → ((t : Client) → t.state ≡ In → t.number.0 + length (sequenced_in ps) ≤ largest_number → TakesAll t ps (run client_step t (joined ps)))
        → TakesAll c (p ∷ ps) (run client_step c (p ++ joined ps))
    go (is_S e) on = by-S c p ps q fits e (on (next c p ps q fits e) refl (left_over c p ps q fits e))
    go (is_H e) on =
        by-other c p ps q fits server_heartbeat e heartbeat-other (says reply.heartbeat []) a-heartbeat
        (takes_the_others.heartbeat_in c (p ++ joined ps) (length p) q (whole-front p (joined ps) server_heartbeat e)) refl
        (on c q (fits_on c p ps q fits server_heartbeat e heartbeat-other))
    go (is_debug e) on =
        by-other c p ps q fits debug e debug-other (says reply.debug []) a-debug
        (takes_the_others.debug_in c (p ++ joined ps) (length p) q (whole-front p (joined ps) debug e)) refl
        (on c q (fits_on c p ps q fits debug e debug-other))
