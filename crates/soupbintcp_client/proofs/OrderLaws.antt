-- A client hands up the payloads of S in order, under their numbers: c is the client, n its number, r a run, and ps its packets.
use mathlib.Core.Path.{◌≡◌, refl, ap, sym, ◌∙◌}
use mathlib.Core.List.{List, [], ◌∷◌}
use mathlib.Core.Bool.{false}
use Prim.Native.Nat.{ℕ, suc, ◌+◌, ◌-◌}
use native.Mathlib.Omega.{arith}
use lib.ListN.{length, get_or, take, drop, length-drop}
use lib.Seq.{take_all, length-take-le}
use borrow.Author.Tests.{ne_eqb}
use Rattle.wire.specs.Words.{Words, Case, says}
use Rattle.soupbintcp.specs.declared.packet.Sender.TheVariants.{Server}
use Rattle.soupbintcp.specs.Head.{letter_of}
use Rattle.soupbintcp.specs.Front.{front_of}
use Rattle.soupbintcp.proofs.FrontLaws.{said-packet}
use Rattle.soupbintcp.proofs.StableLaws.{own-letter}
use Rattle.soupbintcp_session.specs.Answer.{SessionAnswerKind, accepted, sequenced, answer_message_at, StepOutcome}
use Rattle.soupbintcp_session.specs.Stream.{Taking, Run, stopped, then_run, run, packets_of}
use Rattle.soupbintcp_session.proofs.PacketLaws.{own-front}
use Rattle.soupbintcp_session.proofs.FrontCases.{apart, InFront, Plain, a-rejection, a-heartbeat, a-debug, a-logout, an-end}
use Rattle.soupbintcp_session.proofs.RunLaws.{runs}
use Rattle.soupbintcp_client.specs.declared.client.ClientState.TheVariants.{Asked, In}
use Rattle.soupbintcp_client.specs.declared.client.Client.{Client}
use Rattle.soupbintcp_client.specs.Client.{client, becomes, client_step}
use Rattle.soupbintcp_client.specs.HandedUp.{Numbered, numbered_from, is_sequenced, handed_up, sequenced_in, granted_in}
use Rattle.soupbintcp_client.specs.Statements.{HandsUpInOrder}
use Rattle.soupbintcp_client.proofs.ClientCases.{ClientDoes, rests, logs_in, hands_up, goes_by, in-apart, client-does, client-steady}

-- ---- one more packet p before ps

module _ (p : List ℕ) (ps : List (List ℕ)) where
  pub one-S : letter_of p ≡ 83 → sequenced_in (p ∷ ps) ≡ drop 3 p ∷ sequenced_in ps
  unfolding sequenced_in
  one-S e = rw e refl

  pub no-S : (letter_of p ≡ 83 → ⊥) → sequenced_in (p ∷ ps) ≡ sequenced_in ps
  unfolding sequenced_in
  no-S e = rw (ne_eqb _ _ e) refl

  one-A : (n : ℕ) → letter_of p ≡ 65 → granted_in n (p ∷ ps) ≡ get_or (front_of Server p).values 1 0
  unfolding granted_in
  one-A n e = rw e refl

  no-A : (n : ℕ) → (letter_of p ≡ 65 → ⊥) → granted_in n (p ∷ ps) ≡ granted_in n ps
  unfolding granted_in
  no-A n e = rw (ne_eqb _ _ e) refl

-- a plain answer hands up no message
plain_quiet : (w : Case SessionAnswerKind) → Plain w → is_sequenced w ≡ false
unfolding is_sequenced
plain_quiet w a-rejection = refl
plain_quiet w a-heartbeat = refl
plain_quiet w a-debug = refl
plain_quiet w a-logout = refl
plain_quiet w an-end = refl

-- a step that hands up nothing
pub handed-none : (b : List ℕ) (w : Words SessionAnswerKind) (xs : List Taking) → is_sequenced w.which ≡ false → handed_up (record { bytes = b; reply = w } ∷ xs) ≡ handed_up xs
unfolding handed_up
handed-none b w xs e = rw e refl

-- a step that hands up what stands behind the head
pub handed-one : (b : List ℕ) (n k : ℕ) (xs : List Taking) → length b ≡ k
    → handed_up (record { bytes = b; reply = says sequenced (n ∷ 3 ∷ (k - 3) ∷ []) } ∷ xs) ≡ record { number = n; message = drop 3 b } ∷ handed_up xs
unfolding handed_up is_sequenced answer_message_at
handed-one b n k xs e =
    let d = length-drop 3 b in
    let f : take (k - 3) (drop 3 b) ≡ drop 3 b = take_all (k - 3) (drop 3 b) (omega arith) in
    ap (λ (m : List ℕ). record { number = n; message = m } ∷ handed_up xs) f

-- ---- what holds of every run: all is in order, and from a client that asks for nothing no A is taken

abbrev packets : Run Client → List (List ℕ)
packets r = packets_of r.taken

record Ordered (c : Client) (l : List ℕ) (r : Run Client) : Type 0 where
  in_order : handed_up r.taken ≡ numbered_from (granted_in c.number.0 (packets r)) (sequenced_in (packets r))
  counted : r.after.number.0 ≡ granted_in c.number.0 (packets r) + length (sequenced_in (packets r))
  no-login : (c.state ≡ Asked → ⊥) → (n : ℕ) → granted_in n (packets r) ≡ n

stops-ordered : (c : Client) (l : List ℕ) (w : Words SessionAnswerKind) → Ordered c l (stopped c l w)
unfolding handed_up packets_of sequenced_in granted_in numbered_from
stops-ordered c l w = record { in_order = refl; counted = omega arith; no-login = λ z n. refl }

-- the packet taken has the letter of the stream, and its size
module _ (l : List ℕ) (k : ℕ) (vs : List ℕ) (i : InFront Server l k vs) where
  same-letter : letter_of (take k l) ≡ letter_of l
  same-letter = own-letter Server l k (said-packet Server l i.kind k vs i.front).head

  same_number : get_or (front_of Server (take k l)).values 1 0 ≡ get_or vs 0 0
  same_number = rw (own-front Server l i.kind k vs i.front) refl

-- a run goes on with a packet that the client takes
module _ (c : Client) (l : List ℕ) (k : ℕ) (vs : List ℕ) (i : InFront Server l k vs) (r : Run Client) where
  by-A : (m : Client) → letter_of l ≡ 65 → c.state ≡ Asked → m.number.0 ≡ get_or vs 0 0 → m.state ≡ In → Ordered m (drop k l) r
      → Ordered c l (then_run (record { bytes = take k l; reply = says accepted (get_or vs 0 0 ∷ []) }) r)
  unfolding packets_of is_sequenced
  by-A m a q e f o =
      let b : letter_of (take k l) ≡ 65 = same-letter l k vs i ∙ a in
      let g : granted_in c.number.0 (take k l ∷ packets r) ≡ get_or vs 0 0 = one-A (take k l) (packets r) c.number.0 b ∙ same_number l k vs i in
      let h : granted_in m.number.0 (packets r) ≡ get_or vs 0 0 = o.no-login (rw f in-apart) m.number.0 ∙ e in
      let j : sequenced_in (take k l ∷ packets r) ≡ sequenced_in (packets r) = no-S (take k l) (packets r) (apart b refl) in
      record {
        in_order = handed-none (take k l) (says accepted (get_or vs 0 0 ∷ [])) r.taken refl ∙ o.in_order ∙ rw (g, h, j) refl;
        counted = rw (g, j) (rw h at o.counted);
        no-login = λ z. absurd (z q);
      }

  by-S : (m : Client) → letter_of l ≡ 83 → c.state ≡ In → m.number.0 ≡ c.number.0 + 1 → m.state ≡ In → Ordered m (drop k l) r
      → Ordered c l (then_run (record { bytes = take k l; reply = says sequenced (c.number.0 ∷ 3 ∷ (k - 3) ∷ []) }) r)
  unfolding packets_of numbered_from
  by-S m a q e f o =
      let b : letter_of (take k l) ≡ 83 = same-letter l k vs i ∙ a in
      let n : m.state ≡ Asked → ⊥ = rw f in-apart in
      let y : (x : ℕ) → granted_in x (take k l ∷ packets r) ≡ x = λ x. no-A (take k l) (packets r) x (apart b refl) ∙ o.no-login n x in
      let h : granted_in m.number.0 (packets r) ≡ c.number.0 + 1 = o.no-login n m.number.0 ∙ e in
      let j : sequenced_in (take k l ∷ packets r) ≡ drop 3 (take k l) ∷ sequenced_in (packets r) = one-S (take k l) (packets r) b in
      let u : handed_up r.taken ≡ numbered_from (c.number.0 + 1) (sequenced_in (packets r)) = o.in_order ∙ rw h refl in
      let v : r.after.number.0 ≡ c.number.0 + 1 + length (sequenced_in (packets r)) = o.counted ∙ rw h refl in
      record {
        in_order =
            handed-one (take k l) c.number.0 k r.taken (length-take-le k l i.within)
            ∙ ap (λ (xs : List Numbered). record { number = c.number.0; message = drop 3 (take k l) } ∷ xs) u ∙ sym (rw (y c.number.0, j) refl);
        counted = v ∙ rw (y c.number.0, j) (omega arith);
        no-login = λ z. y;
      }

  by-other : (m : Client) (w : Words SessionAnswerKind) → (letter_of l ≡ 65 → ⊥) → (letter_of l ≡ 83 → ⊥) → Plain w.which → m.number.0 ≡ c.number.0
      → ((c.state ≡ Asked → ⊥) → m.state ≡ Asked → ⊥) → Ordered m (drop k l) r → Ordered c l (then_run (record { bytes = take k l; reply = w }) r)
  unfolding packets_of
  by-other m w a s pl e f o =
      let b : letter_of (take k l) ≡ letter_of l = same-letter l k vs i in
      let g : (x : ℕ) → granted_in x (take k l ∷ packets r) ≡ granted_in x (packets r) = λ x. no-A (take k l) (packets r) x (rw b a) in
      let j : sequenced_in (take k l ∷ packets r) ≡ sequenced_in (packets r) = no-S (take k l) (packets r) (rw b s) in
      record {
        in_order = handed-none (take k l) w r.taken (plain_quiet w.which pl) ∙ o.in_order ∙ rw (g c.number.0, j, e) refl;
        counted = o.counted ∙ rw (g c.number.0, j, e) refl;
        no-login = λ z x. g x ∙ o.no-login (f z) x;
      }

-- ---- every step

module _ (c : Client) (l : List ℕ) (k : ℕ) (r : Run Client) where
  -- o is what the step does
  by_step : (o : StepOutcome Client) → ClientDoes c l o → o.size ≡ suc k → Ordered o.after (drop (suc k) l) r
      → Ordered c l (then_run (record { bytes = take (suc k) l; reply = o.reply }) r)
  by_step o (rests w n e) z h = let y : 0 ≡ suc k = rw e at z in absurd (omega arith)
  by_step o (logs_in n vs name i a q x y e) z h =
      let d : n ≡ suc k = rw e at z in
      rw (e, ← d) (by-A c l n vs i r (client name (get_or vs 0 0) In) a q refl refl (rw (e, ← d) at h))
  by_step o (hands_up n vs i a q e) z h =
      let d : n ≡ suc k = rw e at z in
      rw (e, ← d) (by-S c l n vs i r (client c.session (c.number.0 + 1) In) a q refl refl (rw (e, ← d) at h))
  by_step o (goes_by n vs w t i a b p q e) z h =
      let d : n ≡ suc k = rw e at z in
      rw (e, ← d) (by-other c l n vs i r (becomes c t) w a b p refl q (rw (e, ← d) at h))

ordered : (c : Client) (l : List ℕ) → Ordered c l (run client_step c l)
ordered =
    runs client_step client-steady Ordered (λ c l e. stops-ordered c l (client_step c l).reply) (λ c l k r e h o. by_step c l k r (client_step c l) (client-does c l) e o)

pub hands_up_in_order : (c : Client) (l : List ℕ) → HandsUpInOrder c (run client_step c l)
hands_up_in_order c l = let o = ordered c l in record { in_order = o.in_order; counted = o.counted }
