-- The front of a stream by its cases, and which answers take nothing: s is the sender, l the stream.
use mathlib.Core.Path.{◌≡◌, refl, ap, sym, ◌∙◌}
use mathlib.Core.List.{List, [], ◌∷◌, ◌++◌}
use Prim.Native.Nat.{ℕ, ◌≤◌}
use native.Mathlib.Omega.{arith}
use lib.ListN.{length, get_or}
use lib.Dec.{eqb}
use mathlib.Core.Bool.{true, false}
use borrow.Author.Tests.{eqb-false}
use Rattle.wire.specs.Words.{Case, answer, refused, says, refuses}
use Rattle.wire.proofs.Words.{which-of}
use Rattle.soupbintcp.specs.declared.packet.Sender.{Sender}
use Rattle.soupbintcp.specs.Letters.{PacketKind, letter_for}
use Rattle.soupbintcp.specs.Head.{letter_of}
use Rattle.soupbintcp.specs.Fields.{has_fields}
use Rattle.soupbintcp.specs.Front.{packet, wants_more, front_of, packet_bytes, session_of, username_of, password_of, Stable, StableBytes}
use Rattle.soupbintcp.proofs.KindLaws.{its-letter, one_number, same_kind}
use Rattle.soupbintcp.proofs.StableLaws.{front-promises}
use Rattle.soupbintcp_session.specs.Answer.{SessionAnswerKind, accepted, rejected, sequenced, unsequenced, heartbeat, debug, logged_out, end_of_session}
use Rattle.soupbintcp_session.specs.Answer as reply
use Rattle.soupbintcp_session.specs.Statements.{TakesNothing, needs_more, is_refused}

pub apart : {n a b : ℕ} → n ≡ a → eqb a b ≡ false → n ≡ b → ⊥
apart {n} {a} {b} e f g = eqb-false a b f (sym e ∙ g)

-- ---- a packet in front

pub record InFront (s : Sender) (l : List ℕ) (k : ℕ) (vs : List ℕ) : Type 0 where
  pub kind : PacketKind
  pub front : front_of s l ≡ says (packet kind) (k ∷ vs)
  pub some : 3 ≤ k
  pub within : k ≤ length l

pub no_more : (s : Sender) (l : List ℕ) (k : ℕ) (vs : List ℕ) → InFront s l k vs → (front_of s l).which ≡ answer wants_more → ⊥
no_more s l k vs i e = let a = i.front in let w = which-of a in let z : ◌≡◌ {A = ℕ} 0 1 = cc in omega arith

pub at-fault : (s : Sender) (l : List ℕ) (r : ℕ) → front_of s l ≡ refuses r → (front_of s l).which ≡ answer wants_more → ⊥
at-fault s l r a e = let w = which-of a in let z : ◌≡◌ {A = ℕ} 0 1 = cc in omega arith

-- where no more is needed, what follows changes neither the front nor its parts
module _ (s : Sender) (l m : List ℕ) (z : (front_of s l).which ≡ answer wants_more → ⊥) where
  pub front-stays : front_of s (l ++ m) ≡ front_of s l
  unfolding Stable
  front-stays = front-promises.stable s l m z

  bytes-stay : packet_bytes s (l ++ m) ≡ packet_bytes s l
  unfolding StableBytes
  bytes-stay = front-promises.stable_bytes s l m z

  pub session-stays : session_of s (l ++ m) ≡ session_of s l
  unfolding session_of
  session-stays = rw bytes-stay refl

  pub username-stays : username_of s (l ++ m) ≡ username_of s l
  unfolding username_of
  username-stays = rw bytes-stay refl

  pub password-stays : password_of s (l ++ m) ≡ password_of s l
  unfolding password_of
  password-stays = rw bytes-stay refl

-- a packet whose letter has a number field is its kind with that number
pub numbered-in-front : (s : Sender) (l : List ℕ) (k : ℕ) (vs : List ℕ) (p : PacketKind) → InFront s l k vs → letter_of l ≡ letter_for p → has_fields (letter_for p) ≡ true
    → front_of s l ≡ says (packet p) (k ∷ get_or vs 0 0 ∷ [])
numbered-in-front s l k vs p i a h =
    let d : i.kind ≡ p = same_kind i.kind p (sym (its-letter s l i.kind k vs i.front) ∙ a) in
    let e : front_of s l ≡ says (packet p) (k ∷ vs) = rw d at i.front in
    e ∙ ap (λ (ws : List ℕ). says (packet p) (k ∷ ws)) (one_number s l p k vs e h)

-- ---- the answers that take a packet and hand up nothing, but for a login accepted

pub data Plain : Case SessionAnswerKind → Type 0 where
  a-rejection : Plain (answer rejected)
  a-heartbeat : Plain (answer heartbeat)
  a-debug : Plain (answer debug)
  a-logout : Plain (answer logged_out)
  an-end : Plain (answer end_of_session)

-- the answers in five heaps, which tell them apart
heap : Case SessionAnswerKind → ℕ
heap refused = 0
heap (answer reply.wants_more) = 0
heap (answer accepted) = 1
heap (answer sequenced) = 2
heap (answer unsequenced) = 3
heap (answer rejected) = 4
heap (answer heartbeat) = 4
heap (answer debug) = 4
heap (answer logged_out) = 4
heap (answer end_of_session) = 4

plain-heap : (w : Case SessionAnswerKind) → Plain w → heap w ≡ 4
unfolding heap
plain-heap w a-rejection = refl
plain-heap w a-heartbeat = refl
plain-heap w a-debug = refl
plain-heap w a-logout = refl
plain-heap w an-end = refl

nothing-heap : (w : Case SessionAnswerKind) → TakesNothing w → heap w ≡ 0
unfolding heap
nothing-heap w needs_more = refl
nothing-heap w is_refused = refl

pub plain-takes : (w : Case SessionAnswerKind) → Plain w → TakesNothing w → ⊥
plain-takes w p n = let a = plain-heap w p in let b = nothing-heap w n in omega arith

pub accepted-takes : TakesNothing (answer accepted) → ⊥
unfolding heap
accepted-takes n = let b = nothing-heap (answer accepted) n in omega arith

pub sequenced-takes : TakesNothing (answer sequenced) → ⊥
unfolding heap
sequenced-takes n = let b = nothing-heap (answer sequenced) n in omega arith

pub unsequenced-takes : TakesNothing (answer unsequenced) → ⊥
unfolding heap
unsequenced-takes n = let b = nothing-heap (answer unsequenced) n in omega arith

-- a plain answer hands up no message, and accepts no login
module _ (w : Case SessionAnswerKind) (p : Plain w) where
  pub plain-not-accepted : w ≡ answer accepted → ⊥
  unfolding heap
  plain-not-accepted e = let a = plain-heap w p in let b = ap heap e in omega arith

  pub plain-not-sequenced : w ≡ answer sequenced → ⊥
  unfolding heap
  plain-not-sequenced e = let a = plain-heap w p in let b = ap heap e in omega arith

  pub plain-not-unsequenced : w ≡ answer unsequenced → ⊥
  unfolding heap
  plain-not-unsequenced e = let a = plain-heap w p in let b = ap heap e in omega arith
