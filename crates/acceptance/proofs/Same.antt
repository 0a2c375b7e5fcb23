-- A test that antt computes for two results of an example, and that results which pass it are equal. Words are compared as lists of
-- numbers, from which they can be had back.
use Prim.Native.Nat.{ℕ, zero, suc}
use mathlib.Core.List.{List, [], ◌∷◌}
use mathlib.Core.Bool.{Bool, true, false}
use mathlib.Core.Path.{◌≡◌, refl, ap}
use native.Mathlib.Omega.{arith}
use lib.Dec.{eqb}
use borrow.Author.Tests.{eqb-true}
use Rattle.std.specs.Prelude.{if◌then◌else◌}
use Rattle.wire.specs.Words.{Words, Case, answer, refused}
use Rattle.wire.specs.Bytes.{same_bytes}
use Rattle.wire.proofs.Words.{read_back}
use Rattle.wire.proofs.Same.{same-equal}
use Rattle.moldudp64.specs.Downstream.{DownstreamKind, data_packet, heartbeat, end_of_session}
use Rattle.receiver.specs.Table.{AnswerKind, deliver, old, quiet, ask, ended}
use Rattle.soupbintcp.specs.Letters as soup
use Rattle.soupbintcp.specs.Front.{FrontKind, packet, wants_more}
use Rattle.soupbintcp_session.specs.Answer as session
use Rattle.acceptance.specs.Examples.{Example, takes, reads, fronts, logs_in, Answered, Result}

-- both of two tests
pub first_of : (a b : Bool) → if a then b else false ≡ true → a ≡ true
first_of true b e = refl
first_of false b e = e

pub second-of : (a b : Bool) → if a then b else false ≡ true → b ≡ true
second-of true b e = e
second-of false b e = let z : ◌≡◌ {A = ℕ} 0 1 = cc in absurd (omega arith)

-- ---- words over kinds that have a code each

module _ {K : Type 0} (code : K → ℕ) (kind : ℕ → K) (back : (k : K) → kind (code k) ≡ k) where
  abbrev case_code : Case K → ℕ
  case_code (answer k) = suc (code k)
  case_code refused = zero

  abbrev case_of : ℕ → Case K
  case_of zero = refused
  case_of (suc n) = answer (kind n)

  case-back : (c : Case K) → case_of (case_code c) ≡ c
  case-back (answer k) = ap answer (back k)
  case-back refused = refl

  abbrev listed : Words K → List ℕ
  listed w = case_code w.which ∷ w.refusal ∷ w.values

  abbrev words_of : List ℕ → Words K
  words_of [] = record { which = refused; refusal = 0; values = [] }
  words_of (c ∷ []) = record { which = refused; refusal = 0; values = [] }
  words_of (c ∷ r ∷ vs) = record { which = case_of c; refusal = r; values = vs }

  words_back : (w : Words K) → words_of (listed w) ≡ w
  words_back w = ap (λ (c : Case K). record { which = c; refusal = w.refusal; values = w.values }) (case-back w.which)

  abbrev pub same_words : Words K → Words K → Bool
  same_words a b = same_bytes (listed a) (listed b)

  pub words-equal : (a b : Words K) → same_words a b ≡ true → a ≡ b
  words-equal a b e = read_back listed words_of words_back a b (same-equal (listed a) (listed b) e)

-- ---- the four kinds of words

abbrev reply_code : AnswerKind → ℕ
reply_code deliver = 0
reply_code old = 1
reply_code quiet = 2
reply_code ask = 3
reply_code ended = 4

abbrev reply_of : ℕ → AnswerKind
reply_of n = if eqb n 0 then deliver else if eqb n 1 then old else if eqb n 2 then quiet else if eqb n 3 then ask else ended

pub reply-back : (k : AnswerKind) → reply_of (reply_code k) ≡ k
reply-back deliver = refl
reply-back old = refl
reply-back quiet = refl
reply-back ask = refl
reply-back ended = refl

abbrev kind_code : DownstreamKind → ℕ
kind_code data_packet = 0
kind_code heartbeat = 1
kind_code end_of_session = 2

abbrev kind_of_code : ℕ → DownstreamKind
kind_of_code n = if eqb n 0 then data_packet else if eqb n 1 then heartbeat else end_of_session

pub kind-back : (k : DownstreamKind) → kind_of_code (kind_code k) ≡ k
kind-back data_packet = refl
kind-back heartbeat = refl
kind-back end_of_session = refl

abbrev front_code : FrontKind → ℕ
front_code (packet soup.debug) = 0
front_code (packet soup.accepted) = 1
front_code (packet soup.rejected) = 2
front_code (packet soup.sequenced) = 3
front_code (packet soup.server_heartbeat) = 4
front_code (packet soup.end_of_session) = 5
front_code (packet soup.login) = 6
front_code (packet soup.unsequenced) = 7
front_code (packet soup.client_heartbeat) = 8
front_code (packet soup.logout) = 9
front_code wants_more = 10

abbrev front_of_code : ℕ → FrontKind
front_of_code n =
    if eqb n 0 then packet soup.debug
    else if eqb n 1 then packet soup.accepted
    else if eqb n 2 then packet soup.rejected
    else if eqb n 3 then packet soup.sequenced
    else if eqb n 4 then packet soup.server_heartbeat
    else if eqb n 5 then packet soup.end_of_session
    else if eqb n 6 then packet soup.login
    else if eqb n 7 then packet soup.unsequenced
    else if eqb n 8 then packet soup.client_heartbeat
    else if eqb n 9 then packet soup.logout
    else wants_more

pub front-back : (k : FrontKind) → front_of_code (front_code k) ≡ k
front-back (packet soup.debug) = refl
front-back (packet soup.accepted) = refl
front-back (packet soup.rejected) = refl
front-back (packet soup.sequenced) = refl
front-back (packet soup.server_heartbeat) = refl
front-back (packet soup.end_of_session) = refl
front-back (packet soup.login) = refl
front-back (packet soup.unsequenced) = refl
front-back (packet soup.client_heartbeat) = refl
front-back (packet soup.logout) = refl
front-back wants_more = refl

abbrev session_code : session.SessionAnswerKind → ℕ
session_code session.wants_more = 0
session_code session.accepted = 1
session_code session.rejected = 2
session_code session.sequenced = 3
session_code session.unsequenced = 4
session_code session.heartbeat = 5
session_code session.debug = 6
session_code session.logged_out = 7
session_code session.end_of_session = 8

abbrev session_of_code : ℕ → session.SessionAnswerKind
session_of_code n =
    if eqb n 0 then session.wants_more
    else if eqb n 1 then session.accepted
    else if eqb n 2 then session.rejected
    else if eqb n 3 then session.sequenced
    else if eqb n 4 then session.unsequenced
    else if eqb n 5 then session.heartbeat
    else if eqb n 6 then session.debug
    else if eqb n 7 then session.logged_out
    else session.end_of_session

pub session-back : (k : session.SessionAnswerKind) → session_of_code (session_code k) ≡ k
session-back session.wants_more = refl
session-back session.accepted = refl
session-back session.rejected = refl
session-back session.sequenced = refl
session-back session.unsequenced = refl
session-back session.heartbeat = refl
session-back session.debug = refl
session-back session.logged_out = refl
session-back session.end_of_session = refl

-- ---- messages, one by one

abbrev same_messages : List (List ℕ) → List (List ℕ) → Bool
same_messages [] [] = true
same_messages [] (m ∷ ms) = false
same_messages (l ∷ ls) [] = false
same_messages (l ∷ ls) (m ∷ ms) = if same_bytes l m then same_messages ls ms else false

messages-equal : (ls ms : List (List ℕ)) → same_messages ls ms ≡ true → ls ≡ ms
messages-equal [] [] e = refl
messages-equal [] (m ∷ ms) e = let z : ◌≡◌ {A = ℕ} 0 1 = cc in absurd (omega arith)
messages-equal (l ∷ ls) [] e = let z : ◌≡◌ {A = ℕ} 0 1 = cc in absurd (omega arith)
messages-equal (l ∷ ls) (m ∷ ms) e =
    let h = same-equal l m (first_of (same_bytes l m) (same_messages ls ms) e) in
    let i = messages-equal ls ms (second-of (same_bytes l m) (same_messages ls ms) e) in
    cc

-- ---- a result of any example

abbrev same_answer : Answered → Answered → Bool
same_answer a b =
    if same_words reply_code reply_of reply-back a.reply b.reply
    then (if same_messages a.delivered b.delivered then eqb a.next b.next else false)
    else false

answer-equal : (a b : Answered) → same_answer a b ≡ true → a ≡ b
answer-equal a b e =
    let words = same_words reply_code reply_of reply-back a.reply b.reply in
    let messages = same_messages a.delivered b.delivered in
    let rest = second-of words (if messages then eqb a.next b.next else false) e in
    let h = words-equal reply_code reply_of reply-back a.reply b.reply (first_of words (if messages then eqb a.next b.next else false) e) in
    let i = messages-equal a.delivered b.delivered (first_of messages (eqb a.next b.next) rest) in
    let j = eqb-true a.next b.next (second-of messages (eqb a.next b.next) rest) in
    answered h i j
  where
    answered : {w v : Words AnswerKind} {ls ms : List (List ℕ)} {n k : ℕ} → w ≡ v → ls ≡ ms → n ≡ k
        → ◌≡◌ {A = Answered} (record { reply = w; delivered = ls; next = n }) (record { reply = v; delivered = ms; next = k })
    answered h i j = cc

abbrev pub same : (e : Example) → Result e → Result e → Bool
same (takes n limit d) = same_answer
same (reads d) = same_words kind_code kind_of_code kind-back
same (fronts l) = same_words front_code front_of_code front-back
same (logs_in table entry) = same_words session_code session_of_code session-back

pub equal : (e : Example) (a b : Result e) → same e a b ≡ true → a ≡ b
equal (takes n limit d) = answer-equal
equal (reads d) = words-equal kind_code kind_of_code kind-back
equal (fronts l) = words-equal front_code front_of_code front-back
equal (logs_in table entry) = words-equal session_code session_of_code session-back
