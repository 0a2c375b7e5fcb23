-- A server laid, and read back.
use Prim.Native.Nat.{ℕ, ◌-◌, ◌≤◌, ◌<◌}
use mathlib.Core.List.{List}
use mathlib.Core.Bool.{Bool, true, false, not}
use mathlib.Core.Path.{◌≡◌, refl, ap, ◌∙◌}
use lib.ListN.{length, get_or, take, drop}
use lib.Dec.{ltb, eqb}
use borrow.Author.Tests.{eq-eqb, ne_eqb, lt-ltb, le-ltb, not-true, not-false}
use Rattle.wire.specs.Bounds.{session_size}
use Rattle.wire.specs.Parts.{first_bytes}
use Rattle.wire.proofs.Cases.{zero_or_not, below_or_not}
use Rattle.wire.proofs.Numbers.{part_to_end}
use Rattle.soupbintcp_server.specs.declared.server.ServerState.{ServerState}
use Rattle.soupbintcp_server.specs.declared.server.ServerState.TheVariants.{Waiting, In, Closed}
use Rattle.soupbintcp_server.specs.declared.server.Server.{Server}
use Rattle.soupbintcp_server.specs.Server.{server, refused_server}
use Rattle.host_states.specs.Little.{little}
use Rattle.host_states.specs.States.{server_code, is_open, open_byte, Keeps, StatePromises, on_code, name_at, number_at, name_in}
use Rattle.host_answers.specs.Answers.{or_else, short}
use Rattle.host_states.proofs.StateLaws.{state-promises, code-room, keeps-not}
use Rattle.host_session.specs.Session.{phase_at, session_state_size, SessionFields, session_fields, session_state_bytes, session_state_in}
use Rattle.wire.proofs.PartLaws.{name-ten}
use Rattle.host_session.proofs.SessionLaws.{length-session, end_kept}
use Rattle.host_server.specs.Server.{server_state_of, server_is_open, server_phase, server_bytes, server_in, KeepsServer}

-- ---- its state, by whether it is open and by its phase

module _ (opened : Bool) (b : ℕ) where
  pub server-closed : not opened ≡ true → Closed ≡ server_state_of opened b
  unfolding server_state_of
  server-closed e = rw (not-true opened e)

  pub server-in : not opened ≡ false → b ≡ 2 → In ≡ server_state_of opened b
  unfolding server_state_of
  server-in e f = rw (not-false opened e, eq-eqb b 2 f)

  pub server-waiting : not opened ≡ false → (b ≡ 2 → ⊥) → Waiting ≡ server_state_of opened b
  unfolding server_state_of
  server-waiting e f = rw (not-false opened e, ne_eqb b 2 f)

-- of a known state
module _ (s : ServerState) where
  pub phase-waiting : s ≡ Waiting → 1 ≡ server_phase s
  unfolding server_phase
  phase-waiting e = rw e refl

  pub phase-in : s ≡ In → 2 ≡ server_phase s
  unfolding server_phase
  phase-in e = rw e refl

  pub phase-closed : s ≡ Closed → 0 ≡ server_phase s
  unfolding server_phase
  phase-closed e = rw e refl

  pub open-waiting : s ≡ Waiting → true ≡ server_is_open s
  unfolding server_is_open
  open-waiting e = rw e refl

  pub open_in : s ≡ In → true ≡ server_is_open s
  unfolding server_is_open
  open_in e = rw e refl

  pub open-closed : s ≡ Closed → false ≡ server_is_open s
  unfolding server_is_open
  open-closed e = rw e refl

-- what is laid of it reads back
server-back : (s : ServerState) → server_state_of (eqb (open_byte server_code (server_is_open s)) server_code) (server_phase s) ≡ s
unfolding server_state_of server_is_open server_phase open_byte
server-back Waiting = refl
server-back In = refl
server-back Closed = refl

-- ---- the whole

unfoldable server-made : SessionFields → Server
server-made f = server f.name f.num (server_state_of (eqb f.first server_code) f.phase)

server-has-room : (l : List ℕ) → session_state_size ≤ length l → server_in l ≡ server-made (session_state_in l)
unfolding server_in server-made is_open session_state_in
server-has-room l h = rw (le-ltb (length l) session_state_size h) refl

pub server-kept : (s : Server) (lays : Bool) (b₀ b : ℕ) (o : Bool) (l m : List ℕ) → o ≡ server_is_open s.state → b₀ ≡ open_byte server_code o → b ≡ server_phase s.state
    → Keeps lays l m session_state_size session_state_in (session_state_bytes (session_fields b₀ s.session s.last.0 b)) (session_fields b₀ s.session s.last.0 b)
    → KeepsServer lays l m s
unfolding server_bytes server-made
server-kept s lays b₀ b o l m e f g k =
    end_kept lays l m server_in server-made _ s server-has-room (rw (server-back s.state)) (rw (f, e, g) at k)

-- too few bytes are a closed one
pub server-short : (l : List ℕ) → length l < session_state_size → refused_server ≡ server_in l
unfolding server_in
server-short l h = rw (lt-ltb (length l) session_state_size h)

pub server-read : (l name : List ℕ) (n b : ℕ) (o : Bool) (s : ServerState) → session_state_size ≤ length l → name ≡ first_bytes session_size (take (length l - name_at) (drop name_at l))
    → n ≡ little l number_at 8 → b ≡ get_or l phase_at 0 → o ≡ is_open server_code l
    → s ≡ server_state_of o b → server name n s ≡ server_in l
unfolding server_in session_state_in
server-read l name n b o s h p q r u t = rw (t, r, q, p, u, part_to_end name_at l, le-ltb (length l) session_state_size h)

-- as many bytes as its layout has, where the name has ten
pub length-server : (s : Server) → length s.session ≡ session_size → length (server_bytes s) ≡ session_state_size
unfolding server_bytes
length-server s ten = length-session _ s.session s.last.0 _ ten

-- one that was read has ten
pub server-ten : (l : List ℕ) → length (server_in l).session ≡ session_size
unfolding server_in session_state_in
server-ten l = below_or_not _ (length l) session_state_size (λ h. rw (lt-ltb (length l) session_state_size h) refl) (λ h. rw (le-ltb (length l) session_state_size h) (name-ten (drop name_at l)))

-- ---- around the name that stands there

pub there-kept : (last : ℕ) (state : ServerState) (lays : Bool) (b₀ b : ℕ) (o : Bool) (l m : List ℕ) → o ≡ server_is_open state → b₀ ≡ open_byte server_code o
    → b ≡ server_phase state
    → Keeps lays l m session_state_size session_state_in (session_state_bytes (session_fields b₀ (name_in l) last b)) (session_fields b₀ (name_in l) last b)
    → KeepsServer lays l m (server (name_in l) last state)
there-kept last state lays b₀ b o l m e f g k = server-kept (server (name_in l) last state) lays b₀ b o l m e f g k

-- where it is laid there is room, so that it is the server's own
pub named-there : (x : Server) (l m : List ℕ) (r code : ℕ) → r ≡ or_else code (short (ltb (length l) session_state_size)) → x.session ≡ (server_in l).session
    → KeepsServer (on_code r) l m (server (name_in l) x.last.0 x.state) → KeepsServer (on_code r) l m x
unfolding server_in session_state_in
named-there x l m r code e f k = zero_or_not _ r laid not-laid
  where
    laid : r ≡ 0 → KeepsServer (on_code r) l m x
    laid z =
        let n : x.session ≡ name_in l = rw (le-ltb (length l) session_state_size (code-room r code _ _ e z)) at f in
        rw (← n) at k

    not-laid : (r ≡ 0 → ⊥) → KeepsServer (on_code r) l m x
    not-laid z =
        let same : m ≡ l = rw (ne_eqb r 0 z) at k.leaves in
        rw same (keeps-not l session_state_size server_in _ _ (length-server x (ap length f ∙ server-ten l)) r z)

pub server-promises : StatePromises KeepsServer session_state_size server_bytes
server-promises = state-promises session_state_size server_in server_bytes
