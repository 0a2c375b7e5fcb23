-- A client laid, and read back.
use Prim.Native.Nat.{ℕ, ◌-◌, ◌≤◌, ◌<◌}
use mathlib.Core.List.{List}
use mathlib.Core.Bool.{Bool, true, false}
use mathlib.Core.Path.{◌≡◌, refl}
use lib.ListN.{length, get_or, take, drop}
use lib.Dec.{eqb}
use borrow.Author.Tests.{eq-eqb, ne_eqb, lt-ltb, le-ltb}
use Rattle.wire.specs.Bounds.{session_size}
use Rattle.wire.specs.Parts.{first_bytes}
use Rattle.wire.proofs.Cases.{below_or_not}
use Rattle.wire.proofs.Numbers.{part_to_end}
use Rattle.soupbintcp_client.specs.declared.client.ClientState.{ClientState}
use Rattle.soupbintcp_client.specs.declared.client.ClientState.TheVariants.{Asked, In, Ended, Closed}
use Rattle.soupbintcp_client.specs.declared.client.Client.{Client}
use Rattle.soupbintcp_client.specs.Client.{client, refused_client}
use Rattle.host_states.specs.Little.{little}
use Rattle.host_states.specs.States.{client_code, is_open, open_byte, Keeps, StatePromises, name_at, number_at}
use Rattle.host_states.proofs.StateLaws.{state-promises}
use Rattle.host_session.specs.Session.{phase_at, session_state_size, SessionFields, session_fields, session_state_bytes, session_state_in}
use Rattle.wire.proofs.PartLaws.{name-ten}
use Rattle.host_session.proofs.SessionLaws.{length-session, end_kept}
use Rattle.host_client.specs.Client.{client_state_of, client_is_open, client_phase, client_bytes, client_in, KeepsClient}

-- ---- its state, by whether it is open and by its phase

module _ (opened : Bool) (b : ℕ) where
  pub client-in : opened ≡ true → b ≡ 2 → In ≡ client_state_of opened b
  unfolding client_state_of
  client-in e f = rw (e, eq-eqb b 2 f)

  pub client-asked : opened ≡ true → (b ≡ 2 → ⊥) → Asked ≡ client_state_of opened b
  unfolding client_state_of
  client-asked e f = rw (e, ne_eqb b 2 f)

  pub client-ended : opened ≡ false → b ≡ 3 → Ended ≡ client_state_of opened b
  unfolding client_state_of
  client-ended e f = rw (e, eq-eqb b 3 f)

  pub client-closed : opened ≡ false → (b ≡ 3 → ⊥) → Closed ≡ client_state_of opened b
  unfolding client_state_of
  client-closed e f = rw (e, ne_eqb b 3 f)

-- of a known state
module _ (s : ClientState) where
  pub phase-asked : s ≡ Asked → 1 ≡ client_phase s
  unfolding client_phase
  phase-asked e = rw e refl

  pub phase-in : s ≡ In → 2 ≡ client_phase s
  unfolding client_phase
  phase-in e = rw e refl

  pub phase-ended : s ≡ Ended → 3 ≡ client_phase s
  unfolding client_phase
  phase-ended e = rw e refl

  pub phase-closed : s ≡ Closed → 0 ≡ client_phase s
  unfolding client_phase
  phase-closed e = rw e refl

  pub open-asked : s ≡ Asked → true ≡ client_is_open s
  unfolding client_is_open
  open-asked e = rw e refl

  pub open_in : s ≡ In → true ≡ client_is_open s
  unfolding client_is_open
  open_in e = rw e refl

  pub open-ended : s ≡ Ended → false ≡ client_is_open s
  unfolding client_is_open
  open-ended e = rw e refl

  pub open-closed : s ≡ Closed → false ≡ client_is_open s
  unfolding client_is_open
  open-closed e = rw e refl

-- what is laid of it reads back
client-back : (s : ClientState) → client_state_of (eqb (open_byte client_code (client_is_open s)) client_code) (client_phase s) ≡ s
unfolding client_state_of client_is_open client_phase open_byte
client-back Asked = refl
client-back In = refl
client-back Ended = refl
client-back Closed = refl

-- ---- the whole

unfoldable client-made : SessionFields → Client
client-made f = client f.name f.num (client_state_of (eqb f.first client_code) f.phase)

client-has-room : (l : List ℕ) → session_state_size ≤ length l → client_in l ≡ client-made (session_state_in l)
unfolding client_in client-made is_open session_state_in
client-has-room l h = rw (le-ltb (length l) session_state_size h) refl

pub client-kept : (s : Client) (lays : Bool) (b₀ b : ℕ) (o : Bool) (l m : List ℕ) → o ≡ client_is_open s.state → b₀ ≡ open_byte client_code o → b ≡ client_phase s.state
    → Keeps lays l m session_state_size session_state_in (session_state_bytes (session_fields b₀ s.session s.number.0 b)) (session_fields b₀ s.session s.number.0 b)
    → KeepsClient lays l m s
unfolding client_bytes client-made
client-kept s lays b₀ b o l m e f g k =
    end_kept lays l m client_in client-made _ s client-has-room (rw (client-back s.state)) (rw (f, e, g) at k)

pub client-short : (l : List ℕ) → length l < session_state_size → refused_client ≡ client_in l
unfolding client_in
client-short l h = rw (lt-ltb (length l) session_state_size h)

pub client-read : (l name : List ℕ) (n b : ℕ) (o : Bool) (s : ClientState) → session_state_size ≤ length l → name ≡ first_bytes session_size (take (length l - name_at) (drop name_at l))
    → n ≡ little l number_at 8 → b ≡ get_or l phase_at 0 → o ≡ is_open client_code l
    → s ≡ client_state_of o b → client name n s ≡ client_in l
unfolding client_in session_state_in
client-read l name n b o s h p q r u t = rw (t, r, q, p, u, part_to_end name_at l, le-ltb (length l) session_state_size h)

-- as many bytes as its layout has, where the name has ten
pub length-client : (s : Client) → length s.session ≡ session_size → length (client_bytes s) ≡ session_state_size
unfolding client_bytes
length-client s ten = length-session _ s.session s.number.0 _ ten

-- one that was read has ten
pub client-ten : (l : List ℕ) → length (client_in l).session ≡ session_size
unfolding client_in session_state_in
client-ten l = below_or_not _ (length l) session_state_size (λ h. rw (lt-ltb (length l) session_state_size h) refl) (λ h. rw (le-ltb (length l) session_state_size h) (name-ten (drop name_at l)))

pub client-promises : StatePromises KeepsClient session_state_size client_bytes
client-promises = state-promises session_state_size client_in client_bytes
