-- The states that hosts keep: what is promised of each, and that each is open by its first byte alone.
use Rattle.std.specs.Prelude.{ℕ, ◌<◌, ◌≤◌, List, [], ◌∷◌, Bool, true, false, not, ◌≡◌, length, get_or, eqb, if◌then◌else◌}
use Rattle.capture.specs.Reading.{is_over}
use Rattle.capture_events.specs.Events.{is_over_at}
use Rattle.capture_events.specs.Next.{at_of}
use Rattle.host_answers.specs.Answers.{is_one_of}
use Rattle.host_states.specs.States.{cursor_code, receiver_code, server_code, client_code, reading_code, transmitter_code}
use Rattle.host_states.specs.States.{early_code, walk_code, missing_code, StatePromises}
use Rattle.host_cursor.specs.Cursor.{cursor_size, cursor_bytes, cursor_in, KeepsCursor}
use Rattle.host_receiver.specs.Receiver.{receiver_size, receiver_bytes, receiver_in, KeepsReceiver}
use Rattle.host_early.specs.Early.{early_size, kept_bytes, early_in, KeepsKept}
use Rattle.host_early.specs.Walk.{walk_size, walk_bytes, walk_in, KeepsWalk}
use Rattle.host_transmitter.specs.Progress.{progress_size, progress_bytes, progress_in, past_all, KeepsProgress}
use Rattle.host_session.specs.Session.{session_state_size}
use Rattle.host_server.specs.Server.{server_is_open, server_bytes, server_in, KeepsServer}
use Rattle.host_client.specs.Client.{client_is_open, client_bytes, client_in, KeepsClient}
use Rattle.host_capture.specs.Reading.{reading_size, reading_bytes, reading_in, KeepsReading}
use Rattle.host_missing.specs.Reading as host-missing

-- of each state: a refusal changes no byte of it; what is laid are its bytes, and no other
pub record HostStates : Type 0 where
  pub cursor : StatePromises KeepsCursor cursor_size cursor_bytes
  pub receiver : StatePromises KeepsReceiver receiver_size receiver_bytes
  pub early : StatePromises KeepsKept early_size kept_bytes
  pub walk : StatePromises KeepsWalk walk_size walk_bytes
  pub transmitter : StatePromises KeepsProgress progress_size progress_bytes
  pub server : StatePromises KeepsServer session_state_size server_bytes
  pub client : StatePromises KeepsClient session_state_size client_bytes
  pub reading : StatePromises KeepsReading reading_size reading_bytes
  pub missing : StatePromises host-missing.KeepsMissing host-missing.missing_size host-missing.missing_bytes

-- ---- open by the first byte: zeros are no open state, and neither are another kind's bytes

-- a kind of this size and code: any bytes are open as it exactly when the first of them is its code; too few never are
pub record OpenExactly {S : Type 0} (reads : List ℕ → S) (open? : S → Bool) (size code : ℕ) : Type 0 where
  pub by_code : (l : List ℕ) → size ≤ length l → open? (reads l) ≡ eqb (get_or l 0 0) code
  pub too_few : (l : List ℕ) → length l < size → open? (reads l) ≡ false

-- no number stands in the list twice
unfoldable pub all_different : List ℕ → Bool
all_different [] = true
all_different (x ∷ xs) = if is_one_of x xs then false else all_different xs

pub record OpenByCode : Type 0 where
  -- a receiver that isn't ended, a session that waits, has asked or is in, a reading of either kind that isn't over
  pub receiver : OpenExactly receiver_in (λ r. not r.ended) receiver_size receiver_code
  pub early : OpenExactly early_in (λ r. not r.base.ended) early_size early_code
  pub server : OpenExactly server_in (λ s. server_is_open s.state) session_state_size server_code
  pub client : OpenExactly client_in (λ c. client_is_open c.state) session_state_size client_code
  pub reading : OpenExactly reading_in (λ x. not (is_over x.stage)) reading_size reading_code
  pub missing : OpenExactly host-missing.reading_in (λ x. not (is_over_at (at_of x.place))) host-missing.missing_size
      missing_code
  -- bytes whose first isn't a cursor's code, and too few, have no messages left
  pub cursor : (l : List ℕ) → (get_or l 0 0 ≡ cursor_code → ⊥) → (cursor_in l).left.0 ≡ 0
  pub cursor_too_few : (l : List ℕ) → length l < cursor_size → (cursor_in l).left.0 ≡ 0
  -- and so have those whose first isn't a walk's
  pub walk : (l : List ℕ) → (get_or l 0 0 ≡ walk_code → ⊥) → (walk_in l).left.0 ≡ 0
  pub walk_too_few : (l : List ℕ) → length l < walk_size → (walk_in l).left.0 ≡ 0
  -- and a transmitter's are past the end of every run
  pub transmitter : (l : List ℕ) → (get_or l 0 0 ≡ transmitter_code → ⊥) → progress_in l ≡ past_all
  pub transmitter_too_few : (l : List ℕ) → length l < progress_size → progress_in l ≡ past_all
  -- no two kinds share a code, and 0 is no kind's
  pub apart :
      all_different (0 ∷ cursor_code ∷ receiver_code ∷ server_code ∷ client_code ∷ reading_code ∷ transmitter_code ∷ early_code
      ∷ walk_code
      ∷ missing_code
      ∷ [])
      ≡ true
