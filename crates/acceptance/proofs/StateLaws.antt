-- The states that hosts keep.
use Prim.Native.Nat.{ℕ, ◌<◌}
use mathlib.Core.List.{List}
use mathlib.Core.Bool.{Bool, true, false, not}
use mathlib.Core.Path.{◌≡◌, refl}
use lib.ListN.{length, get_or}
use lib.Dec.{eqb}
use borrow.Author.Tests.{lt-ltb, le-ltb, ne_eqb}
use Rattle.std.specs.Prelude.{if◌then◌else◌}
use Rattle.wire.proofs.Cases.{below_or_not}
use Rattle.soupbintcp_server.specs.declared.server.ServerState.TheVariants as server
use Rattle.soupbintcp_client.specs.declared.client.ClientState.TheVariants as client
use Rattle.capture.specs.declared.reading.Stage.TheVariants as stage
use Rattle.capture.specs.Reading.{is_over}
use Rattle.capture_events.specs.declared.place.Place.TheVariants as place
use Rattle.capture_events.specs.Events.{is_over_at}
use Rattle.capture_events.specs.Next.{at_of}
use Rattle.host_answers.specs.Answers.{is_one_of}
use Rattle.host_states.specs.States.{cursor_code, receiver_code, server_code, client_code, reading_code, transmitter_code, early_code, walk_code, missing_code, is_open}
use Rattle.host_cursor.specs.Cursor.{cursor_size, cursor_in}
use Rattle.host_cursor.proofs.CursorLaws.{cursor-promises}
use Rattle.host_receiver.specs.Receiver.{receiver_size, receiver_in}
use Rattle.host_receiver.proofs.ReceiverLaws as kept-receiver
use Rattle.host_early.specs.Early.{early_size, early_in}
use Rattle.host_early.specs.Walk.{walk_size, walk_in}
use Rattle.host_early.proofs.EarlyLaws.{kept-promises}
use Rattle.host_early.proofs.WalkLaws.{walk-promises}
use Rattle.host_transmitter.specs.Progress.{progress_size, progress_in, past_all}
use Rattle.host_transmitter.proofs.ProgressLaws.{progress-promises}
use Rattle.host_session.specs.Session.{session_state_size}
use Rattle.host_server.specs.Server.{server_state_of, server_is_open, server_in}
use Rattle.host_server.proofs.ServerLaws as kept-server
use Rattle.host_client.specs.Client.{client_state_of, client_is_open, client_in}
use Rattle.host_client.proofs.ClientLaws as kept-client
use Rattle.host_capture.specs.Reading.{reading_size, stage_of, reading_in}
use Rattle.host_capture.proofs.ReadingLaws.{reading-promises}
use Rattle.host_missing.specs.Reading as host-missing
use Rattle.host_missing.proofs.ReadingLaws as kept-missing
use Rattle.acceptance.specs.States.{HostStates, OpenExactly, all_different, OpenByCode}

pub host_states : HostStates
host_states =
    record {
      cursor = cursor-promises;
      receiver = kept-receiver.receiver-promises;
      early = kept-promises;
      walk = walk-promises;
      transmitter = progress-promises;
      server = kept-server.server-promises;
      client = kept-client.client-promises;
      reading = reading-promises;
      missing = kept-missing.reading-promises;
    }

-- ---- by its first byte

not-not : (b : Bool) → not (not b) ≡ b
not-not true = refl
not-not false = refl

receiver-open : OpenExactly receiver_in (λ r. not r.ended) receiver_size receiver_code
unfolding receiver_in is_open
receiver-open =
    record {
      by_code = λ l h. rw (le-ltb (length l) receiver_size h) (not-not (eqb (get_or l 0 0) receiver_code));
      too_few = λ l h. rw (lt-ltb (length l) receiver_size h);
    }

early-open : OpenExactly early_in (λ r. not r.base.ended) early_size early_code
unfolding early_in is_open
early-open =
    record {
      by_code = λ l h. rw (le-ltb (length l) early_size h) (not-not (eqb (get_or l 0 0) early_code));
      too_few = λ l h. rw (lt-ltb (length l) early_size h);
    }

server-so : (b : Bool) (n : ℕ) → server_is_open (server_state_of b n) ≡ b
unfolding server_state_of server_is_open
server-so true n = go (eqb n 2)
  where
    go : (c : Bool) → server_is_open (if c then server.In else server.Waiting) ≡ true
    go true = refl
    go false = refl
server-so false n = refl

server-open : OpenExactly server_in (λ s. server_is_open s.state) session_state_size server_code
unfolding server_in is_open server_is_open
server-open =
    record {
      by_code = λ l h. rw (le-ltb (length l) session_state_size h) (server-so (eqb (get_or l 0 0) server_code) _);
      too_few = λ l h. rw (lt-ltb (length l) session_state_size h);
    }

client-so : (b : Bool) (n : ℕ) → client_is_open (client_state_of b n) ≡ b
unfolding client_state_of client_is_open
client-so true n = go (eqb n 2)
  where
    go : (c : Bool) → client_is_open (if c then client.In else client.Asked) ≡ true
    go true = refl
    go false = refl
client-so false n = go (eqb n 3)
  where
    go : (c : Bool) → client_is_open (if c then client.Ended else client.Closed) ≡ false
    go true = refl
    go false = refl

client-open : OpenExactly client_in (λ c. client_is_open c.state) session_state_size client_code
unfolding client_in is_open client_is_open
client-open =
    record {
      by_code = λ l h. rw (le-ltb (length l) session_state_size h) (client-so (eqb (get_or l 0 0) client_code) _);
      too_few = λ l h. rw (lt-ltb (length l) session_state_size h);
    }

reading-so : (b : Bool) (n : ℕ) → not (is_over (stage_of b n)) ≡ b
unfolding stage_of is_over
reading-so true n = go (eqb n 2)
  where
    go : (c : Bool) → not (is_over (if c then stage.Records else stage.Settings)) ≡ true
    go true = refl
    go false = refl
reading-so false n = go (eqb n 3)
  where
    go : (c : Bool) → not (is_over (if c then stage.Done else stage.Refused)) ≡ false
    go true = refl
    go false = refl

reading-open : OpenExactly reading_in (λ x. not (is_over x.stage)) reading_size reading_code
unfolding reading_in is_open is_over
reading-open =
    record {
      by_code = λ l h. rw (le-ltb (length l) reading_size h) (reading-so (eqb (get_or l 0 0) reading_code) _);
      too_few = λ l h. rw (lt-ltb (length l) reading_size h);
    }

missing-so : (b : Bool) (n left : ℕ) → not (is_over_at (at_of (host-missing.place_of b n left))) ≡ b
unfolding host-missing.place_of is_over_at at_of
missing-so true n left = go (eqb n 2)
  where
    go : (c : Bool) → not (is_over_at (at_of (if c then place.Records left else place.Settings))) ≡ true
    go true = refl
    go false = refl
missing-so false n left = go (eqb n 3)
  where
    go : (c : Bool) → not (is_over_at (at_of (if c then place.Done else place.Refused))) ≡ false
    go true = refl
    go false = refl

missing-open : OpenExactly host-missing.reading_in (λ x. not (is_over_at (at_of x.place))) host-missing.missing_size missing_code
unfolding host-missing.reading_in is_open is_over_at at_of
missing-open =
    record {
      by_code = λ l h. rw (le-ltb (length l) host-missing.missing_size h) (missing-so (eqb (get_or l 0 0) missing_code) _ _);
      too_few = λ l h. rw (lt-ltb (length l) host-missing.missing_size h);
    }

cursor-none : (l : List ℕ) → (get_or l 0 0 ≡ cursor_code → ⊥) → (cursor_in l).left.0 ≡ 0
unfolding cursor_in is_open
cursor-none l e =
    below_or_not _ (length l) cursor_size (λ h. rw (lt-ltb (length l) cursor_size h))
    (λ h. rw (le-ltb (length l) cursor_size h, ne_eqb (get_or l 0 0) cursor_code e))

cursor-few : (l : List ℕ) → length l < cursor_size → (cursor_in l).left.0 ≡ 0
unfolding cursor_in
cursor-few l h = rw (lt-ltb (length l) cursor_size h)

walk_none : (l : List ℕ) → (get_or l 0 0 ≡ walk_code → ⊥) → (walk_in l).left.0 ≡ 0
unfolding walk_in is_open
walk_none l e =
    below_or_not _ (length l) walk_size (λ h. rw (lt-ltb (length l) walk_size h))
    (λ h. rw (le-ltb (length l) walk_size h, ne_eqb (get_or l 0 0) walk_code e))

walk-few : (l : List ℕ) → length l < walk_size → (walk_in l).left.0 ≡ 0
unfolding walk_in
walk-few l h = rw (lt-ltb (length l) walk_size h)

transmitter-past : (l : List ℕ) → (get_or l 0 0 ≡ transmitter_code → ⊥) → progress_in l ≡ past_all
unfolding progress_in is_open
transmitter-past l e =
    below_or_not _ (length l) progress_size (λ h. rw (lt-ltb (length l) progress_size h))
    (λ h. rw (le-ltb (length l) progress_size h, ne_eqb (get_or l 0 0) transmitter_code e))

transmitter-few : (l : List ℕ) → length l < progress_size → progress_in l ≡ past_all
unfolding progress_in
transmitter-few l h = rw (lt-ltb (length l) progress_size h)

pub open_by_code : OpenByCode
unfolding all_different is_one_of
open_by_code =
    record {
      receiver = receiver-open;
      early = early-open;
      server = server-open;
      client = client-open;
      reading = reading-open;
      missing = missing-open;
      cursor = cursor-none;
      cursor_too_few = cursor-few;
      walk = walk_none;
      walk_too_few = walk-few;
      transmitter = transmitter-past;
      transmitter_too_few = transmitter-few;
      apart = refl;
    }
