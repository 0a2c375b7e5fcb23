-- The round trips of every writer: what is written reads back, and what is accepted writes back.
use mathlib.Core.Path.{refl}
use Rattle.soupbintcp.specs.Letters.{letter_for, letter_row, sends}
use Rattle.soupbintcp_writer.specs.RoundTrips.{PayloadKinds, AloneKinds, EveryPacketWritesBack, PayloadRoundTrip, LetterRoundTrip, RejectedRoundTrip, AcceptedRoundTrip, LoginRoundTrip}
use Rattle.soupbintcp_writer.proofs.BackLaws.{payload-back, letter-back, rejected-back, accepted-back, login-back}
use Rattle.soupbintcp_writer.proofs.AgainLaws.{every-again, payload-again, payload-may, letter-again, rejected-again, rejected-may, accepted-again, accepted-may, login-again, login-may}

pub every_packet : EveryPacketWritesBack
every_packet = every-again

payload-kinds : PayloadKinds
unfolding letter_for letter_row sends
payload-kinds =
    record {
      server_debug = record { sent = refl; least = refl; most = refl };
      client_debug = record { sent = refl; least = refl; most = refl };
      is_a_sequenced = record { sent = refl; least = refl; most = refl };
      is_an_unsequenced = record { sent = refl; least = refl; most = refl };
    }

alone-kinds : AloneKinds
unfolding letter_for letter_row sends
alone-kinds =
    record {
      is_server_heartbeat = record { sent = refl; least = refl; most = refl };
      is_end_of_session = record { sent = refl; least = refl; most = refl };
      is_client_heartbeat = record { sent = refl; least = refl; most = refl };
      is_logout = record { sent = refl; least = refl; most = refl };
    }

pub payload-round-trip : PayloadRoundTrip
payload-round-trip = record { of = payload-kinds; reads_back = payload-back; writes_back = payload-again; may_be_written = payload-may }

pub letter-round-trip : LetterRoundTrip
letter-round-trip = record { of = alone-kinds; reads_back = letter-back; writes_back = letter-again }

pub rejected-round-trip : RejectedRoundTrip
rejected-round-trip =
    record { reads_back = rejected-back; writes_back = λ l size b small e. rejected-again l size b e small; may_be_written = rejected-may }

pub accepted-round-trip : AcceptedRoundTrip
accepted-round-trip =
    record {
      reads_back = accepted-back;
      writes_back = λ l size n small e z. accepted-again l size n e small z;
      may_be_written = accepted-may;
    }

pub login-round-trip : LoginRoundTrip
login-round-trip =
    record {
      reads_back = login-back;
      writes_back = λ l size n small e z. login-again l size n e small z;
      may_be_written = login-may;
    }
