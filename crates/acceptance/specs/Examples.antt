-- Document 01's "Either side of the line": the examples marked P, as one table under one statement.
use Rattle.std.specs.Prelude.{ℕ, ◌+◌, ◌-◌, false, ◌≡◌, replicate}
use mathlib.Core.List.{List, [], ◌∷◌, ◌++◌, Memᴰ}
use Rattle.wire.specs.Text.{ascii, readroom}
use Rattle.wire.specs.Bounds.{largest_number, blank}
use Rattle.wire.specs.Refusals.{datagram_short, numbers_run_out, bytes_after_blocks, field_bad}
use Rattle.wire.specs.Words.{Words, says, refuses}
use Rattle.moldudp64.specs.Downstream.{DownstreamKind, data_packet, downstream_of}
use Rattle.moldudp64.specs.Written as mold
use Rattle.receiver.specs.Table.{AnswerKind, deliver, old, ask}
use Rattle.receiver.specs.Receiver.{receiver, answer_of, receiver_after}
use Rattle.receiver.specs.Delivery.{messages_delivered}
use Rattle.text_fields.specs.Letters.{space}
use Rattle.text_fields.specs.Number.{number_field}
use Rattle.text_fields.specs.Sound.{username_size, password_size}
use Rattle.soupbintcp.specs.declared.packet.Sender.TheVariants.{Client}
use Rattle.soupbintcp.specs.Letters.{login, letter_login, login_payload_size}
use Rattle.soupbintcp.specs.Head.{head_size}
use Rattle.soupbintcp.specs.Fields.{not_authorized}
use Rattle.soupbintcp.specs.Front.{FrontKind, packet, front_of}
use Rattle.soupbintcp_writer.specs.Packets as soup
use Rattle.login.specs.declared.account.Account.{Account}
use Rattle.login.specs.Examples.{ann}
use Rattle.soupbintcp_session.specs.Answer as session
use Rattle.soupbintcp_server.specs.Server.{start_server, server_step}

-- ---- what is asked, and what it comes to

pub data Example : Type 0 where
  -- a receiver of READROOM01 with this n and this limit takes a datagram
  takes : ℕ → ℕ → List ℕ → Example
  -- a datagram is read
  reads : List ℕ → Example
  -- the front of a client's stream is read
  fronts : List ℕ → Example
  -- a server of READROOM01 with these account records takes a login with this entry
  logs_in : List Account → Account → Example

-- a receiver's answer, the messages that it delivers, and n after it
pub record Answered : Type 0 where
  pub reply : Words AnswerKind
  pub delivered : List (List ℕ)
  pub next : ℕ

abbrev pub Result : Example → Type 0
Result (takes n limit d) = Answered
Result (reads d) = Words DownstreamKind
Result (fronts l) = Words FrontKind
Result (logs_in table entry) = Words session.SessionAnswerKind

-- a login request, its number field as it stands there
abbrev pub login_stream : Account → List ℕ → List ℕ
login_stream entry number = soup.encoded letter_login (entry.username ++ entry.password ++ blank ++ number)

-- by the definitions that the public functions promise
unfoldable pub result_of : (e : Example) → Result e
result_of (takes n limit d) =
    record {
      reply = answer_of (receiver readroom n limit false) d;
      delivered = messages_delivered (answer_of (receiver readroom n limit false) d) d;
      next = (receiver_after (receiver readroom n limit false) d).next.0;
    }
result_of (reads d) = downstream_of d
result_of (fronts l) = front_of Client l
result_of (logs_in table entry) = (server_step table (start_server readroom 5) (login_stream entry (number_field 0))).reply

-- ---- the table

pub record ExampleRow : Type 0 where
  pub example : Example
  pub expected : Result example

abbrev pub example_row : (e : Example) → Result e → ExampleRow
example_row e r = record { example = e; expected = r }

-- ask from a number, for so many; n stays
abbrev pub asked : ℕ → ℕ → Answered
asked from count = record { reply = says ask (from ∷ count ∷ []); delivered = []; next = from }

-- data of READROOM01 from a number on; no messages make a heartbeat
abbrev pub data_from : ℕ → List (List ℕ) → List ℕ
data_from f ms = mold.encoded readroom f ms

-- the messages 2, 3 and 4 of a session: `two`, one of no bytes, `four`
abbrev pub two : List ℕ
two = ascii "two"

abbrev pub three : List ℕ
three = []

abbrev pub four : List ℕ
four = ascii "four"

-- `ann` with a password of ten equal bytes, and an account of such bytes alone
abbrev pub ann_with : ℕ → Account
ann_with b = record { username = ann.username; password = replicate password_size b }

abbrev pub all_of : ℕ → Account
all_of b = record { username = replicate username_size b; password = replicate password_size b }

-- J with A
abbrev pub rejected_a : Words session.SessionAnswerKind
rejected_a = says session.rejected (not_authorized ∷ [])

-- a password of ten such bytes: J with A, where the record has another password, where it has that same one, where a
-- good record follows that one, where the whole record is blank, and where record and entry are such bytes alone
abbrev pub never : ℕ → List ExampleRow
never b =
    example_row (logs_in (ann ∷ []) (ann_with b)) rejected_a
    ∷ example_row (logs_in (ann_with b ∷ []) (ann_with b)) rejected_a
    ∷ example_row (logs_in (ann_with b ∷ ann ∷ []) (ann_with b)) rejected_a
    ∷ example_row (logs_in (all_of space ∷ []) (ann_with b)) rejected_a
    ∷ example_row (logs_in (all_of b ∷ []) (all_of b)) rejected_a
    ∷ []

abbrev pub rows : List ExampleRow
rows =
    -- n 3, data 5: ask 3 for 2 with limit 100, for 1 with limit 1
    example_row (takes 3 100 (data_from 5 (two ∷ []))) (asked 3 2)
    ∷ example_row (takes 3 1 (data_from 5 (two ∷ []))) (asked 3 1)
    -- data 2 with 3 messages: n 3 delivers the messages 3 and 4, and n is 5; with n 5 it is old
    ∷ example_row (takes 3 100 (data_from 2 (two ∷ three ∷ four ∷ [])))
    (record { reply = says deliver (3 ∷ 2 ∷ 1 ∷ []); delivered = three ∷ four ∷ []; next = 5 })
    ∷ example_row (takes 5 100 (data_from 2 (two ∷ three ∷ four ∷ [])))
    (record { reply = says old []; delivered = []; next = 5 })
    -- n 1, heartbeat 2^64 - 1, limit 65,534: ask 1 for 65,534
    ∷ example_row (takes 1 65534 (data_from largest_number [])) (asked 1 65534)
    -- data at 2^64 - 2: one message is read, two are 14
    ∷ example_row (reads (data_from (largest_number - 1) (two ∷ []))) (says data_packet ((largest_number - 1) ∷ 1 ∷ []))
    ∷ example_row (reads (data_from (largest_number - 1) (two ∷ four ∷ []))) (refuses numbers_run_out)
    -- 19 bytes; a heartbeat of 21 bytes
    ∷ example_row (reads (replicate 19 0)) (refuses datagram_short)
    ∷ example_row (reads (data_from 1 [] ++ (0 ∷ []))) (refuses bytes_after_blocks)
    -- the number field of 2^64 - 1 is read, with its value; that of 2^64 is 25
    ∷ example_row (fronts (login_stream ann (ascii "18446744073709551615")))
    (says (packet login) ((head_size + login_payload_size) ∷ largest_number ∷ []))
    ∷ example_row (fronts (login_stream ann (ascii "18446744073709551616"))) (refuses field_bad)
    -- the right password is accepted; ten zero bytes and ten spaces are not
    ∷ example_row (logs_in (ann ∷ []) ann) (says session.accepted (5 ∷ []))
    ∷ never 0
    ++ never space

-- every row's example comes to what the row expects
abbrev pub EveryExample : Type 0
EveryExample = (r : ExampleRow) → Memᴰ r rows → result_of r.example ≡ r.expected
