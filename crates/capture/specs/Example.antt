-- Document 01's printed example.
use Rattle.std.specs.Prelude.{ℕ, List, [], ◌∷◌, ◌++◌, ◌≡◌, replicate}
use Rattle.wire.specs.Text.{ascii, readroom}
use Rattle.moldudp64.specs.Written.{encoded, encoded_end}
use Rattle.feed.specs.Session.{Datagram, Message}
use Rattle.capture_settings.specs.Settings.{line_feed}
use Rattle.capture_settings.specs.Statements.{settings_text}
use Rattle.capture_records.specs.Records.{records_bytes}
use Rattle.capture.specs.Whole.{capture_text}

-- data from a number on, a heartbeat, and an end of session, all of READROOM01
abbrev pub data_at : ℕ → List Message → Datagram
data_at n ms = encoded readroom n ms

abbrev pub heartbeat_at : ℕ → Datagram
heartbeat_at n = encoded readroom n []

abbrev pub end_at : ℕ → Datagram
end_at n = encoded_end readroom n

-- messages 1 to 5
abbrev pub one : Message
one = ascii "a"

abbrev pub two : Message
two = ascii "bb"

abbrev pub three : Message
three = ascii "ccc"

abbrev pub four : Message
four = ascii "dddd"

abbrev pub five : Message
five = ascii "eeeee"

-- data 1 (2 messages), data 5 (1), heartbeat 6, data 2 (3), data 1 (2), data 5 (1), heartbeat 6, nineteen bytes, end 6
abbrev pub example_datagrams : List Datagram
example_datagrams =
    data_at 1 (one ∷ two ∷ [])
    ∷ data_at 5 (five ∷ [])
    ∷ heartbeat_at 6
    ∷ data_at 2 (two ∷ three ∷ four ∷ [])
    ∷ data_at 1 (one ∷ two ∷ [])
    ∷ data_at 5 (five ∷ [])
    ∷ heartbeat_at 6
    ∷ replicate 19 0
    ∷ end_at 6
    ∷ []

-- READROOM01, next 1, limit 100
abbrev pub example_capture : List ℕ
example_capture = settings_text readroom 1 100 ++ records_bytes example_datagrams

-- a line of text
abbrev pub text_line : List ℕ → List ℕ
text_line text = text ++ (line_feed ∷ [])

abbrev pub printed : List ℕ
printed =
    text_line (ascii "session=READROOM01")
    ++ text_line (ascii "next=6")
    ++ text_line (ascii "ended=yes")
    ++ text_line (ascii "delivered=5")
    ++ text_line (ascii "old=2")
    ++ text_line (ascii "quiet=1")
    ++ text_line (ascii "asked=2")
    ++ text_line (ascii "refused=1")

-- it prints exactly that
unfoldable pub PrintedExample : Type 0
PrintedExample = capture_text example_capture ≡ printed
