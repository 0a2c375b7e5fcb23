-- The refusal numbers of documents 01 and 02, by name; 0 is none.
use Rattle.std.specs.Prelude.{ℕ}

-- a Mold datagram under 20 bytes
abbrev pub datagram_short : ℕ
datagram_short = 11

-- a Mold datagram over 65,507 bytes, or a writer's total
abbrev pub datagram_long : ℕ
datagram_long = 12

-- the number is 0
abbrev pub number_zero : ℕ
number_zero = 13

-- for data, number + count is above 2^64 - 1
abbrev pub numbers_run_out : ℕ
numbers_run_out = 14

-- a block runs past the end
abbrev pub block_past_end : ℕ
block_past_end = 15

-- bytes stand after the last block
abbrev pub bytes_after_blocks : ℕ
bytes_after_blocks = 16

-- the session differs
abbrev pub session_differs : ℕ
session_differs = 17

-- the session has already ended
abbrev pub session_ended : ℕ
session_ended = 18

-- a bad starting setting, an account table over 1,024, or a packet's size, a store's numbers, slots or edges out of bounds
abbrev pub bad_setting : ℕ
bad_setting = 19

-- an end of session below the expected number
abbrev pub end_below_expected : ℕ
end_below_expected = 20

-- a packet's length is 0
abbrev pub length_zero : ℕ
length_zero = 21

-- a payload above 4,096 bytes
abbrev pub payload_long : ℕ
payload_long = 22

-- the letter is unknown, or of the wrong sender
abbrev pub letter_not_sent : ℕ
letter_not_sent = 23

-- the length is wrong for the letter
abbrev pub length_wrong : ℕ
length_wrong = 24

-- a bad session, number or reason field
abbrev pub field_bad : ℕ
field_bad = 25

-- the packet isn't taken in this state
abbrev pub packet_not_taken : ℕ
packet_not_taken = 31

-- the state is ended or closed
abbrev pub state_closed : ℕ
state_closed = 32

-- a login accepted doesn't match what was asked
abbrev pub login_not_asked : ℕ
login_not_asked = 33

-- a sequenced message at 2^64 - 1
abbrev pub numbers_used_up : ℕ
numbers_used_up = 34

-- the lent output is shorter than needed
abbrev pub output_short : ℕ
output_short = 41

-- over 65,534 messages
abbrev pub too_many_messages : ℕ
too_many_messages = 42

-- the lengths don't add up to the data
abbrev pub lengths_differ : ℕ
lengths_differ = 44

-- a writer is given an unsound username or password, a bad session or reason, or A number 0
abbrev pub field_not_written : ℕ
field_not_written = 46

-- a request that isn't 20 bytes
abbrev pub request_size : ℕ
request_size = 47

-- a request whose count is 0 or 65,535
abbrev pub request_count : ℕ
request_count = 48

-- the wanted number isn't in the store
abbrev pub not_in_store : ℕ
not_in_store = 51

-- a message alone doesn't fit the packet's size
abbrev pub message_long : ℕ
message_long = 52

-- a request's session isn't the store's
abbrev pub store_differs : ℕ
store_differs = 53

-- a run has no packet at that place
abbrev pub no_such_packet : ℕ
no_such_packet = 54
