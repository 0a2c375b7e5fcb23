-- SoupBinTCP logical packets, as they are written, and the grounds of 22 and 46.
use Rattle.std.specs.Prelude.{ℕ, ◌+◌, List, [], ◌∷◌, ◌++◌, Bool, true, false, length, ltb, eqb, if◌then◌else◌}
use Rattle.wire.specs.Bounds.{length_size}
use Rattle.wire.specs.Refusals.{payload_long, field_not_written}
use Rattle.wire.specs.Bytes.{bytes}
use Rattle.text_fields.specs.Session.{good_session}
use Rattle.text_fields.specs.Number.{number_field}
use Rattle.text_fields.specs.Sound.{sound_username, sound_password}
use Rattle.soupbintcp.specs.Letters.{most_payload}
use Rattle.soupbintcp.specs.Fields.{good_reason}

-- the length counts the letter and the payload
unfoldable pub head_bytes : ℕ → ℕ → List ℕ
head_bytes letter k = bytes length_size (k + 1) ++ (letter ∷ [])

unfoldable pub encoded : ℕ → List ℕ → List ℕ
encoded letter payload = head_bytes letter (length payload) ++ payload

-- ---- + S U: any payload of at most 4,096 bytes

unfoldable pub payload_ground : List ℕ → ℕ
payload_ground p = if ltb most_payload (length p) then payload_long else 0

-- ---- A: a session that isn't blank, a number of at least 1

unfoldable pub accepted_ground : List ℕ → ℕ → ℕ
accepted_ground session n =
    if good_session false session then (if eqb n 0 then field_not_written else 0)
    else field_not_written

unfoldable pub accepted_payload : List ℕ → ℕ → List ℕ
accepted_payload session n = session ++ number_field n

-- ---- J: a good reason

unfoldable pub reason_ground : ℕ → ℕ
reason_ground b = if good_reason b then 0 else field_not_written

-- ---- L: username and password sound, a session that may be blank, any number

unfoldable pub good_login : List ℕ → List ℕ → List ℕ → Bool
good_login username password session =
    if sound_username username then (if sound_password password then good_session true session else false)
    else false

unfoldable pub login_ground : List ℕ → List ℕ → List ℕ → ℕ
login_ground username password session = if good_login username password session then 0 else field_not_written

unfoldable pub login_payload : List ℕ → List ℕ → List ℕ → ℕ → List ℕ
login_payload username password session n = username ++ password ++ session ++ number_field n
