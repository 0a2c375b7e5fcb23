-- The replies are computed.
use mathlib.Core.Path.{refl}
use Rattle.wire.specs.Bytes.{bytes}
use Rattle.decimal.specs.Decimal.{digits, digits_up_to}
use Rattle.text_fields.specs.Number.{number_field}
use Rattle.soupbintcp_writer.specs.Packets.{head_bytes, encoded, accepted_payload}
use Rattle.soupbintcp_reply.specs.Reply.{reply_at}
use Rattle.soupbintcp_reply.specs.Statements.{ReplyBytes}

pub reply_bytes : ReplyBytes
unfolding bytes digits digits_up_to number_field head_bytes encoded accepted_payload reply_at
reply_bytes = record { granted = refl; not_authorised = refl; no_session = refl; no_other = refl }
