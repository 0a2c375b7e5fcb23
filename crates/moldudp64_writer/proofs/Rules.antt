-- The laws that the functions' proofs need, for `search`: one set for each task.
use borrow.Author.Rules.{rules}
use mathlib.Core.Path.{refl}
use Rattle.wire.proofs.TestLaws.{tests}
use Rattle.wire.proofs.Refusing.{refusals}
use Rattle.wire.proofs.Outputs.{writes-refused}
use Rattle.moldudp64_writer.proofs.HeaderLaws.{header-put}
use Rattle.moldudp64_writer.proofs.WriterLaws.{write-short, write_done, header-size, end_refused, end_short, end-done, packet-42, packet-44, packet-13, packet-14, packet-12, packet-12-data, packet-good, size_fits, count_fits, packet-whole, packet-short, packet-room, packet-done}
use Rattle.moldudp64_writer.proofs.LengthLaws.{sum-start, sum-end, left-short, left-next, left_end, left-none}
use Rattle.moldudp64_writer.proofs.LayingLaws.{laying-start, laying-end, laying-kept, laying-next, next-length, next-count, next_place, next-after}
use Rattle.moldudp64_writer.proofs.RoundTripLaws.{packet-round-trip, end-round-trip, request-round-trip}

pub ruleset headers = (header-put, rules)

pub ruleset lengths = (sum-start, sum-end, left-short, left-next, left_end, left-none, refl, rules)

pub ruleset grounds = (packet-42, packet-44, packet-13, packet-14, packet-12, packet-12-data, packet-good, refl, tests, refusals, rules)

pub ruleset layings = (laying-start, laying-end, laying-kept, laying-next, next-length, next-count, next_place, next-after, rules)

pub ruleset packets = (writes-refused, size_fits, count_fits, packet-whole, packet-short, packet-room, packet-done, packet-round-trip, refusals, rules)

pub ruleset ends = (end_refused, end_short, end-done, end-round-trip, tests, rules)

pub ruleset requests = (writes-refused, write-short, write_done, header-size, request-round-trip, refusals, rules)
