-- The laws that the functions' proofs need, for `search`: one set for each file of src/.
use borrow.Author.Rules.{rules}
use Rattle.wire.proofs.Numbers.{byte_past, read_past, read-2, read-8, read-front, read-rest, read_none, read_more, read_all, times_fits, more_fits}
use Rattle.wire.proofs.PartLaws.{part_none, part-rest, part-all, too_few, first-chunk}
use Rattle.wire.proofs.Rooms.{no_room, number-room, count_room}
use Rattle.wire.proofs.Outputs.{output-laws, no-room-there, room-there, room-so, room-short, room-ok, room-short-so, put-none, writes-refused, lay-over, lay_done, laid-bytes, laid-16, laid-64}
use Rattle.wire.proofs.Copy.{copied-start, copied-step, copied-more, copied-end, copied-kept}
use Rattle.wire.proofs.Refusing.{refusals}
use Rattle.wire.proofs.Same.{same-beyond, same-cut, same-there, rest-room, eight-so, two-so, begins-unlike, begins-like, name-unlike, name-whole}

pub ruleset rooms = (no_room, number-room, count_room, rules)

pub ruleset numbers = (byte_past, read_past, read-2, read-8, read-front, read-rest, read_none, read_more, read_all, times_fits, more_fits, rules)

pub ruleset parts = (part_none, part-rest, part-all, too_few, first-chunk, rules)

pub ruleset outputs = (no-room-there, room-there, room-so, room-short, room-ok, room-short-so, put-none, writes-refused, lay-over, lay_done, laid-bytes, laid-16, laid-64, output-laws, refusals, rules)

pub ruleset copies = (copied-start, copied-step, copied-more, copied-end, copied-kept, outputs)

pub ruleset names = (same-beyond, same-cut, same-there, rest-room, eight-so, two-so, begins-unlike, begins-like, name-unlike, name-whole, rules)
