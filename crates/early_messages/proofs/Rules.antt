-- The laws that the functions' proofs need, for `search`: one set for each task.
use borrow.Author.Rules.{rules}
use Rattle.early_holding.proofs.HoldingLaws.{above-not, above-so, slot-fits, length-fits}
use Rattle.early_messages.proofs.CountLaws.{count-slots, count-lengths, count-old, count-quiet, count-ask, count-ended, count-refused, count-deliver}
use Rattle.early_messages.proofs.GivesLaws.{places_are_delivered, places_exist}
use Rattle.early_messages.proofs.PartLaws.{slot-cut, slot_whole, locate-none, locate-held, locate-there, message-fits, message-slots, message-datagram, message-held, message-there, parts-are-messages}
use Rattle.early_messages.proofs.WalkLaws.{walk_start, walk-done, walk-next, walk_none, walk-held, walk-there, walks-the-delivery}

pub ruleset counts = (count-slots, count-lengths, count-old, count-quiet, count-ask, count-ended, count-refused, count-deliver, rules)

pub ruleset slots = (slot-cut, slot_whole, slot-fits, length-fits, rules)

pub ruleset locates = (above-not, above-so, locate-none, locate-held, locate-there, parts-are-messages, places_exist, rules)

pub ruleset messages = (message-fits, message-slots, message-datagram, message-held, message-there, places_are_delivered, rules)

pub ruleset walks = (walk_start, walk-done, walk-next, walk_none, walk-held, walk-there, walks-the-delivery, rules)
