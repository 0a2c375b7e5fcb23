-- The laws that the functions' proofs need, for `search`: one set for each task.
use borrow.Author.Rules.{rules}
use Rattle.exports_early_deliver.proofs.LayLaws.{place-laid, second_fits, third-fits, laying-start, laying-room, laying-word, laying-kept, laying-step, laying-end, lacks-yes, lacks-no, lays-none, room-so}
use Rattle.exports_early_deliver.proofs.PlaceLaws.{places_are_messages, enough_places, still_there}
use Rattle.exports_early_deliver.proofs.RunLaws.{hands_on}
use Rattle.exports_early_deliver.proofs.DeliverLaws.{delivers-short, delivers-wordless, delivers-few, delivers_all, delivers-only}

pub ruleset laying = (place-laid, second_fits, third-fits, laying-start, laying-room, laying-word, laying-kept, laying-step, laying-end, rules)

pub ruleset lacking = (lacks-yes, lacks-no, lays-none, room-so, rules)

pub ruleset delivering = (delivers-few, delivers_all, rules)

pub ruleset calls = (hands_on, places_are_messages, enough_places, still_there, delivers-short, delivers-wordless, delivers-only, rules)
