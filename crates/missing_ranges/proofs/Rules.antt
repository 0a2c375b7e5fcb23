-- The laws that the functions' proofs need, for `search`: one set for each task.
use mathlib.Core.Path.{refl}
use borrow.Author.Rules.{rules}
use Rattle.missing_ranges.proofs.EdgeLaws.{odd_code, lay-both, lay-first, lay-second, lay-none, room-first, room_next, room-second, after_both, after_first, after-second, after_none}
use Rattle.missing_ranges.proofs.PlaceLaws.{halving-start, halving-index, halving-high, halving-low, halving-end, halving-less-high, halving-less-low, of_zero, of-past, past-within, past-among, place-among}
use Rattle.missing_ranges.proofs.MoveLaws.{moved-put}
use Rattle.missing_ranges.proofs.ReplaceLaws.{up-end, same_end, skip-end, down-end, down-room, up_room, lay-room, lay-room-up, fit-sub}
use Rattle.missing_ranges.proofs.ShapeLaws.{later_second, later_first, many-open, many-closed, last-there, last-e}
use Rattle.missing_ranges.proofs.NoteLaws.{usable-refused, usable-many, usable-words, used-twice, used-edges, used-last, used-there, used-ready, start_none, start-some, start-room, note-not, none-many, none_kept, ready-few, ready-there, ready-twice, ready-edges, cut-room, cut-fitting, cut-many, cut-kept}
use Rattle.missing_ranges.proofs.ListingLaws.{counting-start, counting-step, count_none, count-shut, count-open, list-none, list-twice, list-edges, list-more, list-last, list-part, list_open, list-shut, sum-none, sum-all, no-range, range-twice, range-from, range-next, range-edge, range-closed, range-open}
use Rattle.missing_ranges.proofs.PromiseLaws.{missing-promises}

pub ruleset places = (odd_code, halving-start, halving-index, halving-high, halving-low, halving-end, halving-less-high, halving-less-low, of_zero, of-past, rules)

pub ruleset middles = (lay-both, lay-first, lay-second, lay-none, room-first, room_next, room-second, after_both, after_first, after-second, after_none, rules)

pub ruleset replaces = (up-end, same_end, skip-end, down-end, down-room, up_room, moved-put, lay-room, lay-room-up, fit-sub, rules)

pub ruleset smalls = (later_second, later_first, many-open, many-closed, last-there, last-e, rules)

pub ruleset usables = (usable-refused, usable-many, usable-words, rules)

pub ruleset plans = (past-within, past-among, place-among, refl, rules)

pub ruleset notes = (used-twice, used-edges, used-last, used-there, used-ready, note-not, none-many, none_kept, rules)

pub ruleset cuts = (ready-few, ready-there, ready-twice, ready-edges, cut-room, cut-fitting, cut-many, cut-kept, rules)

pub ruleset starts = (start_none, start-some, start-room, missing-promises, rules)

pub ruleset totals = (counting-start, counting-step, count_none, count-shut, count-open, rules)

pub ruleset counts = (list-none, list-twice, list-edges, list-more, list-last, list-part, list_open, list-shut, sum-none, sum-all, rules)

pub ruleset lists = (no-range, range-twice, range-from, range-next, range-edge, range-closed, range-open, rules)

pub ruleset ranging = (cuts, notes, plans, smalls, starts, usables)
