-- The laws of the leaf as it was, which are the library's own.
use borrow.Author.Rules.{rules}
use Rattle.wire.proofs.Numbers.{byte_past, read_past, read-8}

pub ruleset numbers = (byte_past, read_past, read-8, rules)
