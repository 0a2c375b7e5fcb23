-- The code, the stage and the session follow each other, and then the numbers do: all bytes of a reading.
use Rattle.std.proofs.Common.{rules, ◌≡◌, ◌<◌, ◌^◌, length}
use Rattle.host_missing.proofs.ReadingLaws.{reading-lays}
use Rattle.host_missing.proofs.put_fields.Goals as goal

pub returns : goal.returns
returns c =
    let x = c.args.reading in
    let ten : length x.notes.session ≡ 10 = search rules in
    let few : x.notes.missing.closed < 2 ^ 64 = search rules in
    let most : x.notes.missing.highest.0 < 2 ^ 64 = search rules in
    let n : c.left_of.result < 2 ^ 32 = search rules in
    reading-lays x.place x.notes.session x.notes.missing.refused x.notes.missing.closed x.notes.missing.highest.0 ten
    _ _ _ _ _ _ _ c.requires c.is_over.ensures c.open_byte-first.ensures c.stage_byte.ensures c.put_head.ensures c.left_of.ensures c.put_ranges.ensures n few most
