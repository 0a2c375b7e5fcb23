-- No more records are used than there are.
use lib.Seq.{length-take-le}
use Rattle.std.proofs.Common.{arith, sym}
use Rattle.accounts.proofs.AccountsLaws.{used-most}
use Rattle.accounts.proofs.lookup_among.Goals as goal

pub slice_bounds-table-end : goal.slice_bounds-table-end
slice_bounds-table-end c = omega (arith, used-most c.args.used, c.used_of.ensures)

pub slice_bounds-lookup-end : goal.slice_bounds-lookup-end
slice_bounds-lookup-end c =
    sym (length-take-le c.used_of.result c.args.table (omega (arith, used-most c.args.used, c.used_of.ensures)))
