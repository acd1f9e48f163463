-- `force::Query::on`: a query is on the sheet, since port and class were tested. By numbers, so that the check says of a class behind the last line where it fails.
use Rattle.std.proofs.Common.{arith}
use Rattle.sets.proofs.force.Query.on.Goals as goal

pub invariant_of-result : goal.invariant_of-result
invariant_of-result c = record {
  on_sheet = (omega (arith, c.individual_count.ensures.0, c.if-individual_count-port.false), omega (arith, c.line_count.ensures.0, c.if-line_count-class.false));
}
