-- What is left of the seeds that a label asks for: those of the lines that are left. Definitions only.
use Rattle.std.specs.Prelude.{List}
use Rattle.alc.specs.Bits.{members}
use Rattle.alc.specs.Lists.{each}
use Rattle.alc.specs.declared.Ask.{Ask}
use Rattle.plan.specs.Plan.{plan_sheet}
use Rattle.seeds.specs.declared.asking.Asks.{Asks}
use Rattle.seeds.specs.Asks.{asks_at}

abbrev pub asks_left : Asks → List Ask
asks_left a = each (asks_at (plan_sheet a.plan.now) a.label) (members 32 a.left.left)
