-- A plan stands for the sheet of its form. Definitions only.
use Rattle.alc.specs.Sheet.{Sheet}
use Rattle.sheet.specs.Form.{sheet_of}
use Rattle.plan.specs.declared.Plan.{Plan}

abbrev pub plan_sheet : Plan → Sheet
plan_sheet p = sheet_of p.sheet
