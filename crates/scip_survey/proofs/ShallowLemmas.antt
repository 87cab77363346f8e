-- The values of records, and of what is wrong, don't nest deep.
use Rattle.std.proofs.Common.{◌≤◌, arith}
use Rattle.std.specs.Prelude.{Option, None, Some}
use Rattle.serde_json.specs.Data.{depth, string}
use Rattle.serde_json.specs.Read.{max_depth}
use Rattle.scip_records.specs.Range.{RangeNumbers}
use Rattle.scip_records.specs.declared.records.Occurrence.{Occurrence}
use Rattle.scip_records.specs.declared.records.ToolInfo.{ToolInfo}
use Rattle.scip_query.proofs.JsonLemmas.{deep, deep_entry}
use Rattle.scip_survey.specs.FlawForms.{flaw_value, range_of}
use Rattle.scip_survey.specs.Flaws.{Flawed}
use Rattle.scip_survey.specs.RecordValues.{range_or_none, tool_value}
use Rattle.scip_survey.specs.Records.{OfDocument, OfExternal, OfIndex, OfOccurrence, OfSymbol, Record, record_value}

tool_is : (tool : Option ToolInfo) → depth (tool_value tool) ≤ 2
tool_is None = omega arith
tool_is (Some tool) = omega (arith, deep string 0 (λ text. omega arith) tool.arguments)

range_is : (range : Option RangeNumbers) → depth (range_or_none range) ≤ 1
range_is None = omega arith
range_is (Some range) = omega arith

pub shallow : (r : Record) → depth (record_value r) ≤ max_depth
shallow (OfIndex m) = omega (arith, tool_is m.tool_info)
shallow (OfDocument d) = omega arith
shallow (OfOccurrence path o) = omega (arith, range_is o.enclosing_range)
shallow (OfSymbol path entry) = omega (arith, deep_entry entry)
shallow (OfExternal entry) = omega (arith, deep_entry entry)

place_is : (occurrence : Option Occurrence) → depth (range_of occurrence) ≤ 1
place_is None = omega arith
place_is (Some occurrence) = omega arith

pub shallow_flaw : (f : Flawed) → depth (flaw_value f) ≤ max_depth
shallow_flaw f = omega (arith, place_is f.occurrence)
