use Rattle.std.proofs.Common.{rules}
use Rattle.implib.specs.Formats.Bytes.{u16_bytes, u32_bytes}
use Rattle.implib.specs.Formats.Object.{u16_at, u32_at}
use Rattle.implib.specs.Members.Members.{refusal, renamed_refusal}
use Rattle.implib.specs.Members.MsvcMembers.{descriptor_spec, header_specs, null_descriptor_spec, null_thunk_spec, weak_specs}
use Rattle.implib.specs.Members.MsvcObjects.{base_name, descriptor_symbol, null_descriptor_symbol, null_thunk_symbol}
use Rattle.implib_rules.proofs.laws.export_as_worked.Goals as goal

pub returns : goal.returns
unfolding base_name descriptor_spec descriptor_symbol header_specs null_descriptor_spec null_descriptor_symbol null_thunk_spec null_thunk_symbol refusal renamed_refusal u16_at u16_bytes u32_at u32_bytes weak_specs
returns c = search rules
