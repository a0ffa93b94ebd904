use Rattle.std.proofs.Common.{rules}
use Rattle.implib.specs.Members.MsvcMembers.{descriptor_spec, header_specs, null_descriptor_spec, null_thunk_spec, weak_specs}
use Rattle.implib.specs.Members.MsvcObjects.{base_name, descriptor_symbol, null_descriptor_symbol, null_thunk_symbol}
use Rattle.implib_rules.proofs.laws.members_in_order.Goals as goal

pub returns : goal.returns
unfolding base_name descriptor_spec descriptor_symbol header_specs null_descriptor_spec null_descriptor_symbol null_thunk_spec null_thunk_symbol weak_specs
returns c = search rules
