use Rattle.implib_link_instances.proofs.Refused.Code.{refused_all_lead_to, refused_branch_arrives, refused_branch_arrives_by_thunk, refused_branch_stays, refused_direct_call_arrives, refused_fields, refused_hold_address, refused_holds_further, refused_instruction_arrives, refused_operand_arrives, refused_pair_arrives, refused_pointer_arrives, refused_points_to, refused_resolves, refused_jump_arrives, refused_stub_at, refused_sum_arrives}
use Rattle.implib_link_instances.proofs.laws.refused.refused_code.Goals as goal

pub returns : goal.returns
returns c = record {
  refused_jump_arrives = refused_jump_arrives;
  refused_direct_call_arrives = refused_direct_call_arrives;
  refused_pair_arrives = refused_pair_arrives;
  refused_sum_arrives = refused_sum_arrives;
  refused_operand_arrives = refused_operand_arrives;
  refused_instruction_arrives = refused_instruction_arrives;
  refused_pointer_arrives = refused_pointer_arrives;
  refused_branch_arrives = refused_branch_arrives;
  refused_branch_arrives_by_thunk = refused_branch_arrives_by_thunk;
  refused_branch_stays = refused_branch_stays;
  refused_points_to = refused_points_to;
  refused_all_lead_to = refused_all_lead_to;
  refused_hold_address = refused_hold_address;
  refused_holds_further = refused_holds_further;
  refused_stub_at = refused_stub_at;
  refused_resolves = refused_resolves;
  refused_fields = refused_fields;
}
